-- A sheet with one entry more that is in place.
use Rattle.std.proofs.Common.{◌≡◌, Bool, true, List, [], ◌∷◌, ◌++◌, refl, sym, ap, ◌∙◌}
use Rattle.std.proofs.lemmas.Bool.{and_parts, and_from}
use Rattle.std.proofs.lemmas.List.Elements.{All-push}
use Rattle.krieg_sheet.proofs.Common.{is_same_side, Side, Line, SheetState, entered, turn_after, over_after, turn_behind, over_behind, may_stand, are_in_place, is_in_place, first_turn, over_at_first, IsTold, IsSheet, IsKept}

pub turn_behind_push : (turn : Side) (ls : List Line) (l : Line) → turn_behind turn (ls ++ l ∷ []) ≡ turn_after (turn_behind turn ls) l
turn_behind_push turn [] l = refl
turn_behind_push turn (k ∷ ls) l = turn_behind_push (turn_after turn k) ls l

pub over_behind_push : (over : Bool) (ls : List Line) (l : Line) → over_behind over (ls ++ l ∷ []) ≡ over_after (over_behind over ls) l
over_behind_push over [] l = refl
over_behind_push over (k ∷ ls) l = over_behind_push (over_after over k) ls l

pub in_place_push : (who turn : Side) (over : Bool) (ls : List Line) (l : Line) → are_in_place who turn over ls ≡ true →
    may_stand (is_same_side (turn_behind turn ls) who) (over_behind over ls) l ≡ true → are_in_place who turn over (ls ++ l ∷ []) ≡ true
in_place_push who turn over [] l placed stands = and_from _ _ stands refl
in_place_push who turn over (k ∷ ls) l placed stands =
    let p = and_parts (may_stand (is_same_side turn who) over k) (are_in_place who (turn_after turn k) (over_after over k) ls) placed in
    and_from _ _ p.0 (in_place_push who (turn_after turn k) (over_after over k) ls l p.1 stands)

pub sheet_more : (s : SheetState) (l : Line) → IsSheet s → IsTold s.dialect l → is_in_place s l ≡ true → IsSheet (entered s l)
sheet_more s l h told stands = record {
  listed = h.listed;
  valid = h.valid;
  fits = h.fits;
  opening = h.opening;
  told = All-push (IsTold s.dialect) s.entries l h.told told;
  in_place = in_place_push s.side (first_turn s.list) (over_at_first s.opens) s.entries l h.in_place stands;
}

pub kept_more : (s : SheetState) (l : Line) (turn : Side) (over : Bool) → IsKept s turn over → IsTold s.dialect l → is_in_place s l ≡ true → IsKept (entered s l) (turn_after turn l) (over_after over l)
kept_more s l turn over k told stands = record {
  sheet = sheet_more s l k.sheet told stands;
  turn_is = ap (λ (t : Side). turn_after t l) k.turn_is ∙ sym (turn_behind_push (first_turn s.list) s.entries l);
  over_is = ap (λ (o : Bool). over_after o l) k.over_is ∙ sym (over_behind_push (over_at_first s.opens) s.entries l);
}
