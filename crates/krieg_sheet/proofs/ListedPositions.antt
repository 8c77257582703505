-- The list of a sheet, which has no fault: as it is read, and as it is written, with one hand.
use Rattle.std.proofs.Common.{◌≡◌, ℕ, ◌+◌, ◌≤◌, Bool, true, false, cond, leb, List, [], ◌∷◌, ◌++◌, map, length, Option, Some, None, Ok, refl, ap, ◌∙◌, arith, le-leb}
use Rattle.std.specs.List.{All}
use Rattle.std.proofs.lemmas.Bool.{leb-true}
use Rattle.std.proofs.lemmas.List.Elements.{All-tail}
use Rattle.krieg_sheet.proofs.Common.{Pos, same_hand, IsValid, Side, position_text, SpellList, SpellsListing, list_head, Place, Either, listing_at, MOST_LISTED, other_hand, differs, list_fault, Count}
use Rattle.krieg_fen.proofs.ListSpellings.{written_spells, spelled_valid}
use Rattle.krieg_fen.proofs.Listings.{listing_spells}

-- What is read with one hand.
same_hands : (ts : List (List ℕ)) (ps : List Pos) (who : Side) (f : Pos) (k : ℕ) → SpellList Either who (Some f) ts ps → other_hand who f k ps ≡ None
same_hands [] [] who f k s = refl
same_hands [] (p ∷ ps) who f k s = absurd s
same_hands (t ∷ ts) [] who f k s = absurd s
same_hands (t ∷ ts) (p ∷ ps) who f k s = ap (λ (t : Bool). cond t (other_hand who f (k + 1) ps) (Some k)) s.1 ∙ same_hands ts ps who f (k + 1) s.2

no_fault : (ts : List (List ℕ)) (ps : List Pos) (who : Side) → 1 ≤ length ps → length ps ≤ MOST_LISTED → SpellList Either who None ts ps → list_fault who ps ≡ None
no_fault ts [] who low high s = absurd (omega arith)
no_fault [] (p ∷ ps) who low high s = absurd s
no_fault (t ∷ ts) (p ∷ ps) who low high s =
    ap (λ (t : Bool). cond t (differs (other_hand who p 1 ps)) (Some Count)) (le-leb (length (p ∷ ps)) MOST_LISTED high) ∙ ap differs (same_hands ts ps who p 1 s.2)

-- a list that was read is one of a sheet
pub record IsSheetList (who : Side) (ps : List Pos) : Type 0 where
  pub no_fault : list_fault who ps ≡ None
  pub valid : All IsValid ps

pub list_read : (who : Side) (ps : List Pos) (p q : Place) → listing_at Either p ≡ Ok ((who, ps), q) → IsSheetList who ps
list_read who ps p q e =
    let s = (listing_spells Either p q (who, ps) e).spelled in
    record { no_fault = no_fault s.positions ps who s.some s.few s.spelled; valid = spelled_valid s.positions ps Either who None s.spelled }

-- What has no fault.
pub record IsListable (who : Side) (f : Pos) (ps : List Pos) : Type 0 where
  pub few : length (f ∷ ps) ≤ MOST_LISTED
  pub same : other_hand who f 1 ps ≡ None

pub listable : (who : Side) (f : Pos) (ps : List Pos) → list_fault who (f ∷ ps) ≡ None → IsListable who f ps
listable who f ps e = go (leb (length (f ∷ ps)) MOST_LISTED) refl e
  where
    by_other : (o : Option ℕ) → differs o ≡ None → o ≡ None
    by_other None h = refl
    by_other (Some i) h = absurd cc

    go : (t : Bool) → leb (length (f ∷ ps)) MOST_LISTED ≡ t → cond t (differs (other_hand who f 1 ps)) (Some Count) ≡ None → IsListable who f ps
    go true is h = record { few = leb-true (length (f ∷ ps)) MOST_LISTED is; same = by_other (other_hand who f 1 ps) h }
    go false is h = absurd cc

pub list_size : (who : Side) (list : List Pos) → list_fault who list ≡ None → (1 ≤ length list) × (length list ≤ MOST_LISTED)
list_size who [] e = absurd cc
list_size who (f ∷ ps) e = (omega arith, (listable who f ps e).few)

pub next_hand : (who : Side) (f : Pos) (k : ℕ) (p : Pos) (ps : List Pos) → other_hand who f k (p ∷ ps) ≡ None → (same_hand f p who ≡ true) × (other_hand who f (k + 1) ps ≡ None)
next_hand who f k p ps e = go (same_hand f p who) refl e
  where
    go : (t : Bool) → same_hand f p who ≡ t → cond t (other_hand who f (k + 1) ps) (Some k) ≡ None → (same_hand f p who ≡ true) × (other_hand who f (k + 1) ps ≡ None)
    go true is h = (is, h)
    go false is h = absurd cc

others_written : (who : Side) (f : Pos) (k : ℕ) (ps : List Pos) → other_hand who f k ps ≡ None → All IsValid ps → SpellList Either who (Some f) (map position_text ps) ps
others_written who f k [] e valid = tt
others_written who f k (p ∷ ps) e valid =
    let h = next_hand who f k p ps e in
    (written_spells p (valid 0 p (omega arith)), h.0, others_written who f (k + 1) ps h.1 (All-tail IsValid p ps valid))

-- the written lines of such a list spell it with one hand
pub list_written : (who : Side) (list : List Pos) → list_fault who list ≡ None → All IsValid list → SpellsListing Either (list_head who (length list) ++ map position_text list) who list
list_written who [] e valid = absurd cc
list_written who (f ∷ ps) e valid =
    let fine = listable who f ps e in
    record {
      positions = map position_text (f ∷ ps);
      is = refl;
      some = omega arith;
      few = fine.few;
      spelled = (written_spells f (valid 0 f (omega arith)), refl, others_written who f 1 ps fine.same (All-tail IsValid f ps valid));
    }
