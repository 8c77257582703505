-- Each position that is consistent with a sheet is valid, and it is the turn of the side whose turn it is by the sheet.
use Rattle.std.proofs.Common.{◌≡◌, true, List, [], ◌∷◌, None, refl, sym, ap, subst, ◌∙◌, arith}
use Rattle.std.specs.List.{All, Contains}
use Rattle.std.proofs.lemmas.List.Elements.{All-nil, All-contains}
use Rattle.krieg_outcome.proofs.Common.{is_same_side, Pos, IsValid, Side, Move, Dialect, Line, Opens, Illegal, Done, Heard, Early, Over, In, SheetState, new_sheet, Gives, IsConsistent, IsSheet, first_turn, turn_behind, turn_of, is_my_turn, IsPossible, IsOwnTurn}
use Rattle.krieg_moves.proofs.Hands.{same_hand_alike}
use Rattle.krieg_moves.proofs.KeepsValid.{valid_after}
use Rattle.krieg_moves.proofs.Turns.{side_after}
use Rattle.krieg_sheet.specs.Places.{IsTold}
use Rattle.krieg_sheet.proofs.OneHand.{one_hand}
use Rattle.krieg_outcome.proofs.BestFiles.{all_of}

-- each done move passes the turn
turn_given : (d : Dialect) (ls : List Line) (who : Side) (p : Pos) (rs : List Move) (q : Pos) → Gives d p ls who rs q → q.side ≡ turn_behind p.side ls
turn_given d [] who p rs q g = ap (λ (x : Pos). x.side) g.1
turn_given d (Illegal m ∷ ls) who p rs q g = turn_given d ls who p rs q g.3
turn_given d (Done m w ∷ ls) who p rs q g = turn_given d ls who _ rs q g.3 ∙ ap (λ (t : Side). turn_behind t ls) (side_after p m g.1)
turn_given d (Early m ∷ ls) who p rs q g = turn_given d ls who p rs q g.2
turn_given d (Over m ∷ ls) who p rs q g = turn_given d ls who p rs q g.1
turn_given d (Heard w ∷ ls) who p [] q g = absurd g
turn_given d (Heard w ∷ ls) who p (r ∷ rs) q g = turn_given d ls who _ rs q g.3 ∙ ap (λ (t : Side). turn_behind t ls) (side_after p r g.1)
turn_given d (Opens w ∷ ls) who p rs q g = absurd g

-- the list alone as a sheet
list_alone : (s : SheetState) → IsSheet s → IsSheet (new_sheet s.dialect s.side s.list None)
list_alone s sheet = record { listed = sheet.listed; valid = sheet.valid; fits = tt; opening = tt; told = All-nil (IsTold s.dialect); in_place = refl }

-- in each listed position it is the same turn
turn_listed : (s : SheetState) → IsSheet s → (p : Pos) → Contains s.list p → p.side ≡ first_turn s.list
turn_listed s sheet p at = go s.list refl at
  where
    alone : (q : Pos) → Contains s.list q → IsConsistent (new_sheet s.dialect s.side s.list None) q
    alone q at = record { start = q; replies = []; is_listed = at; opens = tt; gives = (refl, refl) }

    go : (list : List Pos) → s.list ≡ list → Contains list p → p.side ≡ first_turn list
    go [] e at = absurd cc
    go (first ∷ ps) e at =
        (same_hand_alike s.side p first (one_hand (new_sheet s.dialect s.side s.list None) (list_alone s sheet) p first (alone p (subst (λ (l : List Pos). Contains l p) (sym e) at))
        (alone first (subst (λ (l : List Pos). Contains l first) (sym e) (0, omega arith, refl))))).turn

pub turn_possible : (s : SheetState) (S : List Pos) → IsSheet s → IsPossible s S → (p : Pos) → In p S → p.side ≡ turn_of s
turn_possible s S sheet possible p at =
    let c = (possible.exact p).0 at in
    turn_given s.dialect s.entries s.side c.start c.replies p c.gives ∙ ap (λ (t : Side). turn_behind t s.entries) (turn_listed s sheet c.start c.is_listed)

-- at the player's turn by the sheet he is to move in all that is possible
pub own_turn : (s : SheetState) (S : List Pos) → IsSheet s → IsPossible s S → is_my_turn s ≡ true → IsOwnTurn s.side S
own_turn s S sheet possible mine p at = ap (λ (t : Side). is_same_side t s.side) (turn_possible s S sheet possible p at) ∙ mine

-- each done move keeps positions valid
valid_given : (d : Dialect) (ls : List Line) (who : Side) (p : Pos) (rs : List Move) (q : Pos) → IsValid p → Gives d p ls who rs q → IsValid q
valid_given d [] who p rs q v g = subst IsValid (sym g.1) v
valid_given d (Illegal m ∷ ls) who p rs q v g = valid_given d ls who p rs q v g.3
valid_given d (Done m w ∷ ls) who p rs q v g = valid_given d ls who _ rs q (valid_after p m v g.1) g.3
valid_given d (Early m ∷ ls) who p rs q v g = valid_given d ls who p rs q v g.2
valid_given d (Over m ∷ ls) who p rs q v g = valid_given d ls who p rs q v g.1
valid_given d (Heard w ∷ ls) who p [] q v g = absurd g
valid_given d (Heard w ∷ ls) who p (r ∷ rs) q v g = valid_given d ls who _ rs q (valid_after p r v g.1) g.3
valid_given d (Opens w ∷ ls) who p rs q v g = absurd g

pub valid_possible : (s : SheetState) (S : List Pos) → IsSheet s → IsPossible s S → All IsValid S
valid_possible s S sheet possible =
    all_of IsValid S
    (λ p at. let c = (possible.exact p).0 at in valid_given s.dialect s.entries s.side c.start c.replies p (All-contains IsValid s.list c.start sheet.valid c.is_listed) c.gives)
