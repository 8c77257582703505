-- Lines are read as listed positions exactly where they spell them.
use Rattle.std.proofs.Common.{◌≡◌, ℕ, zero, suc, ◌+◌, Bool, true, false, cond, List, [], ◌∷◌, ◌++◌, length, Option, Some, None, Result, Ok, Err, refl, sym, subst, ap, ◌∙◌, arith}
use Rattle.std.specs.Prelude.{unwrap_or}
use Rattle.std.specs.List.{All}
use Rattle.std.proofs.lemmas.List.Elements.{All-nil, All-cons}
use Rattle.krieg_fen.proofs.Common.{Pos, same_hand, IsValid, Side, TextFault, TextKind, Differs, OutOfPlace, FenFault, Fields, Field, Bad, Turn, ◌>>=◌, position_of, position_text, Spells, Place, place, on, position_kind, position_form, has_turn, matching, listed_form, positions_at, Suits, SpellList}
use Rattle.krieg_text.proofs.Locality.{ok_is}
use Rattle.krieg_fen.proofs.FenTexts.{position_again}
use Rattle.krieg_fen.proofs.PositionSpellings.{position_spells, position_reads}

-- the written form of a valid position spells it
pub written_spells : (p : Pos) → IsValid p → Spells (position_text p) p
written_spells p valid = position_spells (position_text p) p (position_again p valid)

abbrev chosen : TextKind → Bool → Pos → Result Pos TextKind
chosen kind t q = cond t (Ok q) (Err kind)

chosen_tells : (kind : TextKind) (t : Bool) (q p : Pos) → chosen kind t q ≡ Ok p → (t ≡ true) × (q ≡ p)
chosen_tells kind true q p e = (refl, cc)
chosen_tells kind false q p e = absurd cc

matching_tells : (turn : Turn) (who : Side) (first : Option Pos) (q p : Pos) → matching turn who first q ≡ Ok p → (q ≡ p) × Suits turn who first p
matching_tells turn who None q p e =
    let t = chosen_tells OutOfPlace (has_turn turn who q) q p e in
    (t.1, ap (has_turn turn who) (sym t.1) ∙ t.0)
matching_tells turn who (Some f) q p e =
    let t = chosen_tells Differs (same_hand f q who) q p e in
    (t.1, ap (λ (x : Pos). same_hand f x who) (sym t.1) ∙ t.0)

matching_gives : (turn : Turn) (who : Side) (first : Option Pos) (p : Pos) → Suits turn who first p → matching turn who first p ≡ Ok p
matching_gives turn who None p h = ap (λ (t : Bool). chosen OutOfPlace t p) h
matching_gives turn who (Some f) p h = ap (λ (t : Bool). chosen Differs t p) h

listed_by : (turn : Turn) (who : Side) (first : Option Pos) (l : List ℕ) (p : Pos) (r : Result Pos FenFault) → position_of l ≡ r → (position_kind r >>= matching turn who first) ≡ Ok p → Spells l p × Suits turn who first p
listed_by turn who first l p (Ok q) is e =
    let t = matching_tells turn who first q p e in
    (position_spells l p (is ∙ ap Ok t.0), t.1)
listed_by turn who first l p (Err Fields) is e = absurd cc
listed_by turn who first l p (Err (Field n)) is e = absurd cc
listed_by turn who first l p (Err (Bad fault)) is e = absurd cc

pub listed_spells : (turn : Turn) (who : Side) (first : Option Pos) (l : List ℕ) (p : Pos) → listed_form turn who first l ≡ Ok p → Spells l p × Suits turn who first p
unfolding listed_form position_form
listed_spells turn who first l p e = listed_by turn who first l p (position_of l) refl e

listed_reads : (turn : Turn) (who : Side) (first : Option Pos) (l : List ℕ) (p : Pos) → Spells l p → Suits turn who first p → listed_form turn who first l ≡ Ok p
unfolding listed_form position_form
listed_reads turn who first l p s h = ap (λ (r : Result Pos FenFault). position_kind r >>= matching turn who first) (position_reads l p s) ∙ matching_gives turn who first p h

-- positions that are spelled are valid
pub spelled_valid : (listed : List (List ℕ)) (ps : List Pos) (turn : Turn) (who : Side) (first : Option Pos) → SpellList turn who first listed ps → All IsValid ps
spelled_valid [] [] turn who first s = All-nil IsValid
spelled_valid [] (p ∷ ps) turn who first s = absurd s
spelled_valid (l ∷ ls) [] turn who first s = absurd s
spelled_valid (l ∷ ls) (p ∷ ps) turn who first s = All-cons IsValid p ps s.0.is_valid (spelled_valid ls ps turn who (Some (unwrap_or first p)) s.2)

-- the lines that were read, and what they spell
pub record ListRead (turn : Turn) (who : Side) (first : Option Pos) (n : ℕ) (ls : List (List ℕ)) (ps : List Pos) (q : Place) : Type 0 where
  pub listed : List (List ℕ)
  pub is : ls ≡ listed ++ q.left
  pub spelled : SpellList turn who first listed ps
  pub count : length ps ≡ n

abbrev others : Pos → Result (List Pos × Place) TextFault → Result (List Pos × Place) TextFault
others p r = r >>= λ o. Ok (p ∷ o.0, o.1)

abbrev behind_one : Turn → Side → Option Pos → ℕ → ℕ → List (List ℕ) → Result Pos TextKind → Result (List Pos × Place) TextFault
behind_one turn who first n line ls f =
    ◌>>=◌ {A = Pos × Place} (◌>>=◌ {B = Pos × Place} (on line f) (λ p. Ok (p, place (line + 1) ls))) (λ one. others one.0 (positions_at turn who (Some (unwrap_or first one.0)) n one.1))

list_others : (turn : Turn) (who : Side) (first : Option Pos) (n : ℕ) (l : List ℕ) (ls : List (List ℕ)) (p : Pos) (ps : List Pos) (q : Place) (r : Result (List Pos × Place) TextFault) →
    Spells l p × Suits turn who first p → ((qs : List Pos) (o : Place) → r ≡ Ok (qs, o) → ListRead turn who (Some (unwrap_or first p)) n ls qs o) →
    others p r ≡ Ok (ps, q) → ListRead turn who first (suc n) (l ∷ ls) ps q
list_others turn who first n l ls p ps q (Err e) here more h = absurd cc
list_others turn who first n l ls p ps q (Ok x) here more h =
    let same = ok_is {A = List Pos × Place} (p ∷ x.0, x.1) (ps, q) h in
    let a = more x.0 x.1 refl in
    let found : ListRead turn who first (suc n) (l ∷ ls) (p ∷ x.0) x.1 = record {
      listed = l ∷ a.listed;
      is = ap (λ (t : List (List ℕ)). l ∷ t) a.is;
      spelled = (here.0, here.1, a.spelled);
      count = omega (arith, a.count);
    } in
    subst (λ (t : List Pos × Place). ListRead turn who first (suc n) (l ∷ ls) t.0 t.1) same found

list_line : (turn : Turn) (who : Side) (first : Option Pos) (n line : ℕ) (l : List ℕ) (ls : List (List ℕ)) (ps : List Pos) (q : Place) (f : Result Pos TextKind) →
    ((p : Pos) (qs : List Pos) (o : Place) → positions_at turn who (Some (unwrap_or first p)) n (place (line + 1) ls) ≡ Ok (qs, o) → ListRead turn who (Some (unwrap_or first p)) n ls qs o) →
    listed_form turn who first l ≡ f → behind_one turn who first n line ls f ≡ Ok (ps, q) → ListRead turn who first (suc n) (l ∷ ls) ps q
list_line turn who first n line l ls ps q (Err kind) more is h = absurd cc
list_line turn who first n line l ls ps q (Ok p) more is h =
    list_others turn who first n l ls p ps q (positions_at turn who (Some (unwrap_or first p)) n (place (line + 1) ls)) (listed_spells turn who first l p is) (more p) h

pub list_spells : (n : ℕ) (turn : Turn) (who : Side) (first : Option Pos) (line : ℕ) (ls : List (List ℕ)) (ps : List Pos) (q : Place) → positions_at turn who first n (place line ls) ≡ Ok (ps, q) → ListRead turn who first n ls ps q
list_spells zero turn who first line ls ps q e =
    let same = ok_is {A = List Pos × Place} ([], place line ls) (ps, q) e in
    let found : ListRead turn who first 0 ls [] (place line ls) = record { listed = []; is = refl; spelled = tt; count = refl } in
    subst (λ (t : List Pos × Place). ListRead turn who first 0 ls t.0 t.1) same found
list_spells (suc n) turn who first line [] ps q e = absurd cc
list_spells (suc n) turn who first line (l ∷ ls) ps q e =
    list_line turn who first n line l ls ps q (listed_form turn who first l) (λ p qs o. list_spells n turn who (Some (unwrap_or first p)) (line + 1) ls qs o) refl e

pub list_reads : (listed : List (List ℕ)) (ps : List Pos) (turn : Turn) (who : Side) (first : Option Pos) (line : ℕ) (rest : List (List ℕ)) → SpellList turn who first listed ps →
    positions_at turn who first (length ps) (place line (listed ++ rest)) ≡ Ok (ps, place (line + length ps) rest)
list_reads [] [] turn who first line rest s = let number : line ≡ line + 0 = omega arith in ap (λ (n : ℕ). Ok ([], place n rest)) number
list_reads [] (p ∷ ps) turn who first line rest s = absurd s
list_reads (l ∷ ls) [] turn who first line rest s = absurd s
list_reads (l ∷ ls) (p ∷ ps) turn who first line rest s =
    let number : line + 1 + length ps ≡ line + suc (length ps) = omega arith in
    ap (behind_one turn who first (length ps) line (ls ++ rest)) (listed_reads turn who first l p s.0 s.1)
    ∙ ap (others p) (list_reads ls ps turn who (Some (unwrap_or first p)) (line + 1) rest s.2)
    ∙ ap (λ (n : ℕ). Ok (p ∷ ps, place n rest)) number
