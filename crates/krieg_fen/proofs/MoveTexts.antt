-- A text that is read as a move is the move's text, and the other way round.
use Rattle.std.proofs.Common.{◌≡◌, ℕ, ◌+◌, ◌-◌, ◌*◌, ◌/◌, ◌%◌, ◌<◌, ◌≤◌, Bool, true, false, cond, ◌&&◌, eqb, leb, List, [], ◌∷◌, ◌++◌, Option, Some, None, refl, sym, ap, ◌∙◌, arith, eqb-true}
use Rattle.std.proofs.lemmas.Bool.{and_parts, leb-true}
use Rattle.std.proofs.lemmas.Bool.Decides.{nat_tests}
use Rattle.krieg_fen.proofs.Common.{Move, Promo, Plain, square_text, promo_text, move_text, IsOnBoard, square_of, promo_of, move_with, move_of, square_named}
use Rattle.krieg_board.specs.declared.men.Promo.TheVariants.{Queen, Rook, Bishop, Knight}

pub square_again : (s : ℕ) → s < 64 → square_of (97 + s % 8) (49 + s / 8) ≡ Some s
square_again s lt = grind (arith, nat_tests)

square_parts : (t : Bool) (s r : ℕ) → cond t (Some s) None ≡ Some r → (t ≡ true) × (s ≡ r)
square_parts true s r e = (refl, cc)
square_parts false s r e = absurd cc

pub square_spells : (a b s : ℕ) → square_of a b ≡ Some s → (s < 64) × (square_text s ≡ a ∷ b ∷ [])
square_spells a b s e =
    let p = square_parts _ _ _ e in
    let both = and_parts (leb 97 a && leb a 104) (leb 49 b && leb b 56) p.0 in
    let file = and_parts (leb 97 a) (leb a 104) both.0 in
    let rank = and_parts (leb 49 b) (leb b 56) both.1 in
    let a1 : 97 ≤ a = leb-true _ _ file.0 in
    let a2 : a ≤ 104 = leb-true _ _ file.1 in
    let b1 : 49 ≤ b = leb-true _ _ rank.0 in
    let b2 : b ≤ 56 = leb-true _ _ rank.1 in
    let is : 8 * (b - 49) + (a - 97) ≡ s = p.1 in
    let f : 97 + s % 8 ≡ a = omega arith in
    let r : 49 + s / 8 ≡ b = omega arith in
    (omega arith, cc)

promo_is : (b c : ℕ) (q p : Promo) → eqb b c ≡ true → promo_text q ≡ c ∷ [] → Some q ≡ Some p → promo_text p ≡ b ∷ []
promo_is b c q p same text e =
    let is : q ≡ p = cc in
    ap promo_text (sym is) ∙ text ∙ ap (λ (x : ℕ). x ∷ []) (sym (eqb-true b c same))

promo_cases : (b : ℕ) (p : Promo) (q r s t : Bool) → eqb b 113 ≡ q → eqb b 114 ≡ r → eqb b 98 ≡ s → eqb b 110 ≡ t → cond q (Some Queen) (cond r (Some Rook) (cond s (Some Bishop) (cond t (Some Knight) None))) ≡ Some p → promo_text p ≡ b ∷ []
promo_cases b p true r s t h i j k e = promo_is b 113 Queen p h refl e
promo_cases b p false true s t h i j k e = promo_is b 114 Rook p i refl e
promo_cases b p false false true t h i j k e = promo_is b 98 Bishop p j refl e
promo_cases b p false false false true h i j k e = promo_is b 110 Knight p k refl e
promo_cases b p false false false false h i j k e = absurd cc

promo_spells : (b : ℕ) (p : Promo) → promo_of b ≡ Some p → promo_text p ≡ b ∷ []
promo_spells b p e = promo_cases b p _ _ _ _ refl refl refl refl e

made_parts : (a b : Option ℕ) (p : Option Promo) (m : Move) → move_with a b p ≡ Some m → (a ≡ Some m.from) × (b ≡ Some m.to) × (p ≡ Some m.promo)
made_parts (Some a) (Some b) (Some p) m e =
    let same : record { from = a; to = b; promo = p } ≡ m = cc in
    (ap (λ (x : Move). Some x.from) same, ap (λ (x : Move). Some x.to) same, ap (λ (x : Move). Some x.promo) same)
made_parts None b p m e = absurd cc
made_parts (Some a) None p m e = absurd cc
made_parts (Some a) (Some b) None m e = absurd cc

pub move_spells : (text : List ℕ) (m : Move) → move_of text ≡ Some m → IsOnBoard m × (text ≡ move_text m)
unfolding move_text
move_spells (a ∷ b ∷ c ∷ d ∷ []) m e =
    let p = made_parts (square_of a b) (square_of c d) (Some Plain) m e in
    let f = square_spells a b m.from p.0 in
    let t = square_spells c d m.to p.1 in
    let k : Plain ≡ m.promo = cc in
    let n : promo_text m.promo ≡ [] = ap promo_text (sym k) in
    ((f.0, t.0), cc)
move_spells (a ∷ b ∷ c ∷ d ∷ e ∷ []) m h =
    let p = made_parts (square_of a b) (square_of c d) (promo_of e) m h in
    let f = square_spells a b m.from p.0 in
    let t = square_spells c d m.to p.1 in
    let k = promo_spells e m.promo p.2 in
    ((f.0, t.0), cc)
move_spells [] m e = absurd cc
move_spells (a ∷ []) m e = absurd cc
move_spells (a ∷ b ∷ []) m e = absurd cc
move_spells (a ∷ b ∷ c ∷ []) m e = absurd cc
move_spells (a ∷ b ∷ c ∷ d ∷ e ∷ f ∷ g) m h = absurd cc

promo_again : (from to : ℕ) (p : Promo) → from < 64 → to < 64 → move_of (square_text from ++ (square_text to ++ promo_text p)) ≡ Some (record { from = from; to = to; promo = p })
promo_again from to Plain f t = rw (square_again from f, square_again to t) refl
promo_again from to Queen f t = rw (square_again from f, square_again to t) refl
promo_again from to Rook f t = rw (square_again from f, square_again to t) refl
promo_again from to Bishop f t = rw (square_again from f, square_again to t) refl
promo_again from to Knight f t = rw (square_again from f, square_again to t) refl

pub move_again : (m : Move) → IsOnBoard m → move_of (move_text m) ≡ Some m
unfolding move_text
move_again m there = promo_again m.from m.to m.promo there.0 there.1

pub ruleset moves = (move_spells, move_again)

pub named_spells : (text : List ℕ) (s : ℕ) → square_named text ≡ Some s → (s < 64) × (text ≡ square_text s)
named_spells (a ∷ b ∷ []) s e = let p = square_spells a b s e in (p.0, sym p.1)
named_spells [] s e = absurd cc
named_spells (a ∷ []) s e = absurd cc
named_spells (a ∷ b ∷ c ∷ d) s e = absurd cc

pub named_again : (s : ℕ) → s < 64 → square_named (square_text s) ≡ Some s
named_again s lt = square_again s lt

pub ruleset named = (named_spells, named_again)
