-- Two boards side by side, square after square: a test of all squares that looks up none.
use Rattle.std.proofs.Common.{◌≡◌, ℕ, zero, suc, ◌+◌, ◌<◌, Bool, true, false, not, ◌&&◌, ◌||◌, ◌==◌, [], ◌∷◌, length, Option, refl, sym, ◌∙◌, ap, subst, arith}
use Rattle.std.proofs.lemmas.Bool.{and_parts, eqb-true, not-true}
use Rattle.krieg_make.proofs.Common.{Board, Man, Side, King, man_at, man_attacks, attacks, is_attacked, is_king_attacked, is_man, is_of, other}
use Rattle.krieg_board.proofs.SquareTests.{some_square_none}

-- the test holds of each square from k on, with what stands there on both boards
unfoldable pub walk : (ℕ → Option Man → Option Man → Bool) → ℕ → Board → Board → Bool
walk test k [] c = true
walk test k (x ∷ b) [] = false
walk test k (x ∷ b) (y ∷ c) = test k x y && walk test (k + 1) b c

-- so it holds of the square that stands s behind the first one
pub walked : (test : ℕ → Option Man → Option Man → Bool) (k : ℕ) (b c : Board) → walk test k b c ≡ true →
    (s j : ℕ) → s < length b → j ≡ k + s → test j (man_at b s) (man_at c s) ≡ true
unfolding walk
walked test k [] c h s j l e = absurd (omega arith)
walked test k (x ∷ b) [] h s j l e = cc
walked test k (x ∷ b) (y ∷ c) h zero j l e =
    let here : j ≡ k = omega (arith, e) in
    subst (λ i. test i x y ≡ true) (sym here) (and_parts (test k x y) (walk test (k + 1) b c) h).0
walked test k (x ∷ b) (y ∷ c) h (suc s) j l e =
    walked test (k + 1) b c (and_parts (test k x y) (walk test (k + 1) b c) h).1 s j (omega arith) (omega (arith, e))

-- a king stands on no other square, and no man of the other side attacks this one
unfoldable pub unattacked : Board → Side → ℕ → Bool
unattacked b side t =
    length b == 64
    && (walk (λ s x y. not (is_man side King x) || s == t) 0 b b && walk (λ s x y. not (is_of (other side) x && man_attacks b x s t)) 0 b b)

fails : (a b : Bool) → (a ≡ true → b ≡ false) → (a && b) ≡ false
fails true b h = h refl
fails false b h = refl

pub implied : (a b : Bool) → a ≡ true → (not a || b) ≡ true → b ≡ true
implied true b e h = h
implied false b e h = cc

pub not_attacked : (b : Board) (side : Side) (t : ℕ) → unattacked b side t ≡ true → is_king_attacked b side ≡ false
unfolding unattacked is_king_attacked is_attacked attacks
not_attacked b side t h =
    let parts = and_parts (length b == 64) (walk (λ s x y. not (is_man side King x) || s == t) 0 b b && walk (λ s x y. not (is_of (other side) x && man_attacks b x s t)) 0 b b) h in
    let size : length b ≡ 64 = eqb-true (length b) 64 parts.0 in
    let tests = and_parts (walk (λ s x y. not (is_man side King x) || s == t) 0 b b) (walk (λ s x y. not (is_of (other side) x && man_attacks b x s t)) 0 b b) parts.1 in
    let none : is_attacked b t (other side) ≡ false =
    some_square_none (λ f. is_of (other side) (man_at b f) && attacks b f t)
    (λ f l. not-true _ (walked (λ s x y. not (is_of (other side) x && man_attacks b x s t)) 0 b b tests.1 f f (omega (arith, size)) (omega arith))) in
    some_square_none (λ k. is_man side King (man_at b k) && is_attacked b k (other side))
    (λ k l. fails (is_man side King (man_at b k)) (is_attacked b k (other side))
    (λ here. (let there : k ≡ t = eqb-true k t (implied (is_man side King (man_at b k)) (k == t) here (walked (λ s x y. not (is_man side King x) || s == t) 0 b b tests.0 k k (omega (arith, size)) (omega arith))) in
    ap (λ s. is_attacked b s (other side)) there ∙ none)))
