-- The first of listed positions whose hand is another, found one position after another.
use Rattle.std.proofs.Common.{◌≡◌, ℕ, suc, ◌+◌, ◌<◌, ◌≤◌, Bool, true, false, cond, List, ◌∷◌, length, drop, take, get_or, Option, Some, None, sym, ap, subst, ◌∙◌, arith, drop-cons}
use Rattle.std.proofs.lemmas.List.{drop_all, take_more, take_all}
use Rattle.std.specs.List.{All}
use Rattle.std.proofs.lemmas.List.Elements.{All-push}
use Rattle.krieg_sheet.proofs.Common.{IsValid, Pos, same_hand, Side, other_hand}

abbrev by : Side → Pos → ℕ → List Pos → Bool → Option ℕ
by who first n ps same = cond same (other_hand who first (n + 1) ps) (Some n)

at_place : (who : Side) (first : Pos) (ps : List Pos) (i : ℕ) (p : Pos) → i < length ps → other_hand who first (i + 1) (drop i ps) ≡ by who first (i + 1) (drop (i + 1) ps) (same_hand first (get_or ps i p) who)
at_place who first ps i p lt =
    let more : suc i ≡ i + 1 = omega arith in
    ap (other_hand who first (i + 1)) (drop-cons ps i p lt ∙ ap (λ (k : ℕ). get_or ps i p ∷ drop k ps) more)

pub hand_same : (who : Side) (first : Pos) (ps : List Pos) (i : ℕ) (p : Pos) (all : Option ℕ) → i < length ps → p ≡ get_or ps i p → same_hand first p who ≡ true →
    other_hand who first (i + 1) (drop i ps) ≡ all → other_hand who first (i + 1 + 1) (drop (i + 1) ps) ≡ all
hand_same who first ps i p all lt is same so = sym (ap (by who first (i + 1) (drop (i + 1) ps)) (ap (λ (q : Pos). same_hand first q who) (sym is) ∙ same)) ∙ sym (at_place who first ps i p lt) ∙ so

pub hand_other : (who : Side) (first : Pos) (ps : List Pos) (i : ℕ) (p : Pos) (all : Option ℕ) → i < length ps → p ≡ get_or ps i p → same_hand first p who ≡ false →
    other_hand who first (i + 1) (drop i ps) ≡ all → Some (i + 1) ≡ all
hand_other who first ps i p all lt is other so = sym (ap (by who first (i + 1) (drop (i + 1) ps)) (ap (λ (q : Pos). same_hand first q who) (sym is) ∙ other)) ∙ sym (at_place who first ps i p lt) ∙ so

pub hand_end : (who : Side) (first : Pos) (ps : List Pos) (i : ℕ) (all : Option ℕ) → length ps ≤ i → other_hand who first (i + 1) (drop i ps) ≡ all → None ≡ all
hand_end who first ps i all past so = ap (other_hand who first (i + 1)) (sym (drop_all i ps past)) ∙ so

pub valid_more : (ps : List Pos) (i : ℕ) (p : Pos) → i < length ps → p ≡ get_or ps i p → All IsValid (take i ps) → IsValid p → All IsValid (take (i + 1) ps)
valid_more ps i p lt is before here = subst (All IsValid) (sym (take_more ps i p lt)) (All-push IsValid (take i ps) (get_or ps i p) before (subst IsValid is here))

pub valid_end : (ps : List Pos) (i : ℕ) → length ps ≤ i → All IsValid (take i ps) → All IsValid ps
valid_end ps i past before = subst (All IsValid) (take_all i ps past) before

pub ruleset hands = (hand_same, hand_other, hand_end, valid_more, valid_end)
