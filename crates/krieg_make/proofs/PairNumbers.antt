-- The pairs of places by their numbers: each is looked at where it must stand.
use Rattle.std.proofs.Common.{◌≡◌, ℕ, ◌+◌, ◌-◌, ◌<◌, Bool, true, ◌&&◌, ◌==◌, length, refl, sym, ◌∙◌, ap, arith, length-append, add-one}
use Rattle.std.proofs.lemmas.Bool.{and_parts, eqb-true}
use Rattle.std.proofs.lemmas.List.FromFn.{length-map-range_with_len}
use Rattle.std.specs.List.{list_all, range_with_len}
use Rattle.krieg_make.proofs.Common.{gathered, pairs_above, pairs, pair_at}
use Rattle.krieg_make.proofs.Numbers.{all_within}

-- the pair that stands r places behind the first one of which u is the lower place
unfoldable is_found : ℕ → ℕ → Bool
is_found u r = let pair = pair_at (length (gathered pairs_above u) + r) in pair.0 == u && pair.1 == u + 1 + r

all_found : list_all (λ u. list_all (is_found u) (range_with_len 0 (23 - u))) (range_with_len 0 23) ≡ true
unfolding is_found pair_at pairs
all_found = refl

pub pair_found : (u r q : ℕ) → u < 23 → r < 23 - u → length (gathered pairs_above u) + r ≡ q → (u, u + 1 + r) ≡ pair_at q
unfolding is_found
pair_found u r q low near e =
    let pair = pair_at (length (gathered pairs_above u) + r) in
    let row : list_all (is_found u) (range_with_len 0 (23 - u)) ≡ true = all_within (λ u. list_all (is_found u) (range_with_len 0 (23 - u))) 0 23 u (omega arith) low all_found in
    let found = and_parts (pair.0 == u) (pair.1 == u + 1 + r) (all_within (is_found u) 0 (23 - u) r (omega arith) (omega (arith, near)) row) in
    (λ i. (sym (eqb-true pair.0 u found.0) i, sym (eqb-true pair.1 (u + 1 + r) found.1) i)) ∙ ap pair_at e

length_above : (u : ℕ) → length (pairs_above u) ≡ 23 - u
length_above u = length-map-range_with_len {X = ℕ × ℕ} (λ v. (u, v)) (u + 1) (23 - u)

-- behind the pairs of which u is the lower place stand those of which u + 1 is
pub pairs_more : (u : ℕ) → length (gathered pairs_above (u + 1)) ≡ length (gathered pairs_above u) + (23 - u)
pairs_more u = rw add-one (length-append (gathered pairs_above u) (pairs_above u) ∙ ap (λ n. length (gathered pairs_above u) + n) (length_above u))

-- there are 276
pub pairs_end : (u : ℕ) → u ≡ 23 → length (gathered pairs_above u) ≡ 276
pairs_end u e = ap (λ n. length (gathered pairs_above n)) e

pub ruleset pair_numbers = (pairs_more, pairs_end)
