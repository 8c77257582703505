-- The snipers of a side, from the sets of its men.
use Rattle.std.proofs.Common.{◌≡◌, ℕ, ◌<◌, Bool, ◌&&◌, ◌||◌, sym, ◌∙◌, bit_and, bit_or}
use Rattle.std.proofs.Math.Bool.{and_assoc, and-or_distrib_right}
use Rattle.krieg_rays.proofs.Common.{Side, Sets, Board, man_at, is_of, Show, has, is_on_file, is_on_rank, is_on_rising, is_on_falling, is_sniper}
use Rattle.krieg_board.proofs.SetLemmas.{has_and, has_or}
use Rattle.krieg_rays.proofs.Geometry.{straight_lines, diagonal_lines}

-- a square of the men of two kinds and of one side
pub men_here : (first second own k : ℕ) {x y o : Bool} → has first k ≡ x → has second k ≡ y → has own k ≡ o → has (bit_and (bit_or first second) own) k ≡ ((x || y) && o)
men_here first second own k ex ey eo = has_and (bit_or first second) own k ∙ (λ i. (has_or first second k ∙ (λ j. ex j || ey j)) i && eo i)

-- men of a side that are found in two ways
pub of_side : (r x d y o : Bool) → ((r && (x && o)) || (d && (y && o))) ≡ (((r && x) || (d && y)) && o)
of_side r x d y o = sym (λ i. and_assoc r x o i || and_assoc d y o i) ∙ sym (and-or_distrib_right (r && x) (d && y) o)

pub snipers_has : (b : Board) (by : Side) (s k : ℕ) → s < 64 → k < 64 → (sets : Sets) → Show sets b → (file rank rising falling men : ℕ) →
    has file k ≡ is_on_file s k → has rank k ≡ is_on_rank s k → has rising k ≡ is_on_rising s k → has falling k ≡ is_on_falling s k → has men k ≡ is_of by (man_at b k) →
    has (bit_and (bit_or (bit_and (bit_or file rank) (bit_or sets.rooks sets.queens)) (bit_and (bit_or rising falling) (bit_or sets.bishops sets.queens))) men) k
    ≡ is_sniper b by s k
unfolding is_sniper
snipers_has b by s k hs hk sets show file rank rising falling men ef er eu ew own =
    simp (has_and, has_or)
    (λ i. ((((λ j. ef j || er j) ∙ straight_lines s k hs hk) i && (show.rooks k hk i || show.queens k hk i))
    || (((λ j. eu j || ew j) ∙ diagonal_lines s k hs hk) i && (show.bishops k hk i || show.queens k hk i))) && own i)
