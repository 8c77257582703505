-- The laws of the order of positions and of sets of positions, for the crates that cite them.
use Rattle.std.proofs.Common.{◌≡◌, ℕ, ◌≤◌, Bool, true, length, List, ◌++◌, sym, ap, ◌∙◌}
use Rattle.std.specs.List.{dedup}
use Rattle.std.specs.List.Sorted.{IsSorted, IsPermutation, IsBinarySearchResult, IsSearchInRange}
use Rattle.std.specs.Cmp.Lexicographic.{pointwise}
use Rattle.std.specs.Prelude.{Result, is_ok}
use Rattle.krieg_pack.proofs.Common.{Pos, In, IsOrder, position_cmp, position_eq, position_lt, IsAscending, IsSetOf, set_of, position_total, same_position}
use Rattle.krieg_theory.proofs.Ascending.{same_set, as_set_ascending, in_as_set, as_set_in}
use Rattle.krieg_pack.proofs.Sorting.{is_order, sorted_set, found}
use Rattle.krieg_pack.specs.Kept.{sets_decide}
use Rattle.krieg_pack.proofs.Counts.{part_le, as_set_early}

-- no position stands before itself, the order is transitive, and of two that differ one stands before the other
pub position_order : IsOrder position_lt
position_order = is_order position_cmp position_total same_position

-- ascending lists with the same members are one list
pub same_members : (ps qs : List Pos) → IsAscending ps → IsAscending qs → ((p : Pos) → In p ps → In p qs) → ((p : Pos) → In p qs → In p ps) → ps ≡ qs
same_members = same_set position_lt position_order

pub set_ascending : (ps : List Pos) → IsAscending (set_of ps)
unfolding set_of
set_ascending ps = as_set_ascending position_lt position_order ps

-- a set has all that stands in the list
pub in_set : (p : Pos) (ps : List Pos) → In p ps → In p (set_of ps)
unfolding set_of
in_set p ps i = in_as_set position_lt position_order p ps i

-- and nothing else
pub set_in : (p : Pos) (ps : List Pos) → In p (set_of ps) → In p ps
unfolding set_of
set_in p ps i = as_set_in position_lt position_order p ps i

pub set_is : (ps : List Pos) → IsSetOf (set_of ps) ps
set_is ps = record { ascending = set_ascending ps; exact = λ p. (λ i. set_in p ps i, λ i. in_set p ps i) }

-- an ascending list is its own set
pub set_of_ascending : (ps : List Pos) → IsAscending ps → set_of ps ≡ ps
set_of_ascending ps up = same_members (set_of ps) ps (set_ascending ps) up (λ p i. set_in p ps i) (λ p i. in_set p ps i)

pub set_of_set : (ps : List Pos) → set_of (set_of ps) ≡ set_of ps
set_of_set ps = set_of_ascending (set_of ps) (set_ascending ps)

-- lists with the same members have one set
pub same_sets : (ps qs : List Pos) → ((p : Pos) → In p ps → In p qs) → ((p : Pos) → In p qs → In p ps) → set_of ps ≡ set_of qs
same_sets ps qs f g =
    same_members (set_of ps) (set_of qs) (set_ascending ps) (set_ascending qs) (λ p i. in_set p qs (f p (set_in p ps i))) (λ p i. in_set p ps (g p (set_in p qs i)))

-- the set of a part has no more members
pub set_part_le : (ps qs : List Pos) → ((p : Pos) → In p ps → In p qs) → length (set_of ps) ≤ length (set_of qs)
set_part_le ps qs f = part_le position_lt position_order (set_of ps) (set_of qs) (set_ascending ps) (set_ascending qs) (λ p i. in_set p qs (f p (set_in p ps i)))

-- repeats may be dropped of a first part before the rest comes
pub set_of_early : (ps qs : List Pos) → set_of (set_of ps ++ qs) ≡ set_of (ps ++ qs)
unfolding set_of
set_of_early ps qs = as_set_early position_lt position_order ps qs

-- and what has one set may stand for each other in front of more
pub set_of_front : (ps qs rs : List Pos) → set_of ps ≡ set_of qs → set_of (ps ++ rs) ≡ set_of (qs ++ rs)
set_of_front ps qs rs e = sym (set_of_early ps rs) ∙ ap (λ s. set_of (s ++ rs)) e ∙ set_of_early qs rs

-- a buffer that has the set of what came before, after more came and repeats were dropped
pub set_of_grown : (now pushed before came more : List Pos) → set_of now ≡ set_of pushed → pushed ≡ before ++ more → set_of before ≡ set_of came → set_of now ≡ set_of (came ++ more)
set_of_grown now pushed before came more same is e = same ∙ ap set_of is ∙ set_of_front before came more e

-- what sort_unstable and then dedup leave of a list
pub sorted_positions : (ps qs : List Pos) → IsPermutation ps qs → IsSorted position_cmp qs → dedup position_eq qs ≡ set_of ps
unfolding set_of
sorted_positions ps qs moved sorted = sorted_set position_cmp position_total same_position ps qs moved sorted

-- what binary_search finds in a set
pub found_position : (ps : List Pos) (p : Pos) (r : Result ℕ ℕ) → IsAscending ps → IsSearchInRange r (length ps) → IsBinarySearchResult (λ q. position_cmp q p) ps r →
    (is_ok r ≡ true → In p ps) × (In p ps → is_ok r ≡ true)
found_position = found position_cmp position_total same_position

-- the test of two sets tells whether they are one list
pub same_list : (ps qs : List Pos) (b : Bool) → b ≡ pointwise position_eq ps qs → (b ≡ true → ps ≡ qs) × (ps ≡ qs → b ≡ true)
same_list ps qs b is = let d = sets_decide ps qs in (λ e. d.0 (sym is ∙ e), λ e. is ∙ d.1 e)
