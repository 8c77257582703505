-- What the checker joins tells within how many moves a node wins a set.
use Rattle.std.proofs.Common.{◌≡◌, ℕ, zero, suc, ◌+◌, ◌≤◌, max, Bool, true, false, not, ◌&&◌, cond, List, [], ◌∷◌, Option, Some, None, refl, sym, ap, ◌∙◌, arith}
use Rattle.std.specs.Prelude.{nat_le, nat_lt}
use Rattle.std.specs.List.{list_all}
use Rattle.std.proofs.lemmas.Bool.{and_parts, and_from, leb-true, le-leb, ltb-false}
use Rattle.std.proofs.lemmas.Bool.Decides.{nat_tests}
use Rattle.std.proofs.Math.Bool.{and-false}
use Rattle.krieg_board.proofs.SameTests.{same_tests}
use Rattle.krieg_checker.proofs.Common.{is_nil, IsOrder, Try, Maybe, Edges, Game, wins_at, refused, stale_in_some, keys, class, within, Tells, worse, one_more, own_need, all_won, all_won_other, MOST_COUNTED}
use Rattle.krieg_checker.proofs.Sets.{all_parted}

max_within : (a b k : ℕ) → nat_le (max a b) k ≡ (nat_le a k && nat_le b k)
max_within a b k = same_tests _ _
    (λ e. let h = leb-true (max a b) k e in and_from (nat_le a k) (nat_le b k) (le-leb a k (omega arith)) (le-leb b k (omega arith)))
    (λ e. let p = and_parts (nat_le a k) (nat_le b k) e in let x = leb-true a k p.0 in let y = leb-true b k p.1 in le-leb (max a b) k (omega arith))

pub worse_within : (r s : Option ℕ) (k : ℕ) → within (worse r s) k ≡ (within r k && within s k)
worse_within None s k = refl
worse_within (Some a) None k = sym (and-false (nat_le a k))
worse_within (Some a) (Some b) k = max_within a b k

bumped_none : (r : Option ℕ) → within (one_more r) 0 ≡ false
bumped_none None = refl
bumped_none (Some w) = go (nat_lt w MOST_COUNTED)
  where
    go : (b : Bool) → within (cond b (Some (w + 1)) None) 0 ≡ false
    go true = grind (arith, nat_tests)
    go false = refl

bumped_more : (r : Option ℕ) (k : ℕ) → suc k ≤ MOST_COUNTED → within (one_more r) (suc k) ≡ within r k
bumped_more None k small = refl
bumped_more (Some w) k small = go (nat_lt w MOST_COUNTED) refl
  where
    go : (b : Bool) → nat_lt w MOST_COUNTED ≡ b → within (cond b (Some (w + 1)) None) (suc k) ≡ nat_le w k
    go true e = grind (arith, nat_tests)
    go false e = let h = ltb-false w MOST_COUNTED e in grind (arith, nat_tests)

own_none : (stale : Bool) (r : Option ℕ) → within (own_need stale r) 0 ≡ false
own_none true r = refl
own_none false r = bumped_none r

own_more : (stale : Bool) (r : Option ℕ) (k : ℕ) → suc k ≤ MOST_COUNTED → within (own_need stale r) (suc k) ≡ (not stale && within r k)
own_more true r k small = refl
own_more false r k small = bumped_more r k small

none_won : (G : Game) (t : G.Move) (other : Maybe G.Move G.Key) (es : Edges G.Move G.Key) (B : List G.Position) → is_nil B ≡ false → all_won G (Try t other es) B 0 ≡ false
none_won G t other es [] e = absurd cc
none_won G t other es (p ∷ B) e = refl

-- a node wins all of a set where its refused part is won at the node for it, and the classes with what its own move needs
pub node_tells : (G : Game) (ko : IsOrder G.key_lt) (xo : IsOrder G.position_lt) (t : G.Move) (other : Maybe G.Move G.Key) (es : Edges G.Move G.Key) (B : List G.Position) (c : Option ℕ) → is_nil B ≡ false →
    Tells c (λ k. list_all (λ key. list_all (λ p. wins_at G es key p k) (class G B t key)) (keys G B t)) → (k : ℕ) → k ≤ MOST_COUNTED →
    all_won G (Try t other es) B k ≡ (all_won_other G other (refused G B t) k && within (own_need (stale_in_some G B t) c) k)
node_tells G ko xo t other es B c some hc zero small =
    none_won G t other es B some ∙ sym (ap (λ b. all_won_other G other (refused G B t) 0 && b) (own_none (stale_in_some G B t) c) ∙ and-false (all_won_other G other (refused G B t) 0))
node_tells G ko xo t other es B c some hc (suc k) small =
    all_parted G ko xo t other es B k
    ∙ ap (λ b. all_won_other G other (refused G B t) (suc k) && (not (stale_in_some G B t) && b)) (hc k (omega arith))
    ∙ ap (λ b. all_won_other G other (refused G B t) (suc k) && b) (sym (own_more (stale_in_some G B t) c k small))
