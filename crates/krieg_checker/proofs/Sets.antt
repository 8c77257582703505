-- Tests and sums over what came of a try, key by key.
use Rattle.std.proofs.Common.{◌≡◌, ℕ, suc, ◌+◌, Bool, true, false, not, ◌&&◌, ◌||◌, cond, List, [], ◌∷◌, ◌++◌, map, refl, sym, ap, subst, ◌∙◌, arith}
use Rattle.std.specs.List.{list_all}
use Rattle.std.proofs.lemmas.List.Folds.{list_all-append}
use Rattle.std.proofs.Math.Bool.{and_assoc}
use Rattle.krieg_board.proofs.SameTests.{same_tests}
use Rattle.krieg_checker.proofs.Common.{IsOrder, as_set, at_key, keys_in, same, Try, Maybe, Just, Edges, NoEdges, Edge, first_edge, Game, wins, wins_other, wins_at, refused, stale_in_some, all_outcomes, keys, class, total, node_cost, other_cost, edge_cost}
use Rattle.krieg_theory.proofs.Lists.{all_at, all_from}
use Rattle.krieg_theory.proofs.Keys.{at_key_in, in_at_key, key_occurs}
use Rattle.krieg_theory.proofs.Ascending.{in_as_set, as_set_in}
use Rattle.krieg_theory.proofs.Theorems.{first_edge_wins}
use Rattle.krieg_checker.proofs.BoolLaws.{and_swap, not_or}

pub all_map : {X Y : Type 0} (f : Y → Bool) (g : X → Y) (xs : List X) → list_all f (map g xs) ≡ list_all (λ x. f (g x)) xs
all_map f g [] = refl
all_map f g (x ∷ xs) = ap (λ (b : Bool). f (g x) && b) (all_map f g xs)

pub total_map : {X Y : Type 0} (f : Y → ℕ) (g : X → Y) (xs : List X) → total f (map g xs) ≡ total (λ x. f (g x)) xs
total_map f g [] = refl
total_map f g (x ∷ xs) = ap (λ (n : ℕ). f (g x) + n) (total_map f g xs)

pub total_none : {X : Type 0} (xs : List X) → total (λ x. 0) xs ≡ 0
total_none [] = refl
total_none (x ∷ xs) = omega (arith, total_none xs)

pub all_agree : {X : Type 0} (f g : X → Bool) (xs : List X) → ((x : X) → f x ≡ g x) → list_all f xs ≡ list_all g xs
all_agree f g [] h = refl
all_agree f g (x ∷ xs) h = ap (λ (b : Bool). b && list_all f xs) (h x) ∙ ap (λ (b : Bool). g x && b) (all_agree f g xs h)

-- a test of keyed values holds of all where it holds of each key's set
module _ {K X : Type 0} (klt : K → K → Bool) (ko : IsOrder klt) (xlt : X → X → Bool) (xo : IsOrder xlt) where
  pub by_keys : (h : K → X → Bool) (os : List (K × X)) → list_all (λ o. h o.0 o.1) os ≡ list_all (λ key. list_all (h key) (as_set xlt (at_key klt key os))) (keys_in klt os)
  by_keys h os = same_tests _ _
      (λ e. all_from (λ key. list_all (h key) (as_set xlt (at_key klt key os))) (keys_in klt os) (λ key i. all_from (h key) (as_set xlt (at_key klt key os)) (λ x j.
      let r = at_key_in klt ko key os x (as_set_in xlt xo x (at_key klt key os) j) in
      subst (λ (k : K). h k x ≡ true) r.2 (subst (λ (y : X). h r.0.0 y ≡ true) r.3 (all_at (λ (o : K × X). h o.0 o.1) os e r.0 r.1)))))
      (λ e. all_from (λ (o : K × X). h o.0 o.1) os (λ o i.
      all_at (h o.0) (as_set xlt (at_key klt o.0 os)) (all_at (λ key. list_all (h key) (as_set xlt (at_key klt key os))) (keys_in klt os) e o.0 (key_occurs klt ko os o i)) o.1
      (in_as_set xlt xo o.1 (at_key klt o.0 os) (in_at_key klt ko o.0 os o i refl))))

module _ (G : Game) where
  pub first_costs : (es : Edges G.Move G.Key) (key : G.Key) (B : List G.Position) → edge_cost G es key B ≡ other_cost G (first_edge G.key_lt es key) B
  first_costs NoEdges key B = refl
  first_costs (Edge key' n es) key B = go (same G.key_lt key' key) (first_costs es key B)
    where
      go : (b : Bool) → edge_cost G es key B ≡ other_cost G (first_edge G.key_lt es key) B → cond b (node_cost G n B) (edge_cost G es key B) ≡ other_cost G (cond b (Just n) (first_edge G.key_lt es key)) B
      go true h = refl
      go false h = h

  pub first_all : (es : Edges G.Move G.Key) (key : G.Key) (B : List G.Position) (k : ℕ) → list_all (λ p. wins_at G es key p k) B ≡ list_all (λ p. wins_other G (first_edge G.key_lt es key) p k) B
  first_all es key B k = all_agree (λ p. wins_at G es key p k) (λ p. wins_other G (first_edge G.key_lt es key) p k) B (λ p. first_edge_wins G es key p k)

  -- one member more
  one_more : (b s S N X R : Bool) (f : G.Position → Bool) (h : G.Key × G.Position → Bool) (p : G.Position) (rest : List G.Position) (outs O : List (G.Key × G.Position)) → f p ≡ N → list_all f rest ≡ R → X ≡ (R && (not S && list_all h O)) →
      (cond b (not s && list_all h outs) N && X) ≡ (list_all f (cond (not b) (p ∷ rest) rest) && (not ((b && s) || S) && list_all h (cond b outs [] ++ O)))
  one_more true s S N X R f h p rest outs O fp fr e =
      ap (λ (x : Bool). (not s && list_all h outs) && x) e ∙ and_swap (not s) (list_all h outs) R (not S) (list_all h O)
      ∙ ap (λ (x : Bool). x && ((not s && not S) && (list_all h outs && list_all h O))) (sym fr)
      ∙ ap (λ (x : Bool). list_all f rest && (x && (list_all h outs && list_all h O))) (sym (not_or s S))
      ∙ ap (λ (x : Bool). list_all f rest && (not (s || S) && x)) (sym (list_all-append h outs O))
  one_more false s S N X R f h p rest outs O fp fr e =
      ap (λ (x : Bool). N && x) e ∙ sym (and_assoc N R (not S && list_all h O))
      ∙ ap (λ (x : Bool). (x && R) && (not S && list_all h O)) (sym fp)
      ∙ ap (λ (x : Bool). (f p && x) && (not S && list_all h O)) (sym fr)

  -- a node wins all of a set where the refused part is won at the node for it, none is stalemated, and all replies are answered
  pub all_split : (t : G.Move) (other : Maybe G.Move G.Key) (es : Edges G.Move G.Key) (B : List G.Position) (k : ℕ) →
      list_all (λ p. wins G (Try t other es) p (suc k)) B
      ≡ (list_all (λ p. wins_other G other p (suc k)) (refused G B t) && (not (stale_in_some G B t) && list_all (λ o. wins_at G es o.0 o.1 k) (all_outcomes G B t)))
  all_split t other es [] k = refl
  all_split t other es (p ∷ B) k =
      one_more (G.legal p t) (G.stalemates p t) (stale_in_some G B t) (wins_other G other p (suc k)) (list_all (λ p. wins G (Try t other es) p (suc k)) B) (list_all (λ p. wins_other G other p (suc k)) (refused G B t))
      (λ p. wins_other G other p (suc k)) (λ o. wins_at G es o.0 o.1 k) p (refused G B t) (G.outcomes p t) (all_outcomes G B t) refl refl (all_split t other es B k)

  module _ (ko : IsOrder G.key_lt) (xo : IsOrder G.position_lt) where
    -- the same by classes
    pub all_parted : (t : G.Move) (other : Maybe G.Move G.Key) (es : Edges G.Move G.Key) (B : List G.Position) (k : ℕ) →
        list_all (λ p. wins G (Try t other es) p (suc k)) B
        ≡ (list_all (λ p. wins_other G other p (suc k)) (refused G B t) && (not (stale_in_some G B t) && list_all (λ key. list_all (λ p. wins_at G es key p k) (class G B t key)) (keys G B t)))
    all_parted t other es B k =
        all_split t other es B k
        ∙ ap (λ (b : Bool). list_all (λ p. wins_other G other p (suc k)) (refused G B t) && (not (stale_in_some G B t) && b)) (by_keys G.key_lt ko G.position_lt xo (λ key p. wins_at G es key p k) (all_outcomes G B t))
