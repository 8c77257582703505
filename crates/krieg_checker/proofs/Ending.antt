-- A node after which no edge follows, in the words of the theory.
use Rattle.std.proofs.Common.{◌≡◌, ℕ, ◌≤◌, Bool, true, false, cond, ◌&&◌, ◌==◌, List, [], ◌∷◌, ◌⊎◌, inl, inr, length, map, Option, Some, None, refl, sym, ap, subst, ◌∙◌, arith}
use Rattle.std.specs.List.{list_all}
use Rattle.std.proofs.lemmas.Bool.{both_ways, false_from_ne_true, le-leb, leb-true, eqb-true}
use Rattle.krieg_checker.proofs.Common.{Pos, Move, Dialect, In, is_nil, Try, Maybe, NoEdges, stale_in_some, keys, class, made, lives_in_some, Key, class_pair, chess, NodeTree, within, Tells, own_need, all_won_other, IsNodeTry, IsEnd, other_cost, try_in, classes_won, classes_cost, NodeTry, MOST_COUNTED}
use Rattle.krieg_pack.proofs.PositionSets.{position_order}
use Rattle.krieg_costs.proofs.Reached.{class_some}
use Rattle.krieg_costs.proofs.Blocks.{lives_how, lives_by_key}
use Rattle.krieg_game.proofs.ChessLaws.{chess_is_game}
use Rattle.krieg_game.proofs.KeyLaws.{key_order}
use Rattle.krieg_parting.proofs.LastMoves.{stale_lives}
use Rattle.krieg_checker.proofs.Sets.{total_none}
use Rattle.krieg_checker.proofs.NodeTells.{node_tells}
use Rattle.krieg_checker.proofs.Walking.{some_nil}

none_in_all : {X : Type 0} (xs : List X) → is_nil xs ≡ false → list_all (λ x. false) xs ≡ false
none_in_all [] e = absurd cc
none_in_all (x ∷ xs) e = refl

-- a list has no entries where its length is none
pub none_there : {X : Type 0} (xs : List X) (n : ℕ) → n ≡ length xs → (n == 0) ≡ true → xs ≡ []
none_there [] n e z = refl
none_there (x ∷ xs) n e z = absurd (let none = eqb-true n 0 z in omega (arith, e, none))

module _ (d : Dialect) where
  -- what is needed behind no edge: nothing where nothing can be heard
  abbrev below : List Key → Option ℕ
  below [] = Some 0
  below (key ∷ ks) = None

  below_tells : (B : List Pos) (t : Move) (ks : List Key) → ((key : Key) → In key ks → is_nil (class (chess d) B t key) ≡ false) →
      Tells (below ks) (λ k. list_all (λ key. list_all (λ (p : Pos). false) (class (chess d) B t key)) ks)
  below_tells B t [] some k small = sym (le-leb 0 k (omega arith))
  below_tells B t (key ∷ ks) some k small = ap (λ b. b && list_all (λ key. list_all (λ (p : Pos). false) (class (chess d) B t key)) ks) (none_in_all (class (chess d) B t key) (some key (inl refl)))

  -- one move is enough where the try mates in all members in which it is legal, and no number where it does not
  own_is : (B : List Pos) (t : Move) (stale : Bool) (ks : List Key) → stale_in_some (chess d) B t ≡ stale → keys (chess d) B t ≡ ks → own_need stale (below ks) ≡ cond (lives_in_some (chess d) B t) None (Some 1)
  own_is B t true ks s e = sym (ap (λ b. cond b None (Some 1)) (stale_lives d B t s))
  own_is B t false (key ∷ ks) s e = sym (ap (λ b. cond b None (Some 1)) (lives_by_key (chess d) (chess_is_game d) B t key (subst (In key) (sym e) (inl refl))))
  own_is B t false [] s e = sym (ap (λ b. cond b None (Some 1)) (false_from_ne_true _ (λ h. dead (lives_how (chess d) (chess_is_game d) B t h))))
    where
      dead : (stale_in_some (chess d) B t ≡ true) ⊎ ((key : Key) × In key (keys (chess d) B t)) → ⊥
      dead (inl h) = both_ways _ s h
      dead (inr k) = subst (In k.0) e k.1

  -- what is needed behind a last try, by what was found
  need_is : (B : List Pos) (t : Move) (c : Option ℕ) (fails : Bool) → ((k : ℕ) → k ≤ MOST_COUNTED → true ≡ within c k) → fails ≡ lives_in_some (chess d) B t → own_need fails c ≡ own_need (stale_in_some (chess d) B t) (below (keys (chess d) B t))
  need_is B t c true hc e = sym (own_is B t (stale_in_some (chess d) B t) (keys (chess d) B t) refl refl ∙ ap (λ b. cond b None (Some 1)) (sym e))
  need_is B t c false hc e = go c (hc 0 (omega arith)) ∙ sym (own_is B t (stale_in_some (chess d) B t) (keys (chess d) B t) refl refl ∙ ap (λ b. cond b None (Some 1)) (sym e))
    where
      go : (c : Option ℕ) → true ≡ within c 0 → own_need false c ≡ Some 1
      go None h = absurd (both_ways _ refl (sym h))
      go (Some w) h = let l = leb-true w 0 (sym h) in let z : w ≡ 0 = omega (arith, l) in ap (λ w. own_need false (Some w)) z

  ends : (t : Move) (other : Maybe Move Key) (B : List Pos) (v : NodeTry) → IsEnd d B t v → IsNodeTry d (Try t other NoEdges) B v
  ends t other B v a = record {
    refused_part = a.refused_part;
    won_part = λ some c hc k small.
        node_tells (chess d) key_order position_order t other NoEdges B (below (keys (chess d) B t)) (some_nil B some)
        (below_tells B t (keys (chess d) B t) (class_some (chess d) (chess_is_game d) B t)) k small
        ∙ (λ i. all_won_other (chess d) other (sym a.refused_part i) k && within (needed c hc i) k);
    cost_part =
        let none = total_none (keys (chess d) B t) in
        let rest = ap (λ xs. other_cost (chess d) other xs) a.refused_part in
        let walked = ap (λ cs. classes_cost d NoEdges (map class_pair cs)) a.classes_part in
        omega (arith, none, rest, walked);
  }
    where
      needed : (c : Option ℕ) → Tells c (classes_won d NoEdges (map class_pair v.classes.items)) → own_need (stale_in_some (chess d) B t) (below (keys (chess d) B t)) ≡ own_need v.fails c
      needed c hc = sym (need_is B t c v.fails (λ k small. sym (ap (λ cs. classes_won d NoEdges (map class_pair cs) k) a.classes_part) ∙ hc k small) a.fails_part)

  module _ (here : NodeTree) (t : Move) (other : Maybe Move Key) (is : here ≡ Try t other NoEdges) (B : List Pos) where
    pub ends_here : (v : NodeTry) → IsEnd d B t v → IsNodeTry d here B v
    ends_here v a = subst (λ x. IsNodeTry d x B v) (sym is) (ends t other B v a)

    pub end_costs : made (chess d) B (try_in here) ≡ made (chess d) B t
    end_costs = ap (λ x. made (chess d) B (try_in x)) is
