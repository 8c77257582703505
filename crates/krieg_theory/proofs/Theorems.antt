-- The laws, proved for every game.
use Rattle.std.proofs.Common.{◌≡◌, ℕ, zero, suc, ◌≤◌, ◌<◌, true, false, cond, ◌⊎◌, List, [], ◌∷◌, refl, sym, subst, inl, inr, ◌∙◌, arith}
use Rattle.std.specs.List.{list_any}
use Rattle.std.proofs.lemmas.Bool.{cases_lt, cases_Bool, both_ways, false_from_ne_true}
use Rattle.krieg_theory.proofs.Common.{In, same, at_key, is_nil, Just, NoEdges, Edge, first_edge, Game, IsGame, wins, wins_other, wins_at, refused, keys, class, all_outcomes, begins, canon, Outset, IsOutset, mates, IsWorst, can_plan, canon_plan, canon_worst, MoreMovesWin, FirstEdgeWins, SetsAreEqual, ComesBy, ClassesAreSplit, CanBegins, CanIsWon, BeginsIsWon, LeastIsLeast, CanonIsOne, CanonIsComputed, MoreMovesMate, WorstIsThere, CanPlanIsMated, CanonPlanIsOne, CanonPlanIsThere, CanonPlanIsLeast, CanonPlanIsComputed}
use Rattle.krieg_theory.proofs.Lists.{any_at, nil_or_member, nil_none}
use Rattle.krieg_theory.proofs.Ascending.{same_set, as_set_ascending}
use Rattle.krieg_theory.proofs.Keys.{key_occurs, occurs_at}
use Rattle.krieg_theory.proofs.Steps.{Member, outs_in, in_outs, in_class, class_in, can_step}
use Rattle.krieg_theory.proofs.Shown.{node_shows, try_meets}
use Rattle.krieg_theory.proofs.Built.{wins_more, build, canon_wins}
use Rattle.krieg_theory.proofs.Unique.{canon_only}
use Rattle.krieg_theory.proofs.Exists.{canon_is}
use Rattle.krieg_theory.proofs.Least.{least_is, canon_can}
use Rattle.krieg_theory.proofs.Planned.{mates_shows, canon_mates, canon_plan_worst, canon_plan_is, canon_plan_only, canon_plan_can, worst_least, worst_enough, mates_upto}

module _ (G : Game) where
  pub more_moves_win : MoreMovesWin G
  more_moves_win n p k w = wins_more G n p k w

  pub first_edge_wins : FirstEdgeWins G
  first_edge_wins NoEdges key p k = refl
  first_edge_wins (Edge key' n es) key p k = let ih = first_edge_wins es key p k in elim (same G.key_lt key' key) as (λ b. cond b (wins G n p k) (wins_at G es key p k) ≡ wins_other G (cond b (Just n) (first_edge G.key_lt es key)) p k) [ true ↦ refl | false ↦ ih ]

module _ (G : Game) (L : IsGame G) where
  pub sets_are_equal : SetsAreEqual G
  sets_are_equal xs ys a b h = same_set G.position_lt L.position_order xs ys a b (λ p. (h p).0) (λ p. (h p).1)

  pub classes_are_split : ClassesAreSplit G
  classes_are_split B t key = (as_set_ascending G.position_lt L.position_order (at_key G.key_lt key (all_outcomes G B t)), λ q. (class_in G L B t key q, comes q), (occurs, occurring (nil_or_member (class G B t key))))
    where
      comes : (q : G.Position) → ComesBy G B t key q → In q (class G B t key)
      comes q c = subst (λ k. In q (class G B t k)) c.key_is (subst (λ x. In x (class G B t c.out.0)) c.to (in_class G L B t c.from c.out c.member c.legal c.reply))

      occurs : In key (keys G B t) → is_nil (class G B t key) ≡ false
      occurs i =
          let o = occurs_at G.key_lt L.key_order (all_outcomes G B t) key i in
          let f = outs_in G L B t o.0 o.1 in
          let m = in_class G L B t f.0 o.0 f.1 f.2 f.3 in
          false_from_ne_true _ (λ e. nil_none (class G B t key) e o.0.1 (subst (λ k. In o.0.1 (class G B t k)) o.2 m))

      occurring : (is_nil (class G B t key) ≡ true) ⊎ Member (class G B t key) → is_nil (class G B t key) ≡ false → In key (keys G B t)
      occurring (inl e) n = absurd (both_ways _ n e)
      occurring (inr m) n =
          let c = class_in G L B t key m.0 m.1 in
          subst (λ k. In k (keys G B t)) c.key_is (key_occurs G.key_lt L.key_order (all_outcomes G B t) c.out (in_outs G L B t c.from c.out c.member c.legal c.reply))

  none_begins : (ts : List G.Move) (B : List G.Position) → list_any (begins G zero B) ts ≡ false
  none_begins [] B = refl
  none_begins (t ∷ ts) B = none_begins ts B

  pub can_begins : CanBegins G
  can_begins B zero = sym (none_begins G.moves B)
  can_begins B (suc j) = can_step G L j B

  pub can_is_won : CanIsWon G
  can_is_won B j e = (λ c. (let w = canon_wins G L j B c in (w.0, w.2)), λ w. node_shows G L w.0 B j (member (nil_or_member B)) w.1)
    where
      member : (is_nil B ≡ true) ⊎ Member B → Member B
      member (inl n) = absurd (both_ways _ e n)
      member (inr m) = m

  pub begins_is_won : BeginsIsWon G
  begins_is_won B zero t l = (λ h. absurd (both_ways false refl h), λ w. (let m = any_at (λ p. G.legal p t) B l in absurd (both_ways false refl (w.2 m.0 m.1))))
  begins_is_won B (suc j) t l = (
    λ h. (_, _, build G L t B j (λ R. canon G (suc j) R) (canon G j) (canon_wins G L j) (λ e. canon_wins G L (suc j) (refused G B t)) h),
    λ w. try_meets G L t w.0 w.1 B j w.2 l,
  )

  pub least_is_least : LeastIsLeast G
  least_is_least B j c = least_is G L j B c

  pub canon_is_one : CanonIsOne G
  canon_is_one a b B c d =
      let k = canon_can G L a B c in
      let e : Just a ≡ Just b = sym (canon_only G L a B k.0 c k.1) ∙ canon_only G L b B k.0 d k.1 in
      cc

  pub canon_is_computed : CanonIsComputed G
  canon_is_computed B j c = canon_is G L j B c

module _ (G : Game) (L : IsGame G) (O : Outset G) (R : IsOutset G O) where
  pub more_moves_mate : MoreMovesMate G O
  more_moves_mate plan S k m = mates_upto G L O R k (suc k) S plan (omega arith) m

  pub worst_is_there : WorstIsThere G O
  worst_is_there plan S zero m = (0, omega arith, record { mates_within = m; least = λ i h. omega arith })
  worst_is_there plan S (suc k) m = go (cases_Bool (mates G O plan S k)) (worst_is_there plan S k)
    where
      least_here : mates G O plan S k ≡ false → (i : ℕ) → mates G O plan S i ≡ true → (k < i) ⊎ (i ≤ k) → suc k ≤ i
      least_here e i h (inl l) = omega arith
      least_here e i h (inr l) = absurd (both_ways _ e (mates_upto G L O R i k S plan l h))

      go : (mates G O plan S k ≡ true) ⊎ (mates G O plan S k ≡ false) → (mates G O plan S k ≡ true → (w : ℕ) × (w ≤ k) × IsWorst G O plan S w) → (w : ℕ) × (w ≤ suc k) × IsWorst G O plan S w
      go (inl e) r = let a = r e in (a.0, (let b = a.1 in omega arith), a.2)
      go (inr e) r = (suc k, omega arith, record { mates_within = m; least = λ i h. least_here e i h (cases_lt k i) })

  pub can_plan_is_mated : CanPlanIsMated G O
  can_plan_is_mated S j = (λ c. (canon_plan G O j S, enough c), λ m. mates_shows G L O R m.0 S j m.1)
    where
      enough : can_plan G O j S ≡ true → mates G O (canon_plan G O j S) S j ≡ true
      enough c = mates_upto G L O R (canon_worst G O j S) j S (canon_plan G O j S) (worst_enough G L O R j S c) (canon_mates G L O R j S c)

  pub canon_plan_is_one : CanonPlanIsOne G O
  canon_plan_is_one a b S c d =
      let k = canon_plan_can G L O R S a c in
      sym (canon_plan_only G L O R k.0 S a c k.1) ∙ canon_plan_only G L O R k.0 S b d k.1

  pub canon_plan_is_there : CanonPlanIsThere G O
  canon_plan_is_there S = (
    λ c. (let k = canon_plan_can G L O R S c.0 c.1 in (canon_plan G O k.0 S, canon_worst G O k.0 S, canon_mates G L O R k.0 S k.1)),
    λ m. (canon_plan G O m.1 S, canon_plan_is G L O R m.1 S (mates_shows G L O R m.0 S m.1 m.2)),
  )

  pub canon_plan_is_least : CanonPlanIsLeast G O
  canon_plan_is_least S plan c =
      let k = canon_plan_can G L O R S plan c in
      let e = canon_plan_only G L O R k.0 S plan c k.1 in
      (canon_worst G O k.0 S, subst (λ x. IsWorst G O x S (canon_worst G O k.0 S)) e (canon_plan_worst G L O R k.0 S k.1), λ other i m. worst_least G L O R k.0 S other i m)

  pub canon_plan_is_computed : CanonPlanIsComputed G O
  canon_plan_is_computed S j c = (canon_plan_is G L O R j S c, canon_plan_worst G L O R j S c)
