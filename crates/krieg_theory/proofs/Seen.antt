-- A player who does not see the position wins nothing that one who does could not.
use Rattle.std.proofs.Common.{◌≡◌, ℕ, zero, suc, true, false, not, ◌⊎◌, refl, sym, ap, inl, inr, ◌∙◌}
use Rattle.std.specs.List.{list_any}
use Rattle.std.proofs.lemmas.Bool.{and_parts, and_from, cases_Bool, not-true, cond-true, cond-false, both_ways, false_from_ne_true}
use Rattle.krieg_theory.proofs.Common.{In, same, Try, Maybe, Nothing, Just, Edges, NoEdges, Edge, Game, IsGame, wins, wins_other, wins_at, class, can, begins, mates_with, sees, escapes, WinsIsSeen, CanIsSeen, MoreMovesSee, EscapeFails}
use Rattle.krieg_theory.proofs.Lists.{all_at, all_from, any_at, any_from}
use Rattle.krieg_theory.proofs.Steps.{in_class, begins_at}
use Rattle.krieg_theory.proofs.Shown.{legal_part, other_part}
use Rattle.krieg_theory.proofs.Built.{canon_wins}

module _ (G : Game) where
  -- one move more does no harm
  pub more_moves_see : MoreMovesSee G
  more_moves_see p zero s = absurd (both_ways false refl s)
  more_moves_see p (suc j) s = go (any_at (mates_with G (sees G j) p) G.moves s) (λ q. more_moves_see q j)
    where
      go : (t : G.Move) × In t G.moves × (mates_with G (sees G j) p t ≡ true) → ((q : G.Position) → sees G j q ≡ true → sees G (suc j) q ≡ true) → sees G (suc (suc j)) p ≡ true
      go a more =
          let m = and_parts _ _ a.2 in
          let n = and_parts _ _ m.1 in
          any_from (mates_with G (sees G (suc j)) p) G.moves a.0 a.1
          (and_from _ _ m.0 (and_from _ _ n.0 (all_from (λ o. sees G (suc j) o.1) (G.outcomes p a.0) (λ o i. more o.1 (all_at (λ x. sees G j x.1) (G.outcomes p a.0) n.1 o i)))))

module _ (G : Game) (L : IsGame G) where
  mutual
    -- a tree that wins the position within j shows it
    pub wins_is_seen : WinsIsSeen G
    wins_is_seen (Try t other es) p zero w = absurd (both_ways false refl w)
    wins_is_seen (Try t other es) p (suc j) w = go (cases_Bool (G.legal p t)) (λ v. other_seen other p (suc j) v) (λ key q v. edge_seen es key q j v)
      where
        go : (G.legal p t ≡ true) ⊎ (G.legal p t ≡ false)
            → (wins_other G other p (suc j) ≡ true → sees G (suc j) p ≡ true)
            → ((key : G.Key) (q : G.Position) → wins_at G es key q j ≡ true → sees G j q ≡ true)
            → sees G (suc j) p ≡ true
        go (inl e) a b =
            let l = and_parts _ _ (legal_part G L t other es p j w e) in
            any_from (mates_with G (sees G j) p) G.moves t (L.listed p t e)
            (and_from _ _ e (and_from _ _ l.0 (all_from (λ o. sees G j o.1) (G.outcomes p t) (λ o i. b o.0 o.1 (all_at (λ x. wins_at G es x.0 x.1 j) (G.outcomes p t) l.1 o i)))))
        go (inr e) a b = a (other_part G L t other es p j w e)

    other_seen : (n : Maybe G.Move G.Key) (p : G.Position) (j : ℕ) → wins_other G n p j ≡ true → sees G j p ≡ true
    other_seen Nothing p j w = absurd (both_ways false refl w)
    other_seen (Just n) p j w = wins_is_seen n p j w

    edge_seen : (es : Edges G.Move G.Key) (key : G.Key) (p : G.Position) (j : ℕ) → wins_at G es key p j ≡ true → sees G j p ≡ true
    edge_seen NoEdges key p j w = absurd (both_ways false refl w)
    edge_seen (Edge key' n es) key p j w = go (cases_Bool (same G.key_lt key' key)) (wins_is_seen n p j) (edge_seen es key p j)
      where
        go : (same G.key_lt key' key ≡ true) ⊎ (same G.key_lt key' key ≡ false)
            → (wins G n p j ≡ true → sees G j p ≡ true)
            → (wins_at G es key p j ≡ true → sees G j p ≡ true)
            → sees G j p ≡ true
        go (inl e) a b = a (sym (cond-true (same G.key_lt key' key) _ _ e) ∙ w)
        go (inr e) a b = b (sym (cond-false (same G.key_lt key' key) _ _ e) ∙ w)

  -- each member of a set that can be won is seen
  pub can_is_seen : CanIsSeen G
  can_is_seen B j p c i = let w = canon_wins G L j B c in wins_is_seen w.0 p j (w.2 p i)

  -- a try after which some reply escapes wins nothing
  pub escape_fails : EscapeFails G
  escape_fails B j t e = false_from_ne_true _ (λ b. go b (any_at (escapes G j t) B e))
    where
      found : begins G (suc j) B t ≡ true → (p : G.Position) → In p B → G.legal p t ≡ true → (o : G.Key × G.Position) × In o (G.outcomes p t) × (not (sees G j o.1) ≡ true) → ⊥
      found b p i l x =
          let c = (begins_at G L (can G j) (can G (suc j)) B t b).classes p i l x.0 x.1 in
          both_ways _ (not-true _ x.2) (can_is_seen (class G B t x.0.0) j x.0.1 c (in_class G L B t p x.0 i l x.1))

      at : begins G (suc j) B t ≡ true → (p : G.Position) → In p B → (G.legal p t ≡ true) ⊎ (G.legal p t ≡ false) → escapes G j t p ≡ true → ⊥
      at b p i (inl l) x = found b p i l (any_at (λ o. not (sees G j o.1)) (G.outcomes p t) (sym (ap (λ os. list_any (λ o. not (sees G j o.1)) os) (cond-true (G.legal p t) (G.outcomes p t) _ l)) ∙ x))
      at b p i (inr l) x = both_ways false refl (sym (ap (λ os. list_any (λ o. not (sees G j o.1)) os) (cond-false (G.legal p t) (G.outcomes p t) _ l)) ∙ x)

      go : begins G (suc j) B t ≡ true → (p : G.Position) × In p B × (escapes G j t p ≡ true) → ⊥
      go b m = at b m.0 m.1 (cases_Bool (G.legal m.0 t)) m.2
