-- A try that must mate, in the words of the theory.
use Rattle.std.proofs.Common.{◌≡◌, Bool, true, false, cond, not, ◌&&◌, ◌||◌, List, [], ◌∷◌, ◌⊎◌, inl, inr, Option, Some, None, refl, sym, ap, ◌∙◌, subst}
use Rattle.std.specs.List.{list_all}
use Rattle.std.proofs.lemmas.Bool.{both_ways, and_parts, not-true, false_from_ne_true}
use Rattle.krieg_split.proofs.Common.{Pos, Move, Dialect, IsAscending, set_of, In, is_nil, refused, legal_in_some, stale_in_some, keys, class, can, begins, lives_in_some, chess, AllMate, IsLastMove, IsMating, Mating}
use Rattle.krieg_pack.proofs.PositionSets.{set_of_ascending}
use Rattle.krieg_theory.proofs.Lists.{all_at, nil_or_member}
use Rattle.krieg_costs.proofs.Blocks.{lives_how, lives_by_key}
use Rattle.krieg_game.proofs.ChessLaws.{chess_is_game}
use Rattle.krieg_game.proofs.Splitting.{refused_ascends}
use Rattle.krieg_parting.proofs.LastMoves.{stale_lives}

module _ (d : Dialect) where
  -- where some member lives the try does not begin to win: it stalemates, or what can be heard cannot be won
  pub life_fails : (B : List Pos) (t : Move) → lives_in_some (chess d) B t ≡ true → begins (chess d) 1 B t ≡ false
  life_fails B t h = false_from_ne_true _ (λ e. wrong e (lives_how (chess d) (chess_is_game d) B t h))
    where
      conditions : begins (chess d) 1 B t ≡ true → (stale_in_some (chess d) B t ≡ false) × (list_all (λ key. can (chess d) 0 (class (chess d) B t key)) (keys (chess d) B t) ≡ true)
      conditions e =
          let a = and_parts (legal_in_some (chess d) B t) _ e in
          let b = and_parts (not (stale_in_some (chess d) B t)) _ a.1 in
          (not-true _ b.0, (and_parts (list_all (λ key. can (chess d) 0 (class (chess d) B t key)) (keys (chess d) B t)) _ b.1).0)

      wrong : begins (chess d) 1 B t ≡ true → (stale_in_some (chess d) B t ≡ true) ⊎ ((key : (chess d).Key) × In key (keys (chess d) B t)) → ⊥
      wrong e (inl s) = both_ways _ (conditions e).0 s
      wrong e (inr k) = both_ways false refl (all_at (λ key. can (chess d) 0 (class (chess d) B t key)) (keys (chess d) B t) (conditions e).1 k.0 k.1)

  nil_is : {X : Type 0} (xs : List X) → is_nil xs ≡ true → xs ≡ []
  nil_is [] e = refl
  nil_is (x ∷ xs) e = absurd (both_ways _ refl e)

  -- and nothing can be heard
  no_keys : (B : List Pos) (t : Move) → lives_in_some (chess d) B t ≡ false → keys (chess d) B t ≡ []
  no_keys B t h = go (nil_or_member (keys (chess d) B t))
    where
      go : (is_nil (keys (chess d) B t) ≡ true) ⊎ ((key : (chess d).Key) × In key (keys (chess d) B t)) → keys (chess d) B t ≡ []
      go (inl e) = nil_is (keys (chess d) B t) e
      go (inr k) = absurd (both_ways _ h (lives_by_key (chess d) (chess_is_game d) B t k.0 k.1))

  by_rest : (B : List Pos) (t : Move) → stale_in_some (chess d) B t ≡ false → keys (chess d) B t ≡ [] →
      begins (chess d) 1 B t ≡ (legal_in_some (chess d) B t && (is_nil (refused (chess d) B t) || can (chess d) 1 (refused (chess d) B t)))
  by_rest B t s k =
      let rest = is_nil (refused (chess d) B t) || can (chess d) 1 (refused (chess d) B t) in
      ap (λ (b : Bool). legal_in_some (chess d) B t && (not b && (list_all (λ key. can (chess d) 0 (class (chess d) B t key)) (keys (chess d) B t) && rest))) s
      ∙ ap (λ ks. legal_in_some (chess d) B t && (list_all (λ key. can (chess d) 0 (class (chess d) B t key)) ks && rest)) k

  all_mate : (B rest : List Pos) (t : Move) → rest ≡ refused (chess d) B t → lives_in_some (chess d) B t ≡ false → AllMate d B t rest
  all_mate B rest t is h =
      let s = false_from_ne_true (stale_in_some (chess d) B t) (λ e. both_ways _ h (stale_lives d B t e)) in
      let k = no_keys B t h in
      record { refused_part = is; none_lives = h; none_stale = s; no_keys = k; begins_by_rest = by_rest B t s k }

  pub last_move : (B : List Pos) (t : Move) (found : Mating) (r : Option (List Pos)) → IsAscending B → IsMating d false B t found → r ≡ cond found.lives None (Some (set_of found.refused.items)) → IsLastMove d B t r
  last_move B t found r up m is = subst (IsLastMove d B t) (sym is) (go found.lives refl)
    where
      go : (b : Bool) → found.lives ≡ b → IsLastMove d B t (cond b None (Some (set_of found.refused.items)))
      go true e = let l = sym m.lives_part ∙ e in record { lives = l; fails = life_fails B t l }
      go false e =
          all_mate B (set_of found.refused.items) t
          (ap set_of (m.refused_part (ap not e)) ∙ set_of_ascending (refused (chess d) B t) (refused_ascends d B t up))
          (sym m.lives_part ∙ e)
