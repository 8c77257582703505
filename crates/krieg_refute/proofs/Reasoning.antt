-- The reasons of the tries of a set, one after another.
use Rattle.std.proofs.Common.{◌≡◌, ℕ, suc, ◌+◌, ◌-◌, ◌<◌, List, [], ◌∷◌, ◌++◌, length, map, take, get_or, sym, ap, subst, ◌∙◌, arith}
use Rattle.std.specs.Prelude.{IfSome}
use Rattle.std.proofs.lemmas.List.{map-append, take_more}
use Rattle.krieg_refute.proofs.Common.{Pos, Move, Dialect, block_pair, add_all, reason_at, behind_try, WalksTries, Stands, HasTries, Key, chess, why_of, reason_of}
use Rattle.krieg_theory.specs.Sets.{In}
use Rattle.krieg_costs.specs.Refutation.{Reason}
use Rattle.krieg_claims.proofs.Adding.{all_more}
use Rattle.krieg_claims.proofs.Walking.{walks_try, reasons_keep}
use Rattle.krieg_game.proofs.ChessLaws.{chess_is_game}
use Rattle.krieg_refutation.specs.declared.refutation.Reason.{Reason as Reason'}

module _ (d : Dialect) where
  abbrev pub told : List (List Pos × ℕ) → ℕ → List Pos → List Move → List (Move × Reason Key)
  told qs j B ts = map {B = Move × Reason Key} (λ t. (t, reason_at (chess d) qs j B t)) ts

  -- one try more: what is walked, and the reasons
  module _ (qs qs' qs'' : List (List Pos × ℕ)) (B : List Pos) (j : ℕ) (some : 0 < j) (ts : List Move) (k : ℕ) (t : Move) (l : k < length ts) (e : t ≡ get_or ts k t)
      (w : WalksTries (chess d) qs qs' B (j - 1) (take k ts)) (more : qs'' ≡ add_all (chess d) qs' (behind_try (chess d) (j - 1) B t))
      (stands : Stands (chess d) [] qs'') (has : IfSome (block_pair (chess d) j B t) (λ q. In q qs'')) where
    before : suc (j - 1) ≡ j
    before = omega arith

    taken : take (k + 1) ts ≡ take k ts ++ t ∷ []
    taken = take_more ts k t l ∙ ap (λ y. take k ts ++ y ∷ []) (sym e)

    pub walked_more : WalksTries (chess d) qs qs'' B (j - 1) (take (k + 1) ts)
    walked_more =
        subst (WalksTries (chess d) qs qs'' B (j - 1)) (sym taken)
        (walks_try (chess d) (chess_is_game d) qs qs' qs'' B (j - 1) (take k ts) t w more stands (subst (λ (i : ℕ). IfSome (block_pair (chess d) i B t) (λ q. In q qs'')) (sym before) has))

    pub reasons_more : (rs : List Reason') (r : Reason') → r.mv ≡ t → why_of r.why ≡ reason_at (chess d) qs'' j B t → map reason_of rs ≡ told qs' j B (take k ts) → map reason_of (rs ++ r ∷ []) ≡ told qs'' j B (take (k + 1) ts)
    reasons_more rs r m y h =
        let a = all_more (chess d) (chess_is_game d) qs' (behind_try (chess d) (j - 1) B t) in
        let is : qs'' ≡ qs' ++ a.0 = more ∙ a.1 in
        let kept : told qs'' j B (take k ts) ≡ told qs' j B (take k ts) =
        ap (λ (R : List (List Pos × ℕ)). told R j B (take k ts)) is ∙ reasons_keep (chess d) (chess_is_game d) qs' a.0 j B (take k ts) (subst (λ (i : ℕ). HasTries (chess d) qs' B i (take k ts)) before w.has) in
        map-append reason_of rs (r ∷ [])
        ∙ (λ i. (h ∙ sym kept) i ++ (m i, y i) ∷ [])
        ∙ sym (map-append {B = Move × Reason Key} (λ t. (t, reason_at (chess d) qs'' j B t)) (take k ts) (t ∷ []))
        ∙ ap (told qs'' j B) (sym taken)
