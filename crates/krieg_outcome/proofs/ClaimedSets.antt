-- What each claim has that no plan mates: its set is one of valid positions, its moves ascend, and it speaks of few own moves.
use Rattle.std.proofs.Common.{◌≡◌, ℕ, zero, suc, ◌≤◌, List, [], ◌∷◌, length, map, flat_map, Option, Some, None, refl, sym, ap, subst, inl, inr, arith}
use Rattle.std.specs.Prelude.{◌⊎◌}
use Rattle.krieg_outcome.proofs.Common.{move_lt, Pos, MOST_MOVES, Move, Side, Dialect, IsAscending, In, Ascending, Game, refused, tries, class, openings, opening_set, Pair, Block, Lives, Stale, LostClass, LostRefused, NoBlock, block, behind, first_lost, Reason, claimed_within, claimed, in_order, reason_at, claim_of, claims_from, denial, Key, RootKey, chess, outset, IsOwnTurn}
use Rattle.krieg_theory.proofs.Lists.{append_in, flat_in, map_in}
use Rattle.krieg_costs.specs.Refutation.{Claim}
use Rattle.krieg_costs.proofs.Blocks.{found}
use Rattle.krieg_accounts.proofs.TryOrder.{tries_up}
use Rattle.krieg_claims.proofs.Adding.{all_in}
use Rattle.krieg_game.proofs.ChessLaws.{chess_is_game}
use Rattle.krieg_game.proofs.Splitting.{classes_come_about, refused_ascends}
use Rattle.krieg_game.proofs.Starting.{openings_occur}
use Rattle.krieg_outcome.proofs.ToldPlans.{AreValid, class_valid, refused_valid, opening_valid}

-- What holds of a set, and goes on to hold of what a try makes of a set, holds of all that is claimed below it.
module _ (G : Game) (P : List G.Position → Type 0) (of_class : (B : List G.Position) (t : G.Move) (key : G.Key) → P B → P (class G B t key)) (of_refused : (B : List G.Position) (t : G.Move) → P B → P (refused G B t)) where
  -- of its set, with at most so many moves
  abbrev pub Has : ℕ → Pair G → Type 0
  Has j q = P q.0 × (q.1 ≤ j)

  abbrev HaveAll : ℕ → (List G.Position → List (Pair G)) → Type 0
  HaveAll j f = (C : List G.Position) → P C → (q : Pair G) → In q (f C) → Has j q

  has_behind : (j : ℕ) (less here : List G.Position → List (Pair G)) (B : List G.Position) (t : G.Move) (b : Block G.Key) → P B → HaveAll j less → HaveAll j here →
      (q : Pair G) → In q (behind G less here B t b) → Has j q
  has_behind j less here B t Lives p f g q i = absurd i
  has_behind j less here B t Stale p f g q i = absurd i
  has_behind j less here B t (LostClass key) p f g q i = f (class G B t key) (of_class B t key p) q i
  has_behind j less here B t LostRefused p f g q i = g (refused G B t) (of_refused B t p) q i
  has_behind j less here B t NoBlock p f g q i = absurd i

  abbrev behind_try : ℕ → ℕ → List G.Position → G.Move → List (Pair G)
  behind_try j n B t = behind G (claimed G j) (claimed_within G j (claimed G j) n) B t (block G (suc j) B t)

  has_within : (j n : ℕ) → HaveAll (suc j) (claimed G j) → HaveAll (suc j) (claimed_within G j (claimed G j) n)
  has_within j zero less B p q i = absurd i
  has_within j (suc n) less B p q i = go (has_within j n less) (append_in (flat_map (behind_try j n B) (tries G B)) ((B, suc j) ∷ []) q i)
    where
      go : HaveAll (suc j) (claimed_within G j (claimed G j) n) → In q (flat_map (behind_try j n B) (tries G B)) ⊎ In q ((B, suc j) ∷ []) → Has (suc j) q
      go here (inl m) =
          let f = flat_in (behind_try j n B) (tries G B) q m in
          has_behind (suc j) (claimed G j) (claimed_within G j (claimed G j) n) B f.0 (block G (suc j) B f.0) p less here q f.2
      go here (inr (inl e)) = subst (Has (suc j)) e (p, omega arith)
      go here (inr (inr m)) = absurd m

  pub has_claimed : (j : ℕ) → HaveAll j (claimed G j)
  has_claimed zero B p q i = absurd i
  has_claimed (suc j) B p q i = has_within j (length B) (λ C c r k. (let h = has_claimed j C c r k in (h.0, omega (arith, h.1)))) B p q i

module _ (d : Dialect) where
  -- a claim as they are written
  pub record IsWritten (c : Claim (chess d)) : Type 0 where
    pub most : c.number ≤ MOST_MOVES
    pub valid : AreValid c.set
    pub ascending : IsAscending c.set
    pub in_order : Ascending move_lt (map (λ (r : Move × Reason Key). r.0) c.reasons)

  abbrev IsSet : List Pos → Type 0
  IsSet B = AreValid B × IsAscending B

  set_of_class : (B : List Pos) (t : Move) (key : Key) → IsSet B → IsSet (class (chess d) B t key)
  set_of_class B t (own, reply) s = (class_valid d B t (own, reply) s.0, (classes_come_about d B t own reply).ascending)

  set_of_refused : (B : List Pos) (t : Move) → IsSet B → IsSet (refused (chess d) B t)
  set_of_refused B t s = (refused_valid d B t s.0, refused_ascends d B t s.1)

  -- the moves of the reasons are the tries
  moves_of_reasons : (f : Move → Reason Key) (ts : List Move) → map (λ (r : Move × Reason Key). r.0) (map (λ t. (t, f t)) ts) ≡ ts
  moves_of_reasons f [] = refl
  moves_of_reasons f (t ∷ ts) = ap (λ (xs : List Move). t ∷ xs) (moves_of_reasons f ts)

  written_of : (n : ℕ) (qs : List (Pair (chess d))) (q : Pair (chess d)) → n ≤ MOST_MOVES → IsSet q.0 × (q.1 ≤ n) → IsWritten (claim_of (chess d) qs q)
  written_of n qs q few h = record {
    most = omega (arith, few, h.1);
    valid = h.0.0;
    ascending = h.0.1;
    in_order = subst (Ascending move_lt) (sym (moves_of_reasons (reason_at (chess d) qs q.1 q.0) (tries (chess d) q.0))) (tries_up (chess d) (chess_is_game d) q.0);
  }

  pub denial_written : (who : Side) (S : List Pos) (n : ℕ) → AreValid S → IsOwnTurn who S → n ≤ MOST_MOVES → (c : Claim (chess d)) → In c (denial (chess d) (outset d who) n S) → IsWritten c
  denial_written who S n valid own few c at = go (first_lost (chess d) (outset d who) n S) refl at
    where
      of_opening : (key : RootKey) → In key (openings (chess d) (outset d who) S) → (q : Pair (chess d)) → In q (in_order (chess d) n (opening_set (chess d) (outset d who) S key)) → IsSet q.0 × (q.1 ≤ n)
      of_opening key occurs q i = by (all_in (chess d) (chess_is_game d) [] (claimed (chess d) n (opening_set (chess d) (outset d who) S key)) q i)
        where
          by : In q [] ⊎ In q (claimed (chess d) n (opening_set (chess d) (outset d who) S key)) → IsSet q.0 × (q.1 ≤ n)
          by (inl m) = absurd m
          by (inr m) =
              has_claimed (chess d) IsSet set_of_class set_of_refused n (opening_set (chess d) (outset d who) S key)
              (opening_valid d who S valid own key occurs, (openings_occur d who S key).ascending) q m

      go : (k : Option RootKey) → first_lost (chess d) (outset d who) n S ≡ k → In c (claims_from (chess d) (outset d who) n S k) → IsWritten c
      go None e i = absurd i
      go (Some key) e i =
          let occurs = (found _ (openings (chess d) (outset d who) S) key e).0 in
          let f = map_in (claim_of (chess d) (in_order (chess d) n (opening_set (chess d) (outset d who) S key))) (in_order (chess d) n (opening_set (chess d) (outset d who) S key)) c i in
          subst IsWritten f.2 (written_of n (in_order (chess d) n (opening_set (chess d) (outset d who) S key)) f.0 few (of_opening key occurs f.0 f.1))
