-- The best plan for positions of one hand can be written as a plan file.
use Rattle.std.proofs.Common.{◌≡◌, ℕ, zero, suc, ◌+◌, ◌≤◌, Bool, true, false, not, List, [], ◌∷◌, ◌++◌, map, length, refl, sym, ap, subst, inl, inr, ◌∙◌, arith}
use Rattle.std.specs.Prelude.{◌⊎◌, if◌then◌else◌}
use Rattle.std.specs.List.{All, list_any}
use Rattle.std.proofs.lemmas.Bool.{both_ways, and_parts, cases_Bool}
use Rattle.std.proofs.lemmas.List.Elements.{All-head, All-tail, All-nil, All-cons}
use Rattle.krieg_outcome.proofs.Common.{same_hand, is_same_side, Pos, IsValid, Side, MOST_FIND_MOVES, MOST_LISTED, Dialect, HaveOneHand, In, is_nil, same, wins, mates, all_starts, wins_root, IsCanonPlan, RootKey, root_lt, chess, outset, starts, PlanTrees, MOST_NODES, AreAlike, waits, IsFit, IsBest, IsOwnTurn, IsOthersTurn, file_of}
use Rattle.krieg_moves.proofs.Hands.{same_hand_alike}
use Rattle.krieg_theory.specs.Plans.{is_over}
use Rattle.krieg_theory.proofs.Keys.{key_occurs}
use Rattle.krieg_theory.proofs.Lists.{all_at, any_none, in_flat}
use Rattle.krieg_game.proofs.KeyLaws.{root_order}
use Rattle.krieg_game.proofs.Winning.{nothing_wins_in_none}
use Rattle.krieg_planfile.specs.PlanFiles.{CanBeWritten}
use Rattle.krieg_outcome.proofs.ToldPlans.{some_member, plan_told}

-- each of a list, by its members
pub all_of : {X : Type 0} (P : X → Type 0) (xs : List X) → ((x : X) → In x xs → P x) → All P xs
all_of P [] each = All-nil P
all_of P (x ∷ xs) each = All-cons P x xs (each x (inl refl)) (all_of P xs (λ y at. each y (inr at)))

-- and of its members
pub each_of : {X : Type 0} (P : X → Type 0) (xs : List X) → All P xs → (x : X) → In x xs → P x
each_of P [] all x at = absurd at
each_of P (y ∷ xs) all x (inl same) = subst P same (All-head P y xs all)
each_of P (y ∷ xs) all x (inr at) = each_of P xs (All-tail P y xs all) x at

pub some_length : {X : Type 0} (xs : List X) → is_nil xs ≡ false → 1 ≤ length xs
some_length [] h = absurd (both_ways true h refl)
some_length (x ∷ xs) h = omega arith

some_of_map : {X Y : Type 0} (f : X → Y) (xs : List X) (y : Y) → In y (map f xs) → 1 ≤ length xs
some_of_map f [] y at = absurd at
some_of_map f (x ∷ xs) y at = omega arith

pub alike : (who : Side) (S : List Pos) → HaveOneHand who S → AreAlike who S
alike who [] hand = tt
alike who (p ∷ ps) hand = all_of (λ q. same_hand p q who ≡ true) ps (λ q at. hand p q (inl refl) (inr at))

-- the same side is to move in all of them
pub same_turn : (who : Side) (S : List Pos) → HaveOneHand who S → (p q : Pos) → In p S → In q S → p.side ≡ q.side
same_turn who S hand p q at other = (same_hand_alike who p q (hand p q at other)).turn

pub turn_is : (who : Side) (S : List Pos) → HaveOneHand who S → (q : Pos) → In q S → not (is_same_side q.side who) ≡ waits who S
turn_is who [] hand q at = absurd at
turn_is who (p ∷ ps) hand q at = ap (λ (side : Side). not (is_same_side side who)) (same_turn who (p ∷ ps) hand q p at (inl refl))

-- what a search asks for: it is one side's turn in all of them, or in none
pub one_turn_of : (who side : Side) (S : List Pos) → HaveOneHand who S → IsOwnTurn side S ⊎ IsOthersTurn side S
one_turn_of who side [] hand = inl (λ q at. absurd at)
one_turn_of who side (p ∷ ps) hand = go (cases_Bool (is_same_side p.side side))
  where
    same : (q : Pos) → In q (p ∷ ps) → is_same_side q.side side ≡ is_same_side p.side side
    same q at = ap (λ (turn : Side). is_same_side turn side) (same_turn who (p ∷ ps) hand q p at (inl refl))

    go : (is_same_side p.side side ≡ true) ⊎ (is_same_side p.side side ≡ false) → IsOwnTurn side (p ∷ ps) ⊎ IsOthersTurn side (p ∷ ps)
    go (inl own) = inl (λ q at. same q at ∙ own)
    go (inr other) = inr (λ q at. same q at ∙ other)

module _ (d : Dialect) (who : Side) where
  -- nothing is won within no move
  no_win : (plan : PlanTrees) (key : RootKey) (p : Pos) → wins_root (chess d) (outset d who) plan key p 0 ≡ false
  no_win [] key p = refl
  no_win (r ∷ rs) key p = go (same root_lt r.0 key) (no_win rs key p)
    where
      go : (t : Bool) → wins_root (chess d) (outset d who) rs key p 0 ≡ false → (if t then wins (chess d) r.1 p 0 else wins_root (chess d) (outset d who) rs key p 0) ≡ false
      go true rest = nothing_wins_in_none d r.1 p
      go false rest = rest

  -- a way in which a game from some member starts
  some_start : (S : List Pos) → is_nil S ≡ false → list_any (is_over (chess d) (outset d who)) S ≡ false → (p : Pos) × In p S × (s : RootKey × Pos) × In s (starts d who p)
  some_start S some none_over =
      let (p, at) = some_member S some in
      let (s, started) = some_member (starts d who p) (any_none (is_over (chess d) (outset d who)) S none_over p at) in
      (p, at, s, started)

  pub some_roots : (S : List Pos) (plan : PlanTrees) → is_nil S ≡ false → IsCanonPlan (chess d) (outset d who) plan S → 1 ≤ length plan
  some_roots S plan some c =
      let (p, at, s, started) = some_start S some c.none_over in
      some_of_map (λ r. r.0) plan s.0 (subst (In s.0) (sym c.same_keys) (key_occurs root_lt root_order (all_starts (chess d) (outset d who) S) s (in_flat (starts d who) S p s at started)))

  pub some_moves : (S : List Pos) (plan : PlanTrees) (w : ℕ) → is_nil S ≡ false → IsCanonPlan (chess d) (outset d who) plan S → mates (chess d) (outset d who) plan S w ≡ true → 1 ≤ w
  some_moves S plan zero some c mated =
      let (p, at, s, started) = some_start S some c.none_over in
      let won = (and_parts (not (is_over (chess d) (outset d who) p)) _ (all_at _ S mated p at)).1 in
      absurd (both_ways _ (no_win plan s.0 s.1) (all_at (λ s. wins_root (chess d) (outset d who) plan s.0 s.1 0) (starts d who p) won s started))
  some_moves S plan (suc w) some c mated = omega arith

  pub can_be_written : (S : List Pos) (n w : ℕ) (plan : PlanTrees) → is_nil S ≡ false → length S ≤ MOST_LISTED → HaveOneHand who S → All IsValid S → n ≤ MOST_FIND_MOVES → IsBest d who S n w plan → IsFit MOST_NODES plan →
      CanBeWritten (file_of d who S w plan)
  can_be_written S n w plan some few hand valid few_moves best fit =
      let told = plan_told d who S (each_of IsValid S valid) (waits who S) plan (turn_is who S hand) best.canonical in
      record {
        some_listed = some_length S some;
        few_listed = few;
        alike = alike who S hand;
        valid = valid;
        least_worst = some_moves S plan w some best.canonical best.worst_case.mates_within;
        most_worst = (let h = best.within in omega arith);
        some_roots = some_roots S plan some best.canonical;
        size = fit.size;
        depth = fit.depth;
        told = told.0;
        roots = told.1;
      }
