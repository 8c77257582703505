-- Reading branches one after another.
use Rattle.std.proofs.Common.{◌≡◌, ℕ, suc, ◌+◌, ◌-◌, ◌<◌, ◌≤◌, List, [], ◌∷◌, ◌++◌, Option, Some, Result, Ok, Err, refl, sym, ap, ◌∙◌, append_assoc, arith}
use Rattle.std.proofs.lemmas.List.{append-nil}
use Rattle.krieg_planfile.proofs.Common.{TextFault, At, NoMemory, TextKind, ◌>>=◌, Place, GivesOn, NodeTree, NodeReader, branch_by, branches_by}

module _ {K : Type 0} (node : NodeReader) (form : Option K → List ℕ → Result K TextKind) where
  -- what is read, after the branches of the front
  abbrev pub with_front : List (K × NodeTree) → Result ((List (K × NodeTree) × ℕ) × Place) TextFault → Result ((List (K × NodeTree) × ℕ) × Place) TextFault
  with_front front read = read >>= λ x. Ok ((front ++ x.0.0, x.0.1), x.1)

  abbrev after_one : ℕ → ((K × NodeTree) × ℕ) × Place → Result ((List (K × NodeTree) × ℕ) × Place) TextFault
  after_one k b = branches_by node form k (Some b.0.0.0) b.0.1 b.1 >>= λ rest. Ok ((b.0.0 ∷ rest.0.0, rest.0.1), rest.1)

  front_push : (fs : List (K × NodeTree)) (b : K × NodeTree) (r : Result ((List (K × NodeTree) × ℕ) × Place) TextFault) →
      with_front fs (r >>= λ rest. Ok ((b ∷ rest.0.0, rest.0.1), rest.1)) ≡ with_front (fs ++ b ∷ []) r
  front_push fs b (Ok x) = ap (λ (t : List (K × NodeTree)). Ok ((t, x.0.1), x.1)) (sym (append_assoc fs (b ∷ []) x.0.0))
  front_push fs b (Err e) = refl

  opened : (k i : ℕ) (last : Option K) (left : ℕ) (from : Place) → i < k →
      branches_by node form (k - i) last left from ≡ (branch_by node form last left from >>= after_one (k - (i + 1)))
  opened k i last left from lt = let more : k - i ≡ suc (k - (i + 1)) = omega arith in ap (λ (n : ℕ). branches_by node form n last left from) more

  pub branch_ok : (fs : List (K × NodeTree)) (k i : ℕ) (last : Option K) (left now : ℕ) (from new : Place) (b : K × NodeTree) (all : Result ((List (K × NodeTree) × ℕ) × Place) TextFault) →
      i < k → branch_by node form last left from ≡ Ok ((b, now), new) →
      with_front fs (branches_by node form (k - i) last left from) ≡ all →
      with_front (fs ++ b ∷ []) (branches_by node form (k - (i + 1)) (Some b.0) now new) ≡ all
  branch_ok fs k i last left now from new b all lt first so =
      sym (front_push fs b (branches_by node form (k - (i + 1)) (Some b.0) now new))
      ∙ sym (ap (with_front fs) (opened k i last left from lt ∙ ap (λ (r : Result (((K × NodeTree) × ℕ) × Place) TextFault). r >>= after_one (k - (i + 1))) first))
      ∙ so

  pub branch_refused : {X Y : Type 0} (one : X → (K × NodeTree) × ℕ) (view : Y → List (K × NodeTree) × ℕ) (e : TextFault) (fs : List (K × NodeTree)) (k i : ℕ) (last : Option K) (left : ℕ) (from new : Place)
      (all : Result ((List (K × NodeTree) × ℕ) × Place) TextFault) → i < k → GivesOn one (Err e) new (branch_by node form last left from) →
      with_front fs (branches_by node form (k - i) last left from) ≡ all → GivesOn view (Err e) new all
  branch_refused one view NoMemory fs k i last left from new all lt first so = tt
  branch_refused one view (At line kind) fs k i last left from new all lt first so =
      (sym so ∙ ap (with_front fs) (opened k i last left from lt ∙ ap (λ (r : Result (((K × NodeTree) × ℕ) × Place) TextFault). r >>= after_one (k - (i + 1))) first.0), first.1)

  pub branches_end : (fs : List (K × NodeTree)) (k i : ℕ) (last : Option K) (left : ℕ) (from : Place) (all : Result ((List (K × NodeTree) × ℕ) × Place) TextFault) →
      k ≤ i → with_front fs (branches_by node form (k - i) last left from) ≡ all → all ≡ Ok ((fs, left), from)
  branches_end fs k i last left from all past so =
      let none : k - i ≡ 0 = omega arith in
      sym so ∙ ap (λ (n : ℕ). with_front fs (branches_by node form n last left from)) none ∙ ap (λ (t : List (K × NodeTree)). Ok ((t, left), from)) (append-nil fs)

pub ruleset branches = (branch_refused, branches_end)
