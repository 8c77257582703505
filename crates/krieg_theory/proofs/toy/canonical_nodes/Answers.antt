use Rattle.std.proofs.Common.{◌≡◌, ℕ, List, [], ◌∷◌, true, refl, sym, subst, ◌∙◌}
use Rattle.krieg_theory.proofs.Common.{Just, Nothing, Try, NoEdges, Edge, can, IsCanon, canon, toy, Node, only, or_else, by_ear, lawful}
use Rattle.krieg_theory.proofs.Theorems.{canon_is_one, canon_is_computed}
use Rattle.krieg_theory.proofs.toy.canonical_nodes.Goals as goal

-- the node that is computed is canonical
there : (B : List ℕ) (j : ℕ) (n : Node) → can toy j B ≡ true → canon toy j B ≡ Just n → IsCanon toy n B
there B j n c e =
    let a = canon_is_computed toy lawful B j c in
    let q : Just a.0 ≡ Just n = sym a.1 ∙ e in
    let s : a.0 ≡ n = cc in
    subst (λ x. IsCanon toy x B) s a.2

mate : IsCanon toy (only 1) (8 ∷ [])
mate = there (8 ∷ []) 1 (only 1) refl refl

two : IsCanon toy by_ear (2 ∷ [])
two = there (2 ∷ []) 2 by_ear refl refl

only_one : (n m : Node) (B : List ℕ) → IsCanon toy n B → IsCanon toy m B → n ≡ m
only_one n m B a b = canon_is_one toy lawful n m B a b

pub returns-clause-by_ear : goal.returns-clause-by_ear
returns-clause-by_ear c = two

pub returns-clause-first : goal.returns-clause-first
returns-clause-first c = mate

pub returns-clause-not_the_second : goal.returns-clause-not_the_second
returns-clause-not_the_second c = λ x. (let e = only_one (only 2) (only 1) (8 ∷ []) x mate in absurd (cc))

pub returns-clause-no_useless_try : goal.returns-clause-no_useless_try
returns-clause-no_useless_try c = λ x. (let e = only_one (or_else 0 (only 1)) (only 1) (8 ∷ []) x mate in absurd (cc))

pub returns-clause-no_spare_node : goal.returns-clause-no_spare_node
returns-clause-no_spare_node c = λ x. (let e = only_one (or_else 1 (only 2)) (only 1) (8 ∷ []) x mate in absurd (cc))

pub returns-clause-no_spare_edge : goal.returns-clause-no_spare_edge
returns-clause-no_spare_edge c = λ x. (let e = only_one (Try 1 Nothing (Edge 0 (only 0) NoEdges)) (only 1) (8 ∷ []) x mate in absurd (cc))

pub returns-clause-in_order : goal.returns-clause-in_order
returns-clause-in_order c = λ x. (let e = only_one (Try 0 Nothing (Edge 1 (only 1) (Edge 0 (only 0) NoEdges))) by_ear (2 ∷ []) x two in absurd (cc))
