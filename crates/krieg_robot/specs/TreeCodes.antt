-- What no public clause cites: a code for trees, by which a proof tells them apart. A seat has its plan in what contracts see of it.
use Rattle.std.specs.Prelude.{◌≡◌}
use Rattle.std.proofs.Common.{ap, sym, subst}
use Rattle.std.specs.Coded.{Coded}
use base.Stored.{Gv, gnil, gnum, gcons}
use Rattle.krieg_theory.specs.Tree.{Tree, Try, Maybe, Nothing, Just, Edges, NoEdges, Edge}

-- the parts of a pair
abbrev front : Gv → Gv
front gnil = gnil
front (gnum n) = gnil
front (gcons a b) = a

-- and its second part
abbrev back : Gv → Gv
back gnil = gnil
back (gnum n) = gnil
back (gcons a b) = b

-- a pair, and nothing else
abbrev IsPair : Gv → Type 0
IsPair gnil = ⊥
IsPair (gnum n) = ⊥
IsPair (gcons a b) = Unit {0}

module _ {M K : Type 0} (m : Coded M) (k : Coded K) where
  abbrev mutual
    -- the code of a tree: those of its parts
    pub code_tree : Tree M K → Gv
    code_tree (Try t other es) = gcons (m.code t) (gcons (code_other other) (code_edges es))

    -- that of the tree for the illegal case
    pub code_other : Maybe M K → Gv
    code_other Nothing = gnil
    code_other (Just n) = gcons gnil (code_tree n)

    -- that of edges
    pub code_edges : Edges M K → Gv
    code_edges NoEdges = gnil
    code_edges (Edge key n es) = gcons (k.code key) (gcons (code_tree n) (code_edges es))

  mutual
    -- trees with one code are one
    pub one_tree : (a b : Tree M K) → code_tree a ≡ code_tree b → a ≡ b
    one_tree (Try t o es) (Try u p fs) e =
        let tries = m.inj t u (ap front e) in
        let others = one_other o p (ap (λ g. front (back g)) e) in
        let edges = one_edges es fs (ap (λ g. back (back g)) e) in
        λ i. Try (tries i) (others i) (edges i)

    one_other : (a b : Maybe M K) → code_other a ≡ code_other b → a ≡ b
    one_other Nothing Nothing e = λ i. Nothing
    one_other Nothing (Just b) e = absurd (subst IsPair (sym e) tt)
    one_other (Just a) Nothing e = absurd (subst IsPair e tt)
    one_other (Just a) (Just b) e = ap Just (one_tree a b (ap back e))

    one_edges : (a b : Edges M K) → code_edges a ≡ code_edges b → a ≡ b
    one_edges NoEdges NoEdges e = λ i. NoEdges
    one_edges NoEdges (Edge q b fs) e = absurd (subst IsPair (sym e) tt)
    one_edges (Edge q a es) NoEdges e = absurd (subst IsPair e tt)
    one_edges (Edge q a es) (Edge r b fs) e =
        let keys = k.inj q r (ap front e) in
        let trees = one_tree a b (ap (λ g. front (back g)) e) in
        let edges = one_edges es fs (ap (λ g. back (back g)) e) in
        λ i. Edge (keys i) (trees i) (edges i)

  -- so they have a code
  abbrev pub coded_tree : Coded (Tree M K)
  coded_tree = record { code = code_tree; inj = one_tree }
