-- What is read as branches or as a node is spelled so.
use Rattle.std.proofs.Common.{◌≡◌, ℕ, zero, suc, ◌+◌, ◌-◌, ◌≤◌, Bool, true, false, ◌&&◌, max, List, [], ◌∷◌, ◌++◌, map, length, Option, Some, None, Result, Ok, Err, refl, sym, ap, subst, ◌∙◌, arith, append_assoc}
use Rattle.std.proofs.lemmas.Bool.{and_from}
use Rattle.std.proofs.lemmas.List.{map-append}
use Rattle.krieg_planfile.proofs.Common.{Move, TextFault, TextKind, Deep, ◌>>=◌, Place, taken, GivesOn, Pieces, joined, Try, Maybe, Just, size, size_other, depth, depth_other, depth_edges, edge_keys, Dialect, Key, key_lt, as_edges, NodeTree, is_ascending, is_ordered, is_ordered_other, are_ordered, Play, play_form, on_form, follows, NodeReader, other_by, branch_by, branches_by, below_by, deep_form, node_at, edge_count, is_just, play_line, on_line, node_lines, other_lines, edges_lines, branches_lines, IsToldKey, IsTold, IsToldOther, AreToldBranches}
use Rattle.krieg_text.proofs.Locality.{ok_is}
use Rattle.krieg_text.proofs.Takings.{steps, taken_at}
use Rattle.krieg_theory.specs.Tree as tree
use Rattle.krieg_planfile.proofs.BranchForms.{IsBranchForm, edges_form}
use Rattle.krieg_planfile.proofs.Edges.{branches_size, branches_depth, are_ordered_branches, lines_of_edges, count_of_edges, told_edges, size_of_edges, depth_of_edges, ordered_edges, keys_of_edges}
use Rattle.krieg_planfile.proofs.PlayForms.{SaysPlay, play_spells}

-- the keys ascend after the last one, where there is one
abbrev pub chain : {K : Type 0} → (K → K → Bool) → Option K → List K → Bool
chain lt None keys = is_ascending lt keys
chain lt (Some last) keys = is_ascending lt (last ∷ keys)

chain_none : {K : Type 0} (lt : K → K → Bool) (last : Option K) → chain lt last [] ≡ true
chain_none lt None = refl
chain_none lt (Some key) = refl

chain_more : {K : Type 0} (lt : K → K → Bool) (last : Option K) (key : K) (keys : List K) → follows lt last key ≡ true → chain lt (Some key) keys ≡ true → chain lt last (key ∷ keys) ≡ true
chain_more lt None key keys f h = h
chain_more lt (Some last) key keys f h = and_from (lt last key) (is_ascending lt (key ∷ keys)) f h

max_le : (a b c : ℕ) → a ≤ c → b ≤ c → max a b ≤ c
max_le a b c h k = omega (arith, h, k)

-- the lines that were read, what they spell, and how many nodes may still come
pub record NodeRead (d : Dialect) (room left : ℕ) (ls : List (List ℕ)) (n : NodeTree) (more : ℕ) (q : Place) : Type 0 where
  pub is : ls ≡ map joined (node_lines d n) ++ q.left
  pub count : more + size n ≡ left
  pub deep : depth n ≤ room
  pub told : IsTold d n
  pub ordered : is_ordered n ≡ true

record OtherRead (d : Dialect) (b : Bool) (room left : ℕ) (ls : List (List ℕ)) (o : Maybe Move Key) (more : ℕ) (q : Place) : Type 0 where
  is : ls ≡ map joined (other_lines d o) ++ q.left
  there : is_just o ≡ b
  count : more + size_other o ≡ left
  deep : depth_other o ≤ room
  told : IsToldOther d o
  ordered : is_ordered_other o ≡ true

-- all keys fit
abbrev pub AllFit : {K : Type 0} → (K → Type 0) → List (K × NodeTree) → Type 0
AllFit Fit [] = Unit {0}
AllFit Fit (b ∷ bs) = Fit b.0 × AllFit Fit bs

pub record BranchesRead {K : Type 0} (lt : K → K → Bool) (line : K → Pieces) (Told Fit : K → Type 0) (d : Dialect) (k : ℕ) (last : Option K) (room left : ℕ) (ls : List (List ℕ)) (bs : List (K × NodeTree)) (more : ℕ) (q : Place) : Type 0 where
  pub is : ls ≡ map joined (branches_lines line d bs) ++ q.left
  pub number : length bs ≡ k
  pub count : more + branches_size bs ≡ left
  pub deep : branches_depth bs ≤ room
  pub told : AreToldBranches Told d bs
  pub fit : AllFit Fit bs
  pub ordered : are_ordered_branches bs ≡ true
  pub keys : chain lt last (map (λ b. b.0) bs) ≡ true

abbrev Spell : Dialect → ℕ → NodeReader → Type 0
Spell d room node = (left : ℕ) (p q : Place) (n : NodeTree) (more : ℕ) → node left p ≡ Ok ((n, more), q) → NodeRead d room left p.left n more q

module _ {K : Type 0} (lt : K → K → Bool) (line : K → Pieces) (Told Fit : K → Type 0) (form : Option K → List ℕ → Result K TextKind) (has : IsBranchForm lt line Told Fit form)
    (d : Dialect) (room : ℕ) (node : NodeReader) (spell : Spell d room node) where
  record BranchRead (last : Option K) (left : ℕ) (ls : List (List ℕ)) (b : K × NodeTree) (more : ℕ) (q : Place) : Type 0 where
    is : ls ≡ joined (line b.0) ∷ (map joined (node_lines d b.1) ++ q.left)
    told : Told b.0
    fit : Fit b.0
    follows : follows lt last b.0 ≡ true
    count : more + size b.1 ≡ left
    deep : depth b.1 ≤ room
    below : IsTold d b.1
    ordered : is_ordered b.1 ≡ true

  branch_spells : (last : Option K) (left : ℕ) (p q : Place) (b : K × NodeTree) (more : ℕ) → branch_by node form last left p ≡ Ok ((b, more), q) → BranchRead last left p.left b more q
  branch_spells last left p q b more e =
      let s = steps (taken (form last) p) (λ (key : K × Place). node left key.1 >>= λ n. Ok (((key.0, n.0.0), n.0.1), n.1)) ((b, more), q) e in
      let t = steps (node left s.mid.1) (λ (n : (NodeTree × ℕ) × Place). Ok (((s.mid.0, n.0.0), n.0.1), n.1)) ((b, more), q) s.second in
      let same = ok_is {A = ((K × NodeTree) × ℕ) × Place} (((s.mid.0, t.mid.0.0), t.mid.0.1), t.mid.1) ((b, more), q) t.second in
      let l = taken_at (form last) p s.mid.1 s.mid.0 s.first in
      let f = has.found last l.text s.mid.0 l.is in
      let n = spell left s.mid.1 t.mid.1 t.mid.0.0 t.mid.0.1 t.first in
      subst (λ (x : ((K × NodeTree) × ℕ) × Place). BranchRead last left p.left x.0.0 x.0.1 x.1) same
      (record {
        is = l.left ∙ ap (λ (x : List ℕ). x ∷ s.mid.1.left) f.0 ∙ ap (λ (x : List (List ℕ)). joined (line s.mid.0) ∷ x) n.is;
        told = f.1;
        fit = f.2;
        follows = f.3;
        count = n.count;
        deep = n.deep;
        below = n.told;
        ordered = n.ordered;
      })

  pub branches_spell : (k : ℕ) (last : Option K) (left : ℕ) (p q : Place) (bs : List (K × NodeTree)) (more : ℕ) → branches_by node form k last left p ≡ Ok ((bs, more), q) → BranchesRead lt line Told Fit d k last room left p.left bs more q
  branches_spell zero last left p q bs more e =
      let same = ok_is {A = (List (K × NodeTree) × ℕ) × Place} (([], left), p) ((bs, more), q) e in
      subst (λ (x : (List (K × NodeTree) × ℕ) × Place). BranchesRead lt line Told Fit d zero last room left p.left x.0.0 x.0.1 x.1) same
      (record { is = refl; number = refl; count = omega arith; deep = omega arith; told = tt; fit = tt; ordered = refl; keys = chain_none lt last })
  branches_spell (suc k) last left p q bs more e =
      let s = steps (branch_by node form last left p) (λ (b : ((K × NodeTree) × ℕ) × Place). branches_by node form k (Some b.0.0.0) b.0.1 b.1 >>= λ rest. Ok ((b.0.0 ∷ rest.0.0, rest.0.1), rest.1)) ((bs, more), q) e in
      let t = steps (branches_by node form k (Some s.mid.0.0.0) s.mid.0.1 s.mid.1) (λ (rest : (List (K × NodeTree) × ℕ) × Place). Ok ((s.mid.0.0 ∷ rest.0.0, rest.0.1), rest.1)) ((bs, more), q) s.second in
      let same = ok_is {A = (List (K × NodeTree) × ℕ) × Place} ((s.mid.0.0 ∷ t.mid.0.0, t.mid.0.1), t.mid.1) ((bs, more), q) t.second in
      let b = s.mid.0.0 in
      let one = branch_spells last left p s.mid.1 b s.mid.0.1 s.first in
      let r = branches_spell k (Some b.0) s.mid.0.1 s.mid.1 t.mid.1 t.mid.0.0 t.mid.0.1 t.first in
      subst (λ (x : (List (K × NodeTree) × ℕ) × Place). BranchesRead lt line Told Fit d (suc k) last room left p.left x.0.0 x.0.1 x.1) same
      (record {
        is = one.is
            ∙ ap (λ (x : List (List ℕ)). joined (line b.0) ∷ x)
            (ap (λ (x : List (List ℕ)). map joined (node_lines d b.1) ++ x) r.is
            ∙ sym (append_assoc (map joined (node_lines d b.1)) (map joined (branches_lines line d t.mid.0.0)) t.mid.1.left)
            ∙ ap (λ (x : List (List ℕ)). x ++ t.mid.1.left) (sym (map-append joined (node_lines d b.1) (branches_lines line d t.mid.0.0))));
        number = ap suc r.number;
        count = omega (arith, one.count, r.count);
        deep = max_le (depth b.1) (branches_depth t.mid.0.0) room one.deep r.deep;
        told = (one.told, one.below, r.told);
        fit = (one.fit, r.fit);
        ordered = and_from (is_ordered b.1) (are_ordered_branches t.mid.0.0) one.ordered r.ordered;
        keys = chain_more lt last b.0 (map (λ b. b.0) t.mid.0.0) one.follows r.keys;
      })

module _ (d : Dialect) (room : ℕ) (node : NodeReader) (spell : Spell d room node) where
  other_spells : (b : Bool) (left : ℕ) (p q : Place) (o : Maybe Move Key) (more : ℕ) → other_by node b left p ≡ Ok ((o, more), q) → OtherRead d b room left p.left o more q
  other_spells false left p q o more e =
      let same = ok_is {A = (Maybe Move Key × ℕ) × Place} ((tree.Nothing, left), p) ((o, more), q) e in
      subst (λ (x : (Maybe Move Key × ℕ) × Place). OtherRead d false room left p.left x.0.0 x.0.1 x.1) same
      (record { is = refl; there = refl; count = omega arith; deep = omega arith; told = tt; ordered = refl })
  other_spells true left p q o more e =
      let s = steps (node left p) (λ (n : (NodeTree × ℕ) × Place). Ok ((Just n.0.0, n.0.1), n.1)) ((o, more), q) e in
      let same = ok_is {A = (Maybe Move Key × ℕ) × Place} ((Just s.mid.0.0, s.mid.0.1), s.mid.1) ((o, more), q) s.second in
      let r = spell left p s.mid.1 s.mid.0.0 s.mid.0.1 s.first in
      subst (λ (x : (Maybe Move Key × ℕ) × Place). OtherRead d true room left p.left x.0.0 x.0.1 x.1) same
      (record { is = r.is; there = refl; count = r.count; deep = r.deep; told = r.told; ordered = r.ordered })

  below_spells : (play : Play) (left : ℕ) (p q : Place) (n : NodeTree) (more : ℕ) (line : List ℕ) → SaysPlay line play → below_by node d play left p ≡ Ok ((n, more), q) →
      NodeRead d (suc room) (suc left) (line ∷ p.left) n more q
  below_spells play left p q n more line says e =
      let s = steps (other_by node play.no left p) (λ (o : (Maybe Move Key × ℕ) × Place). branches_by node (on_form d) play.edges None o.0.1 o.1 >>= λ es. Ok ((Try play.mv o.0.0 (as_edges es.0.0), es.0.1), es.1)) ((n, more), q) e in
      let t = steps (branches_by node (on_form d) play.edges None s.mid.0.1 s.mid.1) (λ (es : (List (Key × NodeTree) × ℕ) × Place). Ok ((Try play.mv s.mid.0.0 (as_edges es.0.0), es.0.1), es.1)) ((n, more), q) s.second in
      let bs = t.mid.0.0 in
      let same = ok_is {A = (NodeTree × ℕ) × Place} ((Try play.mv s.mid.0.0 (as_edges bs), t.mid.0.1), t.mid.1) ((n, more), q) t.second in
      let o = other_spells play.no left p s.mid.1 s.mid.0.0 s.mid.0.1 s.first in
      let r = branches_spell key_lt (on_line d) (IsToldKey d) (λ key. Unit {0}) (on_form d) (edges_form d) d room node spell play.edges None s.mid.0.1 s.mid.1 t.mid.1 bs t.mid.0.1 t.first in
      let edges : edge_count (as_edges bs) ≡ play.edges = count_of_edges bs ∙ r.number in
      let own : line ≡ joined (play_line play.mv (is_just s.mid.0.0) (edge_count (as_edges bs))) =
      says.0 ∙ ap (λ (b : Bool). joined (play_line play.mv b play.edges)) (sym o.there) ∙ ap (λ (k : ℕ). joined (play_line play.mv (is_just s.mid.0.0) k)) (sym edges) in
      let deep : depth_edges (as_edges bs) ≤ room = subst (λ k. k ≤ room) (sym (depth_of_edges bs)) r.deep in
      let below : max (depth_other s.mid.0.0) (depth_edges (as_edges bs)) ≤ room = max_le (depth_other s.mid.0.0) (depth_edges (as_edges bs)) room o.deep deep in
      subst (λ (x : (NodeTree × ℕ) × Place). NodeRead d (suc room) (suc left) (line ∷ p.left) x.0.0 x.0.1 x.1) same
      (record {
        is = ap (λ (x : List ℕ). x ∷ p.left) own
            ∙ ap (λ (x : List (List ℕ)). joined (play_line play.mv (is_just s.mid.0.0) (edge_count (as_edges bs))) ∷ x)
            (o.is ∙ ap (λ (x : List (List ℕ)). map joined (other_lines d s.mid.0.0) ++ x) (r.is ∙ ap (λ (x : List Pieces). map joined x ++ t.mid.1.left) (sym (lines_of_edges d bs)))
            ∙ sym (append_assoc (map joined (other_lines d s.mid.0.0)) (map joined (edges_lines d (as_edges bs))) t.mid.1.left)
            ∙ ap (λ (x : List (List ℕ)). x ++ t.mid.1.left) (sym (map-append joined (other_lines d s.mid.0.0) (edges_lines d (as_edges bs)))));
        count = omega (arith, o.count, r.count, size_of_edges bs);
        deep = omega (arith, below);
        told = (says.1, o.told, told_edges d bs r.told);
        ordered = and_from (is_ascending key_lt (edge_keys (as_edges bs))) (is_ordered_other s.mid.0.0 && are_ordered (as_edges bs)) (ap (is_ascending key_lt) (keys_of_edges bs) ∙ r.keys)
            (and_from (is_ordered_other s.mid.0.0) (are_ordered (as_edges bs)) o.ordered (ordered_edges bs ∙ r.ordered));
      })

deep_never : (left : ℕ) (text : List ℕ) (x : NodeTree × ℕ) → deep_form left text ≡ Ok x → ⊥
deep_never left text x e = grind arith

-- it is refused, whatever a node is to the reader
pub deep_gives : {X : Type 0} (view : X → NodeTree × ℕ) (left : ℕ) (answer : Result X TextFault) (p q : Place) → GivesOn {X = X} (λ x. x) answer q (taken {A = X} (λ l. ◌>>=◌ {B = X} (play_form left l) (λ play. Err Deep)) p) →
    GivesOn view answer q (taken (deep_form left) p)
deep_gives view left answer p q given = grind arith

pub node_spells : (room : ℕ) (d : Dialect) (left : ℕ) (p q : Place) (n : NodeTree) (more : ℕ) → node_at room d left p ≡ Ok ((n, more), q) → NodeRead d room left p.left n more q
unfolding node_at
node_spells zero d left p q n more e = let line = taken_at (deep_form left) p q (n, more) e in absurd (deep_never left line.text (n, more) line.is)
node_spells (suc room) d left p q n more e =
    let s = steps (taken (play_form left) p) (λ (play : Play × Place). below_by (node_at room d) d play.0 (left - 1) play.1) ((n, more), q) e in
    let line = taken_at (play_form left) p s.mid.1 s.mid.0 s.first in
    let play = play_spells left line.text s.mid.0 line.is in
    let one : suc (left - 1) ≡ left = omega (arith, play.1) in
    let r = below_spells d room (node_at room d) (λ l p q n m h. node_spells room d l p q n m h) s.mid.0 (left - 1) s.mid.1 q n more line.text play.0 s.second in
    subst (λ (ls : List (List ℕ)). NodeRead d (suc room) left ls n more q) (sym line.left) (subst (λ (k : ℕ). NodeRead d (suc room) k (line.text ∷ s.mid.1.left) n more q) one r)
