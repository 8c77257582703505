-- The strategies that can be written are those that fit the description.
use Rattle.std.proofs.Common.{◌≡◌, ℕ, zero, suc, ◌+◌, ◌<◌, ◌≤◌, Bool, true, false, cond, leb, ltb, List, [], ◌∷◌, map, length, inl, inr, Option, Some, None, refl, ap, subst, ◌∙◌, arith}
use Rattle.std.specs.Prelude.{◌&&◌, is_some, slice_get, unwrap_or}
use Rattle.std.specs.List.{All}
use Rattle.std.proofs.lemmas.Bool.{and_parts, and_from, le-leb, leb-true, lt-ltb, ltb-true}
use Rattle.std.proofs.lemmas.List.Elements.{All-nil, All-cons, All-head, All-tail}
use Rattle.krieg_strategyfile.proofs.Common.{waits, same_hand, Pos, IsValid, Side, Move, TextKind, Differs, OutOfPlace, Large, Dialect, In, Key, RootKey, key_lt, root_lt, follows, IsToldKey, IsToldRoot, AreAlike, is_root_of, is_ascending, Node, IsBelow, HasOrder, HaveOrder, MOST_NODES, MOST_EDGES, EachFits, Fits, StrategyState, edges_format, node_format, nodes_format, list_format, roots_format, strategy_format, none_yet, SpellsStrategy, where_not, listed, Counts, with_node, LeadsToSome, leads_below, edged, rooted, IsLed, IsToldNode, edges_in, CanBeWritten}
use Rattle.krieg_format.proofs.Fitting.{OwesFit, said_fits}
use Rattle.krieg_strategyfile.proofs.Chains.{chain_to, chain_from}

-- ---- tests

passes : (k : TextKind) (good : Bool) → good ≡ true → where_not k good ≡ None
passes k good e = ap (where_not k) e

passed : (k : TextKind) (good : Bool) → where_not k good ≡ None → good ≡ true
passed k true e = refl
passed k false e = absurd cc

-- ---- what holds of all of a list

pub all_in : {A : Type 0} (P : A → Type 0) (xs : List A) → All P xs → (x : A) → In x xs → P x
all_in P [] all x at = absurd at
all_in P (y ∷ ys) all x (inl same) = subst P same (All-head P y ys all)
all_in P (y ∷ ys) all x (inr at) = all_in P ys (All-tail P y ys all) x at

pub in_all : {A : Type 0} (P : A → Type 0) (xs : List A) → ((x : A) → In x xs → P x) → All P xs
in_all P [] each = All-nil P
in_all P (x ∷ xs) each = All-cons P x xs (each x (inl refl)) (in_all P xs (λ y at. each y (inr at)))

-- ---- listed positions

rest_fits : (who : Side) (f : Pos) (ps : List Pos) → All IsValid ps → All (λ q. same_hand f q who ≡ true) ps →
    EachFits (length ps) (λ first p. IsValid p × (listed who first p ≡ None)) (λ first p. Some (unwrap_or first p)) (Some f) ps
rest_fits who f [] valid alike = tt
rest_fits who f (p ∷ ps) valid alike = (
  (All-head IsValid p ps valid, passes Differs (same_hand f p who) (All-head (λ q. same_hand f q who ≡ true) p ps alike)),
  rest_fits who f ps (All-tail IsValid p ps valid) (All-tail (λ q. same_hand f q who ≡ true) p ps alike),
)

list_fits : (who : Side) (ps : List Pos) → All IsValid ps → AreAlike who ps → Fits (list_format who (length ps)) ps
list_fits who [] valid alike = tt
list_fits who (p ∷ ps) valid alike = ((All-head IsValid p ps valid, refl), rest_fits who p ps (All-tail IsValid p ps valid) alike)

rest_from : (who : Side) (f : Pos) (n : ℕ) (ps : List Pos) → EachFits n (λ first p. IsValid p × (listed who first p ≡ None)) (λ first p. Some (unwrap_or first p)) (Some f) ps →
    All IsValid ps × All (λ q. same_hand f q who ≡ true) ps
rest_from who f zero [] h = (All-nil IsValid, All-nil (λ q. same_hand f q who ≡ true))
rest_from who f zero (p ∷ ps) h = absurd h
rest_from who f (suc n) [] h = absurd h
rest_from who f (suc n) (p ∷ ps) h =
    let r = rest_from who f n ps h.1 in
    (All-cons IsValid p ps h.0.0 r.0, All-cons (λ q. same_hand f q who ≡ true) p ps (passed Differs (same_hand f p who) h.0.1) r.1)

list_from : (who : Side) (n : ℕ) (ps : List Pos) → Fits (list_format who n) ps → All IsValid ps × AreAlike who ps
list_from who zero [] h = (All-nil IsValid, tt)
list_from who zero (p ∷ ps) h = absurd h
list_from who (suc n) [] h = absurd h
list_from who (suc n) (p ∷ ps) h = let r = rest_from who p n ps h.1 in (All-cons IsValid p ps h.0.0 r.0, r.1)

-- ---- edges

module _ (d : Dialect) (own : ℕ) where
  abbrev IsEdge : Key × ℕ → Type 0
  IsEdge e = IsToldKey d e.0 × (e.1 < own)

  abbrev IsPlaced : Option Key → Key × ℕ → Type 0
  IsPlaced last e = IsLed (IsToldKey d) e × (edged own last e ≡ None)

  edges_fit : (es : List (Key × ℕ)) → own ≤ MOST_NODES → All IsEdge es → is_ascending key_lt (map (λ (e : Key × ℕ). e.0) es) ≡ true → Fits (edges_format d own (length es)) es
  edges_fit es few all up =
      chain_to key_lt (λ (e : Key × ℕ). e.0) IsEdge IsPlaced
      (λ last e p f. (
        (p.0, omega (arith, few, p.1)),
        passes OutOfPlace (ltb e.1 own && follows key_lt last e.0) (and_from (ltb e.1 own) (follows key_lt last e.0) (lt-ltb e.1 own p.1) f),
      )) None es all up

  pub edges_from : (n : ℕ) (es : List (Key × ℕ)) → Fits (edges_format d own n) es → All IsEdge es × (is_ascending key_lt (map (λ (e : Key × ℕ). e.0) es) ≡ true)
  edges_from n es h =
      chain_from key_lt (λ (e : Key × ℕ). e.0) IsEdge IsPlaced
      (λ last e q.
      let p = and_parts (ltb e.1 own) (follows key_lt last e.0) (passed OutOfPlace (ltb e.1 own && follows key_lt last e.0) q.1) in
      ((q.0.0, ltb-true e.1 own p.0), p.1)) n None es h

-- ---- nodes

some_below : (own : ℕ) (o : Option ℕ) → own ≤ MOST_NODES → ((i : ℕ) → o ≡ Some i → i < own) → LeadsToSome o × (leads_below own o ≡ true)
some_below own None few below = (tt, refl)
some_below own (Some i) few below = let lt = below i refl in (omega (arith, few, lt), lt-ltb i own lt)

below_some : (own : ℕ) (o : Option ℕ) → leads_below own o ≡ true → (i : ℕ) → o ≡ Some i → i < own
below_some own None b i is = absurd cc
below_some own (Some j) b i is = let same : j ≡ i = cc in subst (λ k. k < own) same (ltb-true j own b)

plays : (leads few : Bool) → leads ≡ true → few ≡ true → cond leads (where_not Large few) (Some OutOfPlace) ≡ None
plays leads few l f = ap (λ (t : Bool). cond t (where_not Large few) (Some OutOfPlace)) l ∙ passes Large few f

played_both : (leads few : Bool) → cond leads (where_not Large few) (Some OutOfPlace) ≡ None → (leads ≡ true) × (few ≡ true)
played_both true few e = (refl, passed Large few e)
played_both false few e = absurd cc

module _ (d : Dialect) where
  node_fits : (s : Counts) (n : Node Move Key) → IsToldNode d n → IsBelow s.nodes n → HasOrder n → s.nodes ≤ MOST_NODES → s.edges + length n.edges ≤ MOST_EDGES → Fits (node_format d s) n
  node_fits s n told below order few edges =
      let no_part = some_below s.nodes n.no few below.no_part in
      let low = in_all (λ (e : Key × ℕ). e.1 < s.nodes) n.edges below.edges_part in (
        (
          (told.on_board, no_part.0, omega (arith, edges)),
          plays (leads_below s.nodes n.no) (leb (s.edges + length n.edges) MOST_EDGES) no_part.1 (le-leb (s.edges + length n.edges) MOST_EDGES edges),
        ),
        edges_fit d s.nodes n.edges few (λ k e h. (told.told k e h, low k e h)) order,
      )

  -- what a node that fits is
  pub record IsNode (s : Counts) (n : Node Move Key) : Type 0 where
    pub told : IsToldNode d n
    pub below : IsBelow s.nodes n
    pub order : HasOrder n
    pub edges : s.edges + length n.edges ≤ MOST_EDGES

  pub node_from : (s : Counts) (n : Node Move Key) → Fits (node_format d s) n → IsNode s n
  node_from s n h =
      let both = played_both (leads_below s.nodes n.no) (leb (s.edges + length n.edges) MOST_EDGES) h.0.1 in
      let es = edges_from d s.nodes (length n.edges) n.edges h.1 in
      record {
        told = record { on_board = h.0.0.0; told = λ k e at. (es.0 k e at).0 };
        below = record {
          no_part = below_some s.nodes n.no both.0;
          edges_part = all_in (λ (e : Key × ℕ). e.1 < s.nodes) n.edges (λ k e at. (es.0 k e at).1);
        };
        order = es.1;
        edges = leb-true (s.edges + length n.edges) MOST_EDGES both.1;
      }

  -- nodes behind so many
  pub record AreNodes (s : Counts) (ns : List (Node Move Key)) : Type 0 where
    pub told : All (IsToldNode d) ns
    pub below : (i : ℕ) (n : Node Move Key) → slice_get ns i ≡ Some n → IsBelow (s.nodes + i) n
    pub order : HaveOrder ns
    pub edges : s.edges + edges_in ns ≤ MOST_EDGES

  nodes_fit : (s : Counts) (ns : List (Node Move Key)) → AreNodes s ns → s.nodes + length ns ≤ MOST_NODES → Fits (nodes_format d (length ns) s) ns
  nodes_fit s [] are few = tt
  nodes_fit s (n ∷ ns) are few =
      let here : s.nodes + 0 ≡ s.nodes = omega arith in
      let sum = are.edges in (
        node_fits s n (All-head (IsToldNode d) n ns are.told) (subst (λ k. IsBelow k n) here (are.below 0 n refl)) (are.order 0 n refl) (omega (arith, few)) (omega (arith, sum)),
        nodes_fit (with_node s n) ns
            (record {
              told = All-tail (IsToldNode d) n ns are.told;
              below = λ i m e. let next : s.nodes + suc i ≡ s.nodes + 1 + i = omega arith in subst (λ k. IsBelow k m) next (are.below (suc i) m e);
              order = λ i m e. are.order (suc i) m e;
              edges = omega (arith, sum);
            }) (omega (arith, few)),
      )

  pub nodes_from : (n : ℕ) (s : Counts) (ns : List (Node Move Key)) → s.edges ≤ MOST_EDGES → Fits (nodes_format d n s) ns → AreNodes s ns
  nodes_from zero s [] few h = record { told = All-nil (IsToldNode d); below = λ i m e. absurd cc; order = λ i m e. absurd cc; edges = omega (arith, few) }
  nodes_from zero s (n ∷ ns) few h = absurd h
  nodes_from (suc k) s [] few h = absurd h
  nodes_from (suc k) s (n ∷ ns) few h =
      let here = node_from s n h.0 in
      let rest = nodes_from k (with_node s n) ns here.edges h.1 in
      let sum = rest.edges in
      record {
        told = All-cons (IsToldNode d) n ns here.told rest.told;
        below = below here rest;
        order = order here rest;
        edges = omega (arith, sum);
      }
    where
      below : IsNode s n → AreNodes (with_node s n) ns → (i : ℕ) (m : Node Move Key) → slice_get (n ∷ ns) i ≡ Some m → IsBelow (s.nodes + i) m
      below here rest zero m e =
          let same : n ≡ m = cc in
          let first : s.nodes ≡ s.nodes + 0 = omega arith in
          subst (λ k. IsBelow k m) first (subst (IsBelow s.nodes) same here.below)
      below here rest (suc i) m e = let next : s.nodes + 1 + i ≡ s.nodes + suc i = omega arith in subst (λ k. IsBelow k m) next (rest.below i m e)

      order : IsNode s n → AreNodes (with_node s n) ns → HaveOrder (n ∷ ns)
      order here rest zero m e = let same : n ≡ m = cc in subst HasOrder same here.order
      order here rest (suc i) m e = rest.order i m e

-- ---- roots

heard_to : (waiting : Bool) (key : RootKey) → is_some key.1 ≡ waiting → is_root_of waiting key ≡ true
heard_to waiting key is = subst (λ w. is_root_of w key ≡ true) is (of key)
  where
    of : (k : RootKey) → is_root_of (is_some k.1) k ≡ true
    of (opens, None) = refl
    of (opens, Some heard) = refl

heard_from : (waiting : Bool) (key : RootKey) → is_root_of waiting key ≡ true → is_some key.1 ≡ waiting
heard_from true key h = h
heard_from false (opens, None) h = refl
heard_from false (opens, Some heard) h = absurd cc

module _ (d : Dialect) (waiting : Bool) (nodes : ℕ) where
  -- a root that can be written
  pub record IsRoot (r : RootKey × ℕ) : Type 0 where
    pub told : IsToldRoot d r.0
    pub heard : is_some r.0.1 ≡ waiting
    pub below : r.1 < nodes

  abbrev IsRooted : Option RootKey → RootKey × ℕ → Type 0
  IsRooted last r = IsLed (IsToldRoot d) r × (rooted waiting nodes last r ≡ None)

  roots_fit : (rs : List (RootKey × ℕ)) → nodes ≤ MOST_NODES → All IsRoot rs → is_ascending root_lt (map (λ (r : RootKey × ℕ). r.0) rs) ≡ true → Fits (roots_format d waiting nodes (length rs)) rs
  roots_fit rs few all up =
      chain_to root_lt (λ (r : RootKey × ℕ). r.0) IsRoot IsRooted
      (λ last r p f.
      let low = p.below in (
        (p.told, omega (arith, few, low)),
        passes OutOfPlace (ltb r.1 nodes && (is_root_of waiting r.0 && follows root_lt last r.0))
            (and_from (ltb r.1 nodes) (is_root_of waiting r.0 && follows root_lt last r.0) (lt-ltb r.1 nodes low) (and_from (is_root_of waiting r.0) (follows root_lt last r.0) (heard_to waiting r.0 p.heard) f)),
      )) None rs all up

  pub roots_from : (n : ℕ) (rs : List (RootKey × ℕ)) → Fits (roots_format d waiting nodes n) rs → All IsRoot rs × (is_ascending root_lt (map (λ (r : RootKey × ℕ). r.0) rs) ≡ true)
  roots_from n rs h =
      chain_from root_lt (λ (r : RootKey × ℕ). r.0) IsRoot IsRooted
      (λ last r q.
      let p = and_parts (ltb r.1 nodes) (is_root_of waiting r.0 && follows root_lt last r.0) (passed OutOfPlace (ltb r.1 nodes && (is_root_of waiting r.0 && follows root_lt last r.0)) q.1) in
      let o = and_parts (is_root_of waiting r.0) (follows root_lt last r.0) p.1 in
      (record { told = q.0.0; heard = heard_from waiting r.0 o.0; below = ltb-true r.1 nodes p.0 }, o.1)) n None rs h

-- ---- the file

pub fits_from : (s : StrategyState) → CanBeWritten s → Fits strategy_format s
fits_from s w =
    let d = s.dialect in
    let form = w.well_formed in
    let waiting = waits s.side s.list in
    let few = form.few_nodes in
    let edges = w.few_edges in
    let low = in_all (λ (r : RootKey × ℕ). r.1 < length s.nodes) s.roots form.roots_below in
    let roots : All (IsRoot d waiting (length s.nodes)) s.roots = λ k r e. record { told = w.roots_told k r e; heard = w.roots k r e; below = low k r e } in
    let nodes : AreNodes d none_yet s.nodes = record {
      told = w.told;
      below = λ i n e. let first : i ≡ 0 + i = omega arith in subst (λ k. IsBelow k n) first (form.below i n e);
      order = form.have_order;
      edges = omega (arith, edges);
    } in (
      (omega arith, omega arith),
      (
        tt,
        (
          tt,
          (
            (w.some_listed, w.few_listed),
            (
              list_fits s.side s.list w.valid w.alike,
              (
                (form.some_worst, form.most_worst),
                (
                  (form.some_nodes, few),
                  (nodes_fit d none_yet s.nodes nodes (omega (arith, few)), ((w.some_roots, w.few_roots), (roots_fit d waiting (length s.nodes) s.roots few roots form.roots_ascend, tt))),
                ),
              ),
            ),
          ),
        ),
      ),
    )

can_be_written : (s : StrategyState) → Fits strategy_format s → CanBeWritten s
can_be_written s h =
    let d = s.dialect in
    let listed = h.1.1.1 in
    let list = list_from s.side (length s.list) s.list listed.1.0 in
    let worst = listed.1.1 in
    let counted = worst.1 in
    let nodes = nodes_from d (length s.nodes) none_yet s.nodes (omega arith) counted.1.0 in
    let sum = nodes.edges in
    let rooted = counted.1.1 in
    let roots = roots_from d (waits s.side s.list) (length s.nodes) (length s.roots) s.roots rooted.1.0 in
    let low = all_in (λ (r : RootKey × ℕ). r.1 < length s.nodes) s.roots (λ k r e. (roots.0 k r e).below) in
    record {
      some_listed = listed.0.0;
      few_listed = listed.0.1;
      valid = list.0;
      alike = list.1;
      well_formed = record {
        some_nodes = counted.0.0;
        few_nodes = counted.0.1;
        below = λ i n e. let first : 0 + i ≡ i = omega arith in subst (λ k. IsBelow k n) first (nodes.below i n e);
        have_order = nodes.order;
        roots_below = low;
        roots_ascend = roots.1;
        some_worst = worst.0.0;
        most_worst = worst.0.1;
      };
      few_edges = omega (arith, sum);
      told = nodes.told;
      some_roots = rooted.0.0;
      few_roots = rooted.0.1;
      roots_told = λ k r e. (roots.0 k r e).told;
      roots = λ k r e. (roots.0 k r e).heard;
    }

-- ---- what is spelled can be written

-- lines say what may be written
pub node_says : (d : Dialect) (s : Counts) → OwesFit (node_format d s)
node_says d s = (λ p ls e. (e.says.0.1, e.says.1), λ p last l x e. (e.0.1, e.1))

says : OwesFit strategy_format
says = (
  λ l n e. (e.0, e.1),
  λ v. (
    λ d ls e. tt,
    λ d. (
      λ l who e. tt,
      λ who. (
        λ k ls e. (e.says.0, e.says.1),
        λ k. (
          λ first l p e. (e.0.is_valid, e.1),
          λ list. (
            λ l n e. (e.0, e.1),
            λ w. (λ n ls e. (e.says.0, e.says.1), λ n. (λ s. node_says d s, λ nodes. (λ r ls e. (e.says.0, e.says.1), λ r. (λ last l x e. (e.0.1, e.1), λ roots l u e. tt)))),
          ),
        ),
      ),
    ),
  ),
)

pub spelled_can : (s : StrategyState) (ls : List (List ℕ)) → SpellsStrategy s ls → CanBeWritten s
unfolding SpellsStrategy
spelled_can s ls e = can_be_written s (said_fits strategy_format says s ls e)
