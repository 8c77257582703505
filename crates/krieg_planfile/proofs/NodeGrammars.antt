-- The readers of branches and nodes go by their grammars: a text may be gone on with up to a line that is refused later.
use Rattle.std.proofs.Common.{◌≡◌, inl, inr, ℕ, zero, suc, ◌+◌, ◌-◌, ◌≤◌, Bool, true, false, cond, List, [], ◌∷◌, ◌++◌, map, length, Option, Some, None, Result, Ok, Err, refl, sym, ap, subst, ◌∙◌, arith}
use Rattle.std.specs.Prelude.{◌⊎◌, ◌==◌}
use Rattle.std.proofs.lemmas.List.{map-append}
use Rattle.krieg_planfile.proofs.Common.{Move, TextFault, At, TextKind, Large, Deep, is_beyond_form, IsGoodTo, Always, Language, One, ◌⨾◌, ◌>>=◌, Place, place, LineReader, on, taken, Pieces, joined, Try, Maybe, Just, Edges, NoEdges, Dialect, Key, key_lt, as_edges, NodeTree, MOST_NODES, Play, play_form, on_form, NodeReader, other_by, branch_by, branches_by, below_by, deep_form, node_at, edge_count, is_just, play_line, on_line, node_lines, other_lines, edges_lines, branches_lines, IsToldKey, IsTold, IsToldOther, AreToldBranches, HasFewEdges, HasFewOther, HaveFewBranches, NodeGrammar, BranchesGrammar}
use Rattle.krieg_board.specs.declared.men.Promo.TheVariants.{Plain}
use Rattle.krieg_text.specs.Languages.{Nothing, Any}
use Rattle.krieg_text.proofs.Goings.{Gone, GoesBy, goes_by, line_missing, line_goes, bind_goes, same_goes, then_goes, made_goes}
use Rattle.krieg_text.proofs.Grammars.{Judged, untold, pure_keeps, IsJudgedForm}
use Rattle.krieg_text.proofs.Locality.{local_taken}
use Rattle.krieg_text.proofs.Takings.{taken_at}
use Rattle.krieg_theory.specs.Tree as tree
use Rattle.krieg_planfile.proofs.BranchForms.{IsBranchForm, edges_form, some_said, some_told}
use Rattle.krieg_planfile.proofs.Edges.{edges_of, edges_back, lines_of_edges, told_edges, told_back, few_edges, few_back, count_of_edges}
use Rattle.krieg_planfile.proofs.PlayForms.{SaysPlay, any_play, play_spells}

-- ---- branches

branch_judged : {K : Type 0} (lt : K → K → Bool) (line : K → Pieces) (Told Fit : K → Type 0) (form : Option K → List ℕ → Result K TextKind) → IsBranchForm lt line Told Fit form → (last : Option K) →
    IsJudgedForm (form last) Always untold (λ u l. (key : K) × Told key × (l ≡ joined (line key)))
branch_judged {K = K} lt line Told Fit form is last = record {
  holds = λ l x e. tt;
  said = λ l x e. let f = is.found last l x e in (x, f.1, f.0);
  judged = λ l b f. subst (λ t. ((x : K) × (untold x ≡ b) × (form last t ≡ Ok x)) ⊎ ((kind : TextKind) × (is_beyond_form kind ≡ true) × (form last t ≡ Err kind))) (sym f.2) (go b f.0 (is.judged last f.0 f.1));
}
  where
    go : (b : Unit {0}) (key : K) → ((x : K) × (form last (joined (line key)) ≡ Ok x)) ⊎ ((kind : TextKind) × (is_beyond_form kind ≡ true) × (form last (joined (line key)) ≡ Err kind)) →
        ((x : K) × (untold x ≡ b) × (form last (joined (line key)) ≡ Ok x)) ⊎ ((kind : TextKind) × (is_beyond_form kind ≡ true) × (form last (joined (line key)) ≡ Err kind))
    go b key (inl h) = inl (h.0, refl, h.1)
    go b key (inr h) = inr h

module _ {K : Type 0} (lt : K → K → Bool) (line : K → Pieces) (Told Fit : K → Type 0) (form : Option K → List ℕ → Result K TextKind) (is : IsBranchForm lt line Told Fit form) (some : (key : K) × Told key)
    (d : Dialect) (node : NodeReader) (goes : (left : ℕ) → GoesBy (node left) Always untold (λ u. NodeGrammar d)) where
  branch_goes : (last : Option K) (left : ℕ) → GoesBy (branch_by node form last left) Always untold (λ u. One (λ l. (key : K) × Told key × (l ≡ joined (line key))) ⨾ NodeGrammar d)
  branch_goes last left =
      then_goes (taken (form last)) (λ key p. node left p >>= λ n. Ok (((key, n.0.0), n.0.1), n.1)) Always (One (λ l. (key : K) × Told key × (l ≡ joined (line key)))) Always untold (λ u. NodeGrammar d)
      (line_goes (form last) Always untold (λ u l. (key : K) × Told key × (l ≡ joined (line key))) (branch_judged lt line Told Fit form is last) (joined (line some.0)) tt (some.0, some.1, refl) (λ b l f. (f.0, tt, refl)))
      (λ key h. made_goes (node left) (λ n. ((key, n.0), n.1)) Always untold (λ u. NodeGrammar d) Always untold (λ x h. tt) (λ x. refl) (goes left))

  pub branches_go : (k : ℕ) (last : Option K) (left : ℕ) → GoesBy (branches_by node form k last left) Always untold (λ u. BranchesGrammar line Told d k)
  branches_go zero last left =
      same_goes (branches_by node form zero last left) Always untold (λ u ls. (untold u ≡ u) × Nothing ls) untold (λ u. BranchesGrammar line Told d zero)
      (λ x ls s. ([], refl, tt, tt, s.1)) (λ u ls s. (tt, (refl, no_line s.0 s.1 ls s.4), λ x e. e))
      (goes_by (branches_by node form zero last left) Always (λ ls. (tt ≡ tt) × Nothing ls) (pure_keeps ([], left) Always untold tt))
    where
      no_line : (bs : List (K × NodeTree)) → length bs ≡ 0 → (ls : List (List ℕ)) → ls ≡ map joined (branches_lines line d bs) → ls ≡ []
      no_line [] none ls e = e
      no_line (b ∷ bs) none ls e = absurd (omega (arith, none))
  branches_go (suc k) last left =
      same_goes (branches_by node form (suc k) last left) Always untold (λ u. (One (λ l. (key : K) × Told key × (l ≡ joined (line key))) ⨾ NodeGrammar d) ⨾ BranchesGrammar line Told d k) untold (λ u. BranchesGrammar line Told d (suc k))
      (λ x ls s. joined_branches ls s) (λ u ls s. (tt, parted ls s.0 s.1 s.2 s.3 s.4, λ x e. e))
      (then_goes (branch_by node form last left) (λ b p. branches_by node form k (Some b.0.0) b.1 p >>= λ rest. Ok ((b.0 ∷ rest.0.0, rest.0.1), rest.1)) Always (One (λ l. (key : K) × Told key × (l ≡ joined (line key))) ⨾ NodeGrammar d) Always untold (λ u. BranchesGrammar line Told d k)
      (branch_goes last left)
      (λ b h. made_goes (branches_by node form k (Some b.0.0) b.1) (λ rest. (b.0 ∷ rest.0, rest.1)) Always untold (λ u. BranchesGrammar line Told d k) Always untold (λ x h. tt) (λ x. refl) (branches_go k (Some b.0.0) b.1)))
    where
      joined_branches : (ls : List (List ℕ)) → ((One (λ l. (key : K) × Told key × (l ≡ joined (line key))) ⨾ NodeGrammar d) ⨾ BranchesGrammar line Told d k) ls → BranchesGrammar line Told d (suc k) ls
      joined_branches ls s =
          let l = s.first.first in
          let n = s.first.second in
          let b = s.second in (
            (l.says.0, n.0) ∷ b.0,
            ap suc b.1,
            (l.says.1, n.1, b.2),
            (n.2, b.3),
            s.is ∙ ap (λ (t : List (List ℕ)). t ++ s.back) (s.first.is ∙ ap (λ (t : List (List ℕ)). t ++ s.first.back) (l.is ∙ ap (λ (t : List ℕ). t ∷ []) l.says.2))
                ∙ ap (λ (t : List (List ℕ)). joined (line l.says.0) ∷ (t ++ s.back)) n.3
                ∙ ap (λ (t : List (List ℕ)). joined (line l.says.0) ∷ (map joined (node_lines d n.0) ++ t)) b.4
                ∙ ap (λ (t : List (List ℕ)). joined (line l.says.0) ∷ t) (sym (map-append joined (node_lines d n.0) (branches_lines line d b.0))),
          )

      parted : (ls : List (List ℕ)) (bs : List (K × NodeTree)) → length bs ≡ suc k → AreToldBranches Told d bs → HaveFewBranches bs → ls ≡ map joined (branches_lines line d bs) →
          ((One (λ l. (key : K) × Told key × (l ≡ joined (line key))) ⨾ NodeGrammar d) ⨾ BranchesGrammar line Told d k) ls
      parted ls [] count told few e = let none : 0 ≡ suc k = count in absurd (omega (arith, none))
      parted ls (b ∷ bs) count told few e =
          let more : suc (length bs) ≡ suc k = count in
          record {
            front = joined (line b.0) ∷ map joined (node_lines d b.1);
            back = map joined (branches_lines line d bs);
            is = e ∙ ap (λ (t : List (List ℕ)). joined (line b.0) ∷ t) (map-append joined (node_lines d b.1) (branches_lines line d bs));
            first = record { front = joined (line b.0) ∷ []; back = map joined (node_lines d b.1); is = refl; first = record { line = joined (line b.0); is = refl; says = (b.0, told.0, refl) }; second = (b.1, told.1, few.0, refl) };
            second = (bs, omega (arith, more), told.2, few.1, refl);
          }

-- ---- a node

-- the lines of the node for the illegal case, where there is one
abbrev OtherGrammar : Dialect → Bool → Language
OtherGrammar d b ls = (o : Maybe Move Key) × (is_just o ≡ b) × IsToldOther d o × HasFewOther o × (ls ≡ map joined (other_lines d o))

-- a line that every node may have
abbrev some_play : Play
some_play = record { mv = record { from = 0; to = 0; promo = Plain }; no = false; edges = 0 }

abbrev some_line : List ℕ
some_line = joined (play_line some_play.mv some_play.no some_play.edges)

says_some : SaysPlay some_line some_play
says_some = (refl, (omega arith, omega arith), omega arith)

abbrev some_key : Key
some_key = (some_said, some_said)

-- the line of a node, which tells of the node for the illegal case and of the number of edges
play_judged : (left : ℕ) → IsJudgedForm (play_form left) Always (λ play. play) (λ play l. SaysPlay l play)
play_judged left = record {
  holds = λ l x e. tt;
  said = λ l x e. (play_spells left l x e).0;
  judged = λ l b f. subst (λ (r : Result Play TextKind). ((x : Play) × (x ≡ b) × ((r >>= λ play. cond (left == 0) (Err Large) (Ok play)) ≡ Ok x)) ⊎ ((kind : TextKind) × (is_beyond_form kind ≡ true) × ((r >>= λ play. cond (left == 0) (Err Large) (Ok play)) ≡ Err kind))) (sym (any_play.only l b f)) (go b (left == 0));
}
  where
    go : (b : Play) (t : Bool) → ((x : Play) × (x ≡ b) × (◌≡◌ {A = Result Play TextKind} (cond t (Err Large) (Ok b)) (Ok x))) ⊎ ((kind : TextKind) × (is_beyond_form kind ≡ true) × (◌≡◌ {A = Result Play TextKind} (cond t (Err Large) (Ok b)) (Err kind)))
    go b true = inr (Large, refl, refl)
    go b false = inl (b, refl, refl)

module _ (d : Dialect) (node : NodeReader) (goes : (left : ℕ) → GoesBy (node left) Always untold (λ u. NodeGrammar d)) where
  other_goes : (b : Bool) (left : ℕ) → GoesBy (other_by node b left) Always untold (λ u. OtherGrammar d b)
  other_goes false left =
      same_goes (other_by node false left) Always untold (λ u ls. (untold u ≡ u) × Nothing ls) untold (λ u. OtherGrammar d false)
      (λ x ls s. (tree.Nothing, refl, tt, tt, s.1)) (λ u ls s. (tt, (refl, no_line s.0 s.1 ls s.4), λ x e. e))
      (goes_by (other_by node false left) Always (λ ls. (tt ≡ tt) × Nothing ls) (pure_keeps (tree.Nothing, left) Always untold tt))
    where
      no_line : (o : Maybe Move Key) → is_just o ≡ false → (ls : List (List ℕ)) → ls ≡ map joined (other_lines d o) → ls ≡ []
      no_line tree.Nothing none ls e = e
      no_line (Just n) none ls e = absurd cc
  other_goes true left =
      same_goes (other_by node true left) Always untold (λ u. NodeGrammar d) untold (λ u. OtherGrammar d true)
      (λ x ls s. (Just s.0, refl, s.1, s.2, s.3)) (λ u ls s. (tt, a_node s.0 s.1 s.2 s.3 ls s.4, λ x e. e))
      (made_goes (node left) (λ n. (Just n.0, n.1)) Always untold (λ u. NodeGrammar d) Always untold (λ x h. tt) (λ x. refl) (goes left))
    where
      a_node : (o : Maybe Move Key) → is_just o ≡ true → IsToldOther d o → HasFewOther o → (ls : List (List ℕ)) → ls ≡ map joined (other_lines d o) → NodeGrammar d ls
      a_node tree.Nothing some told few ls e = absurd cc
      a_node (Just n) some told few ls e = (n, told, few, e)

  below_goes : (play : Play) (left : ℕ) → GoesBy (below_by node d play left) Always untold (λ u. OtherGrammar d play.no ⨾ BranchesGrammar (on_line d) (IsToldKey d) d play.edges)
  below_goes play left =
      bind_goes_untold (other_by node play.no left) (λ o p. branches_by node (on_form d) play.edges None o.1 p >>= λ es. Ok ((Try play.mv o.0 (as_edges es.0.0), es.0.1), es.1))
      (OtherGrammar d play.no) (BranchesGrammar (on_line d) (IsToldKey d) d play.edges)
      (other_goes play.no left)
      (λ o. made_goes (branches_by node (on_form d) play.edges None o.1) (λ es. (Try play.mv o.0 (as_edges es.0), es.1)) Always untold (λ u. BranchesGrammar (on_line d) (IsToldKey d) d play.edges) Always untold (λ x h. tt) (λ x. refl)
      (branches_go key_lt (on_line d) (IsToldKey d) (λ key. Unit {0}) (on_form d) (edges_form d) (some_key, some_told d) d node goes play.edges None o.1))
    where
      bind_goes_untold : {A C : Type 0} (r : LineReader A) (f : A → LineReader C) (G H : Language) → GoesBy r Always untold (λ u. G) → ((x : A) → GoesBy (f x) Always untold (λ u. H)) → GoesBy (λ p. r p >>= λ x. f x.0 x.1) Always untold (λ u. G ⨾ H)
      bind_goes_untold r f G H kr kf = then_goes r f Always G Always untold (λ u. H) kr (λ x h. kf x)

  -- a node's line with all that is below it
  node_of : (ls : List (List ℕ)) (play : Play) → (One (λ l. SaysPlay l play) ⨾ (OtherGrammar d play.no ⨾ BranchesGrammar (on_line d) (IsToldKey d) d play.edges)) ls → NodeGrammar d ls
  node_of ls play s =
      let o = s.second.first in
      let b = s.second.second in
      let edges : edge_count (as_edges b.0) ≡ play.edges = count_of_edges b.0 ∙ b.1 in
      let line : s.first.line ≡ joined (play_line play.mv (is_just o.0) (edge_count (as_edges b.0))) =
      s.first.says.0 ∙ ap (λ (t : Bool). joined (play_line play.mv t play.edges)) (sym o.1) ∙ ap (λ (k : ℕ). joined (play_line play.mv (is_just o.0) k)) (sym edges) in (
        Try play.mv o.0 (as_edges b.0),
        (s.first.says.1, o.2, told_edges d b.0 b.2),
        (subst (λ k. k ≤ MOST_NODES) (sym edges) s.first.says.2, o.3, few_edges b.0 b.3),
        s.is ∙ ap (λ (t : List (List ℕ)). t ++ s.back) s.first.is
            ∙ ap (λ (t : List (List ℕ)). s.first.line ∷ t) (s.second.is ∙ ap (λ (t : List (List ℕ)). t ++ s.second.back) o.4 ∙ ap (λ (t : List (List ℕ)). map joined (other_lines d o.0) ++ t) (b.4 ∙ ap (map joined) (sym (lines_of_edges d b.0))) ∙ sym (map-append joined (other_lines d o.0) (edges_lines d (as_edges b.0))))
            ∙ ap (λ (t : List ℕ). t ∷ map joined (other_lines d o.0 ++ edges_lines d (as_edges b.0))) line,
      )

  -- and taken apart
  node_parts : (ls : List (List ℕ)) (n : NodeTree) → IsTold d n → HasFewEdges n → ls ≡ map joined (node_lines d n) →
      (play : Play) × (One (λ l. SaysPlay l play) ⨾ (OtherGrammar d play.no ⨾ BranchesGrammar (on_line d) (IsToldKey d) d play.edges)) ls
  node_parts ls (Try m o es) told few e =
      let bs = edges_of es in
      let count : length bs ≡ edge_count es = sym (count_of_edges bs) ∙ ap edge_count (edges_back es) in (
        record { mv = m; no = is_just o; edges = edge_count es },
        record {
          front = joined (play_line m (is_just o) (edge_count es)) ∷ [];
          back = map joined (other_lines d o) ++ map joined (edges_lines d es);
          is = e ∙ ap (λ (t : List (List ℕ)). joined (play_line m (is_just o) (edge_count es)) ∷ t) (map-append joined (other_lines d o) (edges_lines d es));
          first = record { line = joined (play_line m (is_just o) (edge_count es)); is = refl; says = (refl, told.0, few.0) };
          second = record {
            front = map joined (other_lines d o);
            back = map joined (edges_lines d es);
            is = refl;
            first = (o, refl, told.1, few.1, refl);
            second = (bs, count, told_back d es told.2, few_back es few.2, ap (λ (t : Edges Move Key). map joined (edges_lines d t)) (sym (edges_back es)) ∙ ap (map joined) (lines_of_edges d bs));
          };
        },
      )

-- where no node may stand on the path any more, each is refused at its line
deep_judged : (d : Dialect) (left : ℕ) (n : ℕ) (rest : List (List ℕ)) (l : List ℕ) (play : Play) → SaysPlay l play → (kind : TextKind) × (is_beyond_form kind ≡ true) × (taken (deep_form left) (place n (l ∷ rest)) ≡ Err (At n kind))
deep_judged d left n rest l play s = go (left == 0) refl
  where
    step : Result Play TextKind → Result ((NodeTree × ℕ) × Place) TextFault
    step r = ◌>>=◌ {B = (NodeTree × ℕ) × Place} (on n (◌>>=◌ {B = NodeTree × ℕ} (r >>= λ play. cond (left == 0) (Err Large) (Ok play)) (λ play. Err Deep))) (λ v. Ok (v, place (n + 1) rest))

    go : (t : Bool) → (left == 0) ≡ t → (kind : TextKind) × (is_beyond_form kind ≡ true) × (taken (deep_form left) (place n (l ∷ rest)) ≡ Err (At n kind))
    go true is = (Large, refl, ap step (any_play.only l play s) ∙ ap (λ (t : Bool). ◌>>=◌ {B = (NodeTree × ℕ) × Place} (on n (◌>>=◌ {B = NodeTree × ℕ} (cond t (Err Large) (Ok play)) (λ play. Err Deep))) (λ v. Ok (v, place (n + 1) rest))) is)
    go false is = (Deep, refl, ap step (any_play.only l play s) ∙ ap (λ (t : Bool). ◌>>=◌ {B = (NodeTree × ℕ) × Place} (on n (◌>>=◌ {B = NodeTree × ℕ} (cond t (Err Large) (Ok play)) (λ play. Err Deep))) (λ v. Ok (v, place (n + 1) rest))) is)

never : (r : Result Play TextKind) (x : NodeTree × ℕ) → ◌>>=◌ {B = NodeTree × ℕ} r (λ play. Err Deep) ≡ Ok x → ⊥
never (Ok play) x h = cc
never (Err kind) x h = cc

deep_goes : (d : Dialect) (left : ℕ) → GoesBy (taken (deep_form left)) Always untold (λ u. NodeGrammar d)
deep_goes d left = record {
  judges = record {
    local = local_taken (deep_form left);
    holds = λ n ls x q e. tt;
    said = λ n ls x q e. let t = taken_at (deep_form left) (place n ls) q x e in absurd (never (play_form left t.text) x t.is);
    judged = λ n used rest b s. judged n used rest b s.0 s.1 s.2 s.3;
  };
  goes = λ n ls e. subst (λ t. Gone {B = Unit {0}} (taken (deep_form left)) (λ u. NodeGrammar d) n t) (sym (line_missing (deep_form left) n ls e)) (begin n);
  begun = begin;
  real = λ b used s. ((Try some_play.mv tree.Nothing NoEdges, 0), tt, refl);
}
  where
    judged : (n : ℕ) (used rest : List (List ℕ)) (b : Unit {0}) (t : NodeTree) → IsTold d t → HasFewEdges t → used ≡ map joined (node_lines d t) → Judged (taken (deep_form left)) untold n used rest b
    judged n used rest b (Try m o es) told few e =
        let l : List ℕ = joined (play_line m (is_just o) (edge_count es)) in
        let h = deep_judged d left n (map joined (other_lines d o ++ edges_lines d es) ++ rest) l (record { mv = m; no = is_just o; edges = edge_count es }) (refl, told.0, few.0) in
        inr (record { line = n; kind = h.0; beyond = h.1; is = ap (λ (t : List (List ℕ)). taken (deep_form left) (place n (t ++ rest))) e ∙ h.2 })

    begin : (n : ℕ) → Gone {B = Unit {0}} (taken (deep_form left)) (λ u. NodeGrammar d) n []
    begin n =
        let h = deep_judged d left n [] some_line some_play says_some in
        record {
          more = some_line ∷ [];
          told = tt;
          whole = (Try some_play.mv tree.Nothing NoEdges, (says_some.1, tt, tt), (says_some.2, tt, tt), refl);
          good = subst (IsGoodTo (n + 0)) (sym h.2) (omega arith, h.1);
        }

pub node_goes : (room : ℕ) (d : Dialect) (left : ℕ) → GoesBy (node_at room d left) Always untold (λ u. NodeGrammar d)
unfolding node_at
node_goes zero d left = deep_goes d left
node_goes (suc room) d left =
    same_goes (node_at (suc room) d left) Always untold (λ u. Any (λ play. One (λ l. SaysPlay l play) ⨾ (OtherGrammar d play.no ⨾ BranchesGrammar (on_line d) (IsToldKey d) d play.edges))) untold (λ u. NodeGrammar d)
    (λ x ls s. node_of d (node_at room d) (λ l. node_goes room d l) ls s.0 s.1) (λ u ls s. (tt, node_parts d (node_at room d) (λ l. node_goes room d l) ls s.0 s.1 s.2 s.3, λ x e. e))
    (bind_goes (taken (play_form left)) (λ play p. below_by (node_at room d) d play (left - 1) p) Always (λ play. play) (λ play. One (λ l. SaysPlay l play)) Always untold (λ play u. OtherGrammar d play.no ⨾ BranchesGrammar (on_line d) (IsToldKey d) d play.edges)
    (line_goes (play_form left) Always (λ play. play) (λ play l. SaysPlay l play) (play_judged left) some_line some_play says_some (λ b l f. (b, tt, refl)))
    (λ play h. below_goes d (node_at room d) (λ l. node_goes room d l) play (left - 1)))
