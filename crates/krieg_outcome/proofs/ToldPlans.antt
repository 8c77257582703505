-- The canonical plan of valid positions can be told: every move is one of the board, and all words are those of a game.
use Rattle.std.proofs.Common.{◌≡◌, Bool, true, false, not, List, [], ◌∷◌, map, is_some, refl, sym, ap, subst, inl, inr}
use Rattle.std.proofs.lemmas.Bool.{both_ways, not-true, not-false}
use Rattle.krieg_outcome.proofs.Common.{is_same_side, Pos, IsValid, Side, Move, IsOnBoard, after, is_legal, moves, all_moves, words, opening, told, Dialect, In, is_nil, Try, Maybe, Nothing, Just, Edges, NoEdges, Edge, refused, legal_in_some, keys, class, IsCanon, IsCanonOther, AreCanon, edge_keys, openings, opening_set, AreCanonRoots, IsCanonPlan, Key, RootKey, chess, outset, ComesAbout, ComesFirst, NodeTree, PlanTrees, IsToldIn, IsToldKey, IsToldOther, AreTold, IsToldRoot, AreToldRoots, AreRootsOf}
use Rattle.krieg_moves.proofs.KeepsValid.{valid_after}
use Rattle.krieg_moves.proofs.LegalMoves.{legal_squares}
use Rattle.krieg_words.proofs.SaidLaws.{opening_said, words_said}
use Rattle.krieg_words.proofs.ToldLaws.{told_fits, told_said}
use Rattle.krieg_planfile.specs.NodeText.{IsTold}
use Rattle.krieg_theory.proofs.Lists.{any_at, filter_in}
use Rattle.krieg_game.proofs.Splitting.{classes_come_about}
use Rattle.krieg_game.proofs.Starting.{openings_are_members, openings_come_first, openings_occur}

-- all of a set are valid
abbrev pub AreValid : List Pos → Type 0
AreValid B = (p : Pos) → In p B → IsValid p

listed_legal : (p : Pos) (m : Move) → In m (moves p) → is_legal p m ≡ true
unfolding moves
listed_legal p m at = (filter_in (is_legal p) all_moves m at).1

-- a list that is not empty has a member
pub some_member : {X : Type 0} (xs : List X) → is_nil xs ≡ false → (x : X) × In x xs
some_member [] h = absurd (both_ways true h refl)
some_member (x ∷ xs) h = (x, inl refl)

module _ (d : Dialect) where
  told_words : (p : Pos) (m : Move) → IsValid p → is_legal p m ≡ true → IsToldIn d (told d (words p m))
  told_words p m valid h = (told_said d (words p m) (words_said p m valid h), told_fits d (words p m))

  told_opening : (p : Pos) → IsValid p → IsToldIn d (told d (opening p))
  told_opening p valid = (told_said d (opening p) (opening_said p valid), told_fits d (opening p))

  -- what is heard where something is possible then can be told
  pub told_of_class : (B : List Pos) (t : Move) (key : Key) (q : Pos) → AreValid B → In q (class (chess d) B t key) → IsToldKey d key
  told_of_class B t (own, reply) q valid in_class =
      let c : ComesAbout d B t own reply q = ((classes_come_about d B t own reply).exact q).0 in_class in
      let here = valid c.from c.member in
      let next = valid_after c.from t here c.legal in (
        subst (IsToldIn d) (sym c.own_told) (told_words c.from t here c.legal),
        subst (IsToldIn d) (sym c.reply_told) (told_words (after c.from t) c.replied next (listed_legal (after c.from t) c.replied c.listed)),
      )

  -- what may be heard after a try can be told
  told_key : (B : List Pos) (t : Move) (key : Key) → AreValid B → In key (keys (chess d) B t) → IsToldKey d key
  told_key B t (own, reply) valid at =
      let (q, in_class) = some_member (class (chess d) B t (own, reply)) ((classes_come_about d B t own reply).occurs.0 at) in
      told_of_class B t (own, reply) q valid in_class

  -- and what is possible then is valid
  pub class_valid : (B : List Pos) (t : Move) (key : Key) → AreValid B → AreValid (class (chess d) B t key)
  class_valid B t (own, reply) valid q at =
      let c : ComesAbout d B t own reply q = ((classes_come_about d B t own reply).exact q).0 at in
      let next = valid_after c.from t (valid c.from c.member) c.legal in
      subst IsValid (sym c.to) (valid_after (after c.from t) c.replied next (listed_legal (after c.from t) c.replied c.listed))

  pub refused_valid : (B : List Pos) (t : Move) → AreValid B → AreValid (refused (chess d) B t)
  refused_valid B t valid p at = valid p (filter_in (λ p. not (is_legal p t)) B p at).0

  pub tried_on_board : (B : List Pos) (t : Move) → legal_in_some (chess d) B t ≡ true → IsOnBoard t
  tried_on_board B t h = let (p, at, is) = any_at (λ p. is_legal p t) B h in legal_squares p t is

  mutual
    told_node : (n : NodeTree) (B : List Pos) → AreValid B → IsCanon (chess d) n B → IsTold d n
    told_node (Try t other es) B valid c =
        let (j, least, won, first) = c.least in (
          tried_on_board B t first.legal,
          told_other other (refused (chess d) B t) (refused_valid B t valid) c.refused_part,
          told_edges es B t valid (λ key at. subst (In key) c.same_keys at) c.parts,
        )

    told_other : (other : Maybe Move Key) (R : List Pos) → AreValid R → IsCanonOther (chess d) other R → IsToldOther d other
    told_other Nothing R valid c = tt
    told_other (Just n) R valid c = told_node n R valid c.1

    told_edges : (es : Edges Move Key) (B : List Pos) (t : Move) → AreValid B → ((key : Key) → In key (edge_keys es) → In key (keys (chess d) B t)) → AreCanon (chess d) es B t → AreTold d es
    told_edges NoEdges B t valid inside c = tt
    told_edges (Edge key n es) B t valid inside c = (
      told_key B t key valid (inside key (inl refl)),
      told_node n (class (chess d) B t key) (class_valid B t key valid) c.0,
      told_edges es B t valid (λ k at. inside k (inr at)) c.1,
    )

  module _ (who : Side) (S : List Pos) (valid : AreValid S) where
    abbrev pub set_of : RootKey → List Pos
    set_of key = opening_set (chess d) (outset d who) S key

    -- an opening that can be told, with words of the opponent's move where he waits for none, and of valid positions
    record IsOpening (waiting : Bool) (key : RootKey) : Type 0 where
      told : IsToldRoot d key
      form : is_some key.1 ≡ waiting
      inside : AreValid (set_of key)

    own_opening : ((p : Pos) → In p S → is_same_side p.side who ≡ true) → (key : RootKey) → In key (openings (chess d) (outset d who) S) → IsOpening false key
    own_opening own (opens, heard) at =
        let (q, in_set) = some_member (set_of (opens, heard)) ((openings_occur d who S (opens, heard)).occurs.0 at) in
        let m = (openings_are_members d who S own opens heard q).0 in_set in
        record {
          told = subst (λ h. IsToldRoot d (opens, h)) (sym m.2) (subst (IsToldIn d) (sym m.1) (told_opening q (valid q m.0)));
          form = ap is_some m.2;
          inside = λ p at. valid p ((openings_are_members d who S own opens heard p).0 at).0;
        }

    pub opening_valid : ((p : Pos) → In p S → is_same_side p.side who ≡ true) → (key : RootKey) → In key (openings (chess d) (outset d who) S) → AreValid (set_of key)
    opening_valid own key at = (own_opening own key at).inside

    others_opening : ((p : Pos) → In p S → is_same_side p.side who ≡ false) → (key : RootKey) → In key (openings (chess d) (outset d who) S) → IsOpening true key
    others_opening other (opens, heard) at =
        let (q, in_set) = some_member (set_of (opens, heard)) ((openings_occur d who S (opens, heard)).occurs.0 at) in
        let c : ComesFirst d who S opens heard q = (openings_come_first d who S other opens heard q).0 in_set in
        record {
          told = subst (λ h. IsToldRoot d (opens, h)) (sym c.heard_told) (
            subst (IsToldIn d) (sym c.opens_told) (told_opening c.from (valid c.from c.member)),
            told_words c.from c.moved (valid c.from c.member) (listed_legal c.from c.moved c.listed),
          );
          form = ap is_some c.heard_told;
          inside = λ p at.
              let e : ComesFirst d who S opens heard p = (openings_come_first d who S other opens heard p).0 at in
              subst IsValid (sym e.to) (valid_after e.from e.moved (valid e.from e.member) (listed_legal e.from e.moved e.listed));
        }

    told_roots : (waiting : Bool) (rs : PlanTrees) → ((key : RootKey) → In key (map (λ r. r.0) rs) → IsOpening waiting key) → AreCanonRoots (chess d) (outset d who) rs S → AreToldRoots d rs
    told_roots waiting [] each c = tt
    told_roots waiting (r ∷ rs) each c =
        let o = each r.0 (inl refl) in
        (o.told, told_node r.1 (set_of r.0) o.inside c.0, told_roots waiting rs (λ key at. each key (inr at)) c.1)

    roots_form : (waiting : Bool) (rs : PlanTrees) → ((key : RootKey) → In key (map (λ r. r.0) rs) → IsOpening waiting key) → AreRootsOf waiting rs
    roots_form waiting [] each = tt
    roots_form waiting (r ∷ rs) each = ((each r.0 (inl refl)).form, roots_form waiting rs (λ key at. each key (inr at)))

    opening_of : (waiting : Bool) → ((p : Pos) → In p S → not (is_same_side p.side who) ≡ waiting) → (key : RootKey) → In key (openings (chess d) (outset d who) S) → IsOpening waiting key
    opening_of true turn key at = others_opening (λ p m. not-true (is_same_side p.side who) (turn p m)) key at
    opening_of false turn key at = own_opening (λ p m. not-false (is_same_side p.side who) (turn p m)) key at

    -- what may be heard first can be told
    pub opening_told : (waiting : Bool) → ((p : Pos) → In p S → not (is_same_side p.side who) ≡ waiting) → (key : RootKey) → In key (openings (chess d) (outset d who) S) → IsToldRoot d key
    opening_told waiting turn key at = (opening_of waiting turn key at).told

    -- the canonical plan's roots can be told, and have words of the opponent's move where he is to move
    pub plan_told : (waiting : Bool) (plan : PlanTrees) → ((p : Pos) → In p S → not (is_same_side p.side who) ≡ waiting) → IsCanonPlan (chess d) (outset d who) plan S → AreToldRoots d plan × AreRootsOf waiting plan
    plan_told waiting plan turn c = (told_roots waiting plan each c.roots, roots_form waiting plan each)
      where
        each : (key : RootKey) → In key (map (λ r. r.0) plan) → IsOpening waiting key
        each key at = opening_of waiting turn key (subst (In key) c.same_keys at)
