-- The written text of a plan file spells it, and is read as it again.
use Rattle.std.proofs.Common.{◌≡◌, inl, inr, ℕ, ◌<◌, ◌≤◌, ◌^◌, Bool, true, false, not, List, [], ◌∷◌, ◌++◌, map, length, Some, None, Ok, refl, sym, ap, subst, ◌∙◌, arith}
use Rattle.std.specs.Prelude.{codes}
use Rattle.std.specs.List.{All}
use Rattle.std.proofs.lemmas.Bool.{not-false}
use Rattle.std.proofs.lemmas.List.Elements.{All-head, All-tail}
use Rattle.krieg_planfile.proofs.Common.{same_hand, is_same_side, Pos, IsValid, Move, Side, Turn, number_text, position_text, has_turn, lines, is_line, AreLines, SpellList, list_head, listing_lines, move_text, whole, Pieces, joined, alone, Try, Maybe, Just, Edges, NoEdges, size, size_other, size_edges, Said, words_text, dialect_line, Dialect, Wild16, Anytry, Key, RootKey, is_ordered_plan, NodeTree, PlanTrees, plan_size, MOST_NODES, edge_count, is_just, no_text, play_line, on_line, node_lines, other_lines, edges_lines, IsToldIn, IsToldKey, IsTold, IsToldOther, AreTold, PlanState, waits, AreAlike, IsToldRoot, AreToldRoots, CanBeWritten, turn_in, plan_at, IsVersion, SpellsPlan, heading, root_line, roots_lines, claim_lines, plan_lines, plan_text}
use Rattle.krieg_fen.proofs.CleanTexts.{move_line, positions_are, list_head_are}
use Rattle.krieg_text.proofs.CleanTexts.{number_line}
use Rattle.krieg_text.proofs.LineTexts.{line_above, line_append, lines_append, lines_again}
use Rattle.krieg_fen.proofs.ListSpellings.{written_spells}
use Rattle.krieg_text.proofs.Writings.{put_lines_is, joined_alone, joined_each}
use Rattle.krieg_theory.specs.Tree.{Nothing, Edge}
use Rattle.krieg_words.specs.declared.dialects.Dialect.TheVariants.{Plain}
use Rattle.krieg_wordtext.proofs.CleanWords.{words_above}
use Rattle.krieg_wordtext.proofs.VersionTexts.{version_are}
use Rattle.krieg_planfile.proofs.NodesAgain.{count_size}
use Rattle.krieg_planfile.proofs.PlanSpellings.{spelled_again}

-- ---- each written line is a line

words_line : (d : Dialect) (w : Said) → IsToldIn d w → is_line (words_text d w) ≡ true
words_line d w told = line_above 31 (words_text d w) (omega arith) (words_above d w told.0)

no_line : (b : Bool) → is_line (no_text b) ≡ true
no_line false = refl
no_line true = refl

play_is : (m : Move) (b : Bool) (k : ℕ) → k < 2 ^ 64 → is_line (joined (play_line m b k)) ≡ true
play_is m b k small = line_append (codes "play ") (move_text m ++ (no_text b ++ number_text k)) refl (line_append (move_text m) (no_text b ++ number_text k) (move_line m) (line_append (no_text b) (number_text k) (no_line b) (number_line k small)))

on_is : (d : Dialect) (key : Key) → IsToldKey d key → is_line (joined (on_line d key)) ≡ true
on_is d key told = line_append (codes "on ") (words_text d key.0 ++ (codes " / " ++ words_text d key.1)) refl (line_append (words_text d key.0) (codes " / " ++ words_text d key.1) (words_line d key.0 told.0) (line_append (codes " / ") (words_text d key.1) refl (words_line d key.1 told.1)))

root_is : (d : Dialect) (key : RootKey) → IsToldRoot d key → is_line (joined (root_line d key)) ≡ true
root_is d (opens, None) told = line_append (codes "on ") (words_text d opens) refl (words_line d opens told)
root_is d (opens, Some heard) told = on_is d (opens, heard) told

both_are : (xs ys : List Pieces) → AreLines (map joined xs) → AreLines (map joined ys) → AreLines (map joined (xs ++ ys))
both_are [] ys a b = b
both_are (x ∷ xs) ys a b = (a.0, both_are xs ys a.1 b)

mutual
  node_are : (d : Dialect) (n : NodeTree) → IsTold d n → size n ≤ MOST_NODES → AreLines (map joined (node_lines d n))
  node_are d (Try m o es) told small =
      (play_is m (is_just o) (edge_count es) (omega (arith, small, count_size es)), both_are (other_lines d o) (edges_lines d es) (other_are d o told.1 (omega (arith, small))) (edges_are d es told.2 (omega (arith, small))))

  other_are : (d : Dialect) (o : Maybe Move Key) → IsToldOther d o → size_other o ≤ MOST_NODES → AreLines (map joined (other_lines d o))
  other_are d Nothing told small = tt
  other_are d (Just n) told small = node_are d n told small

  edges_are : (d : Dialect) (es : Edges Move Key) → AreTold d es → size_edges es ≤ MOST_NODES → AreLines (map joined (edges_lines d es))
  edges_are d NoEdges told small = tt
  edges_are d (Edge key n es) told small =
      (on_is d key told.0, both_are (node_lines d n) (edges_lines d es) (node_are d n told.1 (omega (arith, small))) (edges_are d es told.2 (omega (arith, small))))

roots_are : (d : Dialect) (rs : PlanTrees) → AreToldRoots d rs → plan_size rs ≤ MOST_NODES → AreLines (map joined (roots_lines d rs))
roots_are d [] told small = tt
roots_are d (r ∷ rs) told small =
    (root_is d r.0 told.0, both_are (node_lines d r.1) (roots_lines d rs) (node_are d r.1 told.1 (omega (arith, small))) (roots_are d rs told.2 (omega (arith, small))))

-- each root has a node
few_roots : (rs : PlanTrees) → length rs ≤ plan_size rs
few_roots [] = omega arith
few_roots ((key, Try m o es) ∷ rs) = omega (arith, few_roots rs)

claim_are : (s : PlanState) → CanBeWritten s → AreLines (map joined (claim_lines s))
claim_are s w =
    let worst : s.worst < 2 ^ 64 = omega (arith, w.most_worst) in
    let count : length s.plan < 2 ^ 64 = omega (arith, w.size, few_roots s.plan) in (
      line_append (codes "worst ") (number_text s.worst) refl (number_line s.worst worst),
      (line_append (codes "roots ") (number_text (length s.plan)) refl (number_line (length s.plan) count), both_are (roots_lines s.dialect s.plan) (alone (codes "end") ∷ []) (roots_are s.dialect s.plan w.told w.size) (refl, tt)),
    )

dialect_is : (d : Dialect) → is_line (dialect_line d) ≡ true
dialect_is Wild16 = refl
dialect_is Anytry = refl
dialect_is Plain = refl

heading_are : (d : Dialect) (waiting : Bool) → AreLines (heading d waiting)
heading_are d true = (refl, (dialect_is d, tt))
heading_are d false = version_are (codes "krieg plan ") d refl

-- ---- the lines, each as one text

abbrev written_lines : PlanState → List (List ℕ)
written_lines s = heading s.dialect (waits s.side s.list) ++ ((list_head s.side (length s.list) ++ map position_text s.list) ++ map joined (claim_lines s))

lines_are : (s : PlanState) → map joined (plan_lines s) ≡ written_lines s
lines_are s =
    joined_alone (heading s.dialect (waits s.side s.list)) (listing_lines s.side s.list ++ claim_lines s)
    ∙ ap (λ (t : List (List ℕ)). heading s.dialect (waits s.side s.list) ++ (list_head s.side (length s.list) ++ t)) (joined_each position_text s.list (claim_lines s))

plan_are : (s : PlanState) → CanBeWritten s → AreLines (written_lines s)
plan_are s w =
    lines_append (heading s.dialect (waits s.side s.list)) _ (heading_are s.dialect (waits s.side s.list))
    (lines_append (list_head s.side (length s.list) ++ map position_text s.list) (map joined (claim_lines s))
    (lines_append (list_head s.side (length s.list)) (map position_text s.list) (list_head_are s.side (length s.list) (omega (arith, w.few_listed))) (positions_are s.list)) (claim_are s w))

-- ---- they spell the plan file

-- the version in which it is written
abbrev version_of : Dialect → Bool → ℕ
version_of d true = 2
version_of Wild16 false = 1
version_of Anytry false = 2
version_of Plain false = 2

is_version : (d : Dialect) (waiting : Bool) → IsVersion (version_of d waiting) d (heading d waiting)
is_version d true = inr (refl, refl)
is_version Wild16 false = inl (refl, refl, refl)
is_version Anytry false = inr (refl, refl)
is_version Plain false = inr (refl, refl)

turn_is : (d : Dialect) (waiting : Bool) (who : Side) (p : Pos) → not (is_same_side p.side who) ≡ waiting → has_turn (turn_in (version_of d waiting)) who p ≡ true
turn_is d true who p own = refl
turn_is Wild16 false who p own = not-false (is_same_side p.side who) own
turn_is Anytry false who p own = refl
turn_is Plain false who p own = refl

rest_spells : (turn : Turn) (who : Side) (first : Pos) (ps : List Pos) → All (λ q. same_hand first q who ≡ true) ps → All IsValid ps → SpellList turn who (Some first) (map position_text ps) ps
rest_spells turn who first [] alike valid = tt
rest_spells turn who first (p ∷ ps) alike valid =
    (written_spells p (All-head IsValid p ps valid), All-head (λ q. same_hand first q who ≡ true) p ps alike, rest_spells turn who first ps (All-tail (λ q. same_hand first q who ≡ true) p ps alike) (All-tail IsValid p ps valid))

list_spells : (d : Dialect) (who : Side) (ps : List Pos) → AreAlike who ps → All IsValid ps → SpellList (turn_in (version_of d (waits who ps))) who None (map position_text ps) ps
list_spells d who [] alike valid = tt
list_spells d who (p ∷ ps) alike valid =
    (written_spells p (All-head IsValid p ps valid), turn_is d (not (is_same_side p.side who)) who p refl, rest_spells (turn_in (version_of d (waits who (p ∷ ps)))) who p ps alike (All-tail IsValid p ps valid))

lines_spell : (s : PlanState) → CanBeWritten s → SpellsPlan s (written_lines s)
lines_spell s w =
    let waiting = waits s.side s.list in (
      version_of s.dialect waiting,
      record {
        front = heading s.dialect waiting;
        back = (list_head s.side (length s.list) ++ map position_text s.list) ++ map joined (claim_lines s);
        is = refl;
        first = is_version s.dialect waiting;
        second = record {
          front = list_head s.side (length s.list) ++ map position_text s.list;
          back = map joined (claim_lines s);
          is = refl;
          first = record { positions = map position_text s.list; is = refl; some = w.some_listed; few = w.few_listed; spelled = list_spells s.dialect s.side s.list w.alike w.valid };
          second = refl;
        };
      },
    )

-- the written text of a plan file spells it
pub text_spells : (s : PlanState) → CanBeWritten s → SpellsPlan s (lines (plan_text s))
unfolding plan_text
text_spells s w =
    subst (SpellsPlan s)
    (sym (ap lines (put_lines_is [] (plan_lines s)) ∙ lines_again (map joined (plan_lines s)) (subst AreLines (sym (lines_are s)) (plan_are s w)) ∙ lines_are s))
    (lines_spell s w)

pub plan_again : (s : PlanState) → CanBeWritten s → is_ordered_plan s.plan ≡ true → whole plan_at (lines (plan_text s)) ≡ Ok s
plan_again s w ordered = spelled_again (lines (plan_text s)) s (record { written = w; ordered = ordered }) (text_spells s w)
