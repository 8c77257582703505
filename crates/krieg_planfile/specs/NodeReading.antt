-- The nodes that lines spell, read line by line. Room is how many nodes may stand on a path from here on, and left is how
-- many may still come in all.
use Rattle.std.specs.Prelude.{ℕ, zero, suc, ◌-◌, Bool, true, false, List, [], ◌∷◌, Option, Some, None, Result, Ok, Err}
use Rattle.krieg_board.specs.declared.men.Move.{Move}
use Rattle.krieg_text.specs.declared.fault.TextKind.{TextKind}
use Rattle.krieg_text.specs.declared.fault.TextKind.TheVariants.{Deep}
use Rattle.krieg_text.specs.Outcomes.{◌>>=◌}
use Rattle.krieg_text.specs.Reading.{LineReader, taken}
use Rattle.krieg_theory.specs.Tree.{Try, Maybe, Nothing, Just}
use Rattle.krieg_words.specs.declared.dialects.Dialect.{Dialect}
use Rattle.krieg_game.specs.Keys.{Key}
use Rattle.krieg_plan.specs.Trees.{NodeTree}
use Rattle.krieg_plan.specs.Nodes.{as_edges}
use Rattle.krieg_planfile.specs.declared.forms.Play.{Play}
use Rattle.krieg_planfile.specs.NodeForms.{play_form, on_form}

-- a node, where so many nodes may still come, and how many may after it
abbrev pub NodeReader : Type 0
NodeReader = ℕ → LineReader (NodeTree × ℕ)

-- a node for the illegal case, where there is one
abbrev pub other_by : NodeReader → Bool → ℕ → LineReader (Maybe Move Key × ℕ)
other_by node false left p = Ok ((Nothing, left), p)
other_by node true left p = do
  n ← node left p
  Ok ((Just n.0.0, n.0.1), n.1)

-- a branch: a line with a key, and then a node; the form of the line is by the key before it
abbrev pub branch_by : {K : Type 0} → NodeReader → (Option K → List ℕ → Result K TextKind) → Option K → ℕ → LineReader ((K × NodeTree) × ℕ)
branch_by node form last left p = do
  key ← taken (form last) p
  n ← node left key.1
  Ok (((key.0, n.0.0), n.0.1), n.1)

-- k branches
abbrev pub branches_by : {K : Type 0} → NodeReader → (Option K → List ℕ → Result K TextKind) → ℕ → Option K → ℕ → LineReader (List (K × NodeTree) × ℕ)
branches_by node form zero last left p = Ok (([], left), p)
branches_by node form (suc k) last left p = do
  b ← branch_by node form last left p
  rest ← branches_by node form k (Some b.0.0.0) b.0.1 b.1
  Ok ((b.0.0 ∷ rest.0.0, rest.0.1), rest.1)

-- what stands below the line of a node: the node for the illegal case, and the edges
abbrev pub below_by : NodeReader → Dialect → Play → ℕ → LineReader (NodeTree × ℕ)
below_by node d play left p = do
  other ← other_by node play.no left p
  es ← branches_by node (on_form d) play.edges None other.0.1 other.1
  Ok ((Try play.mv other.0.0 (as_edges es.0.0), es.0.1), es.1)

-- the line of a node where no node may stand on the path any more
abbrev pub deep_form : ℕ → List ℕ → Result (NodeTree × ℕ) TextKind
deep_form left line = play_form left line >>= λ play. Err Deep

-- a node and all that is below it
unfoldable pub node_at : ℕ → Dialect → NodeReader
node_at zero d left p = taken (deep_form left) p
node_at (suc room) d left p = do
  play ← taken (play_form left) p
  below_by (node_at room d) d play.0 (left - 1) play.1
