-- The forms of the lines of nodes, edges and roots: what each gives, or the kind of its fault, and how they are written. The
-- text counts nodes from 1, and a value from 0. A space is byte 32.
use Rattle.std.specs.Prelude.{ℕ, ◌+◌, ◌-◌, List, [], ◌∷◌, ◌++◌, codes, Option, Some, None, Result, Ok, Err}
use Rattle.krieg_board.specs.declared.men.Move.{Move}
use Rattle.krieg_text.specs.declared.fault.TextKind.{TextKind}
use Rattle.krieg_text.specs.declared.fault.TextKind.TheVariants.{Syntax, Count, OutOfPlace}
use Rattle.krieg_text.specs.declared.number.NumberFault.{NumberFault}
use Rattle.krieg_text.specs.declared.number.NumberFault.TheVariants.{NotPlain, OutOfRange}
use Rattle.krieg_text.specs.Decimals.{number_between, number_text}
use Rattle.krieg_text.specs.Formats.{named}
use Rattle.krieg_text.specs.Forms.{ranged}
use Rattle.krieg_text.specs.Names.{behind, cut, cut_last}
use Rattle.krieg_text.specs.Outcomes.{◌>>=◌}
use Rattle.krieg_text.specs.Writing.{Pieces}
use Rattle.krieg_fen.specs.MoveText.{move_of, move_text}
use Rattle.krieg_words.specs.declared.dialects.Dialect.{Dialect}
use Rattle.krieg_game.specs.Keys.{Key, RootKey}
use Rattle.krieg_planfile.specs.NodeForms.{any_on_form}
use Rattle.krieg_planfile.specs.NodeText.{on_line}
use Rattle.krieg_planfile.specs.PlanReading.{any_root_form}
use Rattle.krieg_planfile.specs.PlanText.{root_line}
use Rattle.krieg_strategy.specs.declared.limits.TheConstants.{MOST_NODES, MOST_EDGES}
use Rattle.krieg_strategyfile.specs.declared.forms.Play.{Play}

-- ---- the line of a node

-- a node's line without a number of a node
abbrev pub without_no : Move → Result ℕ TextKind → Result Play TextKind
without_no m edges = edges >>= λ k. Ok (record { mv = m; no = None; edges = k })

-- The number of a node and the number of edges: where one is no plain decimal it is syntax, and where both are out of range the
-- second one is told.
abbrev pub with_no : Move → Result ℕ NumberFault → Result ℕ NumberFault → Result Play TextKind
with_no m (Ok i) (Ok k) = Ok (record { mv = m; no = Some (i - 1); edges = k })
with_no m (Ok i) (Err NotPlain) = Err Syntax
with_no m (Ok i) (Err OutOfRange) = Err Count
with_no m (Err NotPlain) k = Err Syntax
with_no m (Err OutOfRange) (Ok k) = Err OutOfPlace
with_no m (Err OutOfRange) (Err NotPlain) = Err Syntax
with_no m (Err OutOfRange) (Err OutOfRange) = Err Count

-- after `no `: the number of a node, and after a space the number of edges
abbrev pub after_no : Move → List ℕ → Option (List ℕ) → Result Play TextKind
after_no m node None = Err Syntax
after_no m node (Some edges) = with_no m (number_between node 1 MOST_NODES) (number_between edges 0 MOST_EDGES)

-- after the move: `no ` and two numbers, or one number
abbrev pub no_or_edges : Move → Option (List ℕ) → List ℕ → Result Play TextKind
no_or_edges m (Some text) whole = after_no m (cut 32 text).0 (cut 32 text).1
no_or_edges m None whole = without_no m (ranged Count (number_between whole 0 MOST_EDGES))

-- a node's line by its move and by what stands behind it
abbrev pub moved_form : Option Move → Option (List ℕ) → Result Play TextKind
moved_form None rest = Err Syntax
moved_form (Some m) None = Err Syntax
moved_form (Some m) (Some text) = no_or_edges m (behind (codes "no ") text) text

-- a move, a space, and what is after it
abbrev pub played_form : List ℕ → Result Play TextKind
played_form text = moved_form (move_of (cut 32 text).0) (cut 32 text).1

-- the line of a node
unfoldable pub play_form : List ℕ → Result Play TextKind
play_form line = named (codes "play ") played_form line

-- ---- the lines of edges and roots

-- the number of a node; none has a number of another size, so such a number is out of place
abbrev pub to_form : List ℕ → Result ℕ TextKind
to_form text = ranged OutOfPlace (number_between text 1 MOST_NODES) >>= λ i. Ok (i - 1)

-- a line of the form, and the number of a node
abbrev pub with_to : {K : Type 0} → (List ℕ → Result K TextKind) → Option (List ℕ × List ℕ) → Result (K × ℕ) TextKind
with_to form None = Err Syntax
with_to form (Some x) = form x.0 >>= λ key. to_form x.1 >>= λ to. Ok (key, to)

-- a line of the form, a space, and the number of a node
abbrev pub leading : {K : Type 0} → (List ℕ → Result K TextKind) → List ℕ → Result (K × ℕ) TextKind
leading form line = with_to form (cut_last 32 line)

-- the line of an edge: that of a plan file, and where it leads
unfoldable pub edge_form : Dialect → List ℕ → Result (Key × ℕ) TextKind
edge_form d line = leading (any_on_form d) line

-- the line of a root: that of a plan file of version 2, and where it leads
unfoldable pub root_form : Dialect → List ℕ → Result (RootKey × ℕ) TextKind
root_form d line = leading (any_root_form 2 d) line

-- ---- how lines are written

-- a name and a number
abbrev pub numbered : List ℕ → ℕ → Pieces
numbered name n = name ∷ number_text n ∷ []

-- the node to go on with if the try is illegal
abbrev pub no_pieces : Option ℕ → Pieces
no_pieces None = []
no_pieces (Some i) = codes " no " ∷ number_text (i + 1) ∷ []

-- the line of a node
abbrev pub play_line : Play → Pieces
play_line p = codes "play " ∷ move_text p.mv ∷ (no_pieces p.no ++ (codes " " ∷ number_text p.edges ∷ []))

-- a line, and where it leads
abbrev pub led : Pieces → ℕ → Pieces
led line to = line ++ (codes " " ∷ number_text (to + 1) ∷ [])

-- the line of an edge
abbrev pub edge_line : Dialect → Key × ℕ → Pieces
edge_line d e = led (on_line d e.0) e.1

-- the line of a root
abbrev pub root_to_line : Dialect → RootKey × ℕ → Pieces
root_to_line d r = led (root_line d r.0) r.1
