-- The lines of a strategy file, and what is asked of their values.
use Rattle.std.specs.Prelude.{◌≡◌, ◌≤◌, ◌<◌, ℕ, ◌+◌, nat_le, nat_lt, Bool, true, ◌&&◌, length, Option, Some, None, if◌then◌else◌, codes}
use Rattle.krieg_board.specs.Hand.{same_hand}
use Rattle.krieg_board.specs.Pos.{Pos}
use Rattle.krieg_board.specs.Validity.{IsValid}
use Rattle.krieg_board.specs.declared.men.Move.{Move}
use Rattle.krieg_board.specs.declared.men.Side.{Side}
use Rattle.krieg_text.specs.declared.fault.TextKind.{TextKind}
use Rattle.krieg_text.specs.declared.fault.TextKind.TheVariants.{Version, Count, Differs, OutOfPlace, Large}
use Rattle.krieg_text.specs.FirstBad.{Has}
use Rattle.krieg_text.specs.Forms.{number_form}
use Rattle.krieg_text.specs.Writing.{alone, joined}
use Rattle.krieg_fen.specs.MoveText.{IsOnBoard}
use Rattle.krieg_fen.specs.declared.forms.TheConstants.{MOST_LISTED}
use Rattle.krieg_fen.specs.Forms.{side_line, side_form, position_form}
use Rattle.krieg_fen.specs.ListText.{position_line}
use Rattle.krieg_fen.specs.Spelling.{Spells}
use Rattle.krieg_words.specs.declared.dialects.Dialect.{Dialect}
use Rattle.krieg_wordtext.specs.Versions.{dialect_form, dialect_line}
use Rattle.krieg_game.specs.Keys.{Key, RootKey, key_lt, root_lt}
use Rattle.krieg_planfile.specs.NodeForms.{follows}
use Rattle.krieg_planfile.specs.NodeText.{IsToldKey}
use Rattle.krieg_planfile.specs.PlanFiles.{IsToldRoot}
use Rattle.krieg_planfile.specs.PlanReading.{is_root_of}
use Rattle.krieg_strategy.specs.Nodes.{Node}
use Rattle.krieg_strategy.specs.declared.limits.TheConstants.{MOST_NODES, MOST_EDGES, MOST_ROOTS, MOST_WORST}
use Rattle.krieg_format.specs.Lines.{Line, formed, number_line, literal}
use Rattle.krieg_strategyfile.specs.declared.forms.Play.{Play}
use Rattle.krieg_strategyfile.specs.LineForms.{play_form, edge_form, root_form, play_line, edge_line, root_to_line}

-- ---- lines

-- the dialect of the words
abbrev pub a_dialect : Line Dialect (Has dialect_form)
a_dialect = formed dialect_form (λ l d. l ≡ dialect_line d) (λ d. alone (dialect_line d)) (λ d. Unit {0})

-- whose strategy it is
abbrev pub a_side : Line Side (Has side_form)
a_side = formed side_form (λ l who. l ≡ side_line who) (λ who. alone (side_line who)) (λ who. Unit {0})

-- a position, in any of its spellings
abbrev pub a_position : Line Pos (Has position_form)
a_position = formed position_form Spells position_line IsValid

-- it leads to a number that some node may have
abbrev pub LeadsToSome : Option ℕ → Type 0
LeadsToSome None = Unit {0}
LeadsToSome (Some i) = i < MOST_NODES

-- a try of the board, a number that some node may have, and no more edges than may be told
abbrev pub IsPlay : Play → Type 0
IsPlay p = IsOnBoard p.mv × LeadsToSome p.no × (p.edges ≤ MOST_EDGES)

-- the line of a node
abbrev pub a_play : Line Play (Has play_form)
a_play = formed play_form (λ l p. (l ≡ joined (play_line p)) × IsPlay p) play_line IsPlay

-- words that can be told, and a number that some node may have
abbrev pub IsLed : {K : Type 0} → (K → Type 0) → K × ℕ → Type 0
IsLed Told x = Told x.0 × (x.1 < MOST_NODES)

-- the line of an edge
abbrev pub an_edge : (d : Dialect) → Line (Key × ℕ) (Has (edge_form d))
an_edge d = formed (edge_form d) (λ l e. (l ≡ joined (edge_line d e)) × IsLed (IsToldKey d) e) (edge_line d) (IsLed (IsToldKey d))

-- the line of a root
abbrev pub a_root : (d : Dialect) → Line (RootKey × ℕ) (Has (root_form d))
a_root d = formed (root_form d) (λ l r. (l ≡ joined (root_to_line d r)) × IsLed (IsToldRoot d) r) (root_to_line d) (IsLed (IsToldRoot d))

-- ---- the lines with one number

-- the format's name and its one version
abbrev pub a_version : Line ℕ (Has (number_form Version (codes "krieg strategy ") 1 1))
a_version = number_line Version (codes "krieg strategy ") 1 1

-- how many positions are listed
abbrev pub a_list : Line ℕ (Has (number_form Count (codes "list ") 1 MOST_LISTED))
a_list = number_line Count (codes "list ") 1 MOST_LISTED

-- the own moves that are claimed
abbrev pub a_worst : Line ℕ (Has (number_form Count (codes "worst ") 1 MOST_WORST))
a_worst = number_line Count (codes "worst ") 1 MOST_WORST

-- how many nodes there are
abbrev pub a_count : Line ℕ (Has (number_form Count (codes "nodes ") 1 MOST_NODES))
a_count = number_line Count (codes "nodes ") 1 MOST_NODES

-- how many roots there are
abbrev pub a_root_count : Line ℕ (Has (number_form Count (codes "roots ") 1 MOST_ROOTS))
a_root_count = number_line Count (codes "roots ") 1 MOST_ROOTS

-- the last line
abbrev pub an_end : Line (Unit {0}) (Has (literal (codes "end")).form)
an_end = literal (codes "end")

-- ---- tests

-- nothing is wrong, or this
abbrev pub where_not : TextKind → Bool → Option TextKind
where_not kind good = if good then None else Some kind

-- either side may be to move in the first listed position, and each other one has its hand
abbrev pub listed : Side → Option Pos → Pos → Option TextKind
listed who None p = None
listed who (Some first) p = where_not Differs (same_hand first p who)

-- how many nodes there are, and how many edges they have together
pub record Counts : Type 0 where
  pub nodes : ℕ
  pub edges : ℕ

-- with one node more
abbrev pub with_node : Counts → Node Move Key → Counts
with_node s n = record { nodes = s.nodes + 1; edges = s.edges + length n.edges }

-- it leads to a node with a lower number, or to none
abbrev pub leads_below : ℕ → Option ℕ → Bool
leads_below own None = true
leads_below own (Some i) = nat_lt i own

-- the line of the node behind these: where it leads to a node that is not before it, this is told first
abbrev pub played : Counts → Play → Option TextKind
played s p = if leads_below s.nodes p.no then where_not Large (nat_le (s.edges + p.edges) MOST_EDGES) else Some OutOfPlace

-- an edge of the node with that number leads to a lower one, and its key comes after the last one
abbrev pub edged : ℕ → Option Key → Key × ℕ → Option TextKind
edged own last e = where_not OutOfPlace (nat_lt e.1 own && follows key_lt last e.0)

-- a root leads to one of so many nodes, has words of the opponent's move exactly where he is to move, and comes after the last one
abbrev pub rooted : Bool → ℕ → Option RootKey → RootKey × ℕ → Option TextKind
rooted waiting nodes last r = where_not OutOfPlace (nat_lt r.1 nodes && (is_root_of waiting r.0 && follows root_lt last r.0))
