-- The plan file that lines spell, read line by line.
use Rattle.std.specs.Prelude.{ℕ, ◌==◌, Bool, ◌&&◌, not, List, codes, Option, Some, None, is_some, Result, Ok, Err, if◌then◌else◌}
use Rattle.krieg_board.specs.Pos.{Pos}
use Rattle.krieg_board.specs.declared.men.Side.{Side}
use Rattle.krieg_text.specs.declared.fault.TextKind.{TextKind}
use Rattle.krieg_text.specs.declared.fault.TextKind.TheVariants.{OutOfPlace}
use Rattle.krieg_fen.specs.declared.forms.Turn.{Turn}
use Rattle.krieg_fen.specs.declared.forms.Turn.TheVariants.{Either, Own}
use Rattle.krieg_text.specs.Formats.{named}
use Rattle.krieg_fen.specs.Forms.{listing_at}
use Rattle.krieg_text.specs.Forms.{version_form, count_form, word_form}
use Rattle.krieg_text.specs.Outcomes.{◌>>=◌}
use Rattle.krieg_text.specs.Reading.{LineReader, taken}
use Rattle.krieg_words.specs.Words.{Said}
use Rattle.krieg_wordtext.specs.WordsReading.{words_in}
use Rattle.krieg_wordtext.specs.Versions.{dialect_at}
use Rattle.krieg_words.specs.declared.dialects.Dialect.{Dialect}
use Rattle.krieg_game.specs.Keys.{Key, RootKey, root_lt}
use Rattle.krieg_planfile.specs.NodeForms.{key_in, or_syntax, follows}
use Rattle.krieg_planfile.specs.NodeReading.{branches_by, node_at}
use Rattle.krieg_planfile.specs.PlanFiles.{PlanState, waits}
use Rattle.krieg_plan.specs.declared.limits.TheConstants.{MOST_NODES, MOST_ON_PATH}

-- ---- the line of a root

-- opening words, with the words of the opponent's move or without
abbrev pub root_with : Option Key → Option Said → Option RootKey
root_with (Some key) single = Some (key.0, Some key.1)
root_with None (Some w) = Some (w, None)
root_with None None = None

-- version 1 has no words of an opponent's move
abbrev pub root_in : ℕ → Dialect → List ℕ → Option RootKey
root_in version d text = root_with (if version == 1 then None else key_in d text) (words_in d text)

-- the line of a root, whatever stands before it
unfoldable pub any_root_form : ℕ → Dialect → List ℕ → Result RootKey TextKind
any_root_form version d line = named (codes "on ") (λ text. or_syntax (root_in version d text)) line

-- it has words of the opponent's move exactly where he is to move
abbrev pub is_root_of : Bool → RootKey → Bool
is_root_of waiting key = if waiting then is_some key.1 else not (is_some key.1)

-- a key of the other form, or that does not follow, is out of place
abbrev pub root_placed : Bool → Option RootKey → RootKey → Result RootKey TextKind
root_placed waiting last key = if is_root_of waiting key && follows root_lt last key then Ok key else Err OutOfPlace

-- the line of a root, after the root with the last key
abbrev pub root_form : ℕ → Bool → Dialect → Option RootKey → List ℕ → Result RootKey TextKind
root_form version waiting d last line = any_root_form version d line >>= root_placed waiting last

-- ---- the whole file

-- the format's name with one of its two versions
unfoldable pub plan_version_form : List ℕ → Result ℕ TextKind
plan_version_form line = version_form (codes "krieg plan ") 2 line

-- the own moves that are claimed, and the number of roots
unfoldable pub worst_form : List ℕ → Result ℕ TextKind
worst_form line = count_form (codes "worst ") 1 MOST_ON_PATH line

-- the line that says how many roots there are
unfoldable pub roots_form : List ℕ → Result ℕ TextKind
roots_form line = count_form (codes "roots ") 1 MOST_NODES line

-- the last line
unfoldable pub end_form : List ℕ → Result (Unit {0}) TextKind
end_form line = word_form (codes "end") line

-- version 1 is for the player's own turn alone
abbrev pub turn_in : ℕ → Turn
turn_in version = if version == 1 then Own else Either

-- after the positions: the claim, the roots, and `end`
unfoldable pub claim_at : ℕ → Dialect → Side → List Pos → LineReader PlanState
claim_at version d who list p = do
  worst ← taken worst_form p
  count ← taken roots_form worst.1
  plan ← branches_by (node_at MOST_ON_PATH d) (root_form version (waits who list) d) count.0 None MOST_NODES count.1
  end ← taken end_form plan.1
  Ok (record { dialect = d; side = who; list = list; worst = worst.0; plan = plan.0.0 }, end.1)

-- the version and the dialect
unfoldable pub heading_at : LineReader (ℕ × Dialect)
heading_at p = do
  version ← taken plan_version_form p
  dialect ← dialect_at version.0 version.1
  Ok ((version.0, dialect.0), dialect.1)

-- the places of a plan file in their order: version and dialect, side and listed positions, claim and plan
unfoldable pub plan_at : LineReader PlanState
plan_at p = do
  heading ← heading_at p
  listing ← listing_at (turn_in heading.0.0) heading.1
  claim_at heading.0.0 heading.0.1 listing.0.0 listing.0.1 listing.1

-- a text that is read as a plan file has fewer bytes, however its positions are spelled
abbrev pub read_bound : ℕ
read_bound = 38000000
