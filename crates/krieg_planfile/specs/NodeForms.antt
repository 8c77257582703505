-- The forms of the lines of a node: what each gives, or the kind of its fault. A space is byte 32, a slash 47.
use Rattle.std.specs.Prelude.{ℕ, Bool, true, false, ◌==◌, ◌-◌, List, codes, length, take, slice_index, Option, Some, None, Result, Ok, Err, if◌then◌else◌}
use Rattle.krieg_board.specs.declared.men.Move.{Move}
use Rattle.krieg_text.specs.declared.fault.TextKind.{TextKind}
use Rattle.krieg_text.specs.declared.fault.TextKind.TheVariants.{Syntax, Count, OutOfPlace, Large}
use Rattle.krieg_text.specs.Decimals.{number_between}
use Rattle.krieg_text.specs.Formats.{named}
use Rattle.krieg_text.specs.Forms.{ranged}
use Rattle.krieg_fen.specs.MoveText.{move_of}
use Rattle.krieg_text.specs.Names.{behind, cut}
use Rattle.krieg_text.specs.Outcomes.{◌>>=◌}
use Rattle.krieg_words.specs.Words.{Said}
use Rattle.krieg_wordtext.specs.WordsReading.{words_in}
use Rattle.krieg_words.specs.declared.dialects.Dialect.{Dialect}
use Rattle.krieg_game.specs.Keys.{Key, key_lt}
use Rattle.krieg_planfile.specs.declared.forms.Play.{Play}
use Rattle.krieg_plan.specs.declared.limits.TheConstants.{MOST_NODES}

-- ---- the line of a node

-- a number of edges, which are no more than the nodes of a plan
abbrev pub edges_form : List ℕ → Result ℕ TextKind
edges_form text = ranged Count (number_between text 0 MOST_NODES)

-- a node's line of these parts, or the fault of its number
abbrev pub play_with : Move → Bool → Result ℕ TextKind → Result Play TextKind
play_with m other (Ok k) = Ok (record { mv = m; no = other; edges = k })
play_with m other (Err kind) = Err kind

-- after the move: `no `, or not, and a number
abbrev pub no_or_edges : Move → Option (List ℕ) → List ℕ → Result Play TextKind
no_or_edges m (Some text) whole = play_with m true (edges_form text)
no_or_edges m None whole = play_with m false (edges_form whole)

-- a node's line by its move and by what stands behind it
abbrev pub moved_form : Option Move → Option (List ℕ) → Result Play TextKind
moved_form None rest = Err Syntax
moved_form (Some m) None = Err Syntax
moved_form (Some m) (Some text) = no_or_edges m (behind (codes "no ") text) text

-- a move, a space, and what is after it
abbrev pub played_form : List ℕ → Result Play TextKind
played_form text = moved_form (move_of (cut 32 text).0) (cut 32 text).1

-- the line of a node, whatever stands before it
unfoldable pub any_play_form : List ℕ → Result Play TextKind
any_play_form line = named (codes "play ") played_form line

-- the line of a node, where so many nodes may still come
abbrev pub play_form : ℕ → List ℕ → Result Play TextKind
play_form left line = any_play_form line >>= λ play. if left == 0 then Err Large else Ok play

-- ---- the line of an edge

-- the text without the space at its end
abbrev pub unspaced : List ℕ → Option (List ℕ)
unspaced text = if slice_index text (length text - 1) == 32 then Some (take (length text - 1) text) else None

-- the words of a text, where there is one
abbrev pub words_at : Dialect → Option (List ℕ) → Option Said
words_at d None = None
words_at d (Some text) = words_in d text

-- the words of both, where both are there
abbrev pub both : Option Said → Option Said → Option Key
both (Some own) (Some reply) = Some (own, reply)
both _ _ = None

-- the words on the two sides of a slash that stands between spaces
abbrev pub key_across : Dialect → List ℕ → Option (List ℕ) → Option Key
key_across d front None = None
key_across d front (Some back) = both (words_at d (unspaced front)) (words_at d (behind (codes " ") back))

-- the key of a text: two words across a slash
abbrev pub key_in : Dialect → List ℕ → Option Key
key_in d text = key_across d (cut 47 text).0 (cut 47 text).1

-- where something must be there, nothing is syntax
abbrev pub or_syntax : {A : Type 0} → Option A → Result A TextKind
or_syntax None = Err Syntax
or_syntax (Some x) = Ok x

-- the line of an edge, whatever stands before it
unfoldable pub any_on_form : Dialect → List ℕ → Result Key TextKind
any_on_form d line = named (codes "on ") (λ text. or_syntax (key_in d text)) line

-- the key is greater than the last one, where there is one
abbrev pub follows : {K : Type 0} → (K → K → Bool) → Option K → K → Bool
follows lt None key = true
follows lt (Some last) key = lt last key

-- a key that does not follow is out of place
abbrev pub placed : {K : Type 0} → (K → K → Bool) → Option K → K → Result K TextKind
placed lt last key = if follows lt last key then Ok key else Err OutOfPlace

-- the line of an edge, after the edge with the last key
abbrev pub on_form : Dialect → Option Key → List ℕ → Result Key TextKind
on_form d last line = any_on_form d line >>= placed key_lt last
