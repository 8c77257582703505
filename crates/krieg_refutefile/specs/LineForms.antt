-- The forms of the lines of a claim: what each gives, or the kind of its fault, and how they are written. A space is byte 32.
use Rattle.std.specs.Prelude.{ℕ, ◌==◌, List, [], ◌∷◌, codes, Option, Some, None, Result, Ok, Err, if◌then◌else◌}
use Rattle.std.specs.Str.{bytes_eq}
use Rattle.krieg_board.specs.declared.limits.TheConstants.{MOST_MOVES}
use Rattle.krieg_board.specs.declared.men.Move.{Move}
use Rattle.krieg_text.specs.declared.fault.TextKind.{TextKind}
use Rattle.krieg_text.specs.declared.fault.TextKind.TheVariants.{Syntax, Count, OutOfPlace}
use Rattle.krieg_text.specs.declared.number.NumberFault.{NumberFault}
use Rattle.krieg_text.specs.declared.number.NumberFault.TheVariants.{NotPlain, OutOfRange}
use Rattle.krieg_text.specs.Decimals.{number_between, number_text}
use Rattle.krieg_text.specs.Formats.{named}
use Rattle.krieg_text.specs.Forms.{ranged}
use Rattle.krieg_text.specs.Names.{behind, cut, cut_last}
use Rattle.krieg_text.specs.Outcomes.{◌>>=◌}
use Rattle.krieg_text.specs.Writing.{Pieces}
use Rattle.krieg_fen.specs.MoveText.{move_of, move_text}
use Rattle.krieg_wordtext.specs.WordsText.{words_text}
use Rattle.krieg_words.specs.declared.dialects.Dialect.{Dialect}
use Rattle.krieg_game.specs.Keys.{Key}
use Rattle.krieg_planfile.specs.NodeForms.{key_in}
use Rattle.krieg_refutation.specs.declared.refutation.TheConstants.{MOST_CLAIMS, MOST_CLAIMED}
use Rattle.krieg_refutation.specs.declared.refutation.Why.{Why}
use Rattle.krieg_refutation.specs.declared.refutation.Why.TheVariants.{Lives, Stale, Class, Refused}
use Rattle.krieg_refutation.specs.declared.refutation.Reason.{Reason}

-- ---- the line of a claim

-- Two numbers: where one is no plain decimal it is syntax, also where the other is out of range.
abbrev pub both_numbers : Result ℕ NumberFault → Result ℕ NumberFault → Result (ℕ × ℕ) TextKind
both_numbers (Ok j) (Ok k) = Ok (j, k)
both_numbers (Ok j) (Err NotPlain) = Err Syntax
both_numbers (Ok j) (Err OutOfRange) = Err Count
both_numbers (Err NotPlain) k = Err Syntax
both_numbers (Err OutOfRange) (Ok k) = Err Count
both_numbers (Err OutOfRange) (Err NotPlain) = Err Syntax
both_numbers (Err OutOfRange) (Err OutOfRange) = Err Count

-- the number of moves, and after a space the number of positions
abbrev pub sizes_by : List ℕ → Option (List ℕ) → Result (ℕ × ℕ) TextKind
sizes_by moves None = Err Syntax
sizes_by moves (Some positions) = both_numbers (number_between moves 1 MOST_MOVES) (number_between positions 1 MOST_CLAIMED)

-- the same of a text with both
abbrev pub sizes_form : List ℕ → Result (ℕ × ℕ) TextKind
sizes_form text = sizes_by (cut 32 text).0 (cut 32 text).1

-- the line before the positions of a claim
unfoldable pub claim_form : List ℕ → Result (ℕ × ℕ) TextKind
claim_form line = named (codes "claim ") sizes_form line

-- ---- the line of a reason

-- The place of a claim. No claim has a place above the most, so a number above it is out of place as 0 is, whatever its
-- length; whether the claim stands before this one is asked of the line afterwards.
abbrev pub place_form : List ℕ → Result ℕ TextKind
place_form text = ranged OutOfPlace (number_between text 1 MOST_CLAIMS)

-- the words of both, and the place
abbrev pub class_with : Option Key → Result ℕ TextKind → Result Why TextKind
class_with None place = Err Syntax
class_with (Some key) place = place >>= λ i. Ok (Class key i)

-- the words end before the last space
abbrev pub class_form : Dialect → Option (List ℕ × List ℕ) → Result Why TextKind
class_form d None = Err Syntax
class_form d (Some x) = class_with (key_in d x.0) (place_form x.1)

-- the place of the claim that denies the members that refuse the try
abbrev pub refused_form : List ℕ → Result Why TextKind
refused_form text = place_form text >>= λ i. Ok (Refused i)

-- what is cited after `class `, or after `refused `
abbrev pub citing_form : Dialect → Option (List ℕ) → Option (List ℕ) → Result Why TextKind
citing_form d (Some class) refused = class_form d (cut_last 32 class)
citing_form d None (Some refused) = refused_form refused
citing_form d None None = Err Syntax

-- why the try does not win
abbrev pub why_form : Dialect → List ℕ → Result Why TextKind
why_form d text =
    if bytes_eq text (codes "lives") then Ok Lives else if bytes_eq text (codes "stale") then Ok Stale else citing_form d (behind (codes "class ") text) (behind (codes "refused ") text)

-- a move, and why it does not win
abbrev pub reason_by : Dialect → Option Move → Option (List ℕ) → Result Reason TextKind
reason_by d None rest = Err Syntax
reason_by d (Some m) None = Err Syntax
reason_by d (Some m) (Some text) = why_form d text >>= λ why. Ok (record { mv = m; why = why })

-- a move, a space, and what is after it
unfoldable pub reason_form : Dialect → List ℕ → Result Reason TextKind
reason_form d line = reason_by d (move_of (cut 32 line).0) (cut 32 line).1

-- ---- how lines are written

-- a name and a number
abbrev pub numbered : List ℕ → ℕ → Pieces
numbered name n = name ∷ number_text n ∷ []

-- why the try does not win, behind its move
abbrev pub why_pieces : Dialect → Why → Pieces
why_pieces d Lives = codes " lives" ∷ []
why_pieces d Stale = codes " stale" ∷ []
why_pieces d (Class heard place) = codes " class " ∷ words_text d heard.0 ∷ codes " / " ∷ words_text d heard.1 ∷ codes " " ∷ number_text place ∷ []
why_pieces d (Refused place) = codes " refused " ∷ number_text place ∷ []

-- a move, and why it does not win
abbrev pub reason_line : Dialect → Reason → Pieces
reason_line d r = move_text r.mv ∷ why_pieces d r.why

-- the number of moves and of positions
abbrev pub claim_line : ℕ → ℕ → Pieces
claim_line moves positions = codes "claim " ∷ number_text moves ∷ codes " " ∷ number_text positions ∷ []
