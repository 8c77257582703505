-- The lines of a refutation file, and what is asked of their values.
use Rattle.std.specs.Prelude.{◌≡◌, ◌≤◌, ℕ, ◌+◌, nat_le, nat_lt, Bool, true, ◌&&◌, length, Option, Some, None, if◌then◌else◌, codes}
use Rattle.krieg_board.specs.Hand.{same_hand}
use Rattle.krieg_board.specs.Order.{move_lt}
use Rattle.krieg_board.specs.Pos.{Pos}
use Rattle.krieg_board.specs.Validity.{IsValid}
use Rattle.krieg_board.specs.declared.limits.TheConstants.{MOST_MOVES}
use Rattle.krieg_board.specs.declared.men.Side.{Side}
use Rattle.krieg_board.specs.declared.men.Move.{Move}
use Rattle.krieg_text.specs.declared.fault.TextKind.{TextKind}
use Rattle.krieg_text.specs.declared.fault.TextKind.TheVariants.{Version, Count, Differs, OutOfPlace, Large}
use Rattle.krieg_text.specs.FirstBad.{Has}
use Rattle.krieg_text.specs.Forms.{number_form}
use Rattle.krieg_text.specs.Writing.{alone, joined}
use Rattle.krieg_fen.specs.declared.forms.Turn.TheVariants.{Own}
use Rattle.krieg_fen.specs.declared.forms.TheConstants.{MOST_LISTED}
use Rattle.krieg_fen.specs.Forms.{side_line, side_form, position_form, has_turn}
use Rattle.krieg_fen.specs.ListText.{position_line}
use Rattle.krieg_fen.specs.Spelling.{Spells}
use Rattle.krieg_words.specs.declared.dialects.Dialect.{Dialect}
use Rattle.krieg_wordtext.specs.Versions.{dialect_form, dialect_line}
use Rattle.krieg_pack.specs.Order.{position_lt}
use Rattle.krieg_planfile.specs.NodeForms.{follows}
use Rattle.krieg_refutation.specs.declared.refutation.TheConstants.{MOST_CLAIMS, MOST_CLAIMED}
use Rattle.krieg_refutation.specs.declared.refutation.Why.{Why}
use Rattle.krieg_refutation.specs.declared.refutation.Why.TheVariants.{Lives, Stale, Class, Refused}
use Rattle.krieg_refutation.specs.declared.refutation.Reason.{Reason}
use Rattle.krieg_format.specs.Lines.{Line, formed, number_line, literal}
use Rattle.krieg_refutefile.specs.Refutations.{ClaimState}
use Rattle.krieg_refutefile.specs.Writable.{IsToldReason}
use Rattle.krieg_refutefile.specs.LineForms.{claim_form, reason_form, claim_line, reason_line}

-- ---- lines

-- the dialect of the words
abbrev pub a_dialect : Line Dialect (Has dialect_form)
a_dialect = formed dialect_form (λ l d. l ≡ dialect_line d) (λ d. alone (dialect_line d)) (λ d. Unit {0})

-- whose plans are denied
abbrev pub a_side : Line Side (Has side_form)
a_side = formed side_form (λ l who. l ≡ side_line who) (λ who. alone (side_line who)) (λ who. Unit {0})

-- a position, in any of its spellings
abbrev pub a_position : Line Pos (Has position_form)
a_position = formed position_form Spells position_line IsValid

-- numbers of moves and of positions that a claim may have
abbrev pub AreSizes : ℕ × ℕ → Type 0
AreSizes h = (1 ≤ h.0) × (h.0 ≤ MOST_MOVES) × (1 ≤ h.1) × (h.1 ≤ MOST_CLAIMED)

-- the number of moves and of positions of a claim
abbrev pub a_claim : Line (ℕ × ℕ) (Has claim_form)
a_claim = formed claim_form (λ l h. (l ≡ joined (claim_line h.0 h.1)) × AreSizes h) (λ h. claim_line h.0 h.1) AreSizes

-- a reason, which may cite any claim that a file has room for
abbrev pub a_reason : (d : Dialect) → Line Reason (Has (reason_form d))
a_reason d = formed (reason_form d) (λ l r. (l ≡ joined (reason_line d r)) × IsToldReason d (MOST_CLAIMS + 1) r) (reason_line d) (IsToldReason d (MOST_CLAIMS + 1))

-- ---- the lines with one number

-- the format's name and its one version
abbrev pub a_version : Line ℕ (Has (number_form Version (codes "krieg refutation ") 1 1))
a_version = number_line Version (codes "krieg refutation ") 1 1

-- within how many own moves no plan mates
abbrev pub a_moves : Line ℕ (Has (number_form Count (codes "moves ") 1 MOST_MOVES))
a_moves = number_line Count (codes "moves ") 1 MOST_MOVES

-- how many positions are listed
abbrev pub a_list : Line ℕ (Has (number_form Count (codes "list ") 1 MOST_LISTED))
a_list = number_line Count (codes "list ") 1 MOST_LISTED

-- how many claims there are
abbrev pub a_claims : Line ℕ (Has (number_form Count (codes "claims ") 1 MOST_CLAIMS))
a_claims = number_line Count (codes "claims ") 1 MOST_CLAIMS

-- how many reasons a claim has
abbrev pub a_tries : Line ℕ (Has (number_form Count (codes "tries ") 0 MOST_CLAIMED))
a_tries = number_line Count (codes "tries ") 0 MOST_CLAIMED

-- the last line
abbrev pub an_end : Line (Unit {0}) (Has (literal (codes "end")).form)
an_end = literal (codes "end")

-- ---- tests

-- nothing is wrong, or this
abbrev pub where_not : TextKind → Bool → Option TextKind
where_not kind good = if good then None else Some kind

-- in the first listed position the side is to move, and each other one has its hand
abbrev pub listed : Side → Option Pos → Pos → Option TextKind
listed who None p = where_not OutOfPlace (has_turn Own who p)
listed who (Some first) p = where_not Differs (same_hand first p who)

-- a position of a claim stands after the one before it
abbrev pub ascending : Option Pos → Pos → Option TextKind
ascending last p = where_not OutOfPlace (follows position_lt last p)

-- how many claims there are, and how many positions and reasons they have in all
pub record Totals : Type 0 where
  pub claims : ℕ
  pub positions : ℕ
  pub reasons : ℕ

-- with one claim more
abbrev pub with_claim : Totals → ClaimState → Totals
with_claim s c = record { claims = s.claims + 1; positions = s.positions + length c.set; reasons = s.reasons + length c.reasons }

-- with those before them they are not more than the most in all
abbrev pub in_all : ℕ → ℕ → Option TextKind
in_all before n = where_not Large (nat_le (before + n) MOST_CLAIMED)

-- it cites no claim, or one before that with the number
abbrev pub cites_below : ℕ → Why → Bool
cites_below own Lives = true
cites_below own Stale = true
cites_below own (Class heard place) = nat_lt place own
cites_below own (Refused place) = nat_lt place own

-- a reason of the claim with the number: it cites a claim before that one, and its move comes after the last one
abbrev pub argued : ℕ → Option Move → Reason → Option TextKind
argued own last r = where_not OutOfPlace (cites_below own r.why && follows move_lt last r.mv)
