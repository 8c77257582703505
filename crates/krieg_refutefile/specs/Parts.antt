-- The readers of the parts of a refutation file, as its description has them, and the lines of its parts.
use Rattle.std.specs.Prelude.{ℕ, ◌-◌, List, [], ◌∷◌, ◌++◌, codes, map, length, slice_get, Option, Some, None, unwrap_or}
use Rattle.std.specs.List.{All}
use Rattle.std.specs.Option.{option_map}
use Rattle.krieg_board.specs.Pos.{Pos}
use Rattle.krieg_board.specs.declared.men.Side.{Side}
use Rattle.krieg_board.specs.declared.men.Move.{Move}
use Rattle.krieg_text.specs.Outcomes.{◌>>=◌}
use Rattle.krieg_text.specs.Writing.{Pieces, alone}
use Rattle.krieg_fen.specs.Forms.{side_line}
use Rattle.krieg_fen.specs.ListText.{position_line}
use Rattle.krieg_wordtext.specs.Versions.{dialect_line}
use Rattle.krieg_text.specs.Reading.{LineReader, taken}
use Rattle.krieg_words.specs.declared.dialects.Dialect.{Dialect}
use Rattle.krieg_refutation.specs.declared.refutation.Reason.{Reason}
use Rattle.krieg_format.specs.Lines.{tested}
use Rattle.krieg_format.specs.Descriptions.{line}
use Rattle.krieg_format.specs.Readers.{repeated, reader}
use Rattle.krieg_refutefile.specs.Refutations.{ClaimState}
use Rattle.krieg_refutefile.specs.RefutationFormat.{claim_format, none_yet}
use Rattle.krieg_refutefile.specs.Writable.{IsToldWhy}
use Rattle.krieg_refutefile.specs.LineForms.{numbered, claim_line, reason_line}
use Rattle.krieg_refutefile.specs.RefutationLines as lines
use Rattle.krieg_refutefile.specs.RefutationLines.{a_version, a_list, a_claims, a_dialect, a_position, a_reason, listed, ascending, argued, with_claim}
use Rattle.krieg_refutefile.specs.declared.claims.Totals.{Totals}

-- the totals of the code
abbrev pub totals_of : Totals → lines.Totals
totals_of t = record { claims = t.claims; positions = t.positions; reasons = t.reasons }

-- a listed position, after the first one
abbrev pub listed_at : Side → Option Pos → LineReader Pos
listed_at who first = reader (line (tested a_position (listed who first)))

abbrev pub list_at : Side → ℕ → LineReader (List Pos)
list_at who n p = repeated n (listed_at who) (λ first x. Some (unwrap_or first x)) None p

-- a position of a claim, after the last one
abbrev pub member_at : Option Pos → LineReader Pos
member_at last = reader (line (tested a_position (ascending last)))

abbrev pub set_at : ℕ → LineReader (List Pos)
set_at n p = repeated n member_at (λ last x. Some x) None p

-- a reason of the claim with that number, after the one with the last move
abbrev pub reason_at : Dialect → ℕ → Option Move → LineReader Reason
reason_at d own last = reader (line (tested (a_reason d) (argued own last)))

abbrev pub reasons_at : Dialect → ℕ → ℕ → LineReader (List Reason)
reasons_at d own n p = repeated n (reason_at d own) (λ last r. Some r.mv) None p

-- a claim, behind those with the totals
abbrev pub claim_at : Dialect → lines.Totals → LineReader ClaimState
claim_at d s = reader (claim_format d s)

abbrev pub claims_at : Dialect → ℕ → LineReader (List ClaimState)
claims_at d n p = repeated n (claim_at d) with_claim none_yet p

-- the last of a list
abbrev pub last_in : {A : Type 0} → List A → Option A
last_in xs = slice_get xs (length xs - 1)

-- the move of the last reason
abbrev pub last_move : List Reason → Option Move
last_move rs = option_map (λ (r : Reason). r.mv) (last_in rs)

-- the version and the dialect
abbrev pub heading_at : LineReader Dialect
heading_at p = taken a_version.form p >>= λ v. taken a_dialect.form v.1

-- the number of listed positions, and these
abbrev pub listing_at : Side → LineReader (List Pos)
listing_at who p = taken a_list.form p >>= λ k. list_at who k.0 k.1

-- the number of claims, and these
abbrev pub all_claims_at : Dialect → LineReader (List ClaimState)
all_claims_at d p = taken a_claims.form p >>= λ n. claims_at d n.0 n.1

-- ---- what is written

-- its words can be told in the dialect
abbrev pub IsTold : Dialect → Reason → Type 0
IsTold d r = IsToldWhy d r.why

-- all words of a claim can be told in the dialect
abbrev pub AreTold : Dialect → ClaimState → Type 0
AreTold d c = All (IsTold d) c.reasons

-- a claim: its positions, and the reasons for its tries
abbrev pub claim_lines : Dialect → ClaimState → List Pieces
claim_lines d c = claim_line c.moves (length c.set) ∷ (map position_line c.set ++ (numbered (codes "tries ") (length c.reasons) ∷ map (reason_line d) c.reasons))

-- what stands before the listed positions
abbrev pub head_lines : Dialect → Side → ℕ → ℕ → List Pieces
head_lines d who moves listed =
    numbered (codes "krieg refutation ") 1 ∷ alone (dialect_line d) ∷ alone (side_line who) ∷ numbered (codes "moves ") moves ∷ numbered (codes "list ") listed ∷ []
