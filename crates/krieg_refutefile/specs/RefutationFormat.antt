-- The format of a refutation file, described once: its reader, the lines that spell a file, and its grammar.
use Rattle.std.specs.Prelude.{ℕ, ◌+◌, List, length, Option, Some, None, unwrap_or}
use Rattle.krieg_board.specs.Pos.{Pos}
use Rattle.krieg_board.specs.declared.men.Side.{Side}
use Rattle.krieg_text.specs.FirstBad.{Has}
use Rattle.krieg_text.specs.Languages.{Language, One, Any, ◌⨾◌}
use Rattle.krieg_text.specs.Reading.{LineReader}
use Rattle.krieg_fen.specs.Forms.{side_form, position_form}
use Rattle.krieg_words.specs.declared.dialects.Dialect.{Dialect}
use Rattle.krieg_refutation.specs.declared.refutation.Reason.{Reason}
use Rattle.krieg_format.specs.Lines.{tested, which, telling}
use Rattle.krieg_format.specs.Descriptions.{Format, line, told, counted, also, made, times, Power}
use Rattle.krieg_format.specs.Readers.{reader}
use Rattle.krieg_format.specs.Tables.{table}
use Rattle.krieg_refutefile.specs.Refutations.{ClaimState, RefutationState}
use Rattle.krieg_refutefile.specs.LineForms.{reason_form}
use Rattle.krieg_refutefile.specs.RefutationLines.{a_version, a_moves, a_list, a_claims, a_tries, an_end, a_dialect, a_side, a_position, a_claim, a_reason, listed, ascending, Totals, with_claim, in_all, argued}

-- ---- a claim

-- The grammar: the sizes of a claim, positions in any order, and reasons in any order that cite any claims.
abbrev pub ClaimGrammar : Dialect → Language
ClaimGrammar d =
    Any (λ (h : ℕ × ℕ). One (λ t. a_claim.says t h)
    ⨾ Power h.1 (One (Has position_form))
    ⨾ Any (λ (n : ℕ). One (λ t. a_tries.says t n) ⨾ Power n (One (Has (reason_form d)))))

-- n positions, each after the one before it
abbrev pub set_format : (n : ℕ) → Format (List Pos) (Power n (One (Has position_form)))
set_format n = times n (λ (last : Option Pos). line (tested a_position (ascending last))) (λ last p. Some p) None

-- n reasons of the claim with that number, each with a move after the one before it
abbrev pub reasons_format : (d : Dialect) → ℕ → (n : ℕ) → Format (List Reason) (Power n (One (Has (reason_form d))))
reasons_format d own n = times n (λ last. line (tested (a_reason d) (argued own last))) (λ last r. Some r.mv) None

-- the sizes and the positions, and the reasons for each try, behind claims of these totals
abbrev pub claim_parts : (d : Dialect) → Totals → Format ((ℕ × ℕ) × (List Pos × List Reason)) (ClaimGrammar d)
claim_parts d s =
    told (telling a_claim (λ h. in_all s.positions h.1)) (λ h.
    also (set_format h.1) (λ set.
    counted length (telling a_tries (in_all s.reasons)) (λ n.
    reasons_format d (s.claims + 1) n)))

-- the same parts, made into a claim
abbrev pub claim_format : (d : Dialect) → Totals → Format ClaimState (ClaimGrammar d)
claim_format d s = made (λ x. record { moves = x.0.0; set = x.1.0; reasons = x.1.1 }) (λ c. ((c.moves, length c.set), (c.set, c.reasons))) (claim_parts d s)

-- ---- the file

-- no claim
abbrev pub none_yet : Totals
none_yet = record { claims = 0; positions = 0; reasons = 0 }

-- The grammar: version and dialect, side and number of moves, texts of positions, valid or not, and claims.
abbrev pub RefutationGrammar : Language
RefutationGrammar =
    One (Has a_version.form)
    ⨾ Any (λ (d : Dialect). One (λ t. a_dialect.says t d)
    ⨾ One (Has side_form)
    ⨾ One (Has a_moves.form)
    ⨾ Any (λ (k : ℕ). One (λ t. a_list.says t k)
    ⨾ Power k (One (Has position_form))
    ⨾ Any (λ (c : ℕ). One (λ t. a_claims.says t c)
    ⨾ Power c (ClaimGrammar d)
    ⨾ One (Has an_end.form))))

-- n listed positions
abbrev pub list_format : Side → (n : ℕ) → Format (List Pos) (Power n (One (Has position_form)))
list_format who n = times n (λ first. line (tested a_position (listed who first))) (λ first p. Some (unwrap_or first p)) None

-- n claims behind those with the totals
abbrev pub claims_format : (d : Dialect) → (n : ℕ) → Totals → Format (List ClaimState) (Power n (ClaimGrammar d))
claims_format d n s = times n (claim_format d) with_claim s

-- the parts in their order
abbrev pub refutation_parts : Format (ℕ × (Dialect × (Side × (ℕ × (List Pos × (List ClaimState × Unit {0})))))) RefutationGrammar
refutation_parts =
    also (line a_version) (λ v.
    told (which a_dialect) (λ d.
    also (line a_side) (λ who.
    also (line a_moves) (λ n.
    counted (λ y. length y.0) (which a_list) (λ k.
    also (list_format who k) (λ list.
    counted (λ y. length y.0) (which a_claims) (λ c.
    also (claims_format d c none_yet) (λ claims.
    line an_end))))))))

-- the same parts, made into a refutation
abbrev pub refutation_format : Format RefutationState RefutationGrammar
refutation_format =
    made (λ x. record { dialect = x.1.0; side = x.1.1.0; moves = x.1.1.1.0; list = x.1.1.1.1.0; claims = x.1.1.1.1.1.0 }) (λ s. (1, (s.dialect, (s.side, (s.moves, (s.list, (s.claims, tt))))))) refutation_parts

-- the refutation that lines spell, read line by line
unfoldable pub refutation_at : LineReader RefutationState
refutation_at p = reader refutation_format p

-- which lines spell it: only its positions have more than one spelling
unfoldable pub SpellsRefutation : RefutationState → Language
SpellsRefutation s = table refutation_format s
