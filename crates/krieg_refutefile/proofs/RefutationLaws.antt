-- A refutation file: what is read is what is spelled, and a fault is the first bad line.
use Rattle.std.proofs.Common.{◌≡◌, ℕ, ◌≤◌, Bool, true, false, List, ◌++◌, Option, Some, None, Result, Ok, refl, sym, ap, ◌∙◌, arith}
use Rattle.std.specs.Prelude.{codes}
use Rattle.krieg_refutefile.proofs.Common.{Pos, Side, White, TextFault, TextKind, Version, Count, Differs, OutOfPlace, Large, number_text, is_beyond_form, Has, number_form, Always, IsReading, whole, Gives, joined, side_form, position_form, unnamed_dialect, dialect_form, Dialect, word_form, RefutationState, a_version, a_moves, a_list, a_claims, a_tries, a_dialect, a_side, a_position, a_claim, a_reason, where_not, listed, Totals, set_format, claim_format, refutation_format, refutation_at, SpellsRefutation, RefutationGrammar, claim_line, MOST_MOVES, MOST_LISTED, MOST_CLAIMED, MOST_CLAIMS}
use Rattle.krieg_text.proofs.FormSpellings.{number_read}
use Rattle.krieg_fen.proofs.FormSpellings.{positions, side_spells, side_again}
use Rattle.krieg_fen.proofs.ListGrammars.{lone_kings, kings_valid, written_form}
use Rattle.krieg_wordtext.proofs.VersionSpellings.{line_is, line_read}
use Rattle.krieg_format.proofs.Judged.{IsLine, Sample, each_length}
use Rattle.krieg_format.proofs.Leaves.{IsBeyond, formed_law, formed_some, literal_law, number_law, tested_law, which_law, telling_law}
use Rattle.krieg_format.proofs.Reading.{Owes, format_reading}
use Rattle.krieg_refutefile.proofs.ClaimLines.{claim_law, some_claim}
use Rattle.krieg_refutefile.proofs.ReasonLines.{reason_law, some_reason}

-- ---- the lines

some_number : (outside : TextKind) (name : List ℕ) (least most : ℕ) → most ≤ MOST_CLAIMED → least ≤ most → number_form outside name least most (name ++ number_text most) ≡ Ok most
some_number outside name least most few low = number_read outside name least most most (omega (arith, few)) low (omega arith)

dialect_law : IsLine a_dialect
dialect_law = formed_law (record { found = λ l d e. line_is l d e; only = λ l d s. ap dialect_form s ∙ line_read d })

side_law : IsLine a_side
side_law = formed_law (record { found = λ l who e. side_spells l who e; only = λ l who s. ap side_form s ∙ side_again who })

position_law : IsLine a_position
position_law = formed_law positions

some_position : Sample Pos (Has position_form)
some_position = formed_some position_form _ _ (written_form (lone_kings White) (kings_valid White))

-- ---- the tests

beyond : (k : TextKind) → is_beyond_form k ≡ true → (good : Bool) (kind : TextKind) → where_not k good ≡ Some kind → is_beyond_form kind ≡ true
beyond k is true kind e = absurd cc
beyond k is false kind e = let same : k ≡ kind = cc in ap is_beyond_form (sym same) ∙ is

listed_beyond : (who : Side) (first : Option Pos) → IsBeyond (listed who first)
listed_beyond who None p kind e = beyond OutOfPlace refl _ kind e
listed_beyond who (Some first) p kind e = beyond Differs refl _ kind e

-- ---- the file

pub set_owes : (n : ℕ) → Owes (set_format n)
set_owes n last = (tested_law a_position _ (λ p kind e. beyond OutOfPlace refl _ kind e) position_law, some_position)

pub claim_owes : (d : Dialect) (s : Totals) → Owes (claim_format d s)
claim_owes d s = (
  λ x ls e. ap (λ (k : ℕ). ((x.0.0, k), (x.1.0, x.1.1))) (each_length x.0.1 _ _ _ x.1.0 _ e.second.first),
  λ c. refl,
  (
    telling_law a_claim _ (λ h kind e. beyond Large refl _ kind e) claim_law (joined (claim_line 1 1)) (1, 1) some_claim,
    λ h. (
      set_owes h.1,
      λ set. (
        telling_law a_tries _ (λ n kind e. beyond Large refl _ kind e) (number_law Count (codes "tries ") 0 MOST_CLAIMED (omega arith)) _ _ (some_number Count (codes "tries ") 0 MOST_CLAIMED (omega arith) (omega arith)),
        λ n last. (tested_law (a_reason d) _ (λ r kind e. beyond OutOfPlace refl _ kind e) (reason_law d), some_reason d),
        λ n rs ls e. each_length n _ _ _ rs _ e,
      ),
    ),
  ),
)

pub refutation_owes : Owes refutation_format
refutation_owes = (
  λ x ls e. ap (λ (v : ℕ). (v, x.1)) (one x.0 e.first.says.0 e.first.says.1),
  λ s. refl,
  (
    (number_law Version (codes "krieg refutation ") 1 1 (omega arith), formed_some a_version.form _ _ (some_number Version (codes "krieg refutation ") 1 1 (omega arith) (omega arith))),
    λ v. (
      which_law a_dialect dialect_law _ _ (line_read unnamed_dialect),
      λ d. (
        (side_law, formed_some side_form _ _ (side_again White)),
        λ who. (
          (number_law Count (codes "moves ") 1 MOST_MOVES (omega arith), formed_some a_moves.form _ _ (some_number Count (codes "moves ") 1 MOST_MOVES (omega arith) (omega arith))),
          λ n. (
            which_law a_list (number_law Count (codes "list ") 1 MOST_LISTED (omega arith)) _ _ (some_number Count (codes "list ") 1 MOST_LISTED (omega arith) (omega arith)),
            λ k. (
              λ first. (tested_law a_position _ (listed_beyond who first) position_law, some_position),
              λ list. (
                which_law a_claims (number_law Count (codes "claims ") 1 MOST_CLAIMS (omega arith)) _ _ (some_number Count (codes "claims ") 1 MOST_CLAIMS (omega arith) (omega arith)),
                λ c. (λ s. claim_owes d s, λ claims. (literal_law (codes "end"), formed_some (word_form (codes "end")) (codes "end") tt refl)),
                λ c y ls e. each_length c _ _ _ y.0 _ e.first,
              ),
            ),
            λ k y ls e. each_length k _ _ _ y.0 _ e.first,
          ),
        ),
      ),
    ),
  ),
)
  where
    one : (v : ℕ) → 1 ≤ v → v ≤ 1 → 1 ≡ v
    one v low high = omega arith

pub refutation_reading : {X : Type 0} (view : X → RefutationState) (answer : Result X TextFault) (ls : List (List ℕ)) → Gives view answer (whole refutation_at ls) →
    IsReading view refutation_at Always SpellsRefutation RefutationGrammar ls answer
unfolding refutation_at SpellsRefutation
refutation_reading view answer ls given = format_reading refutation_format refutation_owes view answer ls given
