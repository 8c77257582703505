-- The text of a refutation spells it, and is read as it again.
use Rattle.std.proofs.Common.{◌≡◌, true, Ok, refl, arith}
use Rattle.std.specs.Prelude.{codes}
use Rattle.krieg_refutefile.proofs.Common.{Version, Count, lines, is_line, whole, dialect_line, Dialect, Wild16, Anytry, RefutationState, claim_format, refutation_format, refutation_at, a_list, a_claims, a_tries, a_dialect, a_position, a_claim, a_reason, Totals, refutation_text, CanBeWritten, MOST_MOVES, MOST_LISTED, MOST_CLAIMED, MOST_CLAIMS}
use Rattle.krieg_fen.proofs.CleanTexts.{position_line, side_is}
use Rattle.krieg_fen.proofs.ListSpellings.{written_spells}
use Rattle.krieg_words.specs.declared.dialects.Dialect.TheVariants.{Plain}
use Rattle.krieg_format.proofs.LeafTexts.{literal_written, number_written, tested_written, which_written, telling_written}
use Rattle.krieg_format.proofs.Writing.{OwesText, IsWritten, text_again}
use Rattle.krieg_refutefile.proofs.ClaimLines.{claim_written}
use Rattle.krieg_refutefile.proofs.ReasonLines.{reason_written}
use Rattle.krieg_refutefile.proofs.RefutationLaws.{refutation_owes}
use Rattle.krieg_refutefile.proofs.Writables.{fits_from}

dialect_written : IsWritten a_dialect
dialect_written d f = (refl, clean d)
  where
    clean : (d : Dialect) → is_line (dialect_line d) ≡ true
    clean Wild16 = refl
    clean Anytry = refl
    clean Plain = refl

position_written : IsWritten a_position
position_written p valid = (written_spells p valid, position_line p)

claim_writes : (d : Dialect) (s : Totals) → OwesText (claim_format d s)
claim_writes d s = (
  telling_written a_claim _ claim_written,
  λ h. (
    λ last. tested_written a_position _ position_written,
    λ set. (telling_written a_tries _ (number_written Count (codes "tries ") 0 MOST_CLAIMED (omega arith) refl), λ n last. tested_written (a_reason d) _ (reason_written d)),
  ),
)

writes : OwesText refutation_format
writes = (
  number_written Version (codes "krieg refutation ") 1 1 (omega arith) refl,
  λ v. (
    which_written a_dialect dialect_written,
    λ d. (
      λ who f. (refl, side_is who),
      λ who. (
        number_written Count (codes "moves ") 1 MOST_MOVES (omega arith) refl,
        λ n. (
          which_written a_list (number_written Count (codes "list ") 1 MOST_LISTED (omega arith) refl),
          λ k. (
            λ first. tested_written a_position _ position_written,
            λ list. (which_written a_claims (number_written Count (codes "claims ") 1 MOST_CLAIMS (omega arith) refl), λ c. (λ s. claim_writes d s, λ claims. literal_written (codes "end") refl)),
          ),
        ),
      ),
    ),
  ),
)

pub again : (s : RefutationState) → CanBeWritten s → whole refutation_at (lines (refutation_text s)) ≡ Ok s
unfolding refutation_at refutation_text
again s w = text_again refutation_format refutation_owes writes s (fits_from s w)
