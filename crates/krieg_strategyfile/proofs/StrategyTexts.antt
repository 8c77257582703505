-- The text of a strategy spells it, and is read as it again.
use Rattle.std.proofs.Common.{◌≡◌, true, Ok, refl, arith}
use Rattle.std.specs.Prelude.{codes}
use Rattle.krieg_strategyfile.proofs.Common.{Version, Count, lines, is_line, whole, dialect_line, Dialect, Wild16, Anytry, StrategyState, node_format, strategy_format, strategy_at, SpellsStrategy, a_list, a_count, a_root_count, a_dialect, a_position, a_play, an_edge, a_root, Counts, strategy_text, CanBeWritten}
use Rattle.krieg_fen.proofs.CleanTexts.{position_line, side_is}
use Rattle.krieg_fen.proofs.ListSpellings.{written_spells}
use Rattle.krieg_words.specs.declared.dialects.Dialect.TheVariants.{Plain}
use Rattle.krieg_format.proofs.LeafTexts.{literal_written, number_written, tested_written, which_written, telling_written}
use Rattle.krieg_format.proofs.Writing.{OwesText, IsWritten, text_says, text_again}
use Rattle.krieg_strategyfile.proofs.LedLines.{edge_written, root_written}
use Rattle.krieg_strategyfile.proofs.PlayLines.{play_written}
use Rattle.krieg_strategyfile.proofs.StrategyLaws.{strategy_owes}
use Rattle.krieg_strategyfile.proofs.Writables.{fits_from}

dialect_written : IsWritten a_dialect
dialect_written d f = (refl, clean d)
  where
    clean : (d : Dialect) → is_line (dialect_line d) ≡ true
    clean Wild16 = refl
    clean Anytry = refl
    clean Plain = refl

position_written : IsWritten a_position
position_written p valid = (written_spells p valid, position_line p)

node_writes : (d : Dialect) (s : Counts) → OwesText (node_format d s)
node_writes d s = (telling_written a_play _ play_written, λ p last. tested_written (an_edge d) _ (edge_written d))

writes : OwesText strategy_format
writes = (
  number_written Version (codes "krieg strategy ") 1 1 (omega arith) refl,
  λ v. (
    which_written a_dialect dialect_written,
    λ d. (
      λ who f. (refl, side_is who),
      λ who. (
        which_written a_list (number_written Count (codes "list ") 1 200000 (omega arith) refl),
        λ k. (
          λ first. tested_written a_position _ position_written,
          λ list. (
            number_written Count (codes "worst ") 1 2500 (omega arith) refl,
            λ w. (
              which_written a_count (number_written Count (codes "nodes ") 1 100000 (omega arith) refl),
              λ n. (
                λ s. node_writes d s,
                λ nodes. (
                  which_written a_root_count (number_written Count (codes "roots ") 1 50000 (omega arith) refl),
                  λ r. (λ last. tested_written (a_root d) _ (root_written d), λ roots. literal_written (codes "end") refl),
                ),
              ),
            ),
          ),
        ),
      ),
    ),
  ),
)

pub spelled : (s : StrategyState) → CanBeWritten s → SpellsStrategy s (lines (strategy_text s))
unfolding SpellsStrategy strategy_text
spelled s w = text_says strategy_format writes s (fits_from s w)

pub again : (s : StrategyState) → CanBeWritten s → whole strategy_at (lines (strategy_text s)) ≡ Ok s
unfolding strategy_at strategy_text
again s w = text_again strategy_format strategy_owes writes s (fits_from s w)
