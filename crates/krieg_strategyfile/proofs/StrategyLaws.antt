-- A strategy file: what is read is what is spelled, and a fault is the first bad line.
use Rattle.std.proofs.Common.{◌≡◌, ℕ, ◌+◌, ◌≤◌, Bool, true, false, cond, List, ◌++◌, length, Option, Some, None, Result, Ok, refl, sym, ap, ◌∙◌, arith}
use Rattle.std.specs.Prelude.{codes, nat_le}
use Rattle.krieg_strategyfile.proofs.Common.{Pos, Side, White, TextFault, TextKind, Version, Count, Differs, OutOfPlace, Large, number_text, is_beyond_form, Has, number_form, Always, IsReading, whole, Gives, joined, side_form, position_form, unnamed_dialect, dialect_form, Dialect, StrategyState, MOST_EDGES, a_version, a_list, a_worst, a_count, a_root_count, a_dialect, a_side, a_position, a_play, an_edge, a_root, an_end, where_not, listed, Counts, leads_below, played, rooted, RootKey, waits, node_format, strategy_format, strategy_at, SpellsStrategy, StrategyGrammar, play_line}
use Rattle.krieg_format.specs.Descriptions.{line}
use Rattle.krieg_format.specs.Lines.{tested}
use Rattle.krieg_text.proofs.FormSpellings.{number_read}
use Rattle.krieg_fen.proofs.FormSpellings.{positions, side_spells, side_again}
use Rattle.krieg_fen.proofs.ListGrammars.{lone_kings, kings_valid, written_form}
use Rattle.krieg_wordtext.proofs.VersionSpellings.{line_is, line_read}
use Rattle.krieg_format.proofs.Judged.{IsLine, Sample, each_length}
use Rattle.krieg_format.proofs.Leaves.{IsBeyond, formed_law, formed_some, literal_law, number_law, tested_law, which_law, telling_law}
use Rattle.krieg_format.proofs.Reading.{Owes, format_reading}
use Rattle.krieg_strategyfile.proofs.LedLines.{edge_law, some_edge, root_law, some_root}
use Rattle.krieg_strategyfile.proofs.PlayLines.{play_law, some_play, play_read}

-- ---- the lines

some_number : (outside : TextKind) (name : List ℕ) (least most : ℕ) → most ≤ 200000 → least ≤ most → number_form outside name least most (name ++ number_text most) ≡ Ok most
some_number outside name least most few low = number_read outside name least most most (omega (arith, few)) low (omega arith)

dialect_law : IsLine a_dialect
dialect_law = formed_law (record { found = λ l d e. line_is l d e; only = λ l d s. ap dialect_form s ∙ line_read d })

side_law : IsLine a_side
side_law = formed_law (record { found = λ l who e. side_spells l who e; only = λ l who s. ap side_form s ∙ side_again who })

position_law : IsLine a_position
position_law = formed_law positions

some_position : Sample Pos (Has position_form)
some_position = formed_some position_form _ _ (written_form (lone_kings White) (kings_valid White))

-- ---- the tests

beyond : (k : TextKind) → is_beyond_form k ≡ true → (good : Bool) (kind : TextKind) → where_not k good ≡ Some kind → is_beyond_form kind ≡ true
beyond k is true kind e = absurd cc
beyond k is false kind e = let same : k ≡ kind = cc in ap is_beyond_form (sym same) ∙ is

listed_beyond : (who : Side) (first : Option Pos) → IsBeyond (listed who first)
listed_beyond who None p kind e = absurd cc
listed_beyond who (Some first) p kind e = beyond Differs refl _ kind e

played_beyond : (s : Counts) → IsBeyond (played s)
played_beyond s p kind e = go (leads_below s.nodes p.no) e
  where
    go : (t : Bool) → cond t (where_not Large (nat_le (s.edges + p.edges) MOST_EDGES)) (Some OutOfPlace) ≡ Some kind → is_beyond_form kind ≡ true
    go true h = beyond Large refl _ kind h
    go false h = let same : OutOfPlace ≡ kind = cc in ap is_beyond_form (sym same)

-- ---- the file

pub node_owes : (d : Dialect) (s : Counts) → Owes (node_format d s)
node_owes d s = (
  λ x ls e. ap (λ (k : ℕ). (record { mv = x.0.mv; no = x.0.no; edges = k }, x.1)) (each_length x.0.edges _ _ _ x.1 _ e.second),
  λ n. refl,
  (
    telling_law a_play _ (played_beyond s) play_law (joined (play_line some_play)) some_play play_read,
    λ p last. (tested_law (an_edge d) _ (λ e kind h. beyond OutOfPlace refl _ kind h) (edge_law d), some_edge d),
  ),
)

pub root_owes : (d : Dialect) (waiting : Bool) (nodes : ℕ) (last : Option RootKey) → Owes (line (tested (a_root d) (rooted waiting nodes last)))
root_owes d waiting nodes last = (tested_law (a_root d) _ (λ x kind h. beyond OutOfPlace refl _ kind h) (root_law d), some_root d)

pub strategy_owes : Owes strategy_format
strategy_owes = (
  λ x ls e. ap (λ (v : ℕ). (v, x.1)) (one x.0 e.first.says.0 e.first.says.1),
  λ s. refl,
  (
    (number_law Version (codes "krieg strategy ") 1 1 (omega arith), formed_some a_version.form _ _ (some_number Version (codes "krieg strategy ") 1 1 (omega arith) (omega arith))),
    λ v. (
      which_law a_dialect dialect_law _ _ (line_read unnamed_dialect),
      λ d. (
        (side_law, formed_some side_form _ _ (side_again White)),
        λ who. (
          which_law a_list (number_law Count (codes "list ") 1 200000 (omega arith)) _ _ (some_number Count (codes "list ") 1 200000 (omega arith) (omega arith)),
          λ k. (
            λ first. (tested_law a_position _ (listed_beyond who first) position_law, some_position),
            λ list. (
              (number_law Count (codes "worst ") 1 2500 (omega arith), formed_some a_worst.form _ _ (some_number Count (codes "worst ") 1 2500 (omega arith) (omega arith))),
              λ w. (
                which_law a_count (number_law Count (codes "nodes ") 1 100000 (omega arith)) _ _ (some_number Count (codes "nodes ") 1 100000 (omega arith) (omega arith)),
                λ n. (
                  λ s. node_owes d s,
                  λ nodes. (
                    which_law a_root_count (number_law Count (codes "roots ") 1 50000 (omega arith)) _ _ (some_number Count (codes "roots ") 1 50000 (omega arith) (omega arith)),
                    λ r. (
                      λ last. root_owes d (waits who list) (length nodes) last,
                      λ roots. (literal_law (codes "end"), formed_some an_end.form (codes "end") tt refl),
                    ),
                    λ r y ls e. each_length r _ _ _ y.0 _ e.first,
                  ),
                ),
                λ n y ls e. each_length n _ _ _ y.0 _ e.first,
              ),
            ),
          ),
          λ k y ls e. each_length k _ _ _ y.0 _ e.first,
        ),
      ),
    ),
  ),
)
  where
    one : (v : ℕ) → 1 ≤ v → v ≤ 1 → 1 ≡ v
    one v low high = omega arith

pub strategy_reading : {X : Type 0} (view : X → StrategyState) (answer : Result X TextFault) (ls : List (List ℕ)) → Gives view answer (whole strategy_at ls) →
    IsReading view strategy_at Always SpellsStrategy StrategyGrammar ls answer
unfolding strategy_at SpellsStrategy
strategy_reading view answer ls given = format_reading strategy_format strategy_owes view answer ls given
