-- The words of specs/, of this crate and of those below it, that its proofs cite: passed on from one place.
pub use Rattle.krieg_board.specs.Pos.{Pos}
pub use Rattle.krieg_board.specs.declared.men.Move.{Move}
pub use Rattle.krieg_theory.specs.Sets.{In}
pub use Rattle.krieg_costs.specs.Sums.{IsOnce, same_list, total}
pub use Rattle.krieg_accounts.specs.Stored.{AddsResult, Entries, PairOf, pairs, same_entry, stored}
pub use Rattle.krieg_pack.specs.Order.{position_cmp, position_eq, position_lt}
pub use Rattle.krieg_pack.specs.OrderLaws.{position_total}
pub use Rattle.krieg_pack.specs.SameNumbers.{same_position}
unfoldable pub use Rattle.krieg_table.specs.Entries.{entries}
pub use Rattle.krieg_table.specs.Entries.{lost_entries, row_entries, try_of, won_entries}
pub use Rattle.krieg_table.specs.SetRows.{SetRows, Row, interned, known_at, number_of, row_at, set_at, sets, with_result}
pub use Rattle.krieg_table.specs.Results.{AreResults, Follows, Results, known_for, nothing, with_known, won_for}
pub use Rattle.krieg_table.specs.Table.{IsInterned, IsNext, IsNoted, IsTable}
pub use Rattle.krieg_table.specs.declared.set_result.SetResult.{SetResult}
pub use Rattle.krieg_table.specs.declared.set_result.SetResult.TheVariants.{Loses, Wins}
pub use Rattle.krieg_table.specs.declared.set_result.Win.{Win}
