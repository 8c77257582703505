-- The words of specs/, of this crate and of those below it, that its proofs cite: passed on from one place.
pub use Rattle.krieg_theory.specs.Can.{begins, can}
pub use Rattle.krieg_theory.specs.Game.{Game, IsGame}
pub use Rattle.krieg_theory.specs.Plans.{IsOutset, Outset, is_over, opening_set, openings}
pub use Rattle.krieg_theory.specs.Sets.{In, is_nil, same}
pub use Rattle.krieg_theory.specs.Split.{class, keys, legal_in_some, mates_at, refused, stale_in_some, tries}
pub use Rattle.krieg_costs.specs.Backing.{behind, first_lost, floor_price}
pub use Rattle.krieg_costs.specs.Block.{Block, Lives, LostClass, LostRefused, NoBlock, Stale, block, block_pair, by_class, lives_in_some, pair_of}
pub use Rattle.krieg_costs.specs.Cost.{made}
pub use Rattle.krieg_costs.specs.Refutation.{ByLife, ByStalemate, Claim, Reason, are_reasons, cited, claim_holds, claims_hold, denies, holds, is_shown, is_within, last_of, refutes}
pub use Rattle.krieg_costs.specs.Sums.{IsOnce, Pair, same_pair, total, up_to}
pub use Rattle.krieg_accounts.specs.Charges.{charged}
pub use Rattle.krieg_accounts.specs.Sound.{IsSound, StoredLost, Table, known}
pub use Rattle.krieg_accounts.specs.Stored.{pairs}
pub use Rattle.krieg_claims.specs.InOrder.{add_all, add_once, claimed, claimed_within, in_order}
pub use Rattle.krieg_claims.specs.Laws.{ClaimedLast, ClaimedOnce, DenialRefutes}
pub use Rattle.krieg_claims.specs.Losses.{is_loss}
pub use Rattle.krieg_claims.specs.Sizes.{AreMany, positions_in, reasons_in}
pub use Rattle.krieg_claims.specs.Standing.{HasBlocks, HasTries, IsLostPair, Stands}
pub use Rattle.krieg_claims.specs.Walks.{Walks, WalksTries, behind_try}
pub use Rattle.krieg_claims.specs.Written.{claim_of, claims, claims_from, claims_of, index_of, place_of, reason_at, reason_of, reasons_at}
