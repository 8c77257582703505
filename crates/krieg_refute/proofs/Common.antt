-- The words of specs/, of this crate and of those below it, that its proofs cite: passed on from one place.
pub use Rattle.krieg_board.specs.Men.{is_same_side}
pub use Rattle.krieg_board.specs.Pos.{Pos}
pub use Rattle.krieg_board.specs.declared.men.Move.{Move}
pub use Rattle.krieg_board.specs.declared.men.Side.{Side}
pub use Rattle.krieg_board.specs.declared.men.Side.TheVariants.{Black, White}
pub use Rattle.krieg_words.specs.declared.dialects.Dialect.{Dialect}
pub use Rattle.krieg_theory.specs.Can.{can}
pub use Rattle.krieg_theory.specs.Plans.{can_plan, is_over, opening_set, openings}
pub use Rattle.krieg_theory.specs.Sets.{is_nil}
pub use Rattle.krieg_theory.specs.Split.{class, keys, legal_in_some, refused, tries}
pub use Rattle.krieg_costs.specs.Backing.{behind, first_lost}
pub use Rattle.krieg_costs.specs.Block.{Block, Lives, LostClass, LostRefused, NoBlock, Stale, block, block_pair, pair_of}
pub use Rattle.krieg_costs.specs.Refutation.{ByClass, ByLife, ByRefused, ByStalemate}
pub use Rattle.krieg_costs.specs.Sums.{IsOnce, same_pair}
pub use Rattle.krieg_accounts.specs.Sound.{StoredLost}
pub use Rattle.krieg_accounts.specs.Stored.{stored}
pub use Rattle.krieg_claims.specs.InOrder.{add_all, claimed}
pub use Rattle.krieg_claims.specs.Losses.{is_loss}
pub use Rattle.krieg_claims.specs.Sizes.{AreFew, AreMany, positions_in, reasons_in}
pub use Rattle.krieg_claims.specs.Standing.{HasTries, Stands}
pub use Rattle.krieg_claims.specs.Walks.{Walks, WalksTries, behind_try}
pub use Rattle.krieg_claims.specs.Written.{claims, claims_from, denial, index_of, place_of, reason_at}
pub use Rattle.krieg_pack.specs.Order.{position_lt}
pub use Rattle.krieg_game.specs.Chess.{chess}
pub use Rattle.krieg_game.specs.Classes.{class_pair}
pub use Rattle.krieg_game.specs.Keys.{Key, RootKey}
pub use Rattle.krieg_game.specs.Outset.{outset}
pub use Rattle.krieg_parting.specs.Mating.{lives}
unfoldable pub use Rattle.krieg_table.specs.Entries.{entries}
pub use Rattle.krieg_table.specs.SetRows.{SetRows, set_at, sets}
pub use Rattle.krieg_table.specs.Table.{IsMore}
pub use Rattle.krieg_parting.specs.Turns.{IsOthersTurn, IsOwnTurn}
pub use Rattle.krieg_search.specs.Decision.{IsAccount, IsDecision, sets_in}
pub use Rattle.krieg_search.specs.Remainders.{FailsAtOnce, Leaves}
pub use Rattle.krieg_search.specs.Notes.{IsBlock, IsRow}
pub use Rattle.krieg_search.specs.Openings.{AddsSets, opening_in}
pub use Rattle.krieg_search.specs.Stretches.{IsReady}
pub use Rattle.krieg_search.specs.declared.decide.Findings.{Findings}
pub use Rattle.krieg_search.specs.declared.remainder.Remainder.{Remainder}
pub use Rattle.krieg_search.specs.declared.notes.Question.{Question}
pub use Rattle.krieg_search.specs.declared.notes.Note.{Note}
pub use Rattle.krieg_search.specs.declared.openings.Opening.{Opening}
pub use Rattle.krieg_search.specs.declared.stop.SearchStop.{SearchStop}
pub use Rattle.krieg_search.specs.declared.stop.SearchStop.TheVariants.{Large, NoMemory, Spent}
pub use Rattle.krieg_refute.specs.Blocking.{IsBlockedBy}
pub use Rattle.krieg_refute.specs.Claiming.{AreClaims, Blocks, Claims, IsClaimList, IsLost, IsNext, IsPushed, Reasons, at_once_reason, is_lost_class, is_lost_opening, pairs_in}
pub use Rattle.krieg_refute.specs.Drafts.{AreWithin, HaveSets, claim_over, claims_over, set_in}
pub use Rattle.krieg_refutation.specs.Refutations.{claim_of, claims_of, most_claimed, most_claims, reason_of, why_of}
pub use Rattle.krieg_refute.specs.RefuteAnswers.{IsDenial, IsDenied, IsMated, IsOneSide, IsTaken, side_of}
pub use Rattle.krieg_refute.specs.declared.claiming.ClaimList.{ClaimList}
pub use Rattle.krieg_refute.specs.declared.claims.Draft.{Draft}
pub use Rattle.krieg_refute.specs.declared.claims.SetPlace.{SetPlace}
pub use Rattle.krieg_refute.specs.declared.claims.SetPlace.TheVariants.{Here}
pub use Rattle.krieg_refutation.specs.declared.refutation.Why.{Why}
pub use Rattle.krieg_refutation.specs.declared.refutation.Why.TheVariants.{Class, Refused}
pub use Rattle.krieg_refute.specs.declared.refuting.Denied.{Denied}
