use Rattle.krieg_split.proofs.Tallying.{IsWalk}
use Rattle.krieg_split.proofs.tallies.add_member.Given as goal

abbrev pub invariant-loop-tally : goal.invariant-loop-tally
invariant-loop-tally l = IsWalk l.p l.moves l.initial.tallies l.tallies l.tally-index l.next
