use Rattle.std.proofs.Common.{◌≡◌, length, map, take, ◌+◌, ◌-◌, ◌*◌, ◌^◌}
use Rattle.krieg_refute.proofs.Common.{Move, reason_at, WalksTries, Key, chess, AddsSets, Note, reason_of, pairs_in, IsClaimList, set_at}
use Rattle.krieg_costs.specs.Refutation.{Reason}
use Rattle.krieg_refute.proofs.claiming.+claim.Given as goal

-- first the number of moves counts, then the members; no set has 2 ^ 64
abbrev pub decreases-claim : goal.decreases-claim
decreases-claim l = 8 * (l.asked.moves * 2 ^ 64 + length (set_at l.table.now l.asked.set)) + 3

abbrev pub decreases-reasons_of : goal.decreases-reasons_of
decreases-reasons_of l = 8 * (l.asked.moves * 2 ^ 64 + length (set_at l.table.now l.asked.set)) + 2

abbrev pub decreases-reasons_for : goal.decreases-reasons_for
decreases-reasons_for l = 8 * (l.asked.moves * 2 ^ 64 + length (set_at l.table.now l.asked.set)) + 1

abbrev pub decreases-why : goal.decreases-why
decreases-why l = 8 * (l.asked.moves * 2 ^ 64 + length (set_at l.table.now l.asked.set))

abbrev pub invariant-reasons_for-loop-note : goal.invariant-reasons_for-loop-note
invariant-reasons_for-loop-note l = record {
  sets : AddsSets l.initial.table l.table;
  claimed : IsClaimList l.setting.way.d l.table l.claimed;
  walked : WalksTries (chess l.setting.way.d) (pairs_in l.initial.table l.initial.claimed.places.keys) (pairs_in l.table l.claimed.places.keys) (set_at l.initial.table l.asked.set) (l.asked.moves - 1) (take l.note-index (map (λ (n : Note). n.mv) l.row));
  reasons : map reason_of l.reasons.items ≡ map {B = Move × Reason Key} (λ t. (t, reason_at (chess l.setting.way.d) (pairs_in l.table l.claimed.places.keys) l.asked.moves (set_at l.initial.table l.asked.set) t)) (take l.note-index (map (λ (n : Note). n.mv) l.row));
}
