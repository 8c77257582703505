use Rattle.std.proofs.Common.{◌≡◌, ◌++◌, length}
use Rattle.std.specs.Vec.Iter.{into_iter_items, into_iter_len}
use Rattle.krieg_refute.proofs.Common.{claims_over, AreWithin, HaveSets}
use Rattle.krieg_refute.proofs.claims.claims_of.Given as goal

-- the claims of the drafts before this one, and where the sets are
abbrev pub invariant-loop-draft : goal.invariant-loop-draft
invariant-loop-draft l = record {
  claims : l.claims.items ++ claims_over l.fn.table (into_iter_items l.draft-iterator) ≡ claims_over l.fn.table l.fn.drafts.items;
  sets : HaveSets l.claims.items l.slots.items l.fn.table;
  within : AreWithin l.fn.table (into_iter_items l.draft-iterator);
  counted : into_iter_len l.draft-iterator ≡ length (into_iter_items l.draft-iterator);
}
