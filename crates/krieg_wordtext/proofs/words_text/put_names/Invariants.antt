use Rattle.std.proofs.Common.{◌≡◌, ◌++◌, drop, map}
use Rattle.std.specs.Prelude.{codes}
use Rattle.krieg_wordtext.proofs.Common.{joined_by, kind_names}
use Rattle.krieg_wordtext.proofs.WordsWritten.{put_parts}
use Rattle.krieg_wordtext.proofs.words_text.put_names.Given as goal

-- the names that are left, put after those that are there, give all of them
abbrev pub invariant-loop-there : goal.invariant-loop-there
invariant-loop-there l = record {
  before : l.text.before ≡ l.fn.text.before;
  written :
      put_parts (codes "+") l.text.written l.before (map (λ p. (p.0, p.1.now)) (drop l.there-index l.there-items))
      ≡ l.fn.text.written ++ joined_by (codes "+") (kind_names l.fn.kinds);
}
