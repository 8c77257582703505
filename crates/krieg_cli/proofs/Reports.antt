-- What err gets: the whole line, or a front part of it and a fault.
use Rattle.std.proofs.Common.{◌≡◌, ℕ, List, Result, Ok, Err, refl, inl, inr}
use Rattle.std.specs.Prelude.{OnOk, OnErr}
use Rattle.std.specs.Io.KnownBytes.{Appends}
use Rattle.krieg_cli.proofs.Common.{AppendsPrefix, Stream, FaultsRose, NoFault, line_of, Gets, Reports, Ending, Answered}

gets : {A E : Type 0} (r : Result A E) (line : List ℕ) (before after : Stream) →
    OnOk r (Appends before.bytes after.bytes line) → OnOk r (NoFault before after) → OnErr r (AppendsPrefix before.bytes after.bytes line) → OnErr r (FaultsRose before after) →
    Gets line before after
gets (Ok x) line before after all none part rose = inl (all, none)
gets (Err e) line before after all none part rose = inr (part, rose)

of_line : (ending : Ending) (before after : Stream) → (ending ≡ Answered → ⊥) → Gets (line_of ending) before after → Reports ending before after
of_line Answered before after unanswered line = absurd (unanswered refl)
of_line _ before after unanswered line = line

pub reports : {A E : Type 0} (r : Result A E) (ending : Ending) (before after : Stream) → (ending ≡ Answered → ⊥) →
    OnOk r (Appends before.bytes after.bytes (line_of ending)) → OnOk r (NoFault before after) → OnErr r (AppendsPrefix before.bytes after.bytes (line_of ending)) → OnErr r (FaultsRose before after) →
    Reports ending before after
reports r ending before after unanswered all none part rose = of_line ending before after unanswered (gets r (line_of ending) before after all none part rose)
