use Rattle.std.proofs.Common.{sym}
use Rattle.krieg_words.specs.ToldWords.{took_told}
use Rattle.krieg_words.proofs.told_words.took_told.Goals as goal

pub returns-in-Alike-Pawn : goal.returns-in-Alike-Pawn
returns-in-Alike-Pawn c = sym (λ i. took_told (c.in-Alike-Pawn.is-0 i) (c.in-Alike-Pawn.is-1 i))
