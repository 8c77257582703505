use Rattle.std.proofs.Common.{◌≡◌, ◌==◌, true, sym, ◌∙◌}
use Rattle.krieg_words.specs.Dialects.{dialect_rules}
use Rattle.krieg_words.specs.PawnTries.{tries}
use Rattle.krieg_words.specs.ToldMoves.{has_end}
use Rattle.krieg_words.specs.ToldWords.{tries_told}
use Rattle.krieg_words.proofs.told_moves.are_moves_told.Goals as goal

pub returns-then-has_end : goal.returns-then-has_end
returns-then-has_end c =
    let ends : has_end c.args.w.now.end c.args.p.now ≡ true = (λ i. has_end (sym c.w.view_is i).end c.args.p.now) ∙ sym c.has_end.ensures ∙ c.if-has_end.true in
    let told : c.tries_of.result ≡ tries_told (dialect_rules c.args.d).tries (tries c.args.p.now) = c.tries_of.ensures ∙ (λ i. tries_told (c.dialect_rules.ensures i).tries (tries c.args.p.now)) in
    rw ends (λ i. (c.w.view_is i).tries == told i)
