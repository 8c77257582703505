use Rattle.std.proofs.Common.{◌≡◌, true, sym, ap, ◌∙◌}
use Rattle.krieg_moves.specs.After.{is_en_passant}
use Rattle.krieg_words.specs.declared.words.Took.TheVariants.{Pawn}
use Rattle.krieg_words.proofs.words_of_moves.took_by.Goals as goal

pub returns-then-is_en_passant : goal.returns-then-is_en_passant
returns-then-is_en_passant c =
    let passes : is_en_passant c.args.p.now.mark c.in-Some.man c.args.mv.now ≡ true = (λ i. is_en_passant (sym c.mark.ensures.value i) c.in-Some.man c.args.mv.now) ∙ sym c.is_en_passant.ensures ∙ c.if-is_en_passant.true in
    rw (c.in-Some.is, passes) (ap Pawn c.passed_square.ensures)
