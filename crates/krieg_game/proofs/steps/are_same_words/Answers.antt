use Rattle.std.proofs.Common.{ap, sym, ◌∙◌}
use Rattle.std.proofs.lemmas.Bool.{eqb-true}
use Rattle.krieg_words.proofs.WordNumbers.{words_back}
use Rattle.krieg_game.proofs.Common.{words_at}
use Rattle.krieg_game.proofs.steps.are_same_words.Goals as goal

pub returns : goal.returns
returns c = λ e.
    let a = c.words_number.ensures in
    let b = c.words_number-2.ensures in
    sym (words_back _ a.said) ∙ ap words_at (sym a.value ∙ eqb-true _ _ e ∙ b.value) ∙ words_back _ b.said
