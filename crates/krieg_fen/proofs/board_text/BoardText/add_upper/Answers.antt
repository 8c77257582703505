use Rattle.std.proofs.Common.{◌++◌, ◌∷◌, [], ap, ◌∙◌, length, append_assoc, length-append, arith}
use Rattle.std.proofs.lemmas.List.{take_more_set, length-take-le}
use Rattle.krieg_fen.proofs.board_text.BoardText.add_upper.Goals as goal

pub returns-clause-text : goal.returns-clause-text
returns-clause-text c =
    let here = c.self.view_is ∙ c.add.ensures.text in
    let size = length-take-le c.self.inside.len c.self.inside.bytes (omega arith) in
    take_more_set c.self.inside.bytes c.self.inside.len 47 (omega (arith, size, ap length here, length-append c.args.self.now c.args.rank.now))
    ∙ ap (λ t. t ++ (47 ∷ [])) here ∙ append_assoc c.args.self.now c.args.rank.now (47 ∷ [])
