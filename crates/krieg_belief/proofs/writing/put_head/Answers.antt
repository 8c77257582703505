use Rattle.std.proofs.Common.{rules, [], ◌∷◌, ◌++◌, sym, ap, ◌∙◌, append_assoc}
use Rattle.std.specs.Prelude.{codes}
use Rattle.krieg_text.specs.Decimals.{number_text}
use Rattle.krieg_text.specs.Writing.{HasLines, PutsLines, alone}
use Rattle.krieg_words.specs.Dialects.{dialect_text}
use Rattle.krieg_belief.proofs.GivenGames.{one_then}
use Rattle.krieg_belief.proofs.writing.put_head.Goals as goal

pub returns : goal.returns
returns c =
    let dialect = codes "dialect " ∷ dialect_text c.args.d ∷ [] in
    let games = codes "games " ∷ number_text c.args.count ∷ [] in
    let named : HasLines c.line.new.self c.put_dialect_line.new.text (dialect ∷ []) =
    (c.in_ok-put_dialect_line.ensures.0, c.in_ok-put_dialect_line.ensures.1 ∙ ap (λ t. t ++ (10 ∷ [])) (sym (append_assoc c.line.new.self.written (codes "dialect ") (dialect_text c.args.d)))) in
    let last : PutsLines c.end_line.result c.put_dialect_line.new.text c.end_line.new.self (games ∷ []) = search rules in
    one_then c.end_line.result c.args.text.now c.line.new.self c.end_line.new.self (alone (codes "krieg games 1")) (dialect ∷ games ∷ []) c.in_ok-line.ensures
    (one_then c.end_line.result c.line.new.self c.put_dialect_line.new.text c.end_line.new.self dialect (games ∷ []) named last)
