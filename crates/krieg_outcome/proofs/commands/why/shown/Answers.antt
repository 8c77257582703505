use Rattle.std.proofs.Common.{rules, ℕ, ◌<◌, ◌≤◌, length, List, ◌++◌, sym, ap, ◌∙◌}
use Rattle.krieg_outcome.proofs.Common.{games_text, MOST_INPUT}
use Rattle.krieg_outcome.proofs.Showing.{none_shown, too_long, answered}
use Rattle.krieg_outcome.proofs.commands.why.shown.Goals as goal

pub returns-then-is_empty : goal.returns-then-is_empty
returns-then-is_empty c = (none_shown c.args.sheet.now c.in_ok-games.games c.in_ok-games.ensures.value (sym c.is_empty.ensures ∙ c.if-is_empty.true), c.in_ok-games.ensures.within)

pub returns-then-len-gt-MOST_INPUT : goal.returns-then-len-gt-MOST_INPUT
returns-then-len-gt-MOST_INPUT c =
    let text = c.in_ok-write_games_of.ensures ∙ ap (λ (old : List ℕ). old ++ games_text c.dialect.result c.in_ok-games.games) c.new-answer.ensures.items in
    let long : MOST_INPUT < length c.write_games_of.new.text.items = search rules in
    too_long c.args.limit c.args.sheet.now c.in_ok-games.games c.in_ok-games.ensures.value c.in_ok-games.ensures.within (sym c.is_empty.ensures ∙ c.if-is_empty.false) c.dialect.result c.dialect.ensures.value
    c.write_games_of.new.text.items text long

pub returns : goal.returns
returns c =
    let text = c.in_ok-write_games_of.ensures ∙ ap (λ (old : List ℕ). old ++ games_text c.dialect.result c.in_ok-games.games) c.new-answer.ensures.items in
    let fits : length c.write_games_of.new.text.items ≤ MOST_INPUT = search rules in
    answered c.args.limit c.args.sheet.now c.in_ok-games.games c.in_ok-games.ensures.value c.in_ok-games.ensures.within (sym c.is_empty.ensures ∙ c.if-is_empty.false) c.dialect.result c.dialect.ensures.value
    c.write_games_of.new.text.items text fits
