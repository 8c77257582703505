use Rattle.std.proofs.Common.{◌≡◌, List, ℕ, Option, Some, None, is_some, Bor, refl, ap, ◌∙◌}
use Rattle.std.specs.Option.{option_copied}
use Rattle.krieg_text.proofs.NameLemmas.{name_there}
use Rattle.krieg_text.proofs.names.is_name.Goals as goal

copied : (r : Option (Bor (List ℕ))) → is_some r ≡ is_some (option_copied r)
copied None = refl
copied (Some x) = refl

pub returns-then-text-name : goal.returns-then-text-name
returns-then-text-name c =
    c.is_some.ensures ∙ copied c.behind.result ∙ ap is_some c.behind.ensures ∙ name_there c.args.name.now c.args.text.now c.if-text-name.true
