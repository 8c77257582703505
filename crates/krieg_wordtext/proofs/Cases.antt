-- What stands after a name in a text, or that it does not begin so.
use Rattle.std.proofs.Common.{◌≡◌, ℕ, List, ◌++◌, Option, Some, None, refl}
use Rattle.krieg_wordtext.proofs.Common.{behind}
use Rattle.krieg_text.proofs.NameLemmas.{behind_spells}

pub by_front : (P : Option (List ℕ) → Type 0) (name text : List ℕ) → ((rest : List ℕ) → text ≡ name ++ rest → P (Some rest)) → P None → P (behind name text)
by_front P name text begins other = by_rest (behind name text) refl
  where
    by_rest : (y : Option (List ℕ)) → behind name text ≡ y → P y
    by_rest None is = other
    by_rest (Some rest) is = begins rest (behind_spells name text rest is)
