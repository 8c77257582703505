-- What holds of the commands that each row makes of numbers in their ranges holds of each command of a program.
use Rattle.std.proofs.Common.{◌≡◌, ℕ, ◌≤◌, Bool, true, false, ◌&&◌, leb, cond, List, [], ◌∷◌, Option, Some, None, Ok, Err, refl, subst, rules}
use Rattle.std.proofs.lemmas.Bool.{leb-true, and_parts}
use Rattle.std.proofs.lemmas.Option.{option_and_then_some}
use Rattle.std.specs.Option.{option_or}
use Rattle.std.specs.Prelude.{option_map}
use Rattle.std.specs.Result.{result_ok}
use Rattle.std.specs.Str.{bytes_eq}
use Rattle.krieg_text.specs.Decimals.{is_plain, plain_value}
use Rattle.krieg_text.specs.declared.number.NumberFault.TheVariants.{NotPlain, OutOfRange}
use Rattle.krieg_args.specs.Kinds.{Kind, Number, Whose, Made, File, Value, Values, read, read_first, read_all, Makes, made, made_of, find_search}
use Rattle.krieg_args.specs.Rows.{Row, command_in, krieg_rows, find_rows}
use Rattle.krieg_args.specs.Command.{command_of, find_of, IsInRange}
use Rattle.krieg_args.specs.declared.command.Command.{Command}
use Rattle.krieg_args.specs.declared.command.Command.TheVariants.{Find}

-- a number that was read is in its range
abbrev IsWithin : (k : Kind) → Value k → Type 0
IsWithin (Number least most) n = (least ≤ n) × (n ≤ most)
IsWithin _ v = Unit {0}

-- so are all of them
abbrev pub AreWithin : (ks : List Kind) → Values ks → Type 0
AreWithin [] v = Unit {0}
AreWithin (k ∷ ks) v = IsWithin k v.0 × AreWithin ks v.1

chosen : (least most v n : ℕ) (plain fits : Bool) → (leb least v && leb v most) ≡ fits → result_ok (cond plain (cond fits (Ok v) (Err OutOfRange)) (Err NotPlain)) ≡ Some n → (least ≤ n) × (n ≤ most)
chosen least most v n true true is e =
    let same : v ≡ n = cc in
    let p = and_parts (leb least v) (leb v most) is in
    subst (λ (m : ℕ). (least ≤ m) × (m ≤ most)) same (leb-true _ _ p.0, leb-true _ _ p.1)
chosen least most v n true false is e = absurd cc
chosen least most v n false fits is e = absurd cc

within : (k : Kind) (word : List ℕ) (v : Value k) → read k word ≡ Some v → IsWithin k v
within (Number least most) word n e = chosen least most (plain_value word) n (is_plain word) _ refl e
within Whose word v e = tt
within Made word v e = tt
within File word v e = tt

first_within : (k : Kind) (words : List (List ℕ)) (x : Value k × List (List ℕ)) → read_first k words ≡ Some x → IsWithin k x.0
unfolding read_first
first_within k [] x e = absurd cc
first_within k (word ∷ words) x e = option_and_then_some _ (read k word) x e (λ v is same.
    let pair : (v, words) ≡ x = cc in
    subst (λ (y : Value k × List (List ℕ)). IsWithin k y.0) pair (within k word v is))

all_within : (ks : List Kind) (words : List (List ℕ)) (v : Values ks) → read_all ks words ≡ Some v → AreWithin ks v
all_within [] words v e = tt
all_within (k ∷ ks) words v e = option_and_then_some _ (read_first k words) v e (λ x first rest.
    option_and_then_some _ (read_all ks x.1) v rest (λ xs others same.
    let pair : (x.0, xs) ≡ v = cc in
    subst (AreWithin (k ∷ ks)) pair (first_within k words x first, all_within ks x.1 xs others)))

module _ (P : Command → Type 0) where
  -- it holds of the commands that are made of numbers in their ranges
  abbrev pub Holds : (ks : List Kind) → Makes Command ks → Type 0
  Holds ks f = (v : Values ks) → AreWithin ks v → P (made ks f v)

  -- it holds of those of each row
  abbrev pub AllHold : List Row → Type 0
  AllHold [] = Unit {0}
  AllHold (r ∷ rs) = Holds r.kinds r.command × AllHold rs

  by_row : (ks : List Kind) (f : Makes Command ks) → Holds ks f → (words : List (List ℕ)) (c : Command) → made_of ks f words ≡ Some c → P c
  by_row ks f holds words c e = go (read_all ks words) (all_within ks words) e
    where
      go : (o : Option (Values ks)) → ((v : Values ks) → o ≡ Some v → AreWithin ks v) → option_map (made ks f) o ≡ Some c → P c
      go None inside e = absurd cc
      go (Some v) inside e = let same : made ks f v ≡ c = cc in subst P same (holds v (inside v refl))

  by_rows : (rs : List Row) → AllHold rs → (words : List (List ℕ)) (c : Command) → command_in rs words ≡ Some c → P c
  by_rows [] all words c e = absurd cc
  by_rows (r ∷ rs) all [] c e = absurd cc
  by_rows (r ∷ rs) all (name ∷ words) c e = go (bytes_eq name r.name) (by_row r.kinds r.command all.0 words c) (by_rows rs all.1 (name ∷ words) c) e
    where
      go : (b : Bool) → (made_of r.kinds r.command words ≡ Some c → P c) → (command_in rs (name ∷ words) ≡ Some c → P c) → cond b (made_of r.kinds r.command words) (command_in rs (name ∷ words)) ≡ Some c → P c
      go true here further e = here e
      go false here further e = further e

  -- what holds of each row of krieg_find holds of each of its commands
  pub of_find : AllHold find_rows → (words : List (List ℕ)) (c : Command) → find_of words ≡ Some c → P c
  unfolding find_of
  of_find all words c e = go (command_in find_rows words) (by_rows find_rows all words) e
    where
      go : (o : Option Command) → ((c : Command) → o ≡ Some c → P c) → option_or o (made_of find_search Find words) ≡ Some c → P c
      go None named e = by_row find_search Find all.0 words c e
      go (Some d) named e = named c e

-- the ranges of each row are those of its command
fits_krieg : AllHold IsInRange krieg_rows
fits_krieg = search rules depth 40

fits_find : AllHold IsInRange find_rows
fits_find = search rules depth 20

pub in_range : (words : List (List ℕ)) (c : Command) → command_of words ≡ Some c → IsInRange c
unfolding command_of
in_range words c e = by_rows IsInRange krieg_rows fits_krieg words c e

pub find_in_range : (words : List (List ℕ)) (c : Command) → find_of words ≡ Some c → IsInRange c
find_in_range words c e = of_find IsInRange fits_find words c e
