-- Which lines have the shared forms: a side, how many positions are listed, a position, and a start.
use Rattle.std.proofs.Common.{◌≡◌, ℕ, ◌≤◌, Bool, true, false, cond, List, Result, Ok, Err, refl, ap, ◌∙◌, arith}
use Rattle.std.specs.Prelude.{codes}
use Rattle.std.specs.Str.{bytes_eq}
use Rattle.std.proofs.lemmas.Slice.Eq.{bytes_eq-Decides}
use Rattle.krieg_fen.proofs.Common.{Pos, Side, White, Black, Syntax, Count, FenFault, Fields, Field, Bad, position_of, Spells, side_line, side_form, list_line, list_form, position_kind, position_form, start_form, MOST_LISTED, Behind}
use Rattle.krieg_fen.proofs.PositionSpellings.{position_spells, position_reads}
use Rattle.krieg_text.proofs.FormSpellings.{number_is, number_read}
use Rattle.krieg_text.proofs.Formats.{IsForm, named_form}

-- a side
pub side_spells : (text : List ℕ) (who : Side) → side_form text ≡ Ok who → text ≡ side_line who
unfolding side_form
side_spells text who e = go (bytes_eq text (side_line White)) (bytes_eq text (side_line Black)) (bytes_eq-Decides text (side_line White)).0 (bytes_eq-Decides text (side_line Black)).0 e
  where
    go : (a b : Bool) → (a ≡ true → text ≡ side_line White) → (b ≡ true → text ≡ side_line Black) → cond a (Ok White) (cond b (Ok Black) (Err Syntax)) ≡ Ok who → text ≡ side_line who
    go true b w k h = let same : White ≡ who = cc in w refl ∙ ap side_line same
    go false true w k h = let same : Black ≡ who = cc in k refl ∙ ap side_line same
    go false false w k h = absurd cc

pub side_again : (who : Side) → side_form (side_line who) ≡ Ok who
unfolding side_form
side_again White = refl
side_again Black = refl

-- how many positions are listed
pub count_spells : (text : List ℕ) (n : ℕ) → list_form text ≡ Ok n → (1 ≤ n) × (n ≤ MOST_LISTED) × (text ≡ list_line n)
unfolding list_form
count_spells text n e = number_is Count (codes "list ") 1 MOST_LISTED text n (omega arith) e

pub count_again : (n : ℕ) → 1 ≤ n → n ≤ MOST_LISTED → list_form (list_line n) ≡ Ok n
unfolding list_form
count_again n low high = number_read Count (codes "list ") 1 MOST_LISTED n (omega arith) low high

-- a position
pub position_is : (text : List ℕ) (p : Pos) → position_form text ≡ Ok p → Spells text p
unfolding position_form
position_is text p e = go (position_of text) refl e
  where
    go : (r : Result Pos FenFault) → position_of text ≡ r → position_kind r ≡ Ok p → Spells text p
    go (Ok x) is h = position_spells text p (is ∙ cc)
    go (Err Fields) is h = absurd cc
    go (Err (Field n)) is h = absurd cc
    go (Err (Bad fault)) is h = absurd cc

pub position_read : (text : List ℕ) (p : Pos) → Spells text p → position_form text ≡ Ok p
unfolding position_form
position_read text p spells = ap position_kind (position_reads text p spells)

pub positions : IsForm position_form Spells
positions = record { found = position_is; only = position_read }

-- a position after the word `start`
pub starts_form : IsForm start_form (λ l p. Behind (codes "start ") (λ t. Spells t p) l)
unfolding start_form
starts_form = named_form (codes "start ") position_form Spells positions
