-- Which bytes stand in written numbers: none is a line feed.
use Rattle.std.proofs.Common.{◌≡◌, ℕ, ◌^◌, ◌<◌, ◌≤◌, true, leb, List, [], ◌∷◌, arith}
use Rattle.std.proofs.lemmas.Bool.{and_parts, leb-true}
use Rattle.std.specs.List.{list_all}
use Rattle.std.specs.Char.{is_ascii_digit}
use Rattle.krieg_text.proofs.Common.{is_line, number_text}
use Rattle.krieg_text.proofs.Free.{Above}
use Rattle.krieg_text.proofs.Numbers.{digits_again}
use Rattle.krieg_text.proofs.LineTexts.{line_above}

pub digits_above : (ds : List ℕ) → list_all is_ascii_digit ds ≡ true → Above 47 ds
digits_above [] all = tt
digits_above (d ∷ ds) all =
    let p = and_parts (is_ascii_digit d) (list_all is_ascii_digit ds) all in
    let low : 48 ≤ d = leb-true 48 d (and_parts (leb 48 d) (leb d 57) p.0).0 in
    (omega arith, digits_above ds p.1)

-- digits alone
pub number_above : (n : ℕ) → n < 2 ^ 64 → Above 47 (number_text n)
number_above n fits = digits_above (number_text n) (digits_again n fits)

-- it is part of a line
pub number_line : (n : ℕ) → n < 2 ^ 64 → is_line (number_text n) ≡ true
number_line n fits = line_above 47 (number_text n) (omega arith) (number_above n fits)
