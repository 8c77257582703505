-- Plain decimals. Digit 0 is byte 48.
use Rattle.std.specs.Prelude.{ℕ, ◌==◌, Bool, ◌&&◌, ◌||◌, not, List, Option, Some, None, Result, Ok, Err, nat_le, nat_lt, length, slice_index, if◌then◌else◌, decimal}
use Rattle.std.specs.List.{list_all}
use Rattle.std.specs.Char.{is_ascii_digit}
use Rattle.std.specs.Str.Parse.{digits_value}
use Rattle.krieg_text.specs.declared.number.NumberFault.{NumberFault}
use Rattle.krieg_text.specs.declared.number.NumberFault.TheVariants.{NotPlain, OutOfRange}

-- the written form of a number: its digits, without a sign and without a zero in front
abbrev pub number_text : ℕ → List ℕ
number_text n = decimal n

-- one or more digits, with no zero in front unless it stands alone
abbrev pub is_plain : List ℕ → Bool
is_plain text = nat_lt 0 (length text) && ((not (slice_index text 0 == 48) || length text == 1) && list_all is_ascii_digit text)

-- the number that the digits spell, however many they are
abbrev pub plain_value : List ℕ → ℕ
plain_value text = digits_value 10 text

-- the number that the text is a plain decimal of, where it is at most max
abbrev pub number_within : List ℕ → ℕ → Option ℕ
number_within text max = if is_plain text && nat_le (plain_value text) max then Some (plain_value text) else None

-- the number that the text is a plain decimal of, from least to most; a text that is none is told from a number out of range
abbrev pub number_between : List ℕ → ℕ → ℕ → Result ℕ NumberFault
number_between text least most =
    if is_plain text
    then (if nat_le least (plain_value text) && nat_le (plain_value text) most then Ok (plain_value text) else Err OutOfRange)
    else Err NotPlain
