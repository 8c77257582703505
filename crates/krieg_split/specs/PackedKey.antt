-- Words that are heard in few bytes: the number of their key to the base 256.
use Rattle.std.specs.Prelude.{◌≡◌, ℕ, ◌+◌, ◌*◌, ◌/◌, ◌%◌}
use Rattle.krieg_game.specs.Keys.{Key}
use Rattle.krieg_game.specs.KeyNumbers.{key_number, key_at, AreSaid}
use Rattle.krieg_split.specs.declared.packed_key.PackedKey.TheInside.{Inside}

-- the number that the bytes spell
abbrev pub number_of : Inside → ℕ
number_of h = (h.first * 65536 + h.second * 256 + h.third) * 65536 + h.fourth * 256 + h.fifth

-- the bytes that spell a number
abbrev pub bytes_of : ℕ → Inside
bytes_of n = record { first = n / 4294967296; second = n / 16777216 % 256; third = n / 65536 % 256; fourth = n / 256 % 256; fifth = n % 256 }

-- the words that they stand for
abbrev pub unpacked : Inside → Key
unpacked h = key_at (number_of h)

-- the bytes of words
abbrev pub packed : Key → Inside
packed k = bytes_of (key_number k)

-- the number is that of a key that can be told, and of no other
pub record IsPacked (h : Inside) : Type 0 where
  pub said : AreSaid (unpacked h)
  pub exact : packed (unpacked h) ≡ h
