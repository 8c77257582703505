-- What is heard in few bytes: the number of its key.
use Rattle.std.specs.Prelude.{◌≡◌}
use Rattle.krieg_game.specs.Keys.{Key}
use Rattle.krieg_game.specs.KeyNumbers.{key_number, key_at, AreSaid}
use Rattle.krieg_game.specs.declared.heard.Heard.TheInside.{Inside}

-- the key of its number
abbrev pub unpacked_key : Inside → Key
unpacked_key h = key_at h.number

-- its number in the place of a key
abbrev pub packed_key : Key → Inside
packed_key k = record { number = key_number k }

-- the number is that of a key that can be told, and of no other
pub record IsPacked (h : Inside) : Type 0 where
  pub said : AreSaid (key_at h.number)
  pub exact : packed_key (unpacked_key h) ≡ h
