-- Whether what is gathered of a try is wanted.
use Rattle.std.specs.Prelude.{Bool, not, ◌||◌}

-- always, or as long as the try does not fail in some member
abbrev pub is_wanted : Bool → Bool → Bool
is_wanted always fails = always || not fails
