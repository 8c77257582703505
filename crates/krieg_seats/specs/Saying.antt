-- What a player says by the bytes that he sends, a line at a time. A line feed is byte 10; a carriage return is a byte like others.
use Rattle.std.specs.Prelude.{◌≡◌, ℕ, ◌-◌, ◌^◌, ◌≤◌, ⊤, Bool, List, [], ◌∷◌, length, Option, Some, None, option_map, unwrap_or, if◌then◌else◌}
use Rattle.krieg_text.specs.Names.{cut}
use Rattle.krieg_fen.specs.MoveText.{move_of}
use Rattle.krieg_seats.specs.declared.seat.Say.{Say}
use Rattle.krieg_seats.specs.declared.seat.Say.TheVariants.{Try, Leave}

-- the bytes up to the first line feed, or all where there is none
abbrev pub first_line : List ℕ → List ℕ
first_line bytes = (cut 10 bytes).0

-- the bytes behind the first line feed
abbrev pub next_lines : List ℕ → List ℕ
next_lines bytes = unwrap_or (cut 10 bytes).1 []

-- He leaves where no byte is left. Otherwise he tries the move whose text the first line is; a line that is no such text says nothing.
abbrev pub said_by : List ℕ → Option Say
said_by [] = Some Leave
said_by (b ∷ bytes) = option_map Try (move_of (first_line (b ∷ bytes)))

-- the lines that are left, where the bytes are told: none of them begins inside a line of which a part was read in vain
abbrev pub lines_left : Bool → Option (List ℕ) → Option (List ℕ)
lines_left inside told = option_map (λ bytes. if inside then next_lines bytes else bytes) told

-- one line was read, which says this
abbrev pub ReadsLine : Option Say → Option (List ℕ) → Option (List ℕ) → Type 0
ReadsLine say None now = ⊤
ReadsLine say (Some bytes) None = ⊥
ReadsLine say (Some bytes) (Some rest) = (said_by bytes ≡ say) × (rest ≡ next_lines bytes)

-- more bytes than a call reads in search of a line's end
abbrev pub IsEndless : Option (List ℕ) → Type 0
IsEndless None = ⊤
IsEndless (Some bytes) = 2 ^ 64 - 1 ≤ length bytes
