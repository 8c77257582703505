-- What is told of a king who is alone against officers: squares, and what is so of each valid position with him on one of them.
use Rattle.std.specs.Prelude.{ℕ, ◌≡◌, ◌<◌, true, false}
use Rattle.krieg_board.specs.Men.{other}
use Rattle.krieg_board.specs.Pos.{Pos}
use Rattle.krieg_board.specs.Sets.{has}
use Rattle.krieg_board.specs.Validity.{IsValid}
use Rattle.krieg_board.specs.declared.men.Move.{Move}
use Rattle.krieg_moves.specs.After.{after}
use Rattle.krieg_moves.specs.Legal.{is_legal}
use Rattle.krieg_nets.specs.Nets.{IsWith, against_by}
use Rattle.krieg_nets.specs.Others.{lone_of}
use Rattle.krieg_nets.specs.Seen.{leaves_none, mates_within}
use Rattle.krieg_nets.specs.declared.others.Others.{Others}

-- the others, who are to move, do not mate within so many moves
abbrev pub TellsNone : Others → ℕ → ℕ → Type 0
TellsNone o moves set = (k : ℕ) (p : Pos) → k < 64 → has set k ≡ true → IsWith (against_by o) k p → IsValid p → p.side ≡ other (lone_of o) → mates_within moves p ≡ false

-- some move of the king, who is to move, leaves them no mate within so many
abbrev pub TellsFled : Others → ℕ → ℕ → Type 0
TellsFled o moves set = (k : ℕ) (p : Pos) → k < 64 → has set k ≡ true → IsWith (against_by o) k p → IsValid p → p.side ≡ lone_of o → leaves_none moves p ≡ true

-- the same behind a move of theirs, where it is legal
abbrev pub TellsFledBehind : Others → Move → ℕ → ℕ → Type 0
TellsFledBehind o mv moves set =
    (k : ℕ) (p : Pos) → k < 64 → has set k ≡ true → IsWith (against_by o) k p → IsValid p → p.side ≡ other (lone_of o) → is_legal p mv ≡ true → leaves_none moves (after p mv) ≡ true
