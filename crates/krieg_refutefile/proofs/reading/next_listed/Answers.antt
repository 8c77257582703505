use Rattle.std.proofs.Common.{◌≡◌, ℕ, List, Option, Result, subst, arith}
use Rattle.std.specs.Option.{option_copied}
use Rattle.krieg_fen.specs.Forms.{listed_form}
use Rattle.krieg_format.specs.Lines.{tested}
use Rattle.krieg_format.proofs.Repeats.{line_gives}
use Rattle.krieg_refutefile.proofs.Common.{Pos, Side, TextKind, taken, GivesOn, Own, a_position, listed}
use Rattle.krieg_refutefile.proofs.reading.next_listed.Goals as goal

-- the form of the list is that of a position, with its test
listed_same : (who : Side) (first : Option Pos) (l : List ℕ) → listed_form Own who first l ≡ (tested a_position (listed who first)).form l
unfolding listed_form
listed_same who first l = grind arith

pub returns : goal.returns
returns c =
    let who = c.args.who in
    let first = option_copied c.args.first in
    line_gives (λ p. p) (tested a_position (listed who first)).form c.read_listed.result c.args.from.now c.read_listed.new.from
    (subst (λ (f : List ℕ → Result Pos TextKind). GivesOn (λ p. p) c.read_listed.result c.read_listed.new.from (taken f c.args.from.now)) (λ i l. listed_same who first l i) c.read_listed.ensures.value)
