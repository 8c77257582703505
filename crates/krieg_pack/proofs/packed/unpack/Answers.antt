use Rattle.std.proofs.Common.{◌≡◌, sym, ap, ◌∙◌, length}
use Rattle.krieg_pack.proofs.Common.{Board, Pos, first_fault, unpacked}
use Rattle.krieg_pack.proofs.Unpacking.{unpacked_is}
use Rattle.krieg_pack.proofs.packed.unpack.Goals as goal

board : (c : goal.After-mark_of) → ◌≡◌ {A = Board} c.from_sets-board.result (unpacked c.k.inside).board
board c = c.from_sets-board.ensures ∙ c.sets.ensures.board ∙ sym (ap (λ (p : Pos). p.board) c.k.view_is)

whole : (c : goal.After-mark_of) → ◌≡◌ {A = Pos} (record { board = c.from_sets-board.result; side = c.side_of.result; rights = c.rights_of.result; mark = c.mark_of.result }) (unpacked c.k.inside)
whole c = unpacked_is c.k.inside _ (board c) c.side_of.ensures c.rights_of.ensures c.mark_of.ensures

pub from_valid-requires : goal.from_valid-requires
from_valid-requires c = record { size = ap length (board c) ∙ c.k.invariant.valid.squares; fault = ap first_fault (whole c) ∙ c.k.invariant.valid.no_fault }

pub returns-clause-value : goal.returns-clause-value
returns-clause-value c = c.from_valid.ensures.value ∙ whole c.before ∙ c.k.view_is
