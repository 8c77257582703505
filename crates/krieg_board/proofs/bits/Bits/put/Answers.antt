use Rattle.std.proofs.Common.{◌≡◌, ◌∙◌, ap, sym, subst, length, set}
use Rattle.std.specs.Prelude.{Some}
use Rattle.std.proofs.Math.ListN.{length-set}
use Rattle.krieg_board.proofs.Common.{Show, AreExact, board_of}
use Rattle.krieg_board.proofs.BoardSets.{shows}
use Rattle.krieg_board.proofs.Writing.{shown, shown_board, length_board_of}
use Rattle.krieg_board.proofs.Joining.{sided, kinded, joined, Puts, joined_shown, joined_small}
use Rattle.krieg_board.proofs.bits.Bits.put.Goals as goal
use Rattle.krieg_board.proofs.bits.Bits.put.Goals.{in-White, in-Black, in-Pawn, in-Knight, in-Bishop, in-Rook, in-Queen, in-King}

puts : (c : goal.Joined-man-2) → Puts c.args.self.now c.args.s c.only-place.result
puts c = record {
  size = ap length (sym c.self.view_is) ∙ length_board_of c.self.inside.sets;
  below = c.requires.below;
  free = c.requires.free;
  there = c.only-place.ensures;
  small = c.only-place.type_inv;
}

by_side : (c : goal.Joined-man-2) → c.match-man.sets ≡ sided c.only-place.result c.args.man.side c.self.inside.sets
by_side c = elim c.match-man.branch [
  | in-White w ↦ w.sets-is ∙ ap (λ s. sided c.only-place.result s c.self.inside.sets) (sym w.in-White.is)
  | in-Black w ↦ w.sets-is ∙ ap (λ s. sided c.only-place.result s c.self.inside.sets) (sym w.in-Black.is)
]

by_kind : (c : goal.Joined-man-2) → c.match-man-2.sets ≡ kinded c.only-place.result c.args.man.kind c.match-man.sets
by_kind c = elim c.match-man-2.branch [
  | in-Pawn w ↦ w.sets-is ∙ ap (λ k. kinded c.only-place.result k c.match-man.sets) (sym w.in-Pawn.is)
  | in-Knight w ↦ w.sets-is ∙ ap (λ k. kinded c.only-place.result k c.match-man.sets) (sym w.in-Knight.is)
  | in-Bishop w ↦ w.sets-is ∙ ap (λ k. kinded c.only-place.result k c.match-man.sets) (sym w.in-Bishop.is)
  | in-Rook w ↦ w.sets-is ∙ ap (λ k. kinded c.only-place.result k c.match-man.sets) (sym w.in-Rook.is)
  | in-Queen w ↦ w.sets-is ∙ ap (λ k. kinded c.only-place.result k c.match-man.sets) (sym w.in-Queen.is)
  | in-King w ↦ w.sets-is ∙ ap (λ k. kinded c.only-place.result k c.match-man.sets) (sym w.in-King.is)
]

after : (c : goal.Joined-man-2) → c.match-man-2.sets ≡ joined c.only-place.result c.args.man c.self.inside.sets
after c = by_kind c ∙ ap (kinded c.only-place.result c.args.man.kind) (by_side c)

shows_after : (c : goal.Joined-man-2) → Show (joined c.only-place.result c.args.man c.self.inside.sets) (set c.args.self.now c.args.s (Some c.args.man))
shows_after c = joined_shown c.self.inside.sets c.args.self.now c.args.s c.only-place.result c.args.man (puts c) (shows c.self.inside.sets c.args.self.now c.self.invariant c.self.view_is)

size_after : (c : goal.Joined-man-2) → length (set c.args.self.now c.args.s (Some c.args.man)) ≡ 64
size_after c = length-set c.args.self.now c.args.s (Some c.args.man) ∙ (puts c).size

pub invariant_of-self : goal.invariant_of-self
invariant_of-self c =
    subst AreExact (sym (after c)) (shown _ _ (shows_after c) (joined_small c.self.inside.sets c.only-place.result c.args.man c.only-place.type_inv c.self.invariant) (size_after c))

pub returns : goal.returns
returns c = ap board_of (after c) ∙ shown_board _ _ (shows_after c) (size_after c)
