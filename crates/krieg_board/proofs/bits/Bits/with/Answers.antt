use Rattle.std.proofs.Common.{◌∙◌, ◌≡◌, ap, sym, length, set, cond, ◌==◌}
use Rattle.std.proofs.Math.ListN.{length-set}
use Rattle.krieg_board.proofs.Common.{White, Black, Pawn, King, is_of, has, is_kind, Show}
use Rattle.krieg_board.specs.declared.men.Kind.TheVariants.{Knight, Bishop, Rook, Queen}
use Rattle.krieg_board.proofs.BoardSets.{shows}
use Rattle.krieg_board.proofs.Writing.{Small, shown, shown_board, write_one, length_board_of}
use Rattle.krieg_board.proofs.bits.Bits.with.Goals as goal

size : (c : goal.After-written-8) → length c.args.self.now ≡ 64
size c = ap length (sym c.self.view_is) ∙ length_board_of c.self.inside.sets

after : (c : goal.After-written-8) →
    Show (record { white = c.written.result; black = c.written-2.result; pawns = c.written-3.result; knights = c.written-4.result; bishops = c.written-5.result; rooks = c.written-6.result; queens = c.written-7.result; kings = c.written-8.result })
    (set c.args.self.now c.args.s c.args.man)
after c =
    let old = c.self.inside.sets in
    let s = shows old c.args.self.now c.self.invariant c.self.view_is in
    let b = c.args.self.now in
    let at = c.args.s in
    let x = c.args.man in
    record {
      white = write_one (is_of White) b old.white c.written.result at x (size c) c.requires s.white (λ k h. c.written.ensures k h ∙ ap (λ t. cond (k == at) t (has old.white k)) c.is_of.ensures);
      black = write_one (is_of Black) b old.black c.written-2.result at x (size c) c.requires s.black (λ k h. c.written-2.ensures k h ∙ ap (λ t. cond (k == at) t (has old.black k)) c.is_of-2.ensures);
      pawns = write_one (is_kind Pawn) b old.pawns c.written-3.result at x (size c) c.requires s.pawns (λ k h. c.written-3.ensures k h ∙ ap (λ t. cond (k == at) t (has old.pawns k)) c.is_kind.ensures);
      knights = write_one (is_kind Knight) b old.knights c.written-4.result at x (size c) c.requires s.knights (λ k h. c.written-4.ensures k h ∙ ap (λ t. cond (k == at) t (has old.knights k)) c.is_kind-2.ensures);
      bishops = write_one (is_kind Bishop) b old.bishops c.written-5.result at x (size c) c.requires s.bishops (λ k h. c.written-5.ensures k h ∙ ap (λ t. cond (k == at) t (has old.bishops k)) c.is_kind-3.ensures);
      rooks = write_one (is_kind Rook) b old.rooks c.written-6.result at x (size c) c.requires s.rooks (λ k h. c.written-6.ensures k h ∙ ap (λ t. cond (k == at) t (has old.rooks k)) c.is_kind-4.ensures);
      queens = write_one (is_kind Queen) b old.queens c.written-7.result at x (size c) c.requires s.queens (λ k h. c.written-7.ensures k h ∙ ap (λ t. cond (k == at) t (has old.queens k)) c.is_kind-5.ensures);
      kings = write_one (is_kind King) b old.kings c.written-8.result at x (size c) c.requires s.kings (λ k h. c.written-8.ensures k h ∙ ap (λ t. cond (k == at) t (has old.kings k)) c.is_kind-6.ensures);
    }

small : (c : goal.After-written-8) →
    Small (record { white = c.written.result; black = c.written-2.result; pawns = c.written-3.result; knights = c.written-4.result; bishops = c.written-5.result; rooks = c.written-6.result; queens = c.written-7.result; kings = c.written-8.result })
small c = record {
  white = c.written.type_inv;
  black = c.written-2.type_inv;
  pawns = c.written-3.type_inv;
  knights = c.written-4.type_inv;
  bishops = c.written-5.type_inv;
  rooks = c.written-6.type_inv;
  queens = c.written-7.type_inv;
  kings = c.written-8.type_inv;
}

pub invariant_of-result : goal.invariant_of-result
invariant_of-result c = shown _ (set c.args.self.now c.args.s c.args.man) (after c) (small c) (length-set c.args.self.now c.args.s c.args.man ∙ size c)

pub returns : goal.returns
returns c = shown_board _ (set c.args.self.now c.args.s c.args.man) (after c) (length-set c.args.self.now c.args.s c.args.man ∙ size c)
