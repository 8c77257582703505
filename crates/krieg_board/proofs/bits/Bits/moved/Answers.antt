use Rattle.std.proofs.Common.{◌∙◌, ◌≡◌, ap, sym, length, set, cond, ◌==◌, false}
use Rattle.std.specs.Prelude.{Some, None}
use Rattle.std.proofs.Math.ListN.{length-set}
use Rattle.krieg_board.proofs.Common.{White, Black, Pawn, King, is_of, has, is_kind, Show}
use Rattle.krieg_board.specs.declared.men.Kind.TheVariants.{Knight, Bishop, Rook, Queen}
use Rattle.krieg_board.proofs.BoardSets.{shows}
use Rattle.krieg_board.proofs.Writing.{Small, shown, shown_board, write_two, length_board_of}
use Rattle.krieg_board.proofs.bits.Bits.moved.Goals as goal

size : (c : goal.After-passed-8) → length c.args.self.now ≡ 64
size c = ap length (sym c.self.view_is) ∙ length_board_of c.self.inside.sets

whole : (c : goal.After-passed-8) → length (set (set c.args.self.now c.args.from None) c.args.to (Some c.args.man)) ≡ 64
whole c = length-set (set c.args.self.now c.args.from None) c.args.to (Some c.args.man) ∙ length-set c.args.self.now c.args.from None ∙ size c

after : (c : goal.After-passed-8) →
    Show (record { white = c.passed.result; black = c.passed-2.result; pawns = c.passed-3.result; knights = c.passed-4.result; bishops = c.passed-5.result; rooks = c.passed-6.result; queens = c.passed-7.result; kings = c.passed-8.result })
    (set (set c.args.self.now c.args.from None) c.args.to (Some c.args.man))
after c =
    let old = c.self.inside.sets in
    let b = c.args.self.now in
    let s = shows old b c.self.invariant c.self.view_is in
    let x = Some c.args.man in
    record {
      white = write_two (is_of White) b old.white c.passed.result c.args.from c.args.to x (size c) c.requires.from c.requires.to s.white (λ k h. c.passed.ensures k h ∙ ap (λ t. cond (k == c.args.to) t (cond (k == c.args.from) false (has old.white k))) c.is_of.ensures);
      black = write_two (is_of Black) b old.black c.passed-2.result c.args.from c.args.to x (size c) c.requires.from c.requires.to s.black (λ k h. c.passed-2.ensures k h ∙ ap (λ t. cond (k == c.args.to) t (cond (k == c.args.from) false (has old.black k))) c.is_of-2.ensures);
      pawns = write_two (is_kind Pawn) b old.pawns c.passed-3.result c.args.from c.args.to x (size c) c.requires.from c.requires.to s.pawns (λ k h. c.passed-3.ensures k h ∙ ap (λ t. cond (k == c.args.to) t (cond (k == c.args.from) false (has old.pawns k))) c.is_kind.ensures);
      knights = write_two (is_kind Knight) b old.knights c.passed-4.result c.args.from c.args.to x (size c) c.requires.from c.requires.to s.knights (λ k h. c.passed-4.ensures k h ∙ ap (λ t. cond (k == c.args.to) t (cond (k == c.args.from) false (has old.knights k))) c.is_kind-2.ensures);
      bishops = write_two (is_kind Bishop) b old.bishops c.passed-5.result c.args.from c.args.to x (size c) c.requires.from c.requires.to s.bishops (λ k h. c.passed-5.ensures k h ∙ ap (λ t. cond (k == c.args.to) t (cond (k == c.args.from) false (has old.bishops k))) c.is_kind-3.ensures);
      rooks = write_two (is_kind Rook) b old.rooks c.passed-6.result c.args.from c.args.to x (size c) c.requires.from c.requires.to s.rooks (λ k h. c.passed-6.ensures k h ∙ ap (λ t. cond (k == c.args.to) t (cond (k == c.args.from) false (has old.rooks k))) c.is_kind-4.ensures);
      queens = write_two (is_kind Queen) b old.queens c.passed-7.result c.args.from c.args.to x (size c) c.requires.from c.requires.to s.queens (λ k h. c.passed-7.ensures k h ∙ ap (λ t. cond (k == c.args.to) t (cond (k == c.args.from) false (has old.queens k))) c.is_kind-5.ensures);
      kings = write_two (is_kind King) b old.kings c.passed-8.result c.args.from c.args.to x (size c) c.requires.from c.requires.to s.kings (λ k h. c.passed-8.ensures k h ∙ ap (λ t. cond (k == c.args.to) t (cond (k == c.args.from) false (has old.kings k))) c.is_kind-6.ensures);
    }

small : (c : goal.After-passed-8) → Small (record { white = c.passed.result; black = c.passed-2.result; pawns = c.passed-3.result; knights = c.passed-4.result; bishops = c.passed-5.result; rooks = c.passed-6.result; queens = c.passed-7.result; kings = c.passed-8.result })
small c = record {
  white = c.passed.type_inv;
  black = c.passed-2.type_inv;
  pawns = c.passed-3.type_inv;
  knights = c.passed-4.type_inv;
  bishops = c.passed-5.type_inv;
  rooks = c.passed-6.type_inv;
  queens = c.passed-7.type_inv;
  kings = c.passed-8.type_inv;
}

pub invariant_of-result : goal.invariant_of-result
invariant_of-result c = shown _ _ (after c) (small c) (whole c)

pub returns : goal.returns
returns c = shown_board _ _ (after c) (whole c)
