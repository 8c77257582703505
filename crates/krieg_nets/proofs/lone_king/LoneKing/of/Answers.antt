use Rattle.std.proofs.Common.{◌≡◌, ◌<◌, ◌∙◌, sym, ap, arith}
use Rattle.std.specs.Prelude.{None, Some, slice_set}
use Rattle.std.proofs.lemmas.List.{set-get_or, set-set}
use Rattle.krieg_board.specs.Board.{man_at}
use Rattle.krieg_moves.proofs.Boards.{man_at_set_same}
use Rattle.krieg_nets.specs.LoneKings.{king_of, with_king}
use Rattle.krieg_nets.specs.Others.{lone_of}
use Rattle.krieg_nets.proofs.lone_king.LoneKing.of.Goals as goal

pub returns : goal.returns
unfolding with_king
returns c =
    let board = c.args.p.now.board in
    let king = c.lowest-square.result in
    let man = Some (king_of (lone_of c.in_ok-men.men.others)) in
    let men : c.in_ok-men.men.bits ≡ slice_set board king None = c.in_ok-men.ensures.board ∙ c.with-bits.ensures ∙ (λ i. slice_set (c.bits-2.ensures.value i) (c.number.ensures.value i) None) in
    let there : man_at board king ≡ man = c.is_plain.ensures.king c.if-not-is_plain.false ∙ ap (λ s. Some (king_of s)) c.lone.ensures in
    let whole : slice_set c.in_ok-men.men.bits king man ≡ board =
    ap (λ b. slice_set b king man) men ∙ set-set board king None man ∙ ap (slice_set board king) (sym there) ∙ set-get_or board king None in
    let inside : king < 64 = c.lowest-square.ensures.below in
    let these = c.in_ok-men.men.these in
    record {
      empty = ap (λ b. man_at b king) these ∙ ap (λ b. man_at b king) men ∙ man_at_set_same board king None (omega (arith, inside, c.know_valid.ensures.squares));
      is = λ i. record {
        board = (ap (λ b. slice_set b king man) these ∙ whole) i;
        side = c.args.p.now.side;
        rights = sym (c.is_plain.ensures.rights c.if-not-is_plain.false) i;
        mark = sym (c.is_plain.ensures.mark c.if-not-is_plain.false) i;
      };
    }
