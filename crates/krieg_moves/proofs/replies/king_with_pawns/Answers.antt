use Rattle.std.proofs.Common.{◌≡◌, ℕ, ◌∙◌, ◌&&◌, ◌||◌, sym, ap, subst, bit_and}
use Rattle.std.specs.Prelude.{Option, Some, None, IfSome}
use Rattle.krieg_moves.proofs.Common.{man_at, has, Pawn, HasOnlyPawns}
use Rattle.krieg_board.proofs.MenLemmas.{kind_side}
use Rattle.krieg_board.proofs.SetLemmas.{has_and, has_or}
use Rattle.krieg_moves.proofs.replies.king_with_pawns.Goals as goal

pub returns-then-men-only : goal.returns-then-men-only
returns-then-men-only c = by_square c.new.result c.new.ensures.value
  where
    only : HasOnlyPawns c.args.b.now c.args.side c.king_of-king.result
    only = record {
      stands = c.king_of-king.ensures.king;
      others = λ k h. sym (c.men_of-men.ensures k h) ∙ ap (λ n. has n k) c.if-men-only.true ∙ has_or c.only.result (bit_and c.sets.result.now.pawns c.men_of-men.result) k
          ∙ (λ i. c.only.ensures k h i || (has_and c.sets.result.now.pawns c.men_of-men.result k ∙ (λ j. c.sets.ensures.pawns k h j && c.men_of-men.ensures k h j) ∙ kind_side Pawn c.args.side (man_at c.args.b.now k)) i);
    }

    by_square : (o : Option ℕ) → IfSome o (λ s. s ≡ c.king_of-king.result) → IfSome o (HasOnlyPawns c.args.b.now c.args.side)
    by_square None h = tt
    by_square (Some s) h = subst (HasOnlyPawns c.args.b.now c.args.side) (sym h) only
