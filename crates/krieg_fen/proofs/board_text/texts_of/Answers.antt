use Rattle.krieg_fen.proofs.RankChanges.{eight}
use Rattle.krieg_fen.proofs.board_text.texts_of.Goals as goal

pub returns : goal.returns
returns c = rw (c.rank_text.ensures, c.rank_text-2.ensures, c.rank_text-3.ensures, c.rank_text-4.ensures, c.rank_text-5.ensures, c.rank_text-6.ensures, c.rank_text-7.ensures, c.rank_text-8.ensures) (eight c.args.board.now c.requires)
