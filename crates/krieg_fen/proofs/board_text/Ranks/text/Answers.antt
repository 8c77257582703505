use Rattle.std.proofs.Common.{◌≡◌, ◌≤◌, ◌-◌, ◌∷◌, ◌++◌, [], length, ap, ◌∙◌, arith, rules}
use Rattle.std.proofs.lemmas.List.{get_or_read, length-append}
use Rattle.krieg_fen.proofs.Common.{rank_text, rank_at}
use Rattle.krieg_fen.proofs.BoardWriting.{upper_step}
use Rattle.krieg_fen.proofs.board_text.Ranks.text.Goals as goal

pub loop-rank-preserved : goal.loop-rank-preserved
loop-rank-preserved c =
    let text = c.loop-rank.text in
    let rank = c.index-self-rank.result in
    let new = c.add_upper.new.self in
    let few : length rank ≤ 8 = search rules in
    let added : new ≡ text ++ (rank ++ (47 ∷ [])) = search rules in
    let is : rank ≡ rank_text (rank_at c.self.inside.board (7 - c.loop-rank.rank)) = get_or_read c.self.inside.texts (7 - c.loop-rank.rank) rank (omega arith) c.index-self-rank.is [] ∙ c.self.invariant.each (7 - c.loop-rank.rank) (omega arith) in
    record {
      short = omega (arith, ap length added, length-append text (rank ++ (47 ∷ [])), length-append rank (47 ∷ []), few, c.loop-rank.invariant.short);
      wrote = upper_step c.self.inside.board text rank new c.loop-rank.rank c.loop-rank-test.true is added c.loop-rank.invariant.wrote;
    }
