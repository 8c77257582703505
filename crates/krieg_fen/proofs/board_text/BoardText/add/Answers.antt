use Rattle.std.proofs.Common.{rules, ◌≡◌, ◌++◌, take, sym, ap, ◌∙◌, arith}
use Rattle.krieg_fen.proofs.BoardWriting.{put_more}
use Rattle.krieg_fen.proofs.board_text.BoardText.add.Goals as goal

pub returns-clause-text : goal.returns-clause-text
returns-clause-text c =
    let copied : c.copy_from_slice.new.self ≡ c.padded.result.now = search rules in
    let text : c.args.rank.now ≡ take c.len.result c.padded.result.now = search rules in
    let here : c.args.self.now ≡ take c.self.inside.len c.self.inside.bytes = search rules in
    put_more c.self.inside.len _ c.len.result c.self.inside.bytes c.copy_from_slice.new.self (omega arith) (omega arith)
    ∙ ap (λ t. take c.self.inside.len c.self.inside.bytes ++ take c.len.result t) copied
    ∙ ap (λ t. t ++ take c.len.result c.padded.result.now) (sym here) ∙ ap (λ t. c.args.self.now ++ t) (sym text)
