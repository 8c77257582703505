-- Writing a board rank by rank: eight bytes are copied, of which as many count as the rank's text has.
use Rattle.std.proofs.Common.{◌≡◌, ℕ, ◌+◌, ◌-◌, ◌<◌, ◌≤◌, List, [], ◌∷◌, ◌++◌, length, take, refl, sym, ap, ◌∙◌, arith, append_assoc, take-take}
use Rattle.std.proofs.Math.Seq.{take-append-add}
use Rattle.std.proofs.lemmas.List.{length-take-le}
use Rattle.std.proofs.lemmas.Slice.{take-put_mid}
use borrow.Rule.Slice.PartMut.{put_mid}
use Rattle.krieg_fen.proofs.Common.{Board, rank_text, rank_at, ranks_text, board_text}
use Rattle.krieg_fen.proofs.RankWriting.{ranks_step}

-- the text so far, with the bytes that count of a part that was written behind it
pub put_more : (a k n : ℕ) (xs ys : List ℕ) → a ≤ length xs → n ≤ length ys → take (a + n) (put_mid a k xs ys) ≡ take a xs ++ take n ys
put_more a k n xs ys fits few =
    let long : length (take a xs) ≡ a = length-take-le a xs fits in
    sym (take-take (a + n) (a + length ys) (put_mid a k xs ys) (omega arith))
    ∙ ap (take (a + n)) (take-put_mid a k xs ys (a + length ys) refl fits)
    ∙ ap (λ m. take (m + n) (take a xs ++ ys)) (sym long)
    ∙ take-append-add (take a xs) ys n

-- one rank more, with its slash
pub upper_step : (board : Board) (text rank new : List ℕ) (i : ℕ) → i < 7 → rank ≡ rank_text (rank_at board (7 - i)) → new ≡ text ++ (rank ++ (47 ∷ [])) →
    text ++ ranks_text (8 - i) board ≡ board_text board → new ++ ranks_text (8 - (i + 1)) board ≡ board_text board
upper_step board text rank new i lt is added wrote =
    ap (λ t. t ++ ranks_text (8 - (i + 1)) board) added
    ∙ append_assoc text (rank ++ (47 ∷ [])) (ranks_text (8 - (i + 1)) board)
    ∙ ap (λ t. text ++ ((t ++ (47 ∷ [])) ++ ranks_text (8 - (i + 1)) board)) is
    ∙ ap (λ t. text ++ t) (sym (ranks_step board i lt))
    ∙ wrote
