-- Where men go reads the same from both ends, but for pawns, whose sides change.
use Rattle.std.proofs.Common.{◌≡◌, ℕ, ◌<◌, true, refl, sym}
use Rattle.krieg_rays.proofs.Common.{Pawn, Knight, Bishop, Rook, King, Side, White, Black, other, squares, every_square, goes}
use Rattle.krieg_rays.proofs.Entries.{agree, agree_at}

knights : agree (goes Knight White) (λ s k. goes Knight White k s) ≡ true
unfolding agree every_square squares goes
knights = refl

kings : agree (goes King White) (λ s k. goes King White k s) ≡ true
unfolding agree every_square squares goes
kings = refl

rooks : agree (goes Rook White) (λ s k. goes Rook White k s) ≡ true
unfolding agree every_square squares goes
rooks = refl

bishops : agree (goes Bishop White) (λ s k. goes Bishop White k s) ≡ true
unfolding agree every_square squares goes
bishops = refl

pawns : agree (goes Pawn White) (λ s k. goes Pawn Black k s) ≡ true
unfolding agree every_square squares goes
pawns = refl

pub knight_turned : (s k : ℕ) → s < 64 → k < 64 → goes Knight White s k ≡ goes Knight White k s
knight_turned = agree_at (goes Knight White) (λ s k. goes Knight White k s) knights

pub king_turned : (s k : ℕ) → s < 64 → k < 64 → goes King White s k ≡ goes King White k s
king_turned = agree_at (goes King White) (λ s k. goes King White k s) kings

pub rook_turned : (s k : ℕ) → s < 64 → k < 64 → goes Rook White s k ≡ goes Rook White k s
rook_turned = agree_at (goes Rook White) (λ s k. goes Rook White k s) rooks

pub bishop_turned : (s k : ℕ) → s < 64 → k < 64 → goes Bishop White s k ≡ goes Bishop White k s
bishop_turned = agree_at (goes Bishop White) (λ s k. goes Bishop White k s) bishops

white_pawn_turned : (s k : ℕ) → s < 64 → k < 64 → goes Pawn White s k ≡ goes Pawn Black k s
white_pawn_turned = agree_at (goes Pawn White) (λ s k. goes Pawn Black k s) pawns

pub pawn_turned : (by : Side) (s k : ℕ) → s < 64 → k < 64 → goes Pawn (other by) s k ≡ goes Pawn by k s
pawn_turned White s k hs hk = sym (white_pawn_turned k s hk hs)
pawn_turned Black s k hs hk = white_pawn_turned s k hs hk
