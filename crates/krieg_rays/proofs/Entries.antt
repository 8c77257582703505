-- The tables say where men go on an empty board and which squares are on a line: each bit of each entry, by evaluation.
use Rattle.std.proofs.Common.{◌≡◌, ℕ, ◌<◌, Bool, true, refl, List, get_or}
use Rattle.krieg_rays.proofs.Common.{Pawn, Knight, King, White, Black, is_same_bool, squares, every_square, has, goes, is_ahead, is_on_file, is_on_rank, is_on_rising, is_on_falling, KNIGHTS, KINGS, WHITE_PAWNS, BLACK_PAWNS, WHITE_STEPS, BLACK_STEPS, FILES, RANKS, RISING, FALLING}
use Rattle.krieg_board.proofs.SameTests.{same_bool_eq}
use Rattle.krieg_board.proofs.SquareTests.{every_square_at}

-- two tests agree on each pair of squares
unfoldable pub agree : (ℕ → ℕ → Bool) → (ℕ → ℕ → Bool) → Bool
agree p q = every_square (λ s. every_square (λ k. is_same_bool (p s k) (q s k)))

pub agree_at : (p q : ℕ → ℕ → Bool) → agree p q ≡ true → (s k : ℕ) → s < 64 → k < 64 → p s k ≡ q s k
unfolding agree
agree_at p q h s k hs hk =
    same_bool_eq (p s k) (q s k)
    (every_square_at (λ k. is_same_bool (p s k) (q s k)) (every_square_at (λ s. every_square (λ k. is_same_bool (p s k) (q s k))) h s hs) k hk)

abbrev entry : List ℕ → ℕ → ℕ → Bool
entry table s k = has (get_or table s 0) k

knights : agree (entry KNIGHTS) (goes Knight White) ≡ true
unfolding agree every_square squares has goes
knights = refl

kings : agree (entry KINGS) (goes King White) ≡ true
unfolding agree every_square squares has goes
kings = refl

white_pawns : agree (entry WHITE_PAWNS) (goes Pawn White) ≡ true
unfolding agree every_square squares has goes
white_pawns = refl

black_pawns : agree (entry BLACK_PAWNS) (goes Pawn Black) ≡ true
unfolding agree every_square squares has goes
black_pawns = refl

white_steps : agree (entry WHITE_STEPS) (is_ahead White) ≡ true
unfolding agree every_square squares has is_ahead
white_steps = refl

black_steps : agree (entry BLACK_STEPS) (is_ahead Black) ≡ true
unfolding agree every_square squares has is_ahead
black_steps = refl

files : agree (entry FILES) is_on_file ≡ true
unfolding agree every_square squares has is_on_file
files = refl

ranks : agree (entry RANKS) is_on_rank ≡ true
unfolding agree every_square squares has is_on_rank
ranks = refl

rising : agree (entry RISING) is_on_rising ≡ true
unfolding agree every_square squares has is_on_rising
rising = refl

falling : agree (entry FALLING) is_on_falling ≡ true
unfolding agree every_square squares has is_on_falling
falling = refl

pub knights_has : (s k : ℕ) → s < 64 → k < 64 → has (get_or KNIGHTS s 0) k ≡ goes Knight White s k
knights_has = agree_at (entry KNIGHTS) (goes Knight White) knights

pub kings_has : (s k : ℕ) → s < 64 → k < 64 → has (get_or KINGS s 0) k ≡ goes King White s k
kings_has = agree_at (entry KINGS) (goes King White) kings

pub white_pawns_has : (s k : ℕ) → s < 64 → k < 64 → has (get_or WHITE_PAWNS s 0) k ≡ goes Pawn White s k
white_pawns_has = agree_at (entry WHITE_PAWNS) (goes Pawn White) white_pawns

pub black_pawns_has : (s k : ℕ) → s < 64 → k < 64 → has (get_or BLACK_PAWNS s 0) k ≡ goes Pawn Black s k
black_pawns_has = agree_at (entry BLACK_PAWNS) (goes Pawn Black) black_pawns

pub white_steps_has : (s k : ℕ) → s < 64 → k < 64 → has (get_or WHITE_STEPS s 0) k ≡ is_ahead White s k
white_steps_has = agree_at (entry WHITE_STEPS) (is_ahead White) white_steps

pub black_steps_has : (s k : ℕ) → s < 64 → k < 64 → has (get_or BLACK_STEPS s 0) k ≡ is_ahead Black s k
black_steps_has = agree_at (entry BLACK_STEPS) (is_ahead Black) black_steps

pub files_has : (s k : ℕ) → s < 64 → k < 64 → has (get_or FILES s 0) k ≡ is_on_file s k
files_has = agree_at (entry FILES) is_on_file files

pub ranks_has : (s k : ℕ) → s < 64 → k < 64 → has (get_or RANKS s 0) k ≡ is_on_rank s k
ranks_has = agree_at (entry RANKS) is_on_rank ranks

pub rising_has : (s k : ℕ) → s < 64 → k < 64 → has (get_or RISING s 0) k ≡ is_on_rising s k
rising_has = agree_at (entry RISING) is_on_rising rising

pub falling_has : (s k : ℕ) → s < 64 → k < 64 → has (get_or FALLING s 0) k ≡ is_on_falling s k
falling_has = agree_at (entry FALLING) is_on_falling falling

pub ruleset leaps = (knights_has, kings_has, white_pawns_has, black_pawns_has, white_steps_has, black_steps_has)

pub ruleset lines = (files_has, ranks_has, rising_has, falling_has)
