-- A board is copied square by square.
use Rattle.std.proofs.Common.{◌≡◌, ℕ, ◌+◌, ◌<◌, ◌≤◌, ◌⊎◌, inl, inr, refl, sym, ◌∙◌, ap, arith, length, set, ◌≢◌, replicate, false}
use Rattle.std.specs.Prelude.{Option, Some, None, is_some}
use Rattle.std.proofs.lemmas.List.{get_or-replicate, get_or_past, length-replicate, ext_get_or, get_or-set_same, get_or-set_other}
use Rattle.std.proofs.Math.ListN.{length-set}
use Rattle.krieg_board.proofs.Common.{Man, squares, Board, man_at, has, squares_where, set_below, board_of, sets_of, empty_board, AreExact}

pub nothing_board : board_of (record { white = 0; black = 0; pawns = 0; knights = 0; bishops = 0; rooks = 0; queens = 0; kings = 0 }) ≡ empty_board
unfolding board_of empty_board squares has
nothing_board = refl

pub nothing_exact : AreExact (record { white = 0; black = 0; pawns = 0; knights = 0; bishops = 0; rooks = 0; queens = 0; kings = 0 })
unfolding board_of sets_of squares_where set_below squares has
nothing_exact = record { exact = refl }

-- the squares below n are those of the board, and the others are empty
pub record Copied (n : ℕ) (new b : Board) : Type 0 where
  pub size : length new ≡ 64
  pub done : (k : ℕ) → k < n → man_at new k ≡ man_at b k
  pub rest : (k : ℕ) → n ≤ k → man_at new k ≡ None

none_there : (n k : ℕ) → man_at (replicate n None) k ≡ None
none_there n k = by_place (place k n)
  where
    place : (k n : ℕ) → (k < n) ⊎ (n ≤ k)
    place k n = grind arith

    by_place : (k < n) ⊎ (n ≤ k) → man_at (replicate n None) k ≡ None
    by_place (inl h) = get_or-replicate n k None None h
    by_place (inr h) = get_or_past (replicate n None) k None (rw length-replicate h)

size : (n : ℕ) → length (replicate {A = Option Man} n None) ≡ n
size n = length-replicate n None

start_at : (n : ℕ) (b : Board) → n ≡ 64 → Copied 0 (replicate n None) b
start_at n b e = record { size = size n ∙ e; done = λ k h. absurd (omega arith); rest = λ k h. none_there n k }

pub copied_start : (b : Board) → Copied 0 empty_board b
unfolding empty_board
copied_start b = start_at 64 b refl

pub copied_write : (n : ℕ) (new b : Board) → n < 64 → Copied n new b → Copied (n + 1) (set new n (man_at b n)) b
copied_write n new b h c = record {
  size = length-set new n (man_at b n) ∙ c.size;
  done = λ k l. by_place k (place k l);
  rest = λ k l. get_or-set_other new n k (man_at b n) None (above k l) ∙ c.rest k (omega arith);
}
  where
    above : (k : ℕ) → n + 1 ≤ k → k ≢ n
    above k l = omega arith

    apart : (k : ℕ) → k < n → k ≢ n
    apart k l = omega arith

    place : (k : ℕ) → k < n + 1 → (k < n) ⊎ (k ≡ n)
    place k l = grind arith

    by_place : (k : ℕ) → (k < n) ⊎ (k ≡ n) → man_at (set new n (man_at b n)) k ≡ man_at b k
    by_place k (inl l) = get_or-set_other new n k (man_at b n) None (apart k l) ∙ c.done k l
    by_place k (inr e) = ap (man_at (set new n (man_at b n))) e ∙ get_or-set_same new n (man_at b n) None (omega (arith, c.size)) ∙ sym (ap (man_at b) e)

-- a square without a man is passed over
pub copied_skip : (n : ℕ) (new b : Board) → is_some (man_at b n) ≡ false → Copied n new b → Copied (n + 1) new b
copied_skip n new b e c = record {
  size = c.size;
  done = λ k l. by_place k (place k l);
  rest = λ k l. c.rest k (omega arith);
}
  where
    place : (k : ℕ) → k < n + 1 → (k < n) ⊎ (k ≡ n)
    place k l = grind arith

    none : (x : Option Man) → is_some x ≡ false → x ≡ None
    none None e = refl
    none (Some m) e = cc

    by_place : (k : ℕ) → (k < n) ⊎ (k ≡ n) → man_at new k ≡ man_at b k
    by_place k (inl l) = c.done k l
    by_place k (inr p) = c.rest k (omega arith) ∙ sym (ap (man_at b) p ∙ none (man_at b n) e)

pub copied_all : (n : ℕ) (new b : Board) → n ≡ 64 → length b ≡ 64 → Copied n new b → new ≡ b
copied_all n new b e size c = ext_get_or None new b (c.size ∙ sym size) (λ k h. c.done k (omega (arith, c.size)))
