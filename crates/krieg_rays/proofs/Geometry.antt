-- The lines through a square: what lies between two squares of a line, by evaluation, and what is seen along two lines.
use Rattle.std.proofs.Common.{◌≡◌, ℕ, ◌<◌, Bool, true, false, not, ◌&&◌, ◌||◌, refl, sym, ◌∙◌, ap, bit_and, bit_or}
use Rattle.std.proofs.lemmas.Bool.{and_parts, not-true}
use Rattle.std.proofs.Math.Bool.{and-or_distrib_right}
use Rattle.krieg_rays.proofs.Common.{Bishop, Rook, White, is_same_bool, squares, every_square, is_inside, is_between, has, goes, is_seen, is_open, is_on_file, is_on_rank, is_on_rising, is_on_falling}
use Rattle.krieg_board.proofs.SquareTests.{every_square_at}
use Rattle.krieg_board.proofs.SetLemmas.{has_and, has_or, has_zero}
use Rattle.krieg_board.proofs.SameTests.{every_square_same, same_bool_eq}
use Rattle.krieg_rays.proofs.Entries.{agree, agree_at}

-- between s and k lie the squares of the line with the numbers between
abbrev lies_along : (ℕ → ℕ → Bool) → ℕ → ℕ → Bool
lies_along on s k = every_square (λ j. is_same_bool (is_between s k j) (on s j && is_inside s j k))

-- no line goes through its own square, and between two squares of a line lies what is on it and numbered between
unfoldable is_line : (ℕ → ℕ → Bool) → Bool
is_line on = every_square (λ s. not (on s s) && every_square (λ k. not (on s k) || lies_along on s k))

file : is_line is_on_file ≡ true
unfolding is_line every_square squares is_between is_on_file
file = refl

rank : is_line is_on_rank ≡ true
unfolding is_line every_square squares is_between is_on_rank
rank = refl

rising : is_line is_on_rising ≡ true
unfolding is_line every_square squares is_between is_on_rising
rising = refl

falling : is_line is_on_falling ≡ true
unfolding is_line every_square squares is_between is_on_falling
falling = refl

straight : agree (λ s k. is_on_file s k || is_on_rank s k) (goes Rook White) ≡ true
unfolding agree every_square squares goes is_on_file is_on_rank
straight = refl

diagonal : agree (λ s k. is_on_rising s k || is_on_falling s k) (goes Bishop White) ≡ true
unfolding agree every_square squares goes is_on_rising is_on_falling
diagonal = refl

-- a rook goes along files and ranks, a bishop along diagonals
pub straight_lines : (s k : ℕ) → s < 64 → k < 64 → (is_on_file s k || is_on_rank s k) ≡ goes Rook White s k
straight_lines = agree_at (λ s k. is_on_file s k || is_on_rank s k) (goes Rook White) straight

pub diagonal_lines : (s k : ℕ) → s < 64 → k < 64 → (is_on_rising s k || is_on_falling s k) ≡ goes Bishop White s k
diagonal_lines = agree_at (λ s k. is_on_rising s k || is_on_falling s k) (goes Bishop White) diagonal

along : (on : ℕ → ℕ → Bool) → is_line on ≡ true → (s : ℕ) → s < 64 → (on s s ≡ false)
    × ((k j : ℕ) → k < 64 → j < 64 → on s k ≡ true → is_between s k j ≡ (on s j && is_inside s j k))
unfolding is_line
along on h s hs =
    let here = and_parts (not (on s s)) (every_square (λ k. not (on s k) || lies_along on s k))
    (every_square_at (λ s. not (on s s) && every_square (λ k. not (on s k) || lies_along on s k)) h s hs) in (
      not-true (on s s) here.0,
      λ k j hk hj at. same_bool_eq (is_between s k j) (on s j && is_inside s j k)
          (every_square_at (λ j. is_same_bool (is_between s k j) (on s j && is_inside s j k))
          (second (on s k) (lies_along on s k) at (every_square_at (λ k. not (on s k) || lies_along on s k) here.1 k hk)) j hj),
    )
  where
    second : (a b : Bool) → a ≡ true → (not a || b) ≡ true → b ≡ true
    second true b e h = h
    second false b e h = cc

under : (a b c : Bool) → (a ≡ true → b ≡ c) → (a && b) ≡ (a && c)
under true b c e = e refl
under false b c e = refl

-- what is seen along a line is the squares of the line to which the way is open
seen_open : (on : ℕ → ℕ → Bool) → is_line on ≡ true → (line occupied s k : ℕ) → s < 64 → k < 64 → ((j : ℕ) → j < 64 → has line j ≡ on s j) →
    is_seen line occupied s k ≡ (on s k && is_open occupied s k)
unfolding is_seen is_open
seen_open on h line occupied s k hs hk e =
    (λ i. e k hk i && every_square (λ j. not ((has line j && is_inside s j k) && has occupied j)))
    ∙ under (on s k) (every_square (λ j. not ((has line j && is_inside s j k) && has occupied j))) (every_square (λ j. not (is_between s k j && has occupied j)))
    (λ at. every_square_same (λ j. not ((has line j && is_inside s j k) && has occupied j)) (λ j. not (is_between s k j && has occupied j))
    (λ j hj. ap (λ x. not (x && has occupied j)) (ap (λ x. x && is_inside s j k) (e j hj) ∙ sym ((along on h s hs).1 k j hk hj at))))

two_lines : (on up : ℕ → ℕ → Bool) → is_line on ≡ true → is_line up ≡ true → (test : ℕ → ℕ → Bool) → agree (λ s k. on s k || up s k) test ≡ true →
    (occupied s k l m a b : ℕ) → s < 64 → k < 64 → ((j : ℕ) → j < 64 → has l j ≡ on s j) → ((j : ℕ) → j < 64 → has m j ≡ up s j) →
    has a k ≡ is_seen l occupied s k → has b k ≡ is_seen m occupied s k → has (bit_or a b) k ≡ (test s k && is_open occupied s k)
two_lines on up hon hup test both occupied s k l m a b hs hk el em ea eb =
    has_or a b k
    ∙ (λ i. (ea ∙ seen_open on hon l occupied s k hs hk el) i || (eb ∙ seen_open up hup m occupied s k hs hk em) i)
    ∙ sym (and-or_distrib_right (on s k) (up s k) (is_open occupied s k))
    ∙ ap (λ x. x && is_open occupied s k) (agree_at (λ s k. on s k || up s k) test both s k hs hk)

pub file_apart : (n s : ℕ) → s < 64 → ((j : ℕ) → j < 64 → has n j ≡ is_on_file s j) → has n s ≡ false
file_apart n s h e = e s h ∙ (along is_on_file file s h).0

pub rank_apart : (n s : ℕ) → s < 64 → ((j : ℕ) → j < 64 → has n j ≡ is_on_rank s j) → has n s ≡ false
rank_apart n s h e = e s h ∙ (along is_on_rank rank s h).0

pub rising_apart : (n s : ℕ) → s < 64 → ((j : ℕ) → j < 64 → has n j ≡ is_on_rising s j) → has n s ≡ false
rising_apart n s h e = e s h ∙ (along is_on_rising rising s h).0

pub falling_apart : (n s : ℕ) → s < 64 → ((j : ℕ) → j < 64 → has n j ≡ is_on_falling s j) → has n s ≡ false
falling_apart n s h e = e s h ∙ (along is_on_falling falling s h).0

pub straight_open : (occupied s k l m a b : ℕ) → s < 64 → k < 64 → ((j : ℕ) → j < 64 → has l j ≡ is_on_file s j) → ((j : ℕ) → j < 64 → has m j ≡ is_on_rank s j) →
    has a k ≡ is_seen l occupied s k → has b k ≡ is_seen m occupied s k → has (bit_or a b) k ≡ (goes Rook White s k && is_open occupied s k)
straight_open = two_lines is_on_file is_on_rank file rank (goes Rook White) straight

pub diagonal_open : (occupied s k l m a b : ℕ) → s < 64 → k < 64 → ((j : ℕ) → j < 64 → has l j ≡ is_on_rising s j) → ((j : ℕ) → j < 64 → has m j ≡ is_on_falling s j) →
    has a k ≡ is_seen l occupied s k → has b k ≡ is_seen m occupied s k → has (bit_or a b) k ≡ (goes Bishop White s k && is_open occupied s k)
diagonal_open = two_lines is_on_rising is_on_falling rising falling (goes Bishop White) diagonal

-- where no man of a set is on either line, none is seen along them
none_on_lines : (on up test : ℕ → ℕ → Bool) → agree (λ s k. on s k || up s k) test ≡ true → (s k l m men : ℕ) (way : Bool) → s < 64 → k < 64 →
    ((j : ℕ) → j < 64 → has l j ≡ on s j) → ((j : ℕ) → j < 64 → has m j ≡ up s j) → bit_and (bit_or l m) men ≡ 0 → ((test s k && way) && has men k) ≡ false
none_on_lines on up test both s k l m men way hs hk el em z =
    apart (test s k) way (has men k)
    (ap (λ x. x && has men k) (sym (agree_at (λ s k. on s k || up s k) test both s k hs hk) ∙ sym (λ i. el k hk i || em k hk i) ∙ sym (has_or l m k))
    ∙ sym (has_and (bit_or l m) men k) ∙ ap (λ n. has n k) z ∙ has_zero k)
  where
    apart : (a b c : Bool) → (a && c) ≡ false → ((a && b) && c) ≡ false
    apart true true c e = e
    apart true false c e = refl
    apart false b c e = refl

pub none_straight : (s k l m men : ℕ) (way : Bool) → s < 64 → k < 64 → ((j : ℕ) → j < 64 → has l j ≡ is_on_file s j) → ((j : ℕ) → j < 64 → has m j ≡ is_on_rank s j) →
    bit_and (bit_or l m) men ≡ 0 → ((goes Rook White s k && way) && has men k) ≡ false
none_straight = none_on_lines is_on_file is_on_rank (goes Rook White) straight

pub none_diagonal : (s k l m men : ℕ) (way : Bool) → s < 64 → k < 64 → ((j : ℕ) → j < 64 → has l j ≡ is_on_rising s j) → ((j : ℕ) → j < 64 → has m j ≡ is_on_falling s j) →
    bit_and (bit_or l m) men ≡ 0 → ((goes Bishop White s k && way) && has men k) ≡ false
none_diagonal = none_on_lines is_on_rising is_on_falling (goes Bishop White) diagonal
