-- The kinds of check by the set of the men that attack the king: a knight gives a leap, any other man a check by the line on which he stands.
use Rattle.std.proofs.Common.{◌≡◌, ℕ, ◌^◌, ◌<◌, Bool, true, false, not, ◌&&◌, ◌||◌, ◌==◌, refl, sym, ◌∙◌, ap, cond, bit_and, arith}
use Rattle.std.specs.Prelude.{Option, Some, None}
use Rattle.std.specs.Int.RustNames.{bit_xor}
use Rattle.std.proofs.lemmas.Bool.{and_from, and_parts}
use Rattle.std.proofs.lemmas.Nat.{and_le_l, xor_lt}
use Rattle.krieg_words.proofs.Common.{Side, White, Black, Kind, Pawn, Knight, Bishop, Rook, Queen, King, Man, other, is_same_bool, is_same_side, is_same_kind, squares, file_of, rank_of, every_square, some_square, Board, man_at, is_of, is_man, is_kind, attacks, man_attacks, can_reach, slides, is_clear, has, count_kind, goes, is_on_file, is_on_rank, is_on_rising, is_on_falling, is_long_diagonal, is_on_long, is_on_short, CheckKind, File, Rank, Long, Short, Leap, is_knight, kind_from, is_same_check, checks_from, is_checked_at, is_checked}
use Rattle.krieg_board.proofs.SquareTests.{every_square_at}
use Rattle.krieg_board.proofs.SetLemmas.{differ, has_and, has_xor, has_zero}
use Rattle.krieg_board.proofs.OneKing.{set_empty}
use Rattle.krieg_board.proofs.SameTests.{same_bool_eq}
use Rattle.krieg_rays.proofs.Kings.{king_search}

-- s is another square on one of the four lines through k
abbrev is_on_line : ℕ → ℕ → Bool
is_on_line k s = (is_on_file k s || is_on_rank k s) || (is_on_rising k s || is_on_falling k s)

second : (a b : Bool) → a ≡ true → (not a || b) ≡ true → b ≡ true
second true b e h = h
second false b e h = cc

-- a man goes along the lines through his square
unfoldable keeps_to_lines : (ℕ → ℕ → Bool) → Bool
keeps_to_lines near = every_square (λ s. every_square (λ k. not (near s k) || is_on_line k s))

white_pawns : keeps_to_lines (goes Pawn White) ≡ true
unfolding keeps_to_lines every_square squares goes is_on_file is_on_rank is_on_rising is_on_falling
white_pawns = refl

black_pawns : keeps_to_lines (goes Pawn Black) ≡ true
unfolding keeps_to_lines every_square squares goes is_on_file is_on_rank is_on_rising is_on_falling
black_pawns = refl

kings : keeps_to_lines (goes King White) ≡ true
unfolding keeps_to_lines every_square squares goes is_on_file is_on_rank is_on_rising is_on_falling
kings = refl

queens : keeps_to_lines (goes Queen White) ≡ true
unfolding keeps_to_lines every_square squares goes is_on_file is_on_rank is_on_rising is_on_falling
queens = refl

rooks : keeps_to_lines (goes Rook White) ≡ true
unfolding keeps_to_lines every_square squares goes is_on_file is_on_rank is_on_rising is_on_falling
rooks = refl

bishops : keeps_to_lines (goes Bishop White) ≡ true
unfolding keeps_to_lines every_square squares goes is_on_file is_on_rank is_on_rising is_on_falling
bishops = refl

keeps : (near : ℕ → ℕ → Bool) → keeps_to_lines near ≡ true → (s k : ℕ) → s < 64 → k < 64 → near s k ≡ true → is_on_line k s ≡ true
unfolding keeps_to_lines
keeps near h s k hs hk there =
    second (near s k) (is_on_line k s) there
    (every_square_at (λ k. not (near s k) || is_on_line k s) (every_square_at (λ s. every_square (λ k. not (near s k) || is_on_line k s)) h s hs) k hk)

by_kind : (which : Kind) (side : Side) (s k : ℕ) → s < 64 → k < 64 → is_same_kind which Knight ≡ false → (not (s == k) && can_reach which side s k) ≡ true → is_on_line k s ≡ true
unfolding goes
by_kind Pawn White s k hs hk e h = keeps (goes Pawn White) white_pawns s k hs hk h
by_kind Pawn Black s k hs hk e h = keeps (goes Pawn Black) black_pawns s k hs hk h
by_kind Knight side s k hs hk e h = cc
by_kind Bishop side s k hs hk e h = keeps (goes Bishop White) bishops s k hs hk h
by_kind Rook side s k hs hk e h = keeps (goes Rook White) rooks s k hs hk h
by_kind Queen side s k hs hk e h = keeps (goes Queen White) queens s k hs hk h
by_kind King side s k hs hk e h = keeps (goes King White) kings s k hs hk h

-- a man that attacks the king, and is no knight, stands on a line through the king's square
on_line : (b : Board) (x : Option Man) (s k : ℕ) → s < 64 → k < 64 → is_kind Knight x ≡ false → man_attacks b x s k ≡ true → is_on_line k s ≡ true
on_line b None s k hs hk e h = cc
on_line b (Some m) s k hs hk e h =
    let apart = and_parts (not (s == k)) (can_reach m.kind m.side s k && (not (slides m.kind) || is_clear b s k)) h in
    let reach = and_parts (can_reach m.kind m.side s k) (not (slides m.kind) || is_clear b s k) apart.1 in
    by_kind m.kind m.side s k hs hk e (and_from (not (s == k)) (can_reach m.kind m.side s k) apart.0 reach.0)

-- the kind of check that a man who is no knight gives from s
abbrev line_kind : ℕ → ℕ → CheckKind
line_kind k s = cond (file_of s == file_of k) File (cond (rank_of s == rank_of k) Rank (cond (is_long_diagonal k s) Long Short))

-- on the lines through the king's square, the kind is the line's
unfoldable names : CheckKind → (ℕ → ℕ → Bool) → Bool
names which on = every_square (λ k. every_square (λ s. not (is_on_line k s) || is_same_bool (is_same_check (line_kind k s) which) (on k s)))

file_named : names File is_on_file ≡ true
unfolding names every_square squares is_on_file is_on_rank is_on_rising is_on_falling
file_named = refl

rank_named : names Rank is_on_rank ≡ true
unfolding names every_square squares is_on_file is_on_rank is_on_rising is_on_falling
rank_named = refl

long_named : names Long is_on_long ≡ true
unfolding names every_square squares is_on_file is_on_rank is_on_rising is_on_falling is_on_long
long_named = refl

short_named : names Short is_on_short ≡ true
unfolding names every_square squares is_on_file is_on_rank is_on_rising is_on_falling is_on_short
short_named = refl

named : (which : CheckKind) (on : ℕ → ℕ → Bool) → names which on ≡ true → (k s : ℕ) → k < 64 → s < 64 → is_on_line k s ≡ true → is_same_check (line_kind k s) which ≡ on k s
unfolding names
named which on h k s hk hs line =
    same_bool_eq (is_same_check (line_kind k s) which) (on k s)
    (second (is_on_line k s) (is_same_bool (is_same_check (line_kind k s) which) (on k s)) line
    (every_square_at (λ s. not (is_on_line k s) || is_same_bool (is_same_check (line_kind k s) which) (on k s))
    (every_square_at (λ k. every_square (λ s. not (is_on_line k s) || is_same_bool (is_same_check (line_kind k s) which) (on k s))) h k hk) s hs))

knight_is : (x : Option Man) → is_knight x ≡ is_kind Knight x
knight_is None = refl
knight_is (Some m) = by_side m.side (is_same_kind m.kind Knight)
  where
    by_side : (s : Side) (t : Bool) → ((is_same_side s White && t) || (is_same_side s Black && t)) ≡ t
    by_side White true = refl
    by_side White false = refl
    by_side Black true = refl
    by_side Black false = refl

-- the one king of the side stands on k, and the set is that of the enemy men that attack him
pub record Attack (b : Board) (side : Side) (k givers : ℕ) : Type 0 where
  pub one : count_kind b side King ≡ 1
  pub below : k < 64
  pub king : is_man side King (man_at b k) ≡ true
  pub small : givers < 2 ^ 64
  pub gives : (s : ℕ) → s < 64 → has givers s ≡ (is_of (other side) (man_at b s) && attacks b s k)

abbrev pub AreKnights : ℕ → Board → Type 0
AreKnights knights b = (s : ℕ) → s < 64 → has knights s ≡ is_kind Knight (man_at b s)

-- a kind of check is there where the set of those who give it is not empty
checked : (b : Board) (side : Side) (which : CheckKind) (k givers n : ℕ) → Attack b side k givers → n < 2 ^ 64 →
    ((s : ℕ) → s < 64 → has n s ≡ checks_from b side which k s) → not (n == 0) ≡ is_checked b side which
unfolding is_checked is_checked_at
checked b side which k givers n a small e =
    sym (king_search b side k a.one a.below a.king (λ k. some_square (checks_from b side which k)) ∙ set_empty n (checks_from b side which k) small e)

-- where no enemy man attacks the king, he is in no check
pub not_checked : (b : Board) (side : Side) (which : CheckKind) (k givers : ℕ) → Attack b side k givers → givers ≡ 0 → false ≡ is_checked b side which
unfolding checks_from
not_checked b side which k givers a none =
    checked b side which k givers 0 a (omega arith) (λ s hs. has_zero s ∙ sym (nobody (is_of (other side) (man_at b s)) (attacks b s k)
    (is_same_check (kind_from (man_at b s) k s) which) (sym (a.gives s hs) ∙ ap (λ n. has n s) none ∙ has_zero s)))
  where
    nobody : (u t w : Bool) → (u && t) ≡ false → (u && (t && w)) ≡ false
    nobody true true w e = cc
    nobody true false w e = refl
    nobody false t w e = refl

-- the knights among the givers give a leap
pub leap_checked : (b : Board) (side : Side) (k givers knights : ℕ) → Attack b side k givers → AreKnights knights b → not (bit_and givers knights == 0) ≡ is_checked b side Leap
unfolding checks_from
leap_checked b side k givers knights a en =
    checked b side Leap k givers (bit_and givers knights) a (omega (arith, and_le_l givers knights, a.small)) (λ s hs.
    has_and givers knights s
    ∙ (λ i. a.gives s hs i && (en s hs ∙ sym (knight_is (man_at b s))) i)
    ∙ joined (is_of (other side) (man_at b s)) (attacks b s k) (is_knight (man_at b s)) (file_of s == file_of k) (rank_of s == rank_of k) (is_long_diagonal k s))
  where
    joined : (u a n f r l : Bool) → ((u && a) && n) ≡ (u && (a && is_same_check (cond n Leap (cond f File (cond r Rank (cond l Long Short)))) Leap))
    joined false a n f r l = refl
    joined true false n f r l = refl
    joined true true true f r l = refl
    joined true true false true r l = refl
    joined true true false false true l = refl
    joined true true false false false true = refl
    joined true true false false false false = refl

-- the others on a line give a check by that line
others_check : (which : CheckKind) (on : ℕ → ℕ → Bool) → is_same_check Leap which ≡ false → names which on ≡ true →
    (b : Board) (side : Side) (k givers knights line s : ℕ) → Attack b side k givers → AreKnights knights b → s < 64 → has line s ≡ on k s →
    has (bit_and (bit_xor givers (bit_and givers knights)) line) s ≡ checks_from b side which k s
unfolding checks_from attacks
others_check which on no_leap h b side k givers knights line s at en hs el =
    simp (has_and, has_xor)
    ((λ i. differ (at.gives s hs i) (at.gives s hs i && en s hs i) && el i)
    ∙ joined (is_of (other side) (man_at b s)) (man_attacks b (man_at b s) s k) (is_kind Knight (man_at b s)) (on k s) (line_kind k s)
    (λ attack plain. named which on h k s at.below hs (on_line b (man_at b s) s k hs at.below plain attack))
    ∙ ap (λ n. is_of (other side) (man_at b s) && (man_attacks b (man_at b s) s k && is_same_check (cond n Leap (line_kind k s)) which)) (sym (knight_is (man_at b s))))
  where
    joined : (u a n o : Bool) (l : CheckKind) → (a ≡ true → n ≡ false → is_same_check l which ≡ o) →
        (differ (u && a) ((u && a) && n) && o) ≡ (u && (a && is_same_check (cond n Leap l) which))
    joined false a n o l e = refl
    joined true false n o l e = refl
    joined true true true o l e = sym no_leap
    joined true true false o l e = sym (e refl refl)

line_checked : (which : CheckKind) (on : ℕ → ℕ → Bool) → is_same_check Leap which ≡ false → names which on ≡ true →
    (b : Board) (side : Side) (k givers knights line : ℕ) → Attack b side k givers → AreKnights knights b → ((s : ℕ) → s < 64 → has line s ≡ on k s) →
    not (bit_and (bit_xor givers (bit_and givers knights)) line == 0) ≡ is_checked b side which
line_checked which on no_leap h b side k givers knights line a en el =
    checked b side which k givers (bit_and (bit_xor givers (bit_and givers knights)) line) a
    (omega (arith, and_le_l (bit_xor givers (bit_and givers knights)) line, xor_lt 64 givers (bit_and givers knights) a.small (omega (arith, and_le_l givers knights, a.small))))
    (λ s hs. others_check which on no_leap h b side k givers knights line s a en hs (el s hs))

pub file_checked : (b : Board) (side : Side) (k givers knights line : ℕ) → Attack b side k givers → AreKnights knights b → ((s : ℕ) → s < 64 → has line s ≡ is_on_file k s) →
    not (bit_and (bit_xor givers (bit_and givers knights)) line == 0) ≡ is_checked b side File
file_checked = line_checked File is_on_file refl file_named

pub rank_checked : (b : Board) (side : Side) (k givers knights line : ℕ) → Attack b side k givers → AreKnights knights b → ((s : ℕ) → s < 64 → has line s ≡ is_on_rank k s) →
    not (bit_and (bit_xor givers (bit_and givers knights)) line == 0) ≡ is_checked b side Rank
rank_checked = line_checked Rank is_on_rank refl rank_named

pub long_checked : (b : Board) (side : Side) (k givers knights line : ℕ) → Attack b side k givers → AreKnights knights b → ((s : ℕ) → s < 64 → has line s ≡ is_on_long k s) →
    not (bit_and (bit_xor givers (bit_and givers knights)) line == 0) ≡ is_checked b side Long
long_checked = line_checked Long is_on_long refl long_named

pub short_checked : (b : Board) (side : Side) (k givers knights line : ℕ) → Attack b side k givers → AreKnights knights b → ((s : ℕ) → s < 64 → has line s ≡ is_on_short k s) →
    not (bit_and (bit_xor givers (bit_and givers knights)) line == 0) ≡ is_checked b side Short
short_checked = line_checked Short is_on_short refl short_named
