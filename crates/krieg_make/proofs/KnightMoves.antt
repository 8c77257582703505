-- The four positions of a made session by turns, and what comes of the move in each.
use Rattle.std.proofs.Common.{◌≡◌, ℕ, ◌<◌, Bool, true, false, not, ◌&&◌, ◌||◌, cond, refl, ◌∙◌, ap, arith}
use Rattle.std.specs.List.{list_any}
use Rattle.std.proofs.lemmas.Bool.{and_right}
use Rattle.krieg_make.proofs.Common.{attacks, is_attacked, is_between, is_clear, is_king_attacked, man_at, Pos, squares, every_square, some_square, Move, Side, White, Black, kinds, is_checked, is_checked_at, checks_from, after, is_legal, is_candidate, plain_move, promotions, moves, all_moves, is_ended, is_mate, is_stalemate, in_check, can_go, tries, tries_from, is_try, no_kinds, words, end_of, took_by, silent, Goes, Mate, Stalemate, Nothing, g1, f3, g8, f6, start_position}
use Rattle.krieg_moves.proofs.MoveLists.{is_nil_filter, moves_from_at, all_moves_at}

-- before the first move, and after each of the first three
unfoldable pub p0 : Pos
p0 = start_position

pub p1 : Pos
p1 = after p0 (plain_move g1 f3)

pub p2 : Pos
p2 = after p1 (plain_move g8 f6)

pub p3 : Pos
p3 = after p2 (plain_move f3 g1)

-- the move is legal and silent, and leads to the other position
pub record Leads (p q : Pos) (m : Move) (who : Side) : Type 0 where
  pub turn : p.side ≡ who
  pub goes : is_ended p ≡ false
  pub legal : is_legal p m ≡ true
  pub said : words p m ≡ silent
  pub next : after p m ≡ q

some_legal : (p : Pos) (f t : ℕ) → f < 64 → t < 64 → is_legal p (plain_move f t) ≡ true → is_ended p ≡ false
unfolding is_ended moves
some_legal p f t low_f low_t legal =
    is_nil_filter (is_legal p) all_moves
    ∙ ap not (all_moves_at (is_legal p) f low_f (moves_from_at (is_legal p) f t low_t (ap (λ (b : Bool). b || list_any (is_legal p) (promotions f t)) legal)))

goes_on : (p : Pos) → is_ended p ≡ false → end_of p ≡ Goes
unfolding is_mate is_stalemate
goes_on p goes =
    (λ i. cond (in_check p && goes i) Mate (cond (not (in_check p) && goes i) Stalemate Goes))
    ∙ (λ i. cond (and_right (in_check p) false refl i) Mate (cond (and_right (not (in_check p)) false refl i) Stalemate Goes))

silent_words : (p q : Pos) (m : Move) → after p m ≡ q → took_by p (man_at p.board m.from) m ≡ Nothing → is_ended q ≡ false → kinds q ≡ no_kinds → tries q ≡ 0 → words p m ≡ silent
unfolding words
silent_words p q m next took goes none_of none =
    λ i. record { end = (ap end_of next ∙ goes_on q goes) i; took = took i; checks = (ap kinds next ∙ none_of) i; tries = (ap tries next ∙ none) i }

-- what computing shows of a move and of the position in which it is made
record Computed (p q : Pos) (f t : ℕ) (who : Side) : Type 0 where
  turn : p.side ≡ who
  squares_in : (f < 64) × (t < 64)
  legal : is_legal p (plain_move f t) ≡ true
  took : took_by p (man_at p.board f) (plain_move f t) ≡ Nothing
  no_check : kinds p ≡ no_kinds
  no_try : tries p ≡ 0
  next : after p (plain_move f t) ≡ q

-- both knights are back behind the fourth
computed : Computed p0 p1 g1 f3 White × Computed p1 p2 g8 f6 Black × Computed p2 p3 f3 g1 White × Computed p3 p0 f6 g8 Black
unfolding p0 p1 p2 p3 start_position kinds is_checked is_checked_at checks_from tries tries_from is_try can_go after is_legal is_candidate is_king_attacked attacks is_attacked is_between is_clear every_square some_square squares
computed = (
  record { turn = refl; squares_in = (omega arith, omega arith); legal = refl; took = refl; no_check = refl; no_try = refl; next = refl },
  record { turn = refl; squares_in = (omega arith, omega arith); legal = refl; took = refl; no_check = refl; no_try = refl; next = refl },
  record { turn = refl; squares_in = (omega arith, omega arith); legal = refl; took = refl; no_check = refl; no_try = refl; next = refl },
  record { turn = refl; squares_in = (omega arith, omega arith); legal = refl; took = refl; no_check = refl; no_try = refl; next = refl },
)

-- what is computed of two moves that follow one another shows that the first leads to where the second is made
leads : {p q r : Pos} {f t g u : ℕ} {who next_who : Side} → Computed p q f t who → Computed q r g u next_who → Leads p q (plain_move f t) who
leads {p = p} {q = q} {r = r} {f = f} {t = t} {g = g} {u = u} {who = who} {next_who = next_who} c n =
    record {
      turn = c.turn;
      goes = some_legal p f t c.squares_in.0 c.squares_in.1 c.legal;
      legal = c.legal;
      said = silent_words p q (plain_move f t) c.next c.took (some_legal q g u n.squares_in.0 n.squares_in.1 n.legal) n.no_check n.no_try;
      next = c.next;
    }

pub all_lead : Leads p0 p1 (plain_move g1 f3) White × Leads p1 p2 (plain_move g8 f6) Black × Leads p2 p3 (plain_move f3 g1) White × Leads p3 p0 (plain_move f6 g8) Black
all_lead = let (first, second, third, fourth) = computed in (leads first second, leads second third, leads third fourth, leads fourth first)
