-- In each made position the rook mates: the men on the two highest ranks do it, and all that stand below is computed away.
use Rattle.std.proofs.Common.{◌≡◌, ℕ, ◌%◌, ◌<◌, Bool, true, false, not, ◌&&◌, ◌||◌, ◌==◌, nat_lt, Option, Some, None, set, length, refl, sym, ◌∙◌, ap, subst, inl, inr, arith}
use Rattle.std.specs.Prelude.{◌⊎◌, ◌++◌, replicate}
use Rattle.std.specs.List.{list_all, range_with_len}
use Rattle.std.proofs.lemmas.Bool.{and_from, and_parts, eqb-true, lt-ltb, or_cases}
use Rattle.krieg_make.proofs.Common.{attacks, is_attacked, is_between, is_clear, is_king_attacked, Board, man_at, is_of, is_man, empty_board, is_same_man, square_at, squares, every_square, some_square, IsValid, Pawn, Rook, King, Man, White, Black, after, after_by, is_legal, is_candidate, plain_move, is_mate, RookMates, man, made_board, made_position, pair_at, pairs, c1, g1, g8, h7, POSITION_COUNT}
use Rattle.krieg_board.proofs.MenLemmas.{same_side_eq, same_kind_eq}
use Rattle.krieg_board.proofs.SquareTests.{every_square_at}
use Rattle.krieg_moves.proofs.KeepsValid.{valid_after}
use Rattle.krieg_moves.proofs.Movers.{below_from}
use Rattle.krieg_make.proofs.MatedKing.{to_move, Agree, Mans, Net, is_filled, is_caught, net_mates, man_found, below_or_not}
use Rattle.krieg_make.proofs.Numbers.{all_within}
use Rattle.krieg_make.proofs.Walks.{walk, walked, unattacked, not_attacked, implied}
use Rattle.krieg_make.proofs.ValidPositions.{made_valid}

-- the board after the rook went from g1 to g8
abbrev rook_gone : Board → Board
rook_gone b = set (set b g1 None) g8 (Some (man White Rook))

-- Black's king on a file of the last rank and White's rooks, with black pawns on the six lower ranks
unfoldable netted : ℕ → Board
netted file =
    set (set (set (replicate 48 (Some (man Black Pawn)) ++ replicate 16 None) g8 (Some (man White Rook))) h7 (Some (man White Rook))) (square_at file 7) (Some (man Black King))

-- no other black man stands above
unfoldable is_lone : ℕ → Bool
is_lone file = every_square (λ s. not (is_of Black (man_at (netted file) s)) || (nat_lt s 48 || s == square_at file 7))

net : (file : ℕ) → file < 5 → Net (netted file) (square_at file 7) × (is_lone file ≡ true)
unfolding netted is_lone is_filled is_caught is_attacked attacks is_between is_clear every_square some_square squares
net file h =
    let each : (test : ℕ → Bool) → list_all test (range_with_len 0 5) ≡ true → test file ≡ true = λ test all. all_within test 0 5 file (omega arith) h all in (
      record {
        size = eqb-true (length (netted file)) 64 (each (λ k. length (netted k) == 64) refl);
        high = omega arith;
        inside = omega arith;
        filled = each (λ k. is_filled (netted k)) refl;
        king = man_found Black King (man_at (netted file) (square_at file 7)) (each (λ k. is_man Black King (man_at (netted k) (square_at k 7))) refl);
        check = each (λ k. is_attacked (netted k) (square_at k 7) White) refl;
        caught = each (λ k. is_caught (netted k) (square_at k 7)) refl;
      },
      each is_lone refl,
    )

-- no black man but a pawn stands on a square below, and above the man of the net
abbrev fits_man : ℕ → Option Man → Option Man → Bool
fits_man s x y = (not (nat_lt s 48) || (not (is_of Black x) || is_man Black Pawn x)) && (nat_lt s 48 || is_same_man x y)

unfoldable fits : Board → ℕ → Bool
fits b file = length b == 64 && walk fits_man 0 b (netted file)

same_man_eq : (x y : Option Man) → is_same_man x y ≡ true → x ≡ y
same_man_eq None None h = refl
same_man_eq None (Some b) h = cc
same_man_eq (Some a) None h = cc
same_man_eq (Some a) (Some b) h =
    let r = and_parts _ _ h in
    λ i. Some (record { side = same_side_eq a.side b.side r.0 i; kind = same_kind_eq a.kind b.kind r.1 i })

at_square : (b : Board) (file s : ℕ) → fits b file ≡ true → s < 64 →
    ((not (nat_lt s 48) || (not (is_of Black (man_at b s)) || is_man Black Pawn (man_at b s))) ≡ true) × ((nat_lt s 48 || is_same_man (man_at b s) (man_at (netted file) s)) ≡ true)
unfolding fits
at_square b file s fit l =
    let parts = and_parts (length b == 64) (walk fits_man 0 b (netted file)) fit in
    let size : length b ≡ 64 = eqb-true (length b) 64 parts.0 in
    and_parts (not (nat_lt s 48) || (not (is_of Black (man_at b s)) || is_man Black Pawn (man_at b s))) _ (walked fits_man 0 b (netted file) parts.1 s s (omega (arith, size)) (omega arith))

fits_above : (b : Board) (file : ℕ) → fits b file ≡ true → Agree b (netted file)
fits_above b file fit s high l = by (or_cases (nat_lt s 48) (is_same_man (man_at b s) (man_at (netted file) s)) (at_square b file s fit l).1)
  where
    by : (nat_lt s 48 ≡ true) ⊎ (is_same_man (man_at b s) (man_at (netted file) s) ≡ true) → man_at b s ≡ man_at (netted file) s
    by (inl low) = absurd (let least = below_from s 48 low in omega arith)
    by (inr same) = same_man_eq (man_at b s) (man_at (netted file) s) same

fits_mans : (b : Board) (file : ℕ) → fits b file ≡ true → is_lone file ≡ true → Net (netted file) (square_at file 7) → Mans b (square_at file 7)
unfolding is_lone
fits_mans b file fit lone n s l black = by (below_or_not s)
  where
    only : man_at b s ≡ man_at (netted file) s → 47 < s → (nat_lt s 48 ≡ true) ⊎ ((s == square_at file 7) ≡ true) → (s ≡ square_at file 7) × (man_at b s ≡ Some (man Black King))
    only same high (inl low) = absurd (let least = below_from s 48 low in omega arith)
    only same high (inr here) = let e = eqb-true s (square_at file 7) here in (e, same ∙ (ap (man_at (netted file)) e ∙ n.king))

    by : (s < 48) ⊎ (47 < s) → ((s < 48) × (man_at b s ≡ Some (man Black Pawn))) ⊎ ((s ≡ square_at file 7) × (man_at b s ≡ Some (man Black King)))
    by (inl low) =
        inl (
          low,
          man_found Black Pawn (man_at b s) (implied (is_of Black (man_at b s)) (is_man Black Pawn (man_at b s)) black
              (implied (nat_lt s 48) (not (is_of Black (man_at b s)) || is_man Black Pawn (man_at b s)) (lt-ltb s 48 low) (at_square b file s fit l).0)),
        )
    by (inr high) =
        let same = fits_above b file fit s high l in
        inr (only same high (or_cases (nat_lt s 48) (s == square_at file 7)
        (implied (is_of Black (man_at (netted file) s)) (nat_lt s 48 || s == square_at file 7) (ap (is_of Black) (sym same) ∙ black)
        (every_square_at (λ s. not (is_of Black (man_at (netted file) s)) || (nat_lt s 48 || s == square_at file 7)) lone s l))))

-- what is computed of each made position
unfoldable fits_gone : ℕ → Bool
fits_gone i = is_man White Rook (man_at (made_position i).board g1) && fits (rook_gone (made_position i).board) (i % 5)

unfoldable may_go : ℕ → Bool
may_go i = is_candidate (made_position i) (plain_move g1 g8) && unattacked (rook_gone (made_position i).board) White c1

all_fit : list_all fits_gone (range_with_len 0 POSITION_COUNT) ≡ true
unfolding fits_gone fits walk netted made_position made_board pair_at pairs empty_board
all_fit = refl

all_go : list_all may_go (range_with_len 0 POSITION_COUNT) ≡ true
unfolding may_go unattacked walk made_position made_board pair_at pairs empty_board is_candidate attacks is_between is_clear every_square squares
all_go = refl

pub rook_mates : RookMates
unfolding fits_gone may_go after is_legal made_position
rook_mates i h =
    let p = made_position i in
    let b = rook_gone p.board in
    let file = i % 5 in
    let r = and_parts (is_man White Rook (man_at p.board g1)) (fits b file) (all_within fits_gone 0 POSITION_COUNT i (omega arith) h all_fit) in
    let (caught, lone) = net file (omega arith) in
    let next : after p (plain_move g1 g8) ≡ to_move Black b = ap (λ y. after_by p y (plain_move g1 g8)) (man_found White Rook (man_at p.board g1) r.0) in
    let goes = and_parts (is_candidate p (plain_move g1 g8)) (unattacked b White c1) (all_within may_go 0 POSITION_COUNT i (omega arith) h all_go) in
    let safe : is_king_attacked (after p (plain_move g1 g8)).board White ≡ false = ap (λ q. is_king_attacked q.board White) next ∙ not_attacked b White c1 goes.1 in
    let legal : is_legal p (plain_move g1 g8) ≡ true = and_from (is_candidate p (plain_move g1 g8)) (not (is_king_attacked (after p (plain_move g1 g8)).board White)) goes.0 (ap not safe) in (
      legal,
      ap is_mate next
          ∙ net_mates b (netted file) (square_at file 7) (fits_above b file r.1) (fits_mans b file r.1 lone caught) caught (subst IsValid next (valid_after p (plain_move g1 g8) (made_valid i h) legal)),
    )
