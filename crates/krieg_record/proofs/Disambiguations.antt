-- What is told of the origin is true of the square that the officer leaves, and of that of no rival.
use Rattle.std.proofs.Common.{◌≡◌, ℕ, ◌<◌, ◌/◌, ◌%◌, Bool, true, false, not, cond, ◌&&◌, ◌==◌, refl, sym, ap, ◌∙◌, arith, ◌⊎◌, inl, inr}
use Rattle.std.proofs.lemmas.Bool.{and_parts, and_from, eqb-true, eq-eqb, ne_eqb, cases_eq}
use Rattle.std.specs.Prelude.{Some, None}
use Rattle.krieg_record.proofs.Common.{Pos, file_of, rank_of, Move, is_legal, plain_move, Officer, Origin, told, IsCoordinate, kind_of, is_own, fits, is_rival, is_shared, origin}
use Rattle.krieg_board.specs.declared.men.Promo.TheVariants as promo
use Rattle.krieg_board.proofs.SquareTests.{some_square_at}
use Rattle.krieg_moves.proofs.LegalMoves.{legal}
use Rattle.krieg_moves.proofs.Movers.{below_from}

pub same_move : (m o : Move) → m.from ≡ o.from → m.to ≡ o.to → m.promo ≡ o.promo → m ≡ o
same_move m o f t r = λ i. record { from = f i; to = t i; promo = r i }

fits_file : (s : ℕ) → fits (told (Some (file_of s)) None) s ≡ true
fits_file s = and_from (file_of s == file_of s) true (eq-eqb (file_of s) (file_of s) refl) refl

fits_both : (s : ℕ) → fits (told (Some (file_of s)) (Some (rank_of s))) s ≡ true
fits_both s = and_from (file_of s == file_of s) (rank_of s == rank_of s) (eq-eqb (file_of s) (file_of s) refl) (eq-eqb (rank_of s) (rank_of s) refl)

-- what is said of an origin by each of the four choices
by_choice : (P : Origin → Type 0) (a b c : Bool) (n f r t : Origin) → (a ≡ false → P n) → (b ≡ false → P f) → (c ≡ false → P r) → P t → P (cond (not a) n (cond (not b) f (cond (not c) r t)))
by_choice P false b c n f r t w x y z = w refl
by_choice P true false c n f r t w x y z = x refl
by_choice P true true false n f r t w x y z = y refl
by_choice P true true true n f r t w x y z = z

-- what is said of the origin by each of the four choices
origin_by : (P : Origin → Type 0) (p : Pos) (officer : Officer) (m : Move) →
    (is_shared p officer m (told None None) ≡ false → P (told None None)) →
    (is_shared p officer m (told (Some (file_of m.from)) None) ≡ false → P (told (Some (file_of m.from)) None)) →
    (is_shared p officer m (told None (Some (rank_of m.from))) ≡ false → P (told None (Some (rank_of m.from)))) →
    P (told (Some (file_of m.from)) (Some (rank_of m.from))) → P (origin p officer m)
unfolding origin
origin_by P p officer m n f r t =
    by_choice P (is_shared p officer m (told None None)) (is_shared p officer m (told (Some (file_of m.from)) None)) (is_shared p officer m (told None (Some (rank_of m.from))))
    (told None None) (told (Some (file_of m.from)) None) (told None (Some (rank_of m.from))) (told (Some (file_of m.from)) (Some (rank_of m.from))) n f r t

pub origin_fits : (p : Pos) (officer : Officer) (m : Move) → fits (origin p officer m) m.from ≡ true
origin_fits p officer m =
    origin_by (λ o. fits o m.from ≡ true) p officer m
    (λ e. refl) (λ e. fits_file m.from) (λ e. eq-eqb (rank_of m.from) (rank_of m.from) refl) (fits_both m.from)

pub origin_named : (p : Pos) (officer : Officer) (m : Move) → m.from < 64 → IsCoordinate (origin p officer m).file × IsCoordinate (origin p officer m).rank
origin_named p officer m l =
    let f : m.from % 8 < 8 = omega arith in
    let r : m.from / 8 < 8 = omega arith in
    origin_by (λ o. IsCoordinate o.file × IsCoordinate o.rank) p officer m (λ e. (tt, tt)) (λ e. (f, tt)) (λ e. (tt, r)) (f, r)

-- no rival shares it, or it is all of the square
origin_tells : (p : Pos) (officer : Officer) (m : Move) →
    (is_shared p officer m (origin p officer m) ≡ false) ⊎ (origin p officer m ≡ told (Some (file_of m.from)) (Some (rank_of m.from)))
origin_tells p officer m =
    origin_by (λ o. (is_shared p officer m o ≡ false) ⊎ (o ≡ told (Some (file_of m.from)) (Some (rank_of m.from)))) p officer m
    (λ e. inl e) (λ e. inl e) (λ e. inl e) (inr refl)

both_from : (s t : ℕ) → fits (told (Some (file_of t)) (Some (rank_of t))) s ≡ true → s ≡ t
both_from s t e =
    let r = and_parts (file_of s == file_of t) (rank_of s == rank_of t) e in
    let f = eqb-true (file_of s) (file_of t) r.0 in
    let g = eqb-true (rank_of s) (rank_of t) r.1 in
    omega arith

-- an own man of the same kind who may go to the same square, and of whose square the origin is true, stands where the move begins
pub not_rival : (p : Pos) (officer : Officer) (m o : Move) → is_legal p o ≡ true → is_own p (kind_of officer) o.from ≡ true → o.to ≡ m.to → o.promo ≡ promo.Plain →
    fits (origin p officer m) o.from ≡ true → o.from ≡ m.from
unfolding is_shared
not_rival p officer m o h same to plain fit = go (cases_eq o.from m.from) (origin_tells p officer m)
  where
    rival : (o.from ≡ m.from → ⊥) → is_rival p officer m o.from ≡ true
    rival apart =
        let one : o ≡ plain_move o.from m.to = same_move o (plain_move o.from m.to) refl to plain in
        and_from (not (o.from == m.from)) _ (ap not (ne_eqb o.from m.from apart)) (and_from _ (is_legal p (plain_move o.from m.to)) same (ap (is_legal p) (sym one) ∙ h))

    go : (o.from ≡ m.from) ⊎ (o.from ≡ m.from → ⊥) → (is_shared p officer m (origin p officer m) ≡ false) ⊎ (origin p officer m ≡ told (Some (file_of m.from)) (Some (rank_of m.from))) → o.from ≡ m.from
    go (inl e) t = e
    go (inr apart) (inl none) =
        let some : is_shared p officer m (origin p officer m) ≡ true =
        some_square_at (λ s. fits (origin p officer m) s && is_rival p officer m s) o.from (below_from o.from 64 (legal p o h).from_in) (and_from (fits (origin p officer m) o.from) _ fit (rival apart)) in
        absurd cc
    go (inr apart) (inr whole) = both_from o.from m.from (ap (λ g. fits g o.from) (sym whole) ∙ fit)
