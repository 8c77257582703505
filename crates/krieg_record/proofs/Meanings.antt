-- What is computed of a text is what the text means.
use Rattle.std.proofs.Common.{◌≡◌, ℕ, suc, zero, ◌<◌, Bool, true, false, cond, ◌==◌, List, [], ◌∷◌, refl, sym, ap, ◌∙◌, subst, arith, ◌⊎◌, inl, inr}
use Rattle.std.proofs.lemmas.Bool.{and_parts, and_from, eqb-true}
use Rattle.std.specs.Prelude.{Option, Some, None, Result, Ok, Err, is_none}
use Rattle.std.specs.List.{filter, Contains, All, AllPairs}
use Rattle.std.proofs.lemmas.List.Elements.{filter_passes, All-head, All-tail}
use Rattle.std.proofs.lemmas.List.Kept.{AllPairs-filter}
use Rattle.krieg_record.proofs.Common.{is_same_bool, Pos, squares, Move, after, is_legal, King, Movement, Castles, ByOfficer, ByPawn, Notation, SanFault, Syntax, Unknown, Several, NoMemory, Says, notation_of, kind_of, is_own, castling, captures, fits, san_text, move_from, goes_from, the_only, meant_by, meant, is_movement, is_ending, is_matched, is_same_promo, Matches, IsOnly, Means}
use Rattle.krieg_board.specs.declared.men.Promo.TheVariants as promo
use Rattle.krieg_board.proofs.SquareTests.{length_squares, get_or_squares}
use Rattle.krieg_moves.proofs.LegalMoves.{legal}
use Rattle.krieg_moves.proofs.Movers.{below_from}
use Rattle.krieg_board.specs.declared.men.Kind.TheVariants as kind
use Rattle.krieg_record.specs.Matching.{is_pawn_capture}
use Rattle.krieg_record.proofs.NotationTexts.{notation_spells, notation_again, says_one}
use Rattle.krieg_record.proofs.MoveTellings.{castling_tells, officer_plain}
use Rattle.krieg_record.proofs.Disambiguations.{same_move}
use Rattle.krieg_record.proofs.Sans.{wing_is, promo_is, san_only}

-- ---- lists

first : (x : ℕ) (xs : List ℕ) → Contains (x ∷ xs) x
first x xs = (0, omega arith, refl)

later : (x y : ℕ) (xs : List ℕ) → Contains xs x → Contains (y ∷ xs) x
later x y xs (k, l, e) = (suc k, omega arith, e)

first_or_later : (x y : ℕ) (xs : List ℕ) → Contains (y ∷ xs) x → (y ≡ x) ⊎ Contains xs x
first_or_later x y xs (zero, l, e) = inl e
first_or_later x y xs (suc k, l, e) = inr (k, omega arith, e)

kept : (test : ℕ → Bool) (x : ℕ) (xs : List ℕ) → test x ≡ true → Contains xs x → Contains (filter test xs) x
kept test x [] h (k, l, e) = absurd (omega arith)
kept test x (y ∷ ys) h c = go (first_or_later x y ys c) (kept test x ys h)
  where
    here : (t : Bool) → t ≡ true → Contains (cond t (x ∷ filter test ys) (filter test ys)) x
    here true e = first x (filter test ys)
    here false e = absurd cc

    there : (t : Bool) → Contains (filter test ys) x → Contains (cond t (y ∷ filter test ys) (filter test ys)) x
    there true c = later x y (filter test ys) c
    there false c = c

    go : (y ≡ x) ⊎ Contains ys x → (Contains ys x → Contains (filter test ys) x) → Contains (cond (test y) (y ∷ filter test ys) (filter test ys)) x
    go (inl e) more = subst (λ (z : ℕ). Contains (cond (test z) (z ∷ filter test ys) (filter test ys)) x) (sym e) (here (test x) h)
    go (inr c) more = there (test y) (more c)

in_squares : (test : ℕ → Bool) (s : ℕ) → s < 64 → test s ≡ true → Contains (filter test squares) s
in_squares test s l e = kept test s squares e (s, omega (arith, length_squares), get_or_squares s s l)

pairs : (test : ℕ → Bool) → AllPairs (λ x y. x < y) (filter test squares)
pairs test = AllPairs-filter (λ x y. x < y) test squares (λ i j d below inside.
    let size = length_squares in
    let a = get_or_squares i d (omega arith) in
    let b = get_or_squares j d (omega arith) in
    omega arith)

-- ---- a legal move that is meant is the one from its square

shape : (p : Pos) (m : Move) (movement : Movement) → is_legal p m ≡ true → is_movement p movement m ≡ true → m ≡ move_from p movement m.from
shape p m (Castles wing) h e =
    let c = castling_tells p m wing h (wing_is wing (castling p m) e) in
    same_move m (move_from p (Castles wing) m.from) refl c.to (officer_plain p m King h c.king)
shape p m (ByOfficer o) h e =
    let r1 = and_parts (is_none (castling p m)) _ e in
    let r2 = and_parts (is_own p (kind_of o.officer) m.from) _ r1.1 in
    let r3 = and_parts (fits o.origin m.from) _ r2.1 in
    let r4 = and_parts (is_same_bool o.captures (captures p m)) _ r3.1 in
    let r5 = and_parts (m.to == o.to) (is_same_promo promo.Plain m.promo) r4.1 in
    same_move m (move_from p (ByOfficer o) m.from) refl (eqb-true m.to o.to r5.0) (sym (promo_is promo.Plain m.promo r5.1))
shape p m (ByPawn w) h e =
    let r1 = and_parts (is_own p kind.Pawn m.from) _ e in
    let r2 = and_parts (is_pawn_capture w.file p m) _ r1.1 in
    let r3 = and_parts (m.to == w.to) (is_same_promo w.promo m.promo) r2.1 in
    same_move m (move_from p (ByPawn w) m.from) refl (eqb-true m.to w.to r3.0) (sym (promo_is w.promo m.promo r3.1))

-- it goes from its square
record Goes (p : Pos) (n : Notation) (m : Move) : Type 0 where
  goes : goes_from p n m.from ≡ true
  is : m ≡ move_from p n.movement m.from
  below : m.from < 64

goes : (p : Pos) (text : List ℕ) (n : Notation) (m : Move) → Says text n → Matches p text m → Goes p n m
unfolding is_matched
goes p text n m says k =
    let matched : is_matched p n m ≡ true = ap (λ x. is_matched p x m) (says_one text n k.notation says k.says) ∙ k.matched in
    let is = shape p m n.movement k.legal (and_parts (is_movement p n.movement m) (is_ending n.ending (after p m)) matched).0 in
    record {
      goes = and_from (is_legal p (move_from p n.movement m.from)) (is_matched p n (move_from p n.movement m.from)) (ap (is_legal p) (sym is) ∙ k.legal) (ap (is_matched p n) (sym is) ∙ matched);
      is = is;
      below = below_from m.from 64 (legal p m k.legal).from_in;
    }

matches : (p : Pos) (text : List ℕ) (n : Notation) (s : ℕ) → Says text n → goes_from p n s ≡ true → Matches p text (move_from p n.movement s)
matches p text n s says e =
    let r = and_parts (is_legal p (move_from p n.movement s)) (is_matched p n (move_from p n.movement s)) e in
    record { legal = r.0; notation = n; says = says; matched = r.1 }

means_by : (p : Pos) (text : List ℕ) (n : Notation) → Says text n → (xs : List ℕ) → filter (goes_from p n) squares ≡ xs → Means p text (the_only p n.movement xs)
means_by p text n says [] is = record {
  form = (n, says);
  none = λ m k.
      let g = goes p text n m says k in
      let c = subst (λ (xs : List ℕ). Contains xs m.from) is (in_squares (goes_from p n) m.from g.below g.goes) in
      omega (arith, c.1);
}
means_by p text n says (s ∷ []) is =
    let all = subst (λ (xs : List ℕ). All (λ x. goes_from p n x ≡ true) xs) is (filter_passes (goes_from p n) squares) in
    record {
      matches = matches p text n s says (All-head (λ x. goes_from p n x ≡ true) s [] all);
      alone = λ o k.
          let g = goes p text n o says k in
          let c = subst (λ (xs : List ℕ). Contains xs o.from) is (in_squares (goes_from p n) o.from g.below g.goes) in
          g.is ∙ ap (move_from p n.movement) (sym (lone (first_or_later o.from s [] c)));
    }
  where
    lone : {o : ℕ} → (s ≡ o) ⊎ Contains [] o → s ≡ o
    lone (inl e) = e
    lone (inr (k, l, e)) = absurd (omega arith)
means_by p text n says (s ∷ t ∷ more) is =
    let all = subst (λ (xs : List ℕ). All (λ x. goes_from p n x ≡ true) xs) is (filter_passes (goes_from p n) squares) in
    let tail = All-tail (λ x. goes_from p n x ≡ true) s (t ∷ more) all in
    let below : s < t = subst (λ (xs : List ℕ). AllPairs (λ x y. x < y) xs) is (pairs (goes_from p n)) 0 1 0 (omega arith) (omega arith) in
    record {
      one = move_from p n.movement s;
      other = move_from p n.movement t;
      matches_one = matches p text n s says (All-head (λ x. goes_from p n x ≡ true) s (t ∷ more) all);
      matches_other = matches p text n t says (All-head (λ x. goes_from p n x ≡ true) t more tail);
      apart = λ e. let same : s ≡ t = ap (λ (m : Move). m.from) e in omega arith;
    }

pub meant_means : (p : Pos) (text : List ℕ) → Means p text (meant p text)
unfolding meant
meant_means p text = go (notation_of text) refl
  where
    go : (o : Option Notation) → notation_of text ≡ o → Means p text (meant_by p o)
    go None is = λ f. let some : notation_of text ≡ Some f.0 = ap notation_of f.1.is ∙ notation_again f.0 f.1.named in absurd cc
    go (Some n) is = means_by p text n (notation_spells text n is) (filter (goes_from p n) squares) refl

-- ---- a text means one thing

-- where one move alone is meant, it is what is computed
pub meant_only : (p : Pos) (text : List ℕ) (m : Move) → IsOnly p text m → meant p text ≡ Ok m
meant_only p text m only = go (meant p text) (meant_means p text)
  where
    go : (r : Result Move SanFault) → Means p text r → r ≡ Ok m
    go (Ok o) w = ap (λ (x : Move). Ok x) (only.alone o w.matches)
    go (Err Syntax) w = absurd (w (only.matches.notation, only.matches.says))
    go (Err Unknown) w = absurd (w.none m only.matches)
    go (Err Several) w = absurd (w.apart (only.alone w.one w.matches_one ∙ sym (only.alone w.other w.matches_other)))
    go (Err NoMemory) w = absurd w

pub san_again : (p : Pos) (m : Move) → is_legal p m ≡ true → meant p (san_text p m) ≡ Ok m
san_again p m h = meant_only p (san_text p m) m (san_only p m h)

pub ruleset again = (san_again)
