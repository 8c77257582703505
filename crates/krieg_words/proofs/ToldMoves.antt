-- A dialect tells words of a move exactly where it tells the capture of the move, and the checks, the end and the tries of the position after it.
use Rattle.std.proofs.Common.{◌≡◌, Bool, true, false, cond, ◌&&◌, refl, sym, ap, ◌∙◌}
use Rattle.std.proofs.lemmas.Bool.{and_parts, and_from, cond-true, both_ways, eqb-true, eq-eqb}
use Rattle.std.specs.Prelude.{Option, Some, None}
use Rattle.std.specs.Ordering.{is_eq}
use Rattle.std.specs.Cmp.{Equal-is}
use Rattle.krieg_words.proofs.Common.{Pos, Move, after, is_legal, bits_of, Dialect, Said, end_rank, took_rank, took_square, words_cmp, words, told, are_told, after_told, after_told_if_legal, is_took_told, is_rest_told}
use Rattle.krieg_words.proofs.OrderLaws.{words_cmp_equal, words_cmp_self, bits_of_same, end_same, took_same}

same_told : (d : Dialect) (w : Said) (p : Pos) (m : Move) → are_told d w p m ≡ true → w ≡ told d (words p m)
same_told d w p m h = words_cmp_equal w (told d (words p m)) ((Equal-is (words_cmp w (told d (words p m)))).0 h)

-- words that are told have their parts told
took_told : (d : Dialect) (w : Said) (p : Pos) (m : Move) → w ≡ told d (words p m) → is_took_told d w.took p m ≡ true
unfolding words
took_told d w p m same = and_from _ _ (eq-eqb _ _ (ap (λ (x : Said). took_rank x.took) same)) (eq-eqb _ _ (ap (λ (x : Said). took_square x.took) same))

rest_told : (d : Dialect) (w : Said) (p : Pos) (m : Move) → w ≡ told d (words p m) → is_rest_told d w (after p m) ≡ true
unfolding words
rest_told d w p m same =
    and_from _ _ (eq-eqb _ _ (ap (λ (x : Said). bits_of x.checks) same))
    (and_from _ _ (eq-eqb _ _ (ap (λ (x : Said). end_rank x.end) same))
    (eq-eqb _ _ (ap (λ (x : Said). x.tries) same)))

-- and words whose parts are told are told
parts_told : (d : Dialect) (w : Said) (p : Pos) (m : Move) → is_took_told d w.took p m ≡ true → is_rest_told d w (after p m) ≡ true → w ≡ told d (words p m)
unfolding words
parts_told d w p m took rest =
    let parts = and_parts _ _ rest in
    let two = and_parts _ _ parts.1 in
    let captures = and_parts _ _ took in
    let took_is = took_same w.took (told d (words p m)).took (eqb-true _ _ captures.0) (eqb-true _ _ captures.1) in
    let checks_is = bits_of_same w.checks (told d (words p m)).checks (eqb-true _ _ parts.0) in
    let end_is = end_same w.end (told d (words p m)).end (eqb-true _ _ two.0) in
    let tries_is = eqb-true _ _ two.1 in
    λ i. record { end = end_is i; took = took_is i; checks = checks_is i; tries = tries_is i }

told_same : (d : Dialect) (w : Said) (p : Pos) (m : Move) → w ≡ told d (words p m) → are_told d w p m ≡ true
told_same d w p m same = ap (λ x. is_eq (words_cmp w x)) (sym same) ∙ ap is_eq (words_cmp_self w)

unless : (b : Bool) (p : Pos) → (b ≡ true → ⊥) → None ≡ cond b (Some p) None
unless true p h = absurd (h refl)
unless false p h = refl

-- another capture is not told
pub another_capture : (d : Dialect) (w : Said) (p : Pos) (m : Move) → is_took_told d w.took p m ≡ false → None ≡ after_told d w p m
another_capture d w p m h = unless (are_told d w p m) (after p m) (λ told. both_ways _ h (took_told d w p m (same_told d w p m told)))

-- nor are other checks, another end or other tries
pub another_rest : (d : Dialect) (w : Said) (p : Pos) (m : Move) → is_rest_told d w (after p m) ≡ false → None ≡ after_told d w p m
another_rest d w p m h = unless (are_told d w p m) (after p m) (λ told. both_ways _ h (rest_told d w p m (same_told d w p m told)))

pub all_parts : (d : Dialect) (w : Said) (p : Pos) (m : Move) → is_took_told d w.took p m ≡ true → is_rest_told d w (after p m) ≡ true → Some (after p m) ≡ after_told d w p m
all_parts d w p m took rest = sym (cond-true (are_told d w p m) (Some (after p m)) None (told_same d w p m (parts_told d w p m took rest)))

pub ruleset told_moves = (another_capture, another_rest, all_parts)

-- of a try
after_try : (legal told : Bool) (p : Pos) (r : Option Pos) → legal ≡ true → r ≡ cond told (Some p) None → r ≡ cond (legal && told) (Some p) None
after_try true told p r h e = e
after_try false told p r h e = cc

pub legal_try : (d : Dialect) (w : Said) (p : Pos) (m : Move) (r : Option Pos) → is_legal p m ≡ true → r ≡ after_told d w p m → r ≡ after_told_if_legal d w p m
legal_try d w p m r h e = after_try (is_legal p m) (are_told d w p m) (after p m) r h e

pub illegal_try : (d : Dialect) (w : Said) (p : Pos) (m : Move) → is_legal p m ≡ false → None ≡ after_told_if_legal d w p m
illegal_try d w p m h = unless (is_legal p m && are_told d w p m) (after p m) (λ e. both_ways _ h (and_parts (is_legal p m) (are_told d w p m) e).0)

pub try_captures_otherwise : (d : Dialect) (w : Said) (p : Pos) (m : Move) → is_took_told d w.took p m ≡ false → None ≡ after_told_if_legal d w p m
try_captures_otherwise d w p m h =
    unless (is_legal p m && are_told d w p m) (after p m) (λ e. both_ways _ h (took_told d w p m (same_told d w p m (and_parts (is_legal p m) (are_told d w p m) e).1)))

pub ruleset told_tries = (legal_try, illegal_try, try_captures_otherwise)
