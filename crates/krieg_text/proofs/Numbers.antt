-- Reading digits, with a bound.
use Rattle.std.proofs.Common.{not, ◌&&◌, ◌||◌, eqb, leb, eq-eqb, eqb-true, Result, Ok, Err, rules, ◌≡◌, ℕ, zero, suc, ◌+◌, ◌*◌, ◌^◌, ◌<◌, ◌≤◌, Bool, true, false, ltb, List, [], ◌∷◌, length, get_or, take, cond, Some, None, refl, arith, sym, ap, ◌∙◌}
use Rattle.std.specs.Char.{digit_value, is_ascii_digit}
use Rattle.std.specs.List.{list_all}
use Rattle.std.specs.Str.Parse.{digits_value}
use Rattle.std.proofs.lemmas.Int.Digits.{digits_value_more}
use Rattle.std.proofs.lemmas.Str.Parse.{digits_value-take-le, IsNumeralModel, numerals_by_value}
use Rattle.std.proofs.lemmas.Bool.{lt-ltb, le-ltb, le-leb, leb-true, ltb-true, ltb-false, ne_eqb, and_parts, and_from}
use Rattle.std.proofs.lemmas.Fmt.{decimal_is_IsNumeral, decimal_digit, first_decimal, decimal_nonempty, digits_decimal, decimal-digits_value}
use Rattle.krieg_text.proofs.Common.{number_text, is_plain, plain_value, number_between, NumberFault, NotPlain, OutOfRange}
use Rattle.std.proofs.lemmas.List.{take_all}

pub too_large : (ds : List ℕ) (i m : ℕ) → i < length ds → m ≡ digits_value 10 (take i ds) → ltb (m * 10 + digit_value (get_or ds i 0)) (2 ^ 64) ≡ false → ltb (digits_value 10 ds) (2 ^ 64) ≡ false
too_large ds i m lt here past =
    let e : digits_value 10 (take (i + 1) ds) ≡ digits_value 10 (take i ds) * 10 + digit_value (get_or ds i 0) = digits_value_more 10 ds i lt in
    let le : digits_value 10 (take (i + 1) ds) ≤ digits_value 10 ds = digits_value-take-le 10 ds (i + 1) (omega arith) in
    let big : 2 ^ 64 ≤ m * 10 + digit_value (get_or ds i 0) = ltb-false _ _ past in
    le-ltb _ _ (omega arith)

pub digit_there : (ds : List ℕ) (i : ℕ) → list_all is_ascii_digit ds ≡ true → i < length ds → is_ascii_digit (get_or ds i 0) ≡ true
digit_there [] i all lt = absurd (omega arith)
digit_there (d ∷ ds) zero all lt = (and_parts (is_ascii_digit d) (list_all is_ascii_digit ds) all).0
digit_there (d ∷ ds) (suc i) all lt = digit_there ds i (and_parts (is_ascii_digit d) (list_all is_ascii_digit ds) all).1 (omega arith)

pub all_read : (ds : List ℕ) (i m : ℕ) → length ds ≤ i → m ≡ digits_value 10 (take i ds) → m < 2 ^ 64 → Some m ≡ cond (ltb (digits_value 10 ds) (2 ^ 64)) (Some (digits_value 10 ds)) None
all_read ds i m le here fits =
    let e : m ≡ digits_value 10 ds = here ∙ ap (digits_value 10) (take_all i ds le) in
    rw (← e, lt-ltb m (2 ^ 64) fits) refl

pub ruleset digits = (too_large, digit_there, digits_value_more, all_read)

own : IsNumeralModel (λ ds. list_all is_ascii_digit ds ≡ true) (digits_value 10)
own = numerals_by_value _ (search rules)

-- the digits of a written number spell it again
pub value_again : (n : ℕ) → n < 2 ^ 64 → plain_value (number_text n) ≡ n
value_again n fits = (decimal_is_IsNumeral n fits).1

pub digits_again : (n : ℕ) → n < 2 ^ 64 → list_all is_ascii_digit (number_text n) ≡ true
digits_again n fits = digits_decimal own n fits

-- a zero in front stands alone
first_again : (n : ℕ) → n < 2 ^ 64 → (not (eqb (get_or (number_text n) 0 0) 48) || eqb (length (number_text n)) 1) ≡ true
first_again zero fits = rw (decimal_digit 0 (omega arith)) refl
first_again (suc n) fits =
    let above : 48 < get_or (number_text (suc n)) 0 0 = first_decimal (suc n) (omega arith) fits in
    rw (ne_eqb (get_or (number_text (suc n)) 0 0) 48 (λ e. absurd (omega arith))) refl

-- a written number is a plain decimal
pub plain_again : (n : ℕ) → n < 2 ^ 64 → is_plain (number_text n) ≡ true
plain_again n fits =
    and_from _ _ (lt-ltb 0 (length (number_text n)) (decimal_nonempty n fits)) (and_from _ _ (first_again n fits) (digits_decimal own n fits))

alone : (a b : ℕ) → (not (eqb a 48) || eqb b 1) ≡ true → a ≡ 48 → b ≡ 1
alone a b h same = go (rw (eq-eqb a 48 same) at h)
  where
    go : eqb b 1 ≡ true → b ≡ 1
    go t = eqb-true b 1 t

-- a plain decimal is what is written of the number that it spells
pub plain_spells : (text : List ℕ) → is_plain text ≡ true → plain_value text < 2 ^ 64 → text ≡ number_text (plain_value text)
plain_spells text plain fits =
    let p = and_parts (ltb 0 (length text)) _ plain in
    let q = and_parts (not (eqb (get_or text 0 0) 48) || eqb (length text) 1) (list_all is_ascii_digit text) p.1 in
    sym (decimal-digits_value own text q.1 (ltb-true 0 (length text) p.0) (alone (get_or text 0 0) (length text) q.0) fits)

abbrev chosen : Bool → Bool → ℕ → Result ℕ NumberFault
chosen plain fits n = cond plain (cond fits (Ok n) (Err OutOfRange)) (Err NotPlain)

chosen_parts : (plain fits : Bool) (v n : ℕ) → chosen plain fits v ≡ Ok n → (plain ≡ true) × (fits ≡ true) × (v ≡ n)
chosen_parts true true v n e = (refl, refl, cc)
chosen_parts true false v n e = absurd cc
chosen_parts false fits v n e = absurd cc

pub between_spells : (text : List ℕ) (least most n : ℕ) → most < 2 ^ 64 → number_between text least most ≡ Ok n → (least ≤ n) × (n ≤ most) × (text ≡ number_text n)
between_spells text least most n bound e =
    let p = chosen_parts (is_plain text) (leb least (plain_value text) && leb (plain_value text) most) (plain_value text) n e in
    let q = and_parts (leb least (plain_value text)) (leb (plain_value text) most) p.1 in
    let low : least ≤ plain_value text = leb-true _ _ q.0 in
    let high : plain_value text ≤ most = leb-true _ _ q.1 in
    (omega (arith, p.2), omega (arith, p.2), plain_spells text p.0 (omega arith) ∙ ap number_text p.2)

pub between_again : (least most n : ℕ) → least ≤ n → n ≤ most → most < 2 ^ 64 → number_between (number_text n) least most ≡ Ok n
between_again least most n low high bound =
    let fits : n < 2 ^ 64 = omega arith in
    let within : (leb least n && leb n most) ≡ true = and_from _ _ (le-leb least n low) (le-leb n most high) in
    ap (λ (t : Bool). chosen t (leb least (plain_value (number_text n)) && leb (plain_value (number_text n)) most) (plain_value (number_text n))) (plain_again n fits)
    ∙ ap (λ (v : ℕ). chosen true (leb least v && leb v most) v) (value_again n fits)
    ∙ ap (λ (t : Bool). chosen true t n) within

-- the same of a text that is said to be the written number
pub between_read : (text : List ℕ) (least most n : ℕ) → most < 2 ^ 64 → least ≤ n → n ≤ most → text ≡ number_text n → number_between text least most ≡ Ok n
between_read text least most n bound low high is = ap (λ (t : List ℕ). number_between t least most) is ∙ between_again least most n low high bound

pub ruleset plains = (between_spells, between_read)
