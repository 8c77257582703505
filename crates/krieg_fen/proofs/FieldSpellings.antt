-- A side, rights, a mark and clocks that are read are spelled so.
use Rattle.std.proofs.Common.{◌≡◌, ℕ, Bool, true, false, ◌&&◌, ◌||◌, cond, eqb, leb, eqb-true, List, [], ◌∷◌, ◌++◌, length, Option, Some, None, Result, Ok, Err, refl, sym, ap, ◌∙◌, append_assoc}
use Rattle.std.specs.List.{list_all}
use Rattle.std.specs.Char.{is_ascii_digit}
use Rattle.std.proofs.lemmas.Bool.{and_parts}
use Rattle.std.proofs.lemmas.Option.{cond_some}
use Rattle.std.proofs.lemmas.List.{append-nil, nil_from_length}
use Rattle.krieg_fen.proofs.Common.{Side, White, Black, Rights, FenFault, Field, ◌>>=◌, square_of, side_of, letter_at, letters_of, no_rights, rights_of, mark_at, mark_of, is_clock, clocks_at, side_text, held_text, or_dash, rights_text, mark_text}
use Rattle.krieg_fen.proofs.MoveTexts.{square_spells}
use Rattle.krieg_text.proofs.Free.{Above}
use Rattle.krieg_text.proofs.CleanTexts.{digits_above}

side_by : (b : ℕ) (s : Side) (t u : Bool) → eqb b 119 ≡ t → eqb b 98 ≡ u → cond t (Some White) (cond u (Some Black) None) ≡ Some s → b ∷ [] ≡ side_text s
side_by b s true u h k e = let same : White ≡ s = cc in ap (λ (x : ℕ). x ∷ []) (eqb-true b 119 h) ∙ ap side_text same
side_by b s false true h k e = let same : Black ≡ s = cc in ap (λ (x : ℕ). x ∷ []) (eqb-true b 98 k) ∙ ap side_text same
side_by b s false false h k e = absurd cc

pub side_spells : (field : List ℕ) (s : Side) → side_of field ≡ Some s → field ≡ side_text s
side_spells [] s e = absurd cc
side_spells (b ∷ []) s e = side_by b s (eqb b 119) (eqb b 98) refl refl e
side_spells (b ∷ c ∷ d) s e = absurd cc

abbrev one : Bool → ℕ → List ℕ
one held letter = cond held (letter ∷ []) []

abbrev taken_off : Bool → ℕ → List ℕ → Bool × List ℕ
taken_off t b bs = cond t (true, bs) (false, b ∷ bs)

letter_by : (c b : ℕ) (bs : List ℕ) (t : Bool) → eqb b c ≡ t → b ∷ bs ≡ one (taken_off t b bs).0 c ++ (taken_off t b bs).1
letter_by c b bs true is = ap (λ (x : ℕ). x ∷ bs) (eqb-true b c is)
letter_by c b bs false is = refl

letter_spells : (c : ℕ) (text : List ℕ) → text ≡ one (letter_at c text).0 c ++ (letter_at c text).1
letter_spells c [] = refl
letter_spells c (b ∷ bs) = letter_by c b bs (eqb b c) refl

-- the letters, and what stands after them
letters_spell : (text : List ℕ) → text ≡ held_text (letters_of text).0 ++ (letters_of text).1
letters_spell text =
    let a = letter_at 75 text in let b = letter_at 81 a.1 in let c = letter_at 107 b.1 in let d = letter_at 113 c.1 in
    letter_spells 75 text
    ∙ ap (λ (t : List ℕ). one a.0 75 ++ t) (letter_spells 81 a.1
    ∙ ap (λ (t : List ℕ). one b.0 81 ++ t) (letter_spells 107 b.1
    ∙ ap (λ (t : List ℕ). one c.0 107 ++ t) (letter_spells 113 c.1)
    ∙ sym (append_assoc (one c.0 107) (one d.0 113) d.1))
    ∙ sym (append_assoc (one b.0 81) (one c.0 107 ++ one d.0 113) d.1))
    ∙ sym (append_assoc (one a.0 75) (one b.0 81 ++ (one c.0 107 ++ one d.0 113)) d.1)

dash_spells : (b : ℕ) (bs : List ℕ) → (eqb (length bs) 0 && eqb b 45) ≡ true → b ∷ bs ≡ rights_text no_rights
unfolding rights_text
dash_spells b bs h =
    let p = and_parts (eqb (length bs) 0) (eqb b 45) h in
    ap (λ (t : List ℕ). b ∷ t) (nil_from_length bs (eqb-true (length bs) 0 p.0)) ∙ ap (λ (x : ℕ). x ∷ []) (eqb-true b 45 p.1)

held_spells : (b : ℕ) (bs : List ℕ) → eqb (length (letters_of (b ∷ bs)).1) 0 ≡ true → b ∷ bs ≡ rights_text (letters_of (b ∷ bs)).0
unfolding rights_text
held_spells b bs h =
    let none : (letters_of (b ∷ bs)).1 ≡ [] = nil_from_length (letters_of (b ∷ bs)).1 (eqb-true (length (letters_of (b ∷ bs)).1) 0 h) in
    let held : b ∷ bs ≡ held_text (letters_of (b ∷ bs)).0 =
    letters_spell (b ∷ bs) ∙ ap (λ (t : List ℕ). held_text (letters_of (b ∷ bs)).0 ++ t) none ∙ append-nil (held_text (letters_of (b ∷ bs)).0) in
    ap or_dash held

rights_by : (b : ℕ) (bs : List ℕ) (r : Rights) (t u : Bool) → (eqb (length bs) 0 && eqb b 45) ≡ t → eqb (length (letters_of (b ∷ bs)).1) 0 ≡ u →
    cond t (Some no_rights) (cond u (Some (letters_of (b ∷ bs)).0) None) ≡ Some r → b ∷ bs ≡ rights_text r
rights_by b bs r true u h k e = let same : no_rights ≡ r = cc in dash_spells b bs h ∙ ap rights_text same
rights_by b bs r false true h k e = let same : (letters_of (b ∷ bs)).0 ≡ r = cc in held_spells b bs k ∙ ap rights_text same
rights_by b bs r false false h k e = absurd cc

pub rights_spells : (field : List ℕ) (r : Rights) → rights_of field ≡ Some r → field ≡ rights_text r
rights_spells [] r e = absurd cc
rights_spells (b ∷ bs) r e = rights_by b bs r _ _ refl refl e

square_marked : (a b : ℕ) (o m : Option ℕ) → square_of a b ≡ o → mark_at o ≡ Some m → a ∷ b ∷ [] ≡ mark_text m
square_marked a b None m is e = absurd cc
square_marked a b (Some s) m is e = let same : Some s ≡ m = cc in sym (square_spells a b s is).1 ∙ ap mark_text same

mark_by : (a b : ℕ) (m : Option ℕ) (t : Bool) → cond t (mark_at (square_of a b)) None ≡ Some m → a ∷ b ∷ [] ≡ mark_text m
mark_by a b m true e = square_marked a b (square_of a b) m refl e
mark_by a b m false e = absurd cc

pub mark_spells : (field : List ℕ) (m : Option ℕ) → mark_of field ≡ Some m → field ≡ mark_text m
mark_spells [] m e = absurd cc
mark_spells (b ∷ []) m e =
    let p = cond_some (eqb b 45) None m e in
    ap (λ (x : ℕ). x ∷ []) (eqb-true b 45 p.0) ∙ ap mark_text p.1
mark_spells (a ∷ b ∷ []) m e = mark_by a b m (eqb b 51 || eqb b 54) e
mark_spells (a ∷ b ∷ c ∷ d) m e = absurd cc

abbrev fine : Result (Unit {0}) FenFault
fine = Ok tt

abbrev counted : ℕ → Bool → Result (Unit {0}) FenFault
counted n t = cond t (Ok tt) (Err (Field n))

clock_by : (n : ℕ) (t : Bool) → counted n t ≡ fine → t ≡ true
clock_by n true e = refl
clock_by n false e = absurd cc

clocks_by : (t u : Bool) → (counted 5 t >>= λ h. counted 6 u) ≡ fine → (t ≡ true) × (u ≡ true)
clocks_by true u e = (refl, clock_by 6 u e)
clocks_by false u e = absurd cc

pub clocks_spell : (half full : List ℕ) → clocks_at half full ≡ Ok tt → (is_clock half ≡ true) × (is_clock full ≡ true)
clocks_spell half full e = clocks_by (is_clock half) (is_clock full) e

pub clocks_read : (half full : List ℕ) → is_clock half ≡ true → is_clock full ≡ true → clocks_at half full ≡ Ok tt
clocks_read half full h f = rw (h, f) refl

pub clock_above : (text : List ℕ) → is_clock text ≡ true → Above 47 text
clock_above text is = digits_above text (and_parts (list_all is_ascii_digit text) (leb 1 (length text) && leb (length text) 10) is).0
