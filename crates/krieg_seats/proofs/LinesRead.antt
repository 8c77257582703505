-- Lines that are read byte by byte.
use Rattle.std.proofs.Common.{◌≡◌, ℕ, ◌<◌, true, false, not, eqb, List, [], ◌∷◌, ◌++◌, length, refl, sym, ap, ◌∙◌, subst, arith, Option, Some, None}
use Rattle.std.specs.Prelude.{option_map, unwrap_or}
use Rattle.std.specs.Io.KnownBytes.{Consumes}
use Rattle.std.proofs.lemmas.Bool.{and_parts, not-true}
use Rattle.krieg_text.specs.Lines.{is_line}
use Rattle.krieg_text.specs.Names.{cut}
use Rattle.krieg_fen.specs.MoveText.{move_of}
use Rattle.krieg_text.proofs.NameLemmas.{cut_again}
use Rattle.krieg_seats.specs.declared.seat.Say.TheVariants.{Try, Leave}
use Rattle.krieg_seats.specs.Saying.{next_lines, said_by, lines_left, ReadsLine}
use Rattle.krieg_seats.specs.LineReading.{GivesByte}

-- ---- a line in bytes that are known

-- a front without a line feed, and more
cut_within : (front rest : List ℕ) → is_line front ≡ true → cut 10 (front ++ rest) ≡ (front ++ (cut 10 rest).0, (cut 10 rest).1)
cut_within [] rest free = refl
cut_within (b ∷ front) rest free =
    let p = and_parts (not (eqb b 10)) (is_line front) free in
    let here : eqb b 10 ≡ false = not-true (eqb b 10) p.0 in
    rw here (ap (λ (x : List ℕ × Option (List ℕ)). (b ∷ x.0, x.1)) (cut_within front rest p.1))

-- a line with its line feed
said_by_line : (front rest : List ℕ) → is_line front ≡ true → (said_by (front ++ (10 ∷ rest)) ≡ option_map Try (move_of front)) × (rest ≡ next_lines (front ++ (10 ∷ rest)))
said_by_line [] rest free = (refl, refl)
said_by_line (b ∷ front) rest free =
    let e : cut 10 ((b ∷ front) ++ (10 ∷ rest)) ≡ (b ∷ front, Some rest) = cut_again 10 (b ∷ front) rest free in
    (ap (λ (x : List ℕ × Option (List ℕ)). option_map Try (move_of x.0)) e, sym (ap (λ (x : List ℕ × Option (List ℕ)). unwrap_or x.1 []) e))

-- a last line without one
said_by_last : (b : ℕ) (front : List ℕ) → is_line (b ∷ front) ≡ true → (said_by ((b ∷ front) ++ []) ≡ option_map Try (move_of (b ∷ front))) × ([] ≡ next_lines ((b ∷ front) ++ []))
said_by_last b front free =
    let e : cut 10 ((b ∷ front) ++ []) ≡ ((b ∷ front) ++ [], None) = cut_within (b ∷ front) [] free in (
      ap (λ (x : List ℕ × Option (List ℕ)). option_map Try (move_of x.0)) e ∙ ap (λ (x : List ℕ). option_map Try (move_of x)) (Rattle.std.proofs.lemmas.List.append-nil (b ∷ front)),
      sym (ap (λ (x : List ℕ × Option (List ℕ)). unwrap_or x.1 []) e),
    )

-- six bytes and more are no move
no_move : (front : List ℕ) (b : ℕ) (more : List ℕ) → length front ≡ 5 → move_of (front ++ (b ∷ more)) ≡ None
no_move [] b more h = absurd (omega arith)
no_move (v ∷ []) b more h = absurd (omega arith)
no_move (v ∷ w ∷ []) b more h = absurd (omega arith)
no_move (v ∷ w ∷ x ∷ []) b more h = absurd (omega arith)
no_move (v ∷ w ∷ x ∷ y ∷ []) b more h = absurd (omega arith)
no_move (v ∷ w ∷ x ∷ y ∷ z ∷ []) b more h = refl
no_move (u ∷ v ∷ w ∷ x ∷ y ∷ z ∷ zs) b more h = absurd (omega arith)

-- a byte that is no line feed is passed over
next_lines_behind : (b : ℕ) (rest : List ℕ) → eqb b 10 ≡ false → next_lines (b ∷ rest) ≡ next_lines rest
next_lines_behind b rest h = rw h refl

said_by_long : (front : List ℕ) (b : ℕ) (rest : List ℕ) → is_line front ≡ true → length front ≡ 5 → eqb b 10 ≡ false →
    (said_by (front ++ (b ∷ rest)) ≡ None) × (next_lines rest ≡ next_lines (front ++ (b ∷ rest)))
said_by_long [] b rest free five h = absurd (omega arith)
said_by_long (a ∷ front) b rest free five h =
    let e : cut 10 ((a ∷ front) ++ (b ∷ rest)) ≡ ((a ∷ front) ++ (cut 10 (b ∷ rest)).0, (cut 10 (b ∷ rest)).1) = cut_within (a ∷ front) (b ∷ rest) free in
    let first : (cut 10 (b ∷ rest)).0 ≡ b ∷ (cut 10 rest).0 = rw h refl in (
      ap (λ (x : List ℕ × Option (List ℕ)). option_map Try (move_of x.0)) e
          ∙ (ap (λ (x : List ℕ). option_map Try (move_of ((a ∷ front) ++ x))) first ∙ ap (option_map Try) (no_move (a ∷ front) b (cut 10 rest).0 five)),
      sym (ap (λ (x : List ℕ × Option (List ℕ)). unwrap_or x.1 []) e ∙ next_lines_behind b rest h),
    )

-- ---- a line of a source, which may not tell its bytes

-- the line feed was read
pub line_ends : (old mid new : Option (List ℕ)) (front : List ℕ) → is_line front ≡ true → Consumes old mid front → Consumes mid new (10 ∷ []) → ReadsLine (option_map Try (move_of front)) old (lines_left false new)
line_ends None mid new front free one two = tt
line_ends (Some x) None new front free one two = absurd one
line_ends (Some x) (Some y) None front free one two = absurd two
line_ends (Some x) (Some y) (Some z) front free one two =
    subst (λ (xs : List ℕ). ReadsLine (option_map Try (move_of front)) (Some xs) (Some z)) (sym (one ∙ ap (λ (ys : List ℕ). front ++ ys) two)) (said_by_line front z free)

-- the input ended inside the line
pub line_is_last : (old mid new : Option (List ℕ)) (front : List ℕ) → is_line front ≡ true → 0 < length front → Consumes old mid front → GivesByte mid new None → ReadsLine (option_map Try (move_of front)) old (lines_left false new)
line_is_last None mid new front free some one two = tt
line_is_last (Some x) None new front free some one two = absurd one
line_is_last (Some x) (Some y) None front free some one two = absurd two.0
line_is_last (Some x) (Some y) (Some z) [] free some one two = absurd (omega arith)
line_is_last (Some x) (Some y) (Some z) (b ∷ front) free some one two =
    let empty : y ≡ [] = two.0 ∙ two.1 in
    subst (λ (zs : List ℕ). ReadsLine (option_map Try (move_of (b ∷ front))) (Some x) (Some zs)) (sym two.1)
    (subst (λ (xs : List ℕ). ReadsLine (option_map Try (move_of (b ∷ front))) (Some xs) (Some [])) (sym (one ∙ ap (λ (ys : List ℕ). (b ∷ front) ++ ys) empty)) (said_by_last b front free))

-- no byte was left
pub no_line : (old mid new : Option (List ℕ)) → Consumes old mid [] → GivesByte mid new None → ReadsLine (Some Leave) old (lines_left false new)
no_line None mid new one two = tt
no_line (Some x) None new one two = absurd one
no_line (Some x) (Some y) None one two = absurd two.0
no_line (Some x) (Some y) (Some z) one two =
    subst (λ (zs : List ℕ). ReadsLine (Some Leave) (Some x) (Some zs)) (sym two.1)
    (subst (λ (xs : List ℕ). ReadsLine (Some Leave) (Some xs) (Some [])) (sym (one ∙ (two.0 ∙ two.1))) (refl, refl))

-- there is a sixth byte
pub line_is_long : (old mid new : Option (List ℕ)) (front : List ℕ) (b : ℕ) → is_line front ≡ true → length front ≡ 5 → eqb b 10 ≡ false → Consumes old mid front → Consumes mid new (b ∷ []) → ReadsLine None old (lines_left true new)
line_is_long None mid new front b free five h one two = tt
line_is_long (Some x) None new front b free five h one two = absurd one
line_is_long (Some x) (Some y) None front b free five h one two = absurd two
line_is_long (Some x) (Some y) (Some z) front b free five h one two =
    subst (λ (xs : List ℕ). ReadsLine None (Some xs) (lines_left true (Some z))) (sym (one ∙ ap (λ (ys : List ℕ). front ++ ys) two)) (said_by_long front b z free five h)
