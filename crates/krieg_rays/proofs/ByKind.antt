-- What a side's men attack, kind by kind.
use Rattle.std.proofs.Common.{◌≡◌, ℕ, ◌<◌, Bool, true, false, ◌&&◌, ◌||◌, ◌⊎◌, inl, inr, refl, sym, ◌∙◌, bit_and}
use Rattle.std.specs.Prelude.{Option, Some, None}
use Rattle.std.proofs.lemmas.Bool.{or_cases, or_left, or_right}
use Rattle.std.proofs.Math.Bool.{or-false}
use Rattle.krieg_rays.proofs.Common.{Side, Kind, Pawn, Knight, Bishop, Rook, Queen, King, Man, Sets, is_same_kind, has, some_square, Board, man_at, is_of, is_kind, Show, reaches}
use Rattle.krieg_board.proofs.MenLemmas.{same_side_eq}
use Rattle.krieg_board.proofs.SetLemmas.{has_and}
use Rattle.krieg_board.proofs.SameTests.{same_tests, some_square_same}
use Rattle.krieg_board.proofs.SquareTests.{some_square_at, some_square_tells}

-- some square passes one of two tests
some_or : (p q : ℕ → Bool) → (some_square p || some_square q) ≡ some_square (λ f. p f || q f)
some_or p q = same_tests (some_square p || some_square q) (some_square (λ f. p f || q f)) (λ h. either (or_cases (some_square p) (some_square q) h)) (λ h.
    let (f, hf, e) = some_square_tells (λ f. p f || q f) h in
    one_of f hf (or_cases (p f) (q f) e))
  where
    either : (some_square p ≡ true) ⊎ (some_square q ≡ true) → some_square (λ f. p f || q f) ≡ true
    either (inl h) = let (f, hf, e) = some_square_tells p h in some_square_at (λ f. p f || q f) f hf (or_left (p f) (q f) e)
    either (inr h) = let (f, hf, e) = some_square_tells q h in some_square_at (λ f. p f || q f) f hf (or_right (p f) (q f) e)

    one_of : (f : ℕ) → f < 64 → (p f ≡ true) ⊎ (q f ≡ true) → (some_square p || some_square q) ≡ true
    one_of f hf (inl e) = or_left (some_square p) (some_square q) (some_square_at p f hf e)
    one_of f hf (inr e) = or_right (some_square p) (some_square q) (some_square_at q f hf e)

-- a man of a side is of one of the six kinds
of_some : (which : Kind) (here : Bool) (r : Kind → Bool) →
    ((((((is_same_kind which Pawn && here) && r Pawn || (is_same_kind which Knight && here) && r Knight) || (is_same_kind which Bishop && here) && r Bishop)
    || (is_same_kind which Rook && here) && r Rook) || (is_same_kind which Queen && here) && r Queen) || (is_same_kind which King && here) && r King) ≡ (here && r which)
of_some Pawn true r = simp or-false
of_some Knight true r = simp or-false
of_some Bishop true r = simp or-false
of_some Rook true r = simp or-false
of_some Queen true r = simp or-false
of_some King true r = refl
of_some Pawn false r = refl
of_some Knight false r = refl
of_some Bishop false r = refl
of_some Rook false r = refl
of_some Queen false r = refl
of_some King false r = refl

-- the man on f, of that kind and of those men, attacks k
abbrev of_kind : Side → ℕ → ℕ → ℕ → ℕ → Kind → ℕ → Bool
of_kind side men occupied k f which n = has (bit_and n men) f && reaches occupied (Some (record { side = side; kind = which })) f k

-- what a side's men of one kind attack
abbrev by_men : Side → ℕ → ℕ → ℕ → Kind → ℕ → Bool
by_men side men occupied k which n = some_square (λ f. of_kind side men occupied k f which n)

pub kinds_attack : (b : Board) (side : Side) (men occupied k : ℕ) (s : Sets) → Show s b → ((f : ℕ) → f < 64 → has men f ≡ true → is_of side (man_at b f) ≡ true) →
    (((((by_men side men occupied k Pawn s.pawns || by_men side men occupied k Knight s.knights) || by_men side men occupied k Bishop s.bishops)
    || by_men side men occupied k Rook s.rooks) || by_men side men occupied k Queen s.queens) || by_men side men occupied k King s.kings)
    ≡ some_square (λ f. has men f && reaches occupied (man_at b f) f k)
kinds_attack b side men occupied k s show own =
    (λ i. (((some_or (of Pawn s.pawns) (of Knight s.knights) i || all Bishop s.bishops) || all Rook s.rooks) || all Queen s.queens) || all King s.kings)
    ∙ (λ i. ((some_or (λ f. of Pawn s.pawns f || of Knight s.knights f) (of Bishop s.bishops) i || all Rook s.rooks) || all Queen s.queens) || all King s.kings)
    ∙ (λ i. (some_or (λ f. (of Pawn s.pawns f || of Knight s.knights f) || of Bishop s.bishops f) (of Rook s.rooks) i || all Queen s.queens) || all King s.kings)
    ∙ (λ i. some_or (λ f. ((of Pawn s.pawns f || of Knight s.knights f) || of Bishop s.bishops f) || of Rook s.rooks f) (of Queen s.queens) i || all King s.kings)
    ∙ some_or (λ f. (((of Pawn s.pawns f || of Knight s.knights f) || of Bishop s.bishops f) || of Rook s.rooks f) || of Queen s.queens f) (of King s.kings)
    ∙ some_square_same (λ f. ((((of Pawn s.pawns f || of Knight s.knights f) || of Bishop s.bishops f) || of Rook s.rooks f) || of Queen s.queens f) || of King s.kings f)
    (λ f. has men f && reaches occupied (man_at b f) f k) each
  where
    of : Kind → ℕ → ℕ → Bool
    of which n f = of_kind side men occupied k f which n

    all : Kind → ℕ → Bool
    all which n = by_men side men occupied k which n

    by_side : Kind → ℕ → Bool
    by_side which f = reaches occupied (Some (record { side = side; kind = which })) f k

    of_man : (f : ℕ) (x : Option Man) (here : Bool) → (here ≡ true → is_of side x ≡ true) →
        ((((((is_kind Pawn x && here) && by_side Pawn f || (is_kind Knight x && here) && by_side Knight f) || (is_kind Bishop x && here) && by_side Bishop f)
        || (is_kind Rook x && here) && by_side Rook f) || (is_kind Queen x && here) && by_side Queen f) || (is_kind King x && here) && by_side King f)
        ≡ (here && reaches occupied x f k)
    of_man f None true e = refl
    of_man f None false e = refl
    of_man f (Some m) here e = of_some m.kind here (λ which. by_side which f) ∙ same here e
      where
        same : (here : Bool) → (here ≡ true → is_of side (Some m) ≡ true) → (here && by_side m.kind f) ≡ (here && reaches occupied (Some m) f k)
        same true e = λ i. reaches occupied (Some (record { side = sym (same_side_eq m.side side (e refl)) i; kind = m.kind })) f k
        same false e = refl

    each : (f : ℕ) → f < 64 →
        (((((of Pawn s.pawns f || of Knight s.knights f) || of Bishop s.bishops f) || of Rook s.rooks f) || of Queen s.queens f) || of King s.kings f)
        ≡ (has men f && reaches occupied (man_at b f) f k)
    each f h =
        simp has_and
        ((λ i. ((((((show.pawns f h i && has men f) && by_side Pawn f || (show.knights f h i && has men f) && by_side Knight f) || (show.bishops f h i && has men f) && by_side Bishop f)
        || (show.rooks f h i && has men f) && by_side Rook f) || (show.queens f h i && has men f) && by_side Queen f) || (show.kings f h i && has men f) && by_side King f))
        ∙ of_man f (man_at b f) (has men f) (own f h))
