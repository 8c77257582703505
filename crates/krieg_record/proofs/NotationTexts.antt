-- A text that is read as a notation spells it, and the other way round; so a text says one thing.
use Rattle.std.proofs.Common.{◌≡◌, ℕ, ◌+◌, ◌<◌, ◌/◌, ◌%◌, Bool, true, false, cond, eqb, List, [], ◌∷◌, ◌++◌, Option, Some, None, refl, sym, ap, ◌∙◌, subst, arith, append-nil}
use Rattle.std.specs.Str.{bytes_eq}
use Rattle.std.proofs.lemmas.Bool.{eqb-true, ne_eqb}
use Rattle.std.proofs.lemmas.Slice.Eq.{bytes_eq-Decides}
use Rattle.krieg_record.proofs.Common.{Promo, Short, Long, square_text, Officer, King, Queen, Rook, Bishop, Knight, Movement, Castles, ByOfficer, ByPawn, CheckSuffix, Nothing, Check, Mate, Notation, letter, file_text, rank_text, capture_text, promotion_text, pawn_capture_text, officer_text, movement_text, ending_text, notation_text, IsMovement, Says, officer_movement, pawn_movement, castling_movement, movement_from, movement_of, with_ending, ending_of, front_of, notation_by, notation_of}
use Rattle.krieg_board.specs.declared.men.Promo.TheVariants as promo
use Rattle.krieg_record.proofs.LastBytes.{ending_last, front_last, front_check, front_mate}
use Rattle.krieg_record.proofs.OfficerTexts.{Spells, officer_spells, officer_again}
use Rattle.krieg_record.proofs.PawnTexts.{pawn_spells, pawn_again}

castling_spells : (rest : List ℕ) (x : Movement) → castling_movement rest ≡ Some x → Spells (79 ∷ rest) x
castling_spells rest x h = go (bytes_eq rest (45 ∷ 79 ∷ [])) (bytes_eq rest (45 ∷ 79 ∷ 45 ∷ 79 ∷ [])) (bytes_eq-Decides rest (45 ∷ 79 ∷ [])).0 (bytes_eq-Decides rest (45 ∷ 79 ∷ 45 ∷ 79 ∷ [])).0 h
  where
    go : (t u : Bool) → (t ≡ true → rest ≡ 45 ∷ 79 ∷ []) → (u ≡ true → rest ≡ 45 ∷ 79 ∷ 45 ∷ 79 ∷ []) → cond t (Some (Castles Short)) (cond u (Some (Castles Long)) None) ≡ Some x → Spells (79 ∷ rest) x
    go true u is js k = let same : Castles Short ≡ x = cc in subst (Spells (79 ∷ rest)) same (ap (λ (y : List ℕ). 79 ∷ y) (is refl), tt)
    go false true is js k = let same : Castles Long ≡ x = cc in subst (Spells (79 ∷ rest)) same (ap (λ (y : List ℕ). 79 ∷ y) (js refl), tt)
    go false false is js k = absurd cc

movement_spells : (text : List ℕ) (x : Movement) → movement_of text ≡ Some x → Spells text x
movement_spells [] x h = absurd cc
movement_spells (a ∷ rest) x h = go (eqb a 75) (eqb a 81) (eqb a 82) (eqb a 66) (eqb a 78) (eqb a 79) refl refl refl refl refl refl h
  where
    of : (officer : Officer) → eqb a (letter officer) ≡ true → officer_movement officer rest ≡ Some x → Spells (a ∷ rest) x
    of officer is k = subst (λ (y : ℕ). Spells (y ∷ rest) x) (sym (eqb-true a (letter officer) is)) (officer_spells officer rest x k)

    go : (k q r b n o : Bool) → eqb a 75 ≡ k → eqb a 81 ≡ q → eqb a 82 ≡ r → eqb a 66 ≡ b → eqb a 78 ≡ n → eqb a 79 ≡ o →
        cond k (officer_movement King rest) (cond q (officer_movement Queen rest) (cond r (officer_movement Rook rest) (cond b (officer_movement Bishop rest) (cond n (officer_movement Knight rest) (cond o (castling_movement rest) (pawn_movement (a ∷ rest))))))) ≡ Some x →
        Spells (a ∷ rest) x
    go true q r b n o e1 e2 e3 e4 e5 e6 h = of King e1 h
    go false true r b n o e1 e2 e3 e4 e5 e6 h = of Queen e2 h
    go false false true b n o e1 e2 e3 e4 e5 e6 h = of Rook e3 h
    go false false false true n o e1 e2 e3 e4 e5 e6 h = of Bishop e4 h
    go false false false false true o e1 e2 e3 e4 e5 e6 h = of Knight e5 h
    go false false false false false true e1 e2 e3 e4 e5 e6 h = subst (λ (y : ℕ). Spells (y ∷ rest) x) (sym (eqb-true a 79 e6)) (castling_spells rest x h)
    go false false false false false false e1 e2 e3 e4 e5 e6 h = pawn_spells (a ∷ rest) x h

pawn_first : (f : ℕ) (rest : List ℕ) → movement_from (97 + f) rest ≡ pawn_movement ((97 + f) ∷ rest)
pawn_first f rest = rw (no 75 (omega arith), no 81 (omega arith), no 82 (omega arith), no 66 (omega arith), no 78 (omega arith), no 79 (omega arith)) refl
  where
    no : (k : ℕ) → k < 97 → eqb (97 + f) k ≡ false
    no k lt = ne_eqb (97 + f) k (λ e. omega arith)

movement_again : (x : Movement) → IsMovement x → movement_of (movement_text x) ≡ Some x
movement_again (Castles Short) i = refl
movement_again (Castles Long) i = refl
movement_again (ByOfficer o) i = letters o.officer ∙ officer_again o.officer o.origin.file o.origin.rank o.captures o.to i.0 i.1 i.2
  where
    letters : (officer : Officer) → movement_of (letter officer ∷ officer_text o) ≡ officer_movement officer (officer_text o)
    letters King = refl
    letters Queen = refl
    letters Rook = refl
    letters Bishop = refl
    letters Knight = refl
movement_again (ByPawn w) i = first w.file ∙ pawn_again w.file w.to w.promo i.0 i.1
  where
    first : (file : Option ℕ) → movement_of (pawn_capture_text file ++ (square_text w.to ++ promotion_text w.promo)) ≡ pawn_movement (pawn_capture_text file ++ (square_text w.to ++ promotion_text w.promo))
    first None = pawn_first (w.to % 8) ((49 + w.to / 8) ∷ promotion_text w.promo)
    first (Some f) = pawn_first f (120 ∷ (square_text w.to ++ promotion_text w.promo))

digit_ends : (s : ℕ) → ending_of ((49 + s / 8) ∷ []) ≡ Nothing
digit_ends s = rw (ne_eqb (49 + s / 8) 43 (λ e. omega arith), ne_eqb (49 + s / 8) 35 (λ e. omega arith)) refl

officer_ends : (a to : ℕ) (file rank : Option ℕ) (c : Bool) → ending_of (a ∷ (file_text file ++ (rank_text rank ++ (capture_text c ++ square_text to)))) ≡ Nothing
officer_ends a to None None false = digit_ends to
officer_ends a to None None true = digit_ends to
officer_ends a to (Some f) None false = digit_ends to
officer_ends a to (Some f) None true = digit_ends to
officer_ends a to None (Some r) false = digit_ends to
officer_ends a to None (Some r) true = digit_ends to
officer_ends a to (Some f) (Some r) false = digit_ends to
officer_ends a to (Some f) (Some r) true = digit_ends to

pawn_ends : (file : Option ℕ) (to : ℕ) (r : Promo) → ending_of (pawn_capture_text file ++ (square_text to ++ promotion_text r)) ≡ Nothing
pawn_ends None to promo.Plain = digit_ends to
pawn_ends None to promo.Queen = refl
pawn_ends None to promo.Rook = refl
pawn_ends None to promo.Bishop = refl
pawn_ends None to promo.Knight = refl
pawn_ends (Some f) to promo.Plain = digit_ends to
pawn_ends (Some f) to promo.Queen = refl
pawn_ends (Some f) to promo.Rook = refl
pawn_ends (Some f) to promo.Bishop = refl
pawn_ends (Some f) to promo.Knight = refl

movement_ends : (x : Movement) → ending_of (movement_text x) ≡ Nothing
movement_ends (Castles Short) = refl
movement_ends (Castles Long) = refl
movement_ends (ByOfficer o) = officer_ends (letter o.officer) o.to o.origin.file o.origin.rank o.captures
movement_ends (ByPawn w) = pawn_ends w.file w.to w.promo

pub notation_again : (n : Notation) → IsMovement n.movement → notation_of (notation_text n) ≡ Some n
unfolding notation_of notation_text
notation_again n i = go n.ending
  where
    with : (e : CheckSuffix) → with_ending (movement_of (movement_text n.movement)) e ≡ Some (record { movement = n.movement; ending = e })
    with e = ap (λ p. with_ending p e) (movement_again n.movement i)

    ended : (b : ℕ) (e : CheckSuffix) → ending_of (b ∷ []) ≡ e → notation_by (movement_text n.movement ++ (b ∷ [])) (ending_of (movement_text n.movement ++ (b ∷ []))) ≡ notation_by (movement_text n.movement ++ (b ∷ [])) e
    ended b e is = ap (notation_by (movement_text n.movement ++ (b ∷ []))) (ending_last (movement_text n.movement) b ∙ is)

    go : (e : CheckSuffix) → notation_by (movement_text n.movement ++ ending_text e) (ending_of (movement_text n.movement ++ ending_text e)) ≡ Some (record { movement = n.movement; ending = e })
    go Nothing = ap (λ (t : List ℕ). notation_by t (ending_of t)) (append-nil (movement_text n.movement)) ∙ ap (notation_by (movement_text n.movement)) (movement_ends n.movement) ∙ with Nothing
    go Check = ended 43 Check refl ∙ ap (λ (t : List ℕ). with_ending (movement_of t) Check) (front_last (movement_text n.movement) 43) ∙ with Check
    go Mate = ended 35 Mate refl ∙ ap (λ (t : List ℕ). with_ending (movement_of t) Mate) (front_last (movement_text n.movement) 35) ∙ with Mate

pub notation_spells : (text : List ℕ) (n : Notation) → notation_of text ≡ Some n → Says text n
unfolding notation_of notation_text
notation_spells text n h = go (ending_of text) refl h
  where
    by : (front : List ℕ) (e : CheckSuffix) → text ≡ front ++ ending_text e → (p : Option Movement) → movement_of front ≡ p → with_ending p e ≡ Some n → Says text n
    by front e whole None is k = absurd cc
    by front e whole (Some x) is k =
        let same : record { movement = x; ending = e } ≡ n = cc in
        let s = movement_spells front x is in
        subst (Says text) same (record { is = whole ∙ ap (λ (t : List ℕ). t ++ ending_text e) s.0; named = s.1 })

    go : (e : CheckSuffix) → ending_of text ≡ e → notation_by text e ≡ Some n → Says text n
    go Nothing is k = by text Nothing (sym (append-nil text)) (movement_of text) refl k
    go Check is k = by (front_of text) Check (front_check text is) (movement_of (front_of text)) refl k
    go Mate is k = by (front_of text) Mate (front_mate text is) (movement_of (front_of text)) refl k

-- a text says one thing
pub says_one : (text : List ℕ) (n o : Notation) → Says text n → Says text o → n ≡ o
says_one text n o a b =
    let s = notation_again n a.named in
    let t = notation_again o b.named in
    let e : Some n ≡ Some o = sym s ∙ ap notation_of (sym a.is ∙ b.is) ∙ t in
    cc
