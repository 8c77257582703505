-- A text that is read as an officer's move spells it, and the other way round.
use Rattle.std.proofs.Common.{◌≡◌, ◌≢◌, ℕ, ◌+◌, ◌<◌, Bool, true, false, cond, eqb, List, [], ◌∷◌, ◌++◌, Option, Some, None, refl, sym, ap, ◌∙◌, subst, arith, append_assoc, ◌≤◌, length, get_or, take, drop}
use Rattle.std.proofs.lemmas.Bool.{eq-eqb, eqb-true, ne_eqb}
use Rattle.std.proofs.lemmas.List.{take_all}
use Rattle.krieg_record.proofs.Common.{square_text, square_of, Officer, Origin, Movement, ByOfficer, told, letter, file_text, rank_text, capture_text, officer_text, movement_text, IsCoordinate, IsMovement, one_told, both_told, officer_with, officer_movement, officer_named, movement_from, movement_of, castling_movement, pawn_movement, King, Queen, Rook, Bishop, Knight}
use Rattle.krieg_fen.proofs.MoveTexts.{square_again, square_spells}
use Rattle.krieg_record.proofs.OriginTexts.{file_again, rank_again, no_file, Tells, none_tells, one_tells, both_tell}

-- the bytes are those of the movement
abbrev pub Spells : List ℕ → Movement → Type 0
Spells text x = (text ≡ movement_text x) × IsMovement x

officer_says : (officer : Officer) (c : Bool) (ob : List ℕ) (o : Option Origin) (d e : ℕ) (x : Movement) → ((g : Origin) → o ≡ Some g → Tells ob g) →
    officer_with officer c o (square_of d e) ≡ Some x → Spells (letter officer ∷ (ob ++ (capture_text c ++ (d ∷ e ∷ [])))) x
officer_says officer c ob o d e x tells h = go o (square_of d e) refl refl h
  where
    go : (g : Option Origin) (s : Option ℕ) → o ≡ g → square_of d e ≡ s → officer_with officer c g s ≡ Some x → Spells (letter officer ∷ (ob ++ (capture_text c ++ (d ∷ e ∷ [])))) x
    go (Some g) (Some s) is js k =
        let same : ByOfficer (record { officer = officer; origin = g; captures = c; to = s }) ≡ x = cc in
        let t = tells g is in
        let q = square_spells d e s js in
        let text : ob ++ (capture_text c ++ (d ∷ e ∷ [])) ≡ officer_text (record { officer = officer; origin = g; captures = c; to = s }) =
        ap (λ (y : List ℕ). y ++ (capture_text c ++ (d ∷ e ∷ []))) t.is
        ∙ append_assoc (file_text g.file) (rank_text g.rank) (capture_text c ++ (d ∷ e ∷ []))
        ∙ ap (λ (y : List ℕ). file_text g.file ++ (rank_text g.rank ++ (capture_text c ++ y))) (sym q.1) in
        subst (Spells (letter officer ∷ (ob ++ (capture_text c ++ (d ∷ e ∷ []))))) same (ap (λ (y : List ℕ). letter officer ∷ y) text, (t.file, t.rank, q.0))
    go (Some g) None is js k = absurd cc
    go None s is js k = absurd cc

pub officer_spells : (officer : Officer) (rest : List ℕ) (x : Movement) → officer_movement officer rest ≡ Some x → Spells (letter officer ∷ rest) x
officer_spells officer [] x h = absurd cc
officer_spells officer (a ∷ []) x h = absurd cc
officer_spells officer (a ∷ b ∷ []) x h = officer_says officer false [] (Some (told None None)) a b x none_tells h
officer_spells officer (a ∷ b ∷ c ∷ []) x h = go (eqb a 120) refl h
  where
    go : (t : Bool) → eqb a 120 ≡ t → cond t (officer_with officer true (Some (told None None)) (square_of b c)) (officer_with officer false (one_told a) (square_of b c)) ≡ Some x → Spells (letter officer ∷ a ∷ b ∷ c ∷ []) x
    go true is k = subst (λ (y : ℕ). Spells (letter officer ∷ y ∷ b ∷ c ∷ []) x) (sym (eqb-true a 120 is)) (officer_says officer true [] (Some (told None None)) b c x none_tells k)
    go false is k = officer_says officer false (a ∷ []) (one_told a) b c x (one_tells a) k
officer_spells officer (a ∷ b ∷ c ∷ d ∷ []) x h = go (eqb b 120) refl h
  where
    go : (t : Bool) → eqb b 120 ≡ t → cond t (officer_with officer true (one_told a) (square_of c d)) (officer_with officer false (both_told a b) (square_of c d)) ≡ Some x → Spells (letter officer ∷ a ∷ b ∷ c ∷ d ∷ []) x
    go true is k = subst (λ (y : ℕ). Spells (letter officer ∷ a ∷ y ∷ c ∷ d ∷ []) x) (sym (eqb-true b 120 is)) (officer_says officer true (a ∷ []) (one_told a) c d x (one_tells a) k)
    go false is k = officer_says officer false (a ∷ b ∷ []) (both_told a b) c d x (both_tell a b) k
officer_spells officer (a ∷ b ∷ c ∷ d ∷ e ∷ []) x h = go (eqb c 120) refl h
  where
    go : (t : Bool) → eqb c 120 ≡ t → cond t (officer_with officer true (both_told a b) (square_of d e)) None ≡ Some x → Spells (letter officer ∷ a ∷ b ∷ c ∷ d ∷ e ∷ []) x
    go true is k = subst (λ (y : ℕ). Spells (letter officer ∷ a ∷ b ∷ y ∷ d ∷ e ∷ []) x) (sym (eqb-true c 120 is)) (officer_says officer true (a ∷ b ∷ []) (both_told a b) d e x (both_tell a b) k)
    go false is k = absurd cc
officer_spells officer (a ∷ b ∷ c ∷ d ∷ e ∷ f ∷ more) x h = absurd cc

no_x_file : (f : ℕ) → f < 8 → eqb (97 + f) 120 ≡ false
no_x_file f lt = ne_eqb (97 + f) 120 (λ e. omega arith)

pub no_x_rank : (r : ℕ) → r < 8 → eqb (49 + r) 120 ≡ false
no_x_rank r lt = ne_eqb (49 + r) 120 (λ e. omega arith)

pub officer_again : (officer : Officer) (file rank : Option ℕ) (c : Bool) (to : ℕ) → IsCoordinate file → IsCoordinate rank → to < 64 →
    officer_movement officer (file_text file ++ (rank_text rank ++ (capture_text c ++ square_text to))) ≡ Some (ByOfficer (record { officer = officer; origin = told file rank; captures = c; to = to }))
officer_again officer None None false to f r t = rw (square_again to t) refl
officer_again officer None None true to f r t = rw (square_again to t) refl
officer_again officer (Some a) None false to f r t = rw (no_x_file a f, file_again a f, square_again to t) refl
officer_again officer (Some a) None true to f r t = rw (file_again a f, square_again to t) refl
officer_again officer None (Some b) false to f r t = rw (no_x_rank b r, no_file b r, rank_again b r, square_again to t) refl
officer_again officer None (Some b) true to f r t = rw (no_file b r, rank_again b r, square_again to t) refl
officer_again officer (Some a) (Some b) false to f r t = rw (no_x_rank b r, file_again a f, rank_again b r, square_again to t) refl
officer_again officer (Some a) (Some b) true to f r t = rw (file_again a f, rank_again b r, square_again to t) refl

-- the movement behind the letter of an officer, and behind another byte
by_officer : (a : ℕ) (rest : List ℕ) (o : Officer) → Some o ≡ officer_named a → movement_from a rest ≡ officer_movement o rest
by_officer a rest o h = go (eqb a 75) (eqb a 81) (eqb a 82) (eqb a 66) (eqb a 78) h
  where
    go : (k q r b n : Bool) → Some o ≡ cond k (Some King) (cond q (Some Queen) (cond r (Some Rook) (cond b (Some Bishop) (cond n (Some Knight) None)))) →
        cond k (officer_movement King rest) (cond q (officer_movement Queen rest) (cond r (officer_movement Rook rest) (cond b (officer_movement Bishop rest) (cond n (officer_movement Knight rest) (cond (eqb a 79) (castling_movement rest) (pawn_movement (a ∷ rest)))))))
        ≡ officer_movement o rest
    go true q r b n e = cc
    go false true r b n e = cc
    go false false true b n e = cc
    go false false false true n e = cc
    go false false false false true e = cc
    go false false false false false e = absurd cc

by_other : (a : ℕ) (rest : List ℕ) → None ≡ officer_named a → movement_from a rest ≡ cond (eqb a 79) (castling_movement rest) (pawn_movement (a ∷ rest))
by_other a rest h = go (eqb a 75) (eqb a 81) (eqb a 82) (eqb a 66) (eqb a 78) h
  where
    go : (k q r b n : Bool) → None ≡ cond k (Some King) (cond q (Some Queen) (cond r (Some Rook) (cond b (Some Bishop) (cond n (Some Knight) None)))) →
        cond k (officer_movement King rest) (cond q (officer_movement Queen rest) (cond r (officer_movement Rook rest) (cond b (officer_movement Bishop rest) (cond n (officer_movement Knight rest) (cond (eqb a 79) (castling_movement rest) (pawn_movement (a ∷ rest)))))))
        ≡ cond (eqb a 79) (castling_movement rest) (pawn_movement (a ∷ rest))
    go true q r b n e = absurd cc
    go false true r b n e = absurd cc
    go false false true b n e = absurd cc
    go false false false true n e = absurd cc
    go false false false false true e = absurd cc
    go false false false false false e = refl

-- the same of a text
pub of_officer : (text : List ℕ) (n : ℕ) (o : Officer) → 1 ≤ length text → length text ≤ n + 1 → Some o ≡ officer_named (get_or text 0 0) → officer_movement o (take n (drop 1 text)) ≡ movement_of text
of_officer [] n o some all h = absurd (omega arith)
of_officer (a ∷ rest) n o some all h = ap (officer_movement o) (take_all n rest (omega arith)) ∙ sym (by_officer a rest o h)

pub of_castling : (text : List ℕ) (n : ℕ) → 1 ≤ length text → length text ≤ n + 1 → None ≡ officer_named (get_or text 0 0) → get_or text 0 0 ≡ 79 → castling_movement (take n (drop 1 text)) ≡ movement_of text
of_castling [] n some all h is = absurd (omega arith)
of_castling (a ∷ rest) n some all h is =
    ap castling_movement (take_all n rest (omega arith)) ∙ sym (by_other a rest h ∙ ap (λ (t : Bool). cond t (castling_movement rest) (pawn_movement (a ∷ rest))) (eq-eqb a 79 is))

pub of_pawn : (text : List ℕ) → 1 ≤ length text → None ≡ officer_named (get_or text 0 0) → get_or text 0 0 ≢ 79 → pawn_movement text ≡ movement_of text
of_pawn [] some h other = absurd (omega arith)
of_pawn (a ∷ rest) some h other = sym (by_other a rest h ∙ ap (λ (t : Bool). cond t (castling_movement rest) (pawn_movement (a ∷ rest))) (ne_eqb a 79 other))
