-- A text that is read as a pawn's move spells it, and the other way round.
use Rattle.std.proofs.Common.{◌≡◌, ℕ, ◌+◌, ◌<◌, ◌/◌, Bool, true, false, cond, ◌&&◌, eqb, List, [], ◌∷◌, ◌++◌, Option, Some, None, refl, sym, ap, ◌∙◌, subst, arith}
use Rattle.std.proofs.lemmas.Bool.{eqb-true}
use Rattle.krieg_record.proofs.Common.{Promo, square_text, square_of, Movement, ByPawn, promotion_text, pawn_capture_text, pawn_text, IsCoordinate, file_named, promo_named, pawn_with, pawn_taking, pawn_movement}
use Rattle.krieg_board.specs.declared.men.Promo.TheVariants as promo
use Rattle.krieg_fen.proofs.MoveTexts.{square_again, square_spells}
use Rattle.krieg_record.proofs.OriginTexts.{file_again, file_spells}
use Rattle.krieg_record.proofs.OfficerTexts.{Spells, no_x_rank}

promo_is : (b k : ℕ) (q r : Promo) → eqb b k ≡ true → promotion_text q ≡ 61 ∷ k ∷ [] → Some q ≡ Some r → promotion_text r ≡ 61 ∷ b ∷ []
promo_is b k q r same text e =
    let is : q ≡ r = cc in
    ap promotion_text (sym is) ∙ text ∙ ap (λ (x : ℕ). 61 ∷ x ∷ []) (sym (eqb-true b k same))

promo_cases : (b : ℕ) (r : Promo) (h i j k : Bool) → eqb b 81 ≡ h → eqb b 82 ≡ i → eqb b 66 ≡ j → eqb b 78 ≡ k →
    cond h (Some promo.Queen) (cond i (Some promo.Rook) (cond j (Some promo.Bishop) (cond k (Some promo.Knight) None))) ≡ Some r → promotion_text r ≡ 61 ∷ b ∷ []
promo_cases b r true i j k e f g l h = promo_is b 81 promo.Queen r e refl h
promo_cases b r false true j k e f g l h = promo_is b 82 promo.Rook r f refl h
promo_cases b r false false true k e f g l h = promo_is b 66 promo.Bishop r g refl h
promo_cases b r false false false true e f g l h = promo_is b 78 promo.Knight r l refl h
promo_cases b r false false false false e f g l h = absurd cc

promo_spells : (b : ℕ) (r : Promo) → promo_named b ≡ Some r → promotion_text r ≡ 61 ∷ b ∷ []
promo_spells b r e = promo_cases b r _ _ _ _ refl refl refl refl e

plain_spells : (r : Promo) → Some promo.Plain ≡ Some r → promotion_text r ≡ []
plain_spells r e = let is : promo.Plain ≡ r = cc in ap promotion_text (sym is)

pawn_says : (file : Option ℕ) (fb pb : List ℕ) (r : Option Promo) (d e : ℕ) (x : Movement) → fb ≡ pawn_capture_text file → IsCoordinate file → ((q : Promo) → r ≡ Some q → promotion_text q ≡ pb) →
    pawn_with file (square_of d e) r ≡ Some x → Spells (fb ++ ((d ∷ e ∷ []) ++ pb)) x
pawn_says file fb pb r d e x front line tells h = go (square_of d e) r refl refl h
  where
    go : (s : Option ℕ) (q : Option Promo) → square_of d e ≡ s → r ≡ q → pawn_with file s q ≡ Some x → Spells (fb ++ ((d ∷ e ∷ []) ++ pb)) x
    go (Some s) (Some q) is js k =
        let same : ByPawn (record { file = file; to = s; promo = q }) ≡ x = cc in
        let t = square_spells d e s is in
        let text : fb ++ ((d ∷ e ∷ []) ++ pb) ≡ pawn_text (record { file = file; to = s; promo = q }) =
        ap (λ (y : List ℕ). y ++ ((d ∷ e ∷ []) ++ pb)) front ∙ ap (λ (y : List ℕ). pawn_capture_text file ++ (y ++ pb)) (sym t.1)
        ∙ ap (λ (y : List ℕ). pawn_capture_text file ++ (square_text s ++ y)) (sym (tells q js)) in
        subst (Spells (fb ++ ((d ∷ e ∷ []) ++ pb))) same (text, (line, t.0))
    go (Some s) None is js k = absurd cc
    go None q is js k = absurd cc

taking_says : (a : ℕ) (pb : List ℕ) (r : Option Promo) (d e : ℕ) (x : Movement) → ((q : Promo) → r ≡ Some q → promotion_text q ≡ pb) →
    pawn_taking (file_named a) (square_of d e) r ≡ Some x → Spells (a ∷ 120 ∷ ((d ∷ e ∷ []) ++ pb)) x
taking_says a pb r d e x tells h = go (file_named a) refl h
  where
    go : (f : Option ℕ) → file_named a ≡ f → pawn_taking f (square_of d e) r ≡ Some x → Spells (a ∷ 120 ∷ ((d ∷ e ∷ []) ++ pb)) x
    go (Some f) is k =
        let s = file_spells a f is in
        pawn_says (Some f) (a ∷ 120 ∷ []) pb r d e x (ap (λ (y : ℕ). y ∷ 120 ∷ []) (sym s.1)) s.0 tells k
    go None is k = absurd cc

pub pawn_spells : (text : List ℕ) (x : Movement) → pawn_movement text ≡ Some x → Spells text x
pawn_spells [] x h = absurd cc
pawn_spells (a ∷ []) x h = absurd cc
pawn_spells (a ∷ b ∷ []) x h = pawn_says None [] [] (Some promo.Plain) a b x refl tt plain_spells h
pawn_spells (a ∷ b ∷ c ∷ []) x h = absurd cc
pawn_spells (a ∷ b ∷ c ∷ d ∷ []) x h = go (eqb b 120) (eqb c 61) refl refl h
  where
    go : (t u : Bool) → eqb b 120 ≡ t → eqb c 61 ≡ u → cond t (pawn_taking (file_named a) (square_of c d) (Some promo.Plain)) (cond u (pawn_with None (square_of a b) (promo_named d)) None) ≡ Some x → Spells (a ∷ b ∷ c ∷ d ∷ []) x
    go true u is js k = subst (λ (y : ℕ). Spells (a ∷ y ∷ c ∷ d ∷ []) x) (sym (eqb-true b 120 is)) (taking_says a [] (Some promo.Plain) c d x plain_spells k)
    go false true is js k = subst (λ (y : ℕ). Spells (a ∷ b ∷ y ∷ d ∷ []) x) (sym (eqb-true c 61 js)) (pawn_says None [] (61 ∷ d ∷ []) (promo_named d) a b x refl tt (promo_spells d) k)
    go false false is js k = absurd cc
pawn_spells (a ∷ b ∷ c ∷ d ∷ e ∷ []) x h = absurd cc
pawn_spells (a ∷ b ∷ c ∷ d ∷ e ∷ f ∷ []) x h = go (eqb b 120) (eqb e 61) refl refl h
  where
    go : (t u : Bool) → eqb b 120 ≡ t → eqb e 61 ≡ u → cond (t && u) (pawn_taking (file_named a) (square_of c d) (promo_named f)) None ≡ Some x → Spells (a ∷ b ∷ c ∷ d ∷ e ∷ f ∷ []) x
    go true true is js k =
        subst (λ (y : ℕ). Spells (a ∷ y ∷ c ∷ d ∷ e ∷ f ∷ []) x) (sym (eqb-true b 120 is))
        (subst (λ (y : ℕ). Spells (a ∷ 120 ∷ c ∷ d ∷ y ∷ f ∷ []) x) (sym (eqb-true e 61 js)) (taking_says a (61 ∷ f ∷ []) (promo_named f) c d x (promo_spells f) k))
    go true false is js k = absurd cc
    go false u is js k = absurd cc
pawn_spells (a ∷ b ∷ c ∷ d ∷ e ∷ f ∷ g ∷ more) x h = absurd cc

no_x_digit : (s : ℕ) → s < 64 → eqb (49 + s / 8) 120 ≡ false
no_x_digit s lt = no_x_rank (s / 8) (omega arith)

pub pawn_again : (file : Option ℕ) (to : ℕ) (r : Promo) → IsCoordinate file → to < 64 → pawn_movement (pawn_capture_text file ++ (square_text to ++ promotion_text r)) ≡ Some (ByPawn (record { file = file; to = to; promo = r }))
pawn_again None to promo.Plain f t = rw (square_again to t) refl
pawn_again None to promo.Queen f t = rw (no_x_digit to t, square_again to t) refl
pawn_again None to promo.Rook f t = rw (no_x_digit to t, square_again to t) refl
pawn_again None to promo.Bishop f t = rw (no_x_digit to t, square_again to t) refl
pawn_again None to promo.Knight f t = rw (no_x_digit to t, square_again to t) refl
pawn_again (Some a) to promo.Plain f t = rw (file_again a f, square_again to t) refl
pawn_again (Some a) to promo.Queen f t = rw (file_again a f, square_again to t) refl
pawn_again (Some a) to promo.Rook f t = rw (file_again a f, square_again to t) refl
pawn_again (Some a) to promo.Bishop f t = rw (file_again a f, square_again to t) refl
pawn_again (Some a) to promo.Knight f t = rw (file_again a f, square_again to t) refl
