-- A byte that is read as a file or a rank spells it, and the other way round.
use Rattle.std.proofs.Common.{◌≡◌, ℕ, ◌+◌, ◌-◌, ◌<◌, ◌≤◌, Bool, true, false, cond, leb, List, [], ◌∷◌, ◌++◌, Option, Some, None, refl, sym, ap, ◌∙◌, subst, arith}
use Rattle.std.proofs.lemmas.Bool.{and_parts, leb-true}
use Rattle.std.proofs.lemmas.Bool.Decides.{nat_tests}
use Rattle.krieg_record.proofs.Common.{Origin, told, file_text, rank_text, IsCoordinate, file_named, rank_named, coordinate_told, one_told, square_told, both_told}

pub file_again : (f : ℕ) → f < 8 → file_named (97 + f) ≡ Some f
file_again f lt = grind (arith, nat_tests)

pub rank_again : (r : ℕ) → r < 8 → rank_named (49 + r) ≡ Some r
rank_again r lt = grind (arith, nat_tests)

pub no_file : (r : ℕ) → r < 8 → file_named (49 + r) ≡ None
no_file r lt = grind (arith, nat_tests)

line_parts : (t : Bool) (n k : ℕ) → cond t (Some n) None ≡ Some k → (t ≡ true) × (n ≡ k)
line_parts true n k e = (refl, cc)
line_parts false n k e = absurd cc

pub file_spells : (b f : ℕ) → file_named b ≡ Some f → (f < 8) × (97 + f ≡ b)
file_spells b f e =
    let p = line_parts _ _ _ e in
    let q = and_parts (leb 97 b) (leb b 104) p.0 in
    let l : 97 ≤ b = leb-true _ _ q.0 in
    let h : b ≤ 104 = leb-true _ _ q.1 in
    let is : b - 97 ≡ f = p.1 in
    (omega arith, omega arith)

rank_spells : (b r : ℕ) → rank_named b ≡ Some r → (r < 8) × (49 + r ≡ b)
rank_spells b r e =
    let p = line_parts _ _ _ e in
    let q = and_parts (leb 49 b) (leb b 56) p.0 in
    let l : 49 ≤ b = leb-true _ _ q.0 in
    let h : b ≤ 56 = leb-true _ _ q.1 in
    let is : b - 49 ≡ r = p.1 in
    (omega arith, omega arith)

-- these bytes tell the origin
pub record Tells (bytes : List ℕ) (o : Origin) : Type 0 where
  pub is : bytes ≡ file_text o.file ++ rank_text o.rank
  pub file : IsCoordinate o.file
  pub rank : IsCoordinate o.rank

pub none_tells : (o : Origin) → Some (told None None) ≡ Some o → Tells [] o
none_tells o e = let same : told None None ≡ o = cc in subst (Tells []) same (record { is = refl; file = tt; rank = tt })

pub one_tells : (b : ℕ) (o : Origin) → one_told b ≡ Some o → Tells (b ∷ []) o
one_tells b o e = go (file_named b) (rank_named b) refl refl e
  where
    go : (f r : Option ℕ) → file_named b ≡ f → rank_named b ≡ r → coordinate_told f r ≡ Some o → Tells (b ∷ []) o
    go (Some f) r is js h =
        let same : told (Some f) None ≡ o = cc in
        let s = file_spells b f is in
        subst (Tells (b ∷ [])) same (record { is = ap (λ (x : ℕ). x ∷ []) (sym s.1); file = s.0; rank = tt })
    go None (Some r) is js h =
        let same : told None (Some r) ≡ o = cc in
        let s = rank_spells b r js in
        subst (Tells (b ∷ [])) same (record { is = ap (λ (x : ℕ). x ∷ []) (sym s.1); file = tt; rank = s.0 })
    go None None is js h = absurd cc

pub both_tell : (a b : ℕ) (o : Origin) → both_told a b ≡ Some o → Tells (a ∷ b ∷ []) o
both_tell a b o e = go (file_named a) (rank_named b) refl refl e
  where
    go : (f r : Option ℕ) → file_named a ≡ f → rank_named b ≡ r → square_told f r ≡ Some o → Tells (a ∷ b ∷ []) o
    go (Some f) (Some r) is js h =
        let same : told (Some f) (Some r) ≡ o = cc in
        let s = file_spells a f is in
        let t = rank_spells b r js in
        subst (Tells (a ∷ b ∷ [])) same (record { is = ap (λ (x : ℕ). x ∷ b ∷ []) (sym s.1) ∙ ap (λ (x : ℕ). (97 + f) ∷ x ∷ []) (sym t.1); file = s.0; rank = t.0 })
    go (Some f) None is js h = absurd cc
    go None r is js h = absurd cc
