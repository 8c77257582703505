-- The tables of the small game are sound, one result after another.
use Rattle.std.proofs.Common.{◌≡◌, ℕ, zero, suc, ◌+◌, ◌<◌, ◌≤◌, true, false, not, inl, inr, List, [], ◌∷◌, ◌++◌, Option, Some, None, refl, sym, ap, subst, arith}
use Rattle.std.specs.Prelude.{◌==◌, IfSome, ⊤}
use Rattle.std.specs.List.{list_all}
use Rattle.std.proofs.lemmas.Bool.{both_ways, and_parts, eq-eqb, not_from_true}
use Rattle.krieg_accounts.proofs.Common.{In, is_nil, refused, tries, keys, class, first_try, toy, lawful, nat_order, Pair, made, block_pair, floor_price, pairs, Table, known, StoredLost, StoredWon, IsEarlier, IsBacked, IsSound, IsStretch, CoversPair, CoversTries, LostBelow, lost_within, won_within, of_two, of_nought_and_five}
use Rattle.std.specs.Prelude.{nat_lt}
use Rattle.krieg_costs.proofs.Costs.{legal_try}
use Rattle.krieg_accounts.proofs.Tables.{known_in}
use Rattle.krieg_accounts.proofs.Appended.{appended}
use Rattle.krieg_accounts.proofs.Stretches.{stretch_of_split, stretch_noted, noted_sound}
use Rattle.krieg_accounts.proofs.Searches.{empty_sound}

-- each member has the property, one by one
abbrev pub AllOf : (ℕ → Type 0) → List ℕ → Type 0
AllOf P [] = ⊤
AllOf P (x ∷ xs) = P x × AllOf P xs

pub all_of : (P : ℕ → Type 0) (xs : List ℕ) → AllOf P xs → (x : ℕ) → In x xs → P x
all_of P [] a x i = absurd i
all_of P (y ∷ ys) a x (inl e) = subst P e a.0
all_of P (y ∷ ys) a x (inr i) = all_of P ys a.1 x i

-- a pair that differs in some number from each of a list is none of them
pub apart : (f : Pair toy → ℕ) (ps : List (Pair toy)) (q : Pair toy) → list_all (λ p. not (f p == f q)) ps ≡ true → In q ps → ⊥
apart f [] q a i = i
apart f (p ∷ ps) q a (inl e) = both_ways (not (f p == f q)) (not_from_true _ (eq-eqb (f p) (f q) (ap f e))) (and_parts _ _ a).0
apart f (p ∷ ps) q a (inr i) = apart f ps q (and_parts _ _ a).1 i

-- and so is a set that is stored as won
pub not_won : (f : List ℕ → ℕ) (T : Table toy) (X : List ℕ) → list_all (λ p. not (f p.0 == f X)) (pairs T) ≡ true → StoredWon toy T X → ⊥
not_won f T X a w = apart (λ p. f p.0) (pairs T) (X, w.0) a (known_in toy lawful T (X, w.0) (Some w.1) w.2)

-- a result is backed where each try before it and each part of its own is
abbrev pub AreBlocked : Table toy → List ℕ → ℕ → Option ℕ → Type 0
AreBlocked T B j o = AllOf (λ t. IsEarlier toy o t → IfSome (block_pair toy j B t) (λ q. StoredLost toy T q)) (tries toy B)

pub lost_backed : (T : Table toy) (B : List ℕ) (j : ℕ) → 0 < j → LostBelow toy T B j → AreBlocked T B j None → IsBacked toy false T B j None
lost_backed T B j some below blocked = record {
  some = some;
  below = below;
  earlier = λ c t l e. all_of (λ t. IsEarlier toy None t → IfSome (block_pair toy j B t) (λ q. StoredLost toy T q)) (tries toy B) blocked t (legal_try toy lawful B t l) e;
  classes = λ m e. absurd (let q : ◌≡◌ {A = Option ℕ} None (Some m) = e in cc);
  refused_part = λ m e. absurd (let q : ◌≡◌ {A = Option ℕ} None (Some m) = e in cc);
}

pub won_backed : (T : Table toy) (B : List ℕ) (j t : ℕ) → 0 < j → LostBelow toy T B j → AreBlocked T B j (Some t) → AllOf (λ key. StoredWon toy T (class toy B t key)) (keys toy B t) → is_nil (refused toy B t) ≡ true → IsBacked toy false T B j (Some t)
won_backed T B j t some below blocked classes none = record {
  some = some;
  below = below;
  earlier = λ c u l e. all_of (λ u. IsEarlier toy (Some t) u → IfSome (block_pair toy j B u) (λ q. StoredLost toy T q)) (tries toy B) blocked u (legal_try toy lawful B u l) e;
  classes = λ m e. subst (λ (m : ℕ). (key : ℕ) → In key (keys toy B m) → StoredWon toy T (class toy B m key)) (same m e) (all_of (λ key. StoredWon toy T (class toy B t key)) (keys toy B t) classes);
  refused_part = λ m e n. absurd (both_ways (is_nil (refused toy B t)) (subst (λ (m : ℕ). is_nil (refused toy B m) ≡ false) (sym (same m e)) n) none);
}
  where
    same : (m : ℕ) → ◌≡◌ {A = Option ℕ} (Some t) (Some m) → t ≡ m
    same m e = cc

-- below the numbers 1 and 2
pub below_one : (T : Table toy) (B : List ℕ) → LostBelow toy T B 1
below_one T B zero a b = absurd (omega arith)
below_one T B (suc i) a b = absurd (omega arith)

pub below_two : (T : Table toy) (B : List ℕ) → StoredLost toy T (B, 1) → LostBelow toy T B 2
below_two T B h zero a b = absurd (omega arith)
below_two T B h (suc zero) a b = h
below_two T B h (suc (suc i)) a b = absurd (omega arith)

-- a pair is expanded and its result is noted
pub noted : (T0 T1 : Table toy) (B : List ℕ) (j : ℕ) (o : Option ℕ) (u0 u1 : ℕ) → IsStretch toy false (CoversTries toy B j) (floor_price toy (B, j)) T0 T1 u0 u1 → IfSome o (λ m. u1 + made toy B m ≤ u0) → o ≡ first_try toy j B → IsBacked toy false T1 B j o → known toy T0 (B, j) ≡ None → known toy T1 (B, j) ≡ None → IsStretch toy false (CoversPair toy B j) 0 T0 (T1 ++ ((B, j), o) ∷ []) u0 u1
noted T0 T1 B j o u0 u1 w p f b n m = stretch_noted toy lawful false T0 T1 (T1 ++ ((B, j), o) ∷ []) B j o u0 u1 w p f b n (appended nat_lt nat_order T1 (B, j) o m)

-- of a pair that needs nothing new
pub alone : (T : Table toy) (B : List ℕ) (j : ℕ) (o : Option ℕ) (u0 u1 : ℕ) → IsSound toy false T → u1 + floor_price toy (B, j) ≡ u0 → IfSome o (λ m. u1 + made toy B m ≤ u0) → o ≡ first_try toy j B → IsBacked toy false T B j o → known toy T (B, j) ≡ None → IsStretch toy false (CoversPair toy B j) 0 T (T ++ ((B, j), o) ∷ []) u0 u1
alone T B j o u0 u1 s e p f b n = noted T T B j o u0 u1 (stretch_of_split toy false (CoversTries toy B j) T (floor_price toy (B, j)) u0 u1 s e) p f b n n

-- the set of 2: it is lost with one move, both classes of the try 0 are won with one, and so it is won with two
abbrev pub two_1 : Table toy
two_1 = lost_within (2 ∷ []) 1 ∷ []

abbrev pub two_2 : Table toy
two_2 = lost_within (2 ∷ []) 1 ∷ won_within (0 ∷ []) 1 0 ∷ []

abbrev pub two_3 : Table toy
two_3 = lost_within (2 ∷ []) 1 ∷ won_within (0 ∷ []) 1 0 ∷ won_within (1 ∷ []) 1 1 ∷ []

pub two_first : IsStretch toy false (CoversPair toy (2 ∷ []) 1) 0 [] two_1 20 16
two_first = alone [] (2 ∷ []) 1 None 20 16 (empty_sound toy false) refl tt refl (lost_backed [] (2 ∷ []) 1 (omega arith) (below_one [] (2 ∷ [])) (λ e. tt, (λ e. tt, tt))) refl

pub two_second : IsStretch toy false (CoversPair toy (0 ∷ []) 1) 0 two_1 two_2 13 12
two_second = alone two_1 (0 ∷ []) 1 (Some 0) 13 12 two_first.sound refl (omega arith) refl (won_backed two_1 (0 ∷ []) 1 0 (omega arith) (below_one two_1 (0 ∷ [])) (λ e. tt, (λ e. tt, (λ e. tt, tt))) tt refl) refl

pub two_third : IsStretch toy false (CoversPair toy (1 ∷ []) 1) 0 two_2 two_3 12 11
two_third = alone two_2 (1 ∷ []) 1 (Some 1) 12 11 two_second.sound refl (omega arith) refl (won_backed two_2 (1 ∷ []) 1 1 (omega arith) (below_one two_2 (1 ∷ [])) (λ e. tt, (λ e. tt, tt)) tt refl) refl

-- the result of 2 with two moves, once both classes are stored
pub two_backed : IsBacked toy false two_3 (2 ∷ []) 2 (Some 0)
two_backed = won_backed two_3 (2 ∷ []) 2 0 (omega arith) (below_two two_3 (2 ∷ []) refl) (λ e. tt, (λ e. tt, tt)) ((1, 0, refl), ((1, 1, refl), tt)) refl

pub two_sound : IsSound toy false of_two
two_sound = (alone two_3 (2 ∷ []) 2 (Some 0) 3 0 two_third.sound refl (omega arith) refl two_backed refl).sound

-- the set of 0 and 5
abbrev five_1 : Table toy
five_1 = lost_within (5 ∷ []) 1 ∷ []

abbrev five_2 : Table toy
five_2 = lost_within (5 ∷ []) 1 ∷ lost_within (0 ∷ 5 ∷ []) 1 ∷ []

abbrev five_3 : Table toy
five_3 = lost_within (5 ∷ []) 1 ∷ lost_within (0 ∷ 5 ∷ []) 1 ∷ lost_within (5 ∷ []) 2 ∷ []

five_first : IsSound toy false five_1
five_first = (alone [] (5 ∷ []) 1 None 0 0 (empty_sound toy false) refl tt refl (lost_backed [] (5 ∷ []) 1 (omega arith) (below_one [] (5 ∷ [])) tt) refl).sound

five_second : IsSound toy false five_2
five_second = (alone five_1 (0 ∷ 5 ∷ []) 1 None 7 0 five_first refl tt refl (lost_backed five_1 (0 ∷ 5 ∷ []) 1 (omega arith) (below_one five_1 (0 ∷ 5 ∷ [])) (λ e. refl, (λ e. tt, (λ e. tt, tt)))) refl).sound

five_third : IsSound toy false five_3
five_third = (alone five_2 (5 ∷ []) 2 None 0 0 five_second refl tt refl (lost_backed five_2 (5 ∷ []) 2 (omega arith) (below_two five_2 (5 ∷ []) refl) tt) refl).sound

pub five_sound : IsSound toy false of_nought_and_five
five_sound = (alone five_3 (0 ∷ 5 ∷ []) 2 None 7 0 five_third refl tt refl (lost_backed five_3 (0 ∷ 5 ∷ []) 2 (omega arith) (below_two five_3 (0 ∷ 5 ∷ []) refl) (λ e. refl, (λ e. tt, (λ e. refl, tt)))) refl).sound

-- the same set where tries may be cut: nothing is stored of its blocks
cut_backed : (T : Table toy) (j : ℕ) → 0 < j → LostBelow toy T (0 ∷ 5 ∷ []) j → IsBacked toy true T (0 ∷ 5 ∷ []) j None
cut_backed T j some below = record {
  some = some;
  below = below;
  earlier = λ c. absurd (both_ways true c refl);
  classes = λ m e. absurd (let q : ◌≡◌ {A = Option ℕ} None (Some m) = e in cc);
  refused_part = λ m e. absurd (let q : ◌≡◌ {A = Option ℕ} None (Some m) = e in cc);
}

abbrev cut_1 : Table toy
cut_1 = lost_within (0 ∷ 5 ∷ []) 1 ∷ []

cut_first : IsSound toy true cut_1
cut_first = noted_sound toy lawful true [] cut_1 (0 ∷ 5 ∷ []) 1 None (empty_sound toy true) (appended nat_lt nat_order [] (0 ∷ 5 ∷ [], 1) None refl) refl (cut_backed [] 1 (omega arith) (below_one [] (0 ∷ 5 ∷ [])))

pub cut_sound : IsSound toy true (lost_within (0 ∷ 5 ∷ []) 1 ∷ lost_within (0 ∷ 5 ∷ []) 2 ∷ [])
cut_sound = noted_sound toy lawful true cut_1 (cut_1 ++ lost_within (0 ∷ 5 ∷ []) 2 ∷ []) (0 ∷ 5 ∷ []) 2 None cut_first (appended nat_lt nat_order cut_1 (0 ∷ 5 ∷ [], 2) None refl) refl (cut_backed cut_1 2 (omega arith) (below_two cut_1 (0 ∷ 5 ∷ []) refl))
