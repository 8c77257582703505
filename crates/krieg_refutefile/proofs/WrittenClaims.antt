-- The lines of claims, one claim after another, and that their words can be told.
use Rattle.std.proofs.Common.{◌≡◌, ℕ, ◌+◌, List, [], ◌∷◌, ◌++◌, map, length, Result, Ok, Err, codes, refl, sym, ap, ◌∙◌}
use Rattle.std.specs.List.{All, flat_map}
use Rattle.std.proofs.lemmas.List.{length-map}
use Rattle.std.proofs.lemmas.List.Elements.{All-nil, All-cons, All-weaker}
use Rattle.krieg_refutefile.proofs.Common.{Pos, Side, Pieces, Written, HasLines, PutsLines, alone, put_lines, position_line, Dialect, Claim, IsTold, AreTold, numbered, claim_lines, head_lines, refutation_text, claim_state_of, state_from, IsToldReason, AreToldClaims}
use Rattle.krieg_text.proofs.Writings.{lines_then}
use Rattle.krieg_refutefile.proofs.WrittenLines.{lines_are}

pub flat_of_map : {A B C : Type 0} (g : A → B) (f : B → List C) (xs : List A) → flat_map f (map g xs) ≡ flat_map (λ x. f (g x)) xs
flat_of_map g f [] = refl
flat_of_map g f (x ∷ xs) = ap (λ (t : List _). f (g x) ++ t) (flat_of_map g f xs)

-- the words of claims that can be written can be told
pub are_told : (d : Dialect) (own : ℕ) (cs : List Claim) → AreToldClaims d own (map claim_state_of cs) → All (λ c. AreTold d (claim_state_of c)) cs
are_told d own [] told = All-nil (λ c. AreTold d (claim_state_of c))
are_told d own (c ∷ cs) told =
    All-cons (λ c. AreTold d (claim_state_of c)) c cs (All-weaker (IsToldReason d own) (IsTold d) (λ r t. t.told) c.reasons.items told.0.reasons) (are_told d (own + 1) cs told.1)

-- the parts of a refutation, one after another, are its lines
pub all_lines : (d : Dialect) (who : Side) (n k m : ℕ) (L : List Pos) (cs : List Claim) (o a b c e f : List ℕ) → k ≡ length L → m ≡ length cs → o ≡ [] → a ≡ put_lines o (head_lines d who n k) → b ≡ put_lines a (map position_line L)
    → c ≡ put_lines b (numbered (codes "claims ") m ∷ []) → e ≡ put_lines c (flat_map (λ x. claim_lines d (claim_state_of x)) cs) → f ≡ put_lines e (alone (codes "end") ∷ []) → f ≡ refutation_text (state_from d who n L cs)
unfolding refutation_text
all_lines d who n k m L cs o a b c e f listed claimed none head list count claims end =
    let hs = head_lines d who n (length L) in
    let ps = map position_line L in
    let one = numbered (codes "claims ") (length cs) ∷ [] in
    let ks = flat_map (λ x. claim_lines d (claim_state_of x)) cs in
    let last = alone (codes "end") ∷ [] in
    let count' : one ≡ numbered (codes "claims ") (length (map claim_state_of cs)) ∷ [] = ap (λ (i : ℕ). numbered (codes "claims ") i ∷ []) (sym (length-map cs claim_state_of)) in
    let claims' : ks ≡ flat_map (claim_lines d) (map claim_state_of cs) = sym (flat_of_map claim_state_of (claim_lines d) cs) in
    let a' : a ≡ put_lines [] hs = head ∙ (λ i. put_lines (none i) (head_lines d who n (listed i))) in
    let c' : c ≡ put_lines b one = count ∙ ap (λ (i : ℕ). put_lines b (numbered (codes "claims ") i ∷ [])) claimed in
    end ∙ ap (λ (t : List ℕ). put_lines t last) (claims ∙ ap (λ (t : List ℕ). put_lines t ks) (c' ∙ ap (λ (t : List ℕ). put_lines t one) (list ∙ ap (λ (t : List ℕ). put_lines t ps) a')))
    ∙ sym (lines_then (put_lines (put_lines (put_lines [] hs) ps) one) ks last) ∙ sym (lines_then (put_lines (put_lines [] hs) ps) one (ks ++ last))
    ∙ sym (lines_then (put_lines [] hs) ps (one ++ (ks ++ last))) ∙ sym (lines_then [] hs (ps ++ (one ++ (ks ++ last))))
    ∙ (λ i. put_lines [] (hs ++ (ps ++ (count' i ++ (claims' i ++ last))))) ∙ ap (put_lines []) (sym (lines_are (state_from d who n L cs)))

-- a line, and those after it
pub one_then : {E : Type 0} (r : Result (Unit {0}) E) (old mid new : Written) (l : Pieces) (ls : List Pieces) → HasLines old mid (l ∷ []) → PutsLines r mid new ls → PutsLines r old new (l ∷ ls)
one_then (Ok u) old mid new l ls a b = (b.0 ∙ a.0, b.1 ∙ ap (λ (t : List ℕ). put_lines t ls) a.1)
one_then (Err e) old mid new l ls a b = (b.0 ∙ a.0, tt)
