-- The bytes of a packed position, two codes at a time, and their order.
use Rattle.std.proofs.Common.{◌≡◌, ℕ, zero, suc, ◌+◌, ◌*◌, ◌<◌, List, [], ◌∷◌, ◌++◌, length, refl, sym, ap, ◌∙◌, arith, map, take, drop, get_or, append_assoc}
use Rattle.std.specs.Prelude.{⊤, Option, None, slice_set}
use Rattle.std.specs.Cmp.Lexicographic.{slice_cmp}
use Rattle.std.specs.Ordering.{nat_cmp, ordering_then}
use Rattle.std.specs.declared.cmp.Ordering.{Ordering}
use Rattle.std.proofs.lemmas.Cmp.{ranked, by_ranked}
use Rattle.std.proofs.lemmas.List.{take_more_set, drop_more, get_or-map, length-map, take-append-drop, append-nil, drop_all}
use Rattle.krieg_pack.proofs.Common.{bits_of, Pos, Man, man_code, mark_code, side_code, numbers, paired, bytes_of, position_cmp}
use Rattle.krieg_pack.proofs.CodeBits.{code_below}
use Rattle.krieg_pack.proofs.PackedOrder.{cmp_less, cmp_greater, cmp_same}

-- one byte more is written, and two codes fewer are left
pub pair_step : (bytes : List ℕ) (men : List (Option Man)) (i : ℕ) → i < length bytes → 2 * i + 1 < length men →
    take (i + 1) (slice_set bytes i (16 * man_code (get_or men (2 * i) None) + man_code (get_or men (2 * i + 1) None))) ++ paired (drop (2 * (i + 1)) (map man_code men))
    ≡ take i bytes ++ paired (drop (2 * i) (map man_code men))
pair_step bytes men i i_in two_in =
    let codes = map man_code men in
    let size : length codes ≡ length men = length-map men man_code in
    let a : get_or codes (2 * i) 0 ≡ man_code (get_or men (2 * i) None) = get_or-map man_code men (2 * i) None 0 (omega arith) in
    let b : get_or codes (2 * i + 1) 0 ≡ man_code (get_or men (2 * i + 1) None) = get_or-map man_code men (2 * i + 1) None 0 (omega arith) in
    let next : 2 * i + 1 + 1 ≡ 2 * (i + 1) = omega arith in
    let rest = drop_more codes (2 * i + 1) 0 (omega arith) ∙ (λ k. b k ∷ drop (next k) codes) in
    let two = drop_more codes (2 * i) 0 (omega arith) ∙ (λ k. a k ∷ rest k) in
    ap (λ r. r ++ paired (drop (2 * (i + 1)) codes)) (take_more_set bytes i _ i_in)
    ∙ append_assoc (take i bytes) _ (paired (drop (2 * (i + 1)) codes))
    ∙ ap (λ r. take i bytes ++ paired r) (sym two)

-- all bytes are written
pub bytes_end : (bytes : List ℕ) (p : Pos) (i rights mark side : ℕ) → i ≡ 32 → length p.board ≡ 64 → drop 32 bytes ≡ rights ∷ mark ∷ side ∷ [] →
    take i bytes ++ paired (drop (2 * i) (map man_code p.board)) ≡ paired (map man_code p.board) →
    rights ≡ bits_of p.rights → mark ≡ mark_code p.mark → side ≡ side_code p.side → bytes ≡ bytes_of p
unfolding bytes_of
bytes_end bytes p i rights mark side last l state done er em es =
    let codes = map man_code p.board in
    let none : drop (2 * i) codes ≡ [] = drop_all (2 * i) codes (omega (arith, length-map p.board man_code)) in
    let first : take 32 bytes ≡ paired codes = (λ k. take (sym last k) bytes) ∙ sym (append-nil (take i bytes)) ∙ ap (λ r. take i bytes ++ paired r) (sym none) ∙ done in
    sym (take-append-drop 32 bytes) ∙ (λ k. first k ++ state k) ∙ (λ k. paired codes ++ (er k ∷ em k ∷ es k ∷ []))

-- each number is the code of a man, or of an empty square
abbrev AreCodes : List ℕ → Type 0
AreCodes [] = ⊤
AreCodes (x ∷ xs) = (x < 16) × AreCodes xs

codes_below : (ms : List (Option Man)) → AreCodes (map man_code ms)
codes_below [] = tt
codes_below (m ∷ ms) = (code_below m, codes_below ms)

-- two codes in one byte compare as they do one after another
pair_cmp : (a b c d : ℕ) (o : Ordering) → b < 16 → d < 16 → ordering_then (nat_cmp (16 * a + b) (16 * c + d)) o ≡ ordering_then (nat_cmp a c) (ordering_then (nat_cmp b d) o)
pair_cmp a b c d o b_in d_in =
    let bytes = λ (r : Ordering). ordering_then r o in
    let first = λ (r : Ordering). ordering_then r (ordering_then (nat_cmp b d) o) in
    by_ranked (a < c) (a ≡ c) (c < a) (nat_cmp a c) (ranked a c (nat_cmp a c) refl)
    (λ is h. ap bytes (cmp_less (16 * a + b) (16 * c + d) (omega arith)) ∙ sym (ap first is))
    (λ is h. ap bytes (level h) ∙ sym (ap first is))
    (λ is h. ap bytes (cmp_greater (16 * a + b) (16 * c + d) (omega arith)) ∙ sym (ap first is))
  where
    level : a ≡ c → nat_cmp (16 * a + b) (16 * c + d) ≡ nat_cmp b d
    level h =
        by_ranked (b < d) (b ≡ d) (d < b) (nat_cmp b d) (ranked b d (nat_cmp b d) refl)
        (λ is l. cmp_less (16 * a + b) (16 * c + d) (omega arith) ∙ sym is)
        (λ is l. cmp_same (16 * a + b) (16 * c + d) (omega arith) ∙ sym is)
        (λ is l. cmp_greater (16 * a + b) (16 * c + d) (omega arith) ∙ sym is)

-- codes compare two by two as they do one by one
paired_cmp : (n : ℕ) (xs ys us vs : List ℕ) → length xs ≡ 2 * n → length ys ≡ 2 * n → AreCodes xs → AreCodes ys →
    slice_cmp nat_cmp (paired xs ++ us) (paired ys ++ vs) ≡ slice_cmp nat_cmp (xs ++ us) (ys ++ vs)
paired_cmp zero [] [] us vs l m d e = refl
paired_cmp zero [] (y ∷ ys) us vs l m d e = absurd (omega arith)
paired_cmp zero (x ∷ xs) ys us vs l m d e = absurd (omega arith)
paired_cmp (suc n) [] ys us vs l m d e = absurd (omega arith)
paired_cmp (suc n) (a ∷ []) ys us vs l m d e = absurd (omega arith)
paired_cmp (suc n) (a ∷ b ∷ xs) [] us vs l m d e = absurd (omega arith)
paired_cmp (suc n) (a ∷ b ∷ xs) (c ∷ []) us vs l m d e = absurd (omega arith)
paired_cmp (suc n) (a ∷ b ∷ xs) (c ∷ f ∷ ys) us vs l m d e =
    ap (λ r. ordering_then (nat_cmp (16 * a + b) (16 * c + f)) r) (paired_cmp n xs ys us vs (omega arith) (omega arith) d.1.1 e.1.1)
    ∙ pair_cmp a b c f (slice_cmp nat_cmp (xs ++ us) (ys ++ vs)) d.1.0 e.1.0

-- the order of positions is the order of their bytes
pub bytes_cmp : (p q : Pos) → length p.board ≡ 64 → length q.board ≡ 64 → slice_cmp nat_cmp (bytes_of p) (bytes_of q) ≡ position_cmp p q
unfolding bytes_of numbers
bytes_cmp p q l m =
    paired_cmp 32 (map man_code p.board) (map man_code q.board) _ _ (length-map p.board man_code ∙ l) (length-map q.board man_code ∙ m) (codes_below p.board) (codes_below q.board)
