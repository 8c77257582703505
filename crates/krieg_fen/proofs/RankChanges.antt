-- The ranks of a board from those of another one: which are alike, and what is known of the texts while they are renewed.
use Rattle.std.proofs.Common.{◌≡◌, ℕ, zero, suc, ◌+◌, ◌*◌, ◌/◌, ◌^◌, ◌<◌, ◌≤◌, Bool, true, false, ◌&&◌, ◌||◌, cond, ◌⊎◌, inl, inr, List, [], ◌∷◌, length, get_or, set, map, Option, Some, None, refl, sym, subst, ap, ◌∙◌, arith, bit_and, bit_or}
use Rattle.std.specs.Int.RustNames.{bit_xor}
use Rattle.std.proofs.Math.Bool.{and-true}
use Rattle.std.proofs.lemmas.Bool.{cases_lt}
use Rattle.std.proofs.lemmas.List.{ext_get_or, get_or-set_same, get_or-set_other, length-set}
use Rattle.std.proofs.lemmas.Nat.Bits.{bit_at_ones}
use Rattle.krieg_fen.proofs.Common.{Sets, Side, White, Black, Kind, Pawn, King, Man, Board, man_at, is_of, Show, is_kind, has, rank_text, rank_at, AreRanks}
use Rattle.krieg_board.specs.declared.men.Kind.TheVariants.{Knight, Bishop, Rook, Queen}
use Rattle.krieg_board.proofs.SetLemmas.{differ, has_and, has_or, has_xor, has_bit, has_zero}
use Rattle.krieg_fen.proofs.RankTexts.{rank_long, rank_man}
use Rattle.krieg_fen.proofs.RankWriting.{down}

-- what stands on a square, as the sets tell it
abbrev told : Bool → Bool → Bool → Bool → Bool → Bool → Bool → Option Man
told white black p n b r q = cond white (man White) (cond black (man Black) None)
  where
    man : Side → Option Man
    man side = Some (record { side = side; kind = cond p Pawn (cond n Knight (cond b Bishop (cond r Rook (cond q Queen King)))) })

told_again : (x : Option Man) → told (is_of White x) (is_of Black x) (is_kind Pawn x) (is_kind Knight x) (is_kind Bishop x) (is_kind Rook x) (is_kind Queen x) ≡ x
told_again None = refl
told_again (Some m) = by_man m.side m.kind
  where
    by_man : (side : Side) (kind : Kind) → let x : Option Man = Some (record { side = side; kind = kind }) in
        told (is_of White x) (is_of Black x) (is_kind Pawn x) (is_kind Knight x) (is_kind Bishop x) (is_kind Rook x) (is_kind Queen x) ≡ x
    by_man White Pawn = refl
    by_man White Knight = refl
    by_man White Bishop = refl
    by_man White Rook = refl
    by_man White Queen = refl
    by_man White King = refl
    by_man Black Pawn = refl
    by_man Black Knight = refl
    by_man Black Bishop = refl
    by_man Black Rook = refl
    by_man Black Queen = refl
    by_man Black King = refl

neither : (s t : Bool) → (s || t) ≡ false → (s ≡ false) × (t ≡ false)
neither false t e = (refl, e)
neither true t e = absurd cc

alike : (s t : Bool) → differ s t ≡ false → s ≡ t
alike true true e = refl
alike false t e = sym e
alike true false e = absurd cc

-- a square that no set tells apart
pub unchanged : (s t : Sets) (a b : Board) (k : ℕ) → Show s a → Show t b → k < 64 →
    has (bit_or (bit_or (bit_or (bit_or (bit_or (bit_or (bit_xor s.white t.white) (bit_xor s.black t.black)) (bit_xor s.pawns t.pawns)) (bit_xor s.knights t.knights)) (bit_xor s.bishops t.bishops)) (bit_xor s.rooks t.rooks)) (bit_xor s.queens t.queens)) k ≡ false →
    man_at a k ≡ man_at b k
unchanged s t a b k ha hb lt e =
    let all : ((((((differ (has s.white k) (has t.white k) || differ (has s.black k) (has t.black k)) || differ (has s.pawns k) (has t.pawns k)) || differ (has s.knights k) (has t.knights k))
    || differ (has s.bishops k) (has t.bishops k)) || differ (has s.rooks k) (has t.rooks k)) || differ (has s.queens k) (has t.queens k)) ≡ false = sym (simp (has_or, has_xor) refl) ∙ e in
    let q = neither _ _ all in
    let r = neither _ _ q.0 in
    let i = neither _ _ r.0 in
    let n = neither _ _ i.0 in
    let p = neither _ _ n.0 in
    let c = neither _ _ p.0 in
    sym (told_again (man_at a k))
    ∙ (λ j. told
    ((sym (ha.white k lt) ∙ alike _ _ c.0 ∙ hb.white k lt) j)
    ((sym (ha.black k lt) ∙ alike _ _ c.1 ∙ hb.black k lt) j)
    ((sym (ha.pawns k lt) ∙ alike _ _ p.1 ∙ hb.pawns k lt) j)
    ((sym (ha.knights k lt) ∙ alike _ _ n.1 ∙ hb.knights k lt) j)
    ((sym (ha.bishops k lt) ∙ alike _ _ i.1 ∙ hb.bishops k lt) j)
    ((sym (ha.rooks k lt) ∙ alike _ _ r.1 ∙ hb.rooks k lt) j)
    ((sym (ha.queens k lt) ∙ alike _ _ q.1 ∙ hb.queens k lt) j))
    ∙ told_again (man_at b k)

-- a rank without changed squares
same_rank : (a b : Board) (n r : ℕ) → length a ≡ 64 → length b ≡ 64 → r < 8 → ((k : ℕ) → k < 64 → has n k ≡ false → man_at a k ≡ man_at b k) → bit_and (n / 2 ^ (8 * r)) 255 ≡ 0 → rank_at a r ≡ rank_at b r
same_rank a b n r la lb low same none =
    ext_get_or None (rank_at a r) (rank_at b r) (rank_long r a (omega arith) ∙ sym (rank_long r b (omega arith)))
    (λ i lt. let h : i < 8 = omega (arith, lt, rank_long r a (omega arith)) in
    rank_man a r i h ∙ same (8 * r + i) (omega arith) (free i h) ∙ sym (rank_man b r i h))
  where
    free : (i : ℕ) → i < 8 → has n (8 * r + i) ≡ false
    free i h =
        sym (down n (8 * r) i) ∙ sym (and-true (has (n / 2 ^ (8 * r)) i)) ∙ ap (λ t. has (n / 2 ^ (8 * r)) i && t) (sym (has_bit 255 i (bit_at_ones 8 i h)))
        ∙ sym (has_and (n / 2 ^ (8 * r)) 255 i) ∙ ap (λ m. has m i) none ∙ has_zero i

-- the texts of the new board's ranks below a number, and of the old board's from there on
pub record Renewed (texts : List (List ℕ)) (old new : Board) (n : ℕ) : Type 0 where
  pub size : length texts ≡ 8
  pub done : (k : ℕ) → k < n → get_or texts k [] ≡ rank_text (rank_at new k)
  pub left : (k : ℕ) → n ≤ k → k < 8 → get_or texts k [] ≡ rank_text (rank_at old k)

pub spelled : (texts : List (List ℕ)) (old new : Board) (n : ℕ) (text : List ℕ) → n < 8 → Renewed texts old new n → text ≡ rank_text (rank_at new n) → Renewed (set texts n text) old new (n + 1)
spelled texts old new n text lt all is = record {
  size = length-set texts n text ∙ all.size;
  done = λ k h. by_place k (cases_lt k n) h;
  left = λ k le h. get_or-set_other texts n k text [] (λ e. omega arith) ∙ all.left k (omega arith) h;
}
  where
    by_place : (k : ℕ) → (k < n) ⊎ (n ≤ k) → k < n + 1 → get_or (set texts n text) k [] ≡ rank_text (rank_at new k)
    by_place k (inl l) h = get_or-set_other texts n k text [] (λ e. omega arith) ∙ all.done k l
    by_place k (inr g) h =
        let e : n ≡ k = omega arith in
        subst (λ m. get_or (set texts n text) m [] ≡ rank_text (rank_at new m)) e (get_or-set_same texts n text [] (omega (arith, all.size)) ∙ is)

pub kept : (texts : List (List ℕ)) (old new : Board) (n changed : ℕ) → n < 8 → Renewed texts old new n → length old ≡ 64 → length new ≡ 64 →
    ((k : ℕ) → k < 64 → has changed k ≡ false → man_at old k ≡ man_at new k) → bit_and (changed / 2 ^ (8 * n)) 255 ≡ 0 → Renewed texts old new (n + 1)
kept texts old new n changed lt all lo ln same none = record {
  size = all.size;
  done = λ k h. by_place k (cases_lt k n) h;
  left = λ k le h. all.left k (omega arith) h;
}
  where
    by_place : (k : ℕ) → (k < n) ⊎ (n ≤ k) → k < n + 1 → get_or texts k [] ≡ rank_text (rank_at new k)
    by_place k (inl l) h = all.done k l
    by_place k (inr g) h =
        let e : n ≡ k = omega arith in
        subst (λ m. get_or texts m [] ≡ rank_text (rank_at new m)) e (all.left n (omega arith) lt ∙ ap rank_text (same_rank old new changed n lo ln lt same none))

-- eight texts, from the lowest rank on
pub eight : (board : Board) → length board ≡ 64 → AreRanks (map (λ k. rank_text (rank_at board k)) (0 ∷ 1 ∷ 2 ∷ 3 ∷ 4 ∷ 5 ∷ 6 ∷ 7 ∷ [])) board
eight board long = record { size = long; each = by_rank }
  where
    by_rank : (k : ℕ) → k < 8 → get_or (map (λ k. rank_text (rank_at board k)) (0 ∷ 1 ∷ 2 ∷ 3 ∷ 4 ∷ 5 ∷ 6 ∷ 7 ∷ [])) k [] ≡ rank_text (rank_at board k)
    by_rank zero lt = refl
    by_rank (suc zero) lt = refl
    by_rank (suc (suc zero)) lt = refl
    by_rank (suc (suc (suc zero))) lt = refl
    by_rank (suc (suc (suc (suc zero)))) lt = refl
    by_rank (suc (suc (suc (suc (suc zero))))) lt = refl
    by_rank (suc (suc (suc (suc (suc (suc zero)))))) lt = refl
    by_rank (suc (suc (suc (suc (suc (suc (suc zero))))))) lt = refl
    by_rank (suc (suc (suc (suc (suc (suc (suc (suc k)))))))) lt = absurd (omega arith)
