-- A man is put on an empty square: the set of his side and that of his kind have the square too.
use Rattle.std.proofs.Common.{◌≡◌, ℕ, ◌^◌, ◌<◌, Bool, true, false, ◌||◌, ◌==◌, ◌⊎◌, inl, inr, ◌≢◌, refl, sym, ◌∙◌, ap, subst, cond, length, set, bit_or}
use Rattle.std.specs.Prelude.{Option, Some, None}
use Rattle.std.proofs.lemmas.Bool.{eq-eqb, ne_eqb, cases_eq}
use Rattle.std.proofs.lemmas.Nat.{or_lt}
use Rattle.krieg_board.proofs.Common.{Side, White, Black, Kind, Pawn, King, Man, is_same_side, is_same_kind, Board, man_at, is_of, has, is_kind, sets_of, AreExact, Show, Sets}
use Rattle.krieg_board.specs.declared.men.Kind.TheVariants.{Knight, Bishop, Rook, Queen}
use Rattle.krieg_board.proofs.SetLemmas.{has_or}
use Rattle.krieg_board.proofs.BoardSets.{squares_where_small}
use Rattle.krieg_board.proofs.Writing.{Small, write_one}

-- the set with the place too, where that is asked for
abbrev more : ℕ → Bool → ℕ → ℕ
more place here n = cond here (bit_or n place) n

abbrev pub sided : ℕ → Side → Sets → Sets
sided place side z = record {
  white = more place (is_same_side side White) z.white;
  black = more place (is_same_side side Black) z.black;
  pawns = z.pawns;
  knights = z.knights;
  bishops = z.bishops;
  rooks = z.rooks;
  queens = z.queens;
  kings = z.kings;
}

abbrev pub kinded : ℕ → Kind → Sets → Sets
kinded place kind z = record {
  white = z.white;
  black = z.black;
  pawns = more place (is_same_kind kind Pawn) z.pawns;
  knights = more place (is_same_kind kind Knight) z.knights;
  bishops = more place (is_same_kind kind Bishop) z.bishops;
  rooks = more place (is_same_kind kind Rook) z.rooks;
  queens = more place (is_same_kind kind Queen) z.queens;
  kings = more place (is_same_kind kind King) z.kings;
}

abbrev pub joined : ℕ → Man → Sets → Sets
joined place m z = kinded place m.kind (sided place m.side z)

-- where a man is put, and the set of his square
pub record Puts (b : Board) (s place : ℕ) : Type 0 where
  pub size : length b ≡ 64
  pub below : s < 64
  pub free : man_at b s ≡ None
  pub there : (k : ℕ) → k < 64 → has place k ≡ (k == s)
  pub small : place < 2 ^ 64

join_one : (q : Option Man → Bool) (b : Board) (n s place : ℕ) (m : Man) → q None ≡ false → Puts b s place →
    ((k : ℕ) → k < 64 → has n k ≡ q (man_at b k)) → (k : ℕ) → k < 64 → has (more place (q (Some m)) n) k ≡ q (man_at (set b s (Some m)) k)
join_one q b n s place m none p was = write_one q b n (more place (q (Some m)) n) s (Some m) p.size p.below was (by_test (q (Some m)))
  where
    either : (x y : Bool) → (x || y) ≡ cond y true x
    either true true = refl
    either true false = refl
    either false true = refl
    either false false = refl

    by_place : (k : ℕ) → (k ≡ s) ⊎ (k ≢ s) → has n k ≡ cond (k == s) false (has n k)
    by_place k (inl e) = ap (has n) e ∙ was s p.below ∙ ap q p.free ∙ none ∙ sym (ap (λ x. cond x false (has n k)) (eq-eqb k s e))
    by_place k (inr o) = sym (ap (λ x. cond x false (has n k)) (ne_eqb k s o))

    by_test : (t : Bool) (k : ℕ) → k < 64 → has (more place t n) k ≡ cond (k == s) t (has n k)
    by_test true k h = has_or n place k ∙ ap (λ x. has n k || x) (p.there k h) ∙ either (has n k) (k == s)
    by_test false k h = by_place k (cases_eq k s)

pub joined_shown : (z : Sets) (b : Board) (s place : ℕ) (m : Man) → Puts b s place → Show z b → Show (joined place m z) (set b s (Some m))
joined_shown z b s place m p z_has = record {
  white = join_one (is_of White) b z.white s place m refl p z_has.white;
  black = join_one (is_of Black) b z.black s place m refl p z_has.black;
  pawns = join_one (is_kind Pawn) b z.pawns s place m refl p z_has.pawns;
  knights = join_one (is_kind Knight) b z.knights s place m refl p z_has.knights;
  bishops = join_one (is_kind Bishop) b z.bishops s place m refl p z_has.bishops;
  rooks = join_one (is_kind Rook) b z.rooks s place m refl p z_has.rooks;
  queens = join_one (is_kind Queen) b z.queens s place m refl p z_has.queens;
  kings = join_one (is_kind King) b z.kings s place m refl p z_has.kings;
}

more_small : (place n : ℕ) (t : Bool) → place < 2 ^ 64 → n < 2 ^ 64 → more place t n < 2 ^ 64
more_small place n true p h = or_lt 64 n place h p
more_small place n false p h = h

small_exact : (z : Sets) → AreExact z → Small z
unfolding sets_of
small_exact z v = subst Small v.exact (record {
  white = squares_where_small _;
  black = squares_where_small _;
  pawns = squares_where_small _;
  knights = squares_where_small _;
  bishops = squares_where_small _;
  rooks = squares_where_small _;
  queens = squares_where_small _;
  kings = squares_where_small _;
})

pub joined_small : (z : Sets) (place : ℕ) (m : Man) → place < 2 ^ 64 → AreExact z → Small (joined place m z)
joined_small z place m p v =
    let s = small_exact z v in
    record {
      white = more_small place z.white (is_same_side m.side White) p s.white;
      black = more_small place z.black (is_same_side m.side Black) p s.black;
      pawns = more_small place z.pawns (is_same_kind m.kind Pawn) p s.pawns;
      knights = more_small place z.knights (is_same_kind m.kind Knight) p s.knights;
      bishops = more_small place z.bishops (is_same_kind m.kind Bishop) p s.bishops;
      rooks = more_small place z.rooks (is_same_kind m.kind Rook) p s.rooks;
      queens = more_small place z.queens (is_same_kind m.kind Queen) p s.queens;
      kings = more_small place z.kings (is_same_kind m.kind King) p s.kings;
    }
