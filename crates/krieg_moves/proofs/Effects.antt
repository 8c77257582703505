-- What a move does to the board, in one form for plain moves, captures in passing and castling.
use Rattle.std.proofs.Common.{◌≡◌, ℕ, Bool, true, false, ◌&&◌, refl, ◌+◌, ◌<◌, length, arith, sym, set, ◌≢◌, ◌∙◌, ap, inl, inr}
use Rattle.std.proofs.lemmas.Bool.{and_from}
use Rattle.std.specs.Prelude.{Option, Some, None, count_by, ◌⊎◌}
use Rattle.std.proofs.Math.ListN.{length-set}
use Rattle.krieg_moves.proofs.Common.{Side, Kind, Pawn, King, Man, Move, is_same_side, is_same_kind, Board, man_at, is_man, is_pawn, moved, placed}
use Rattle.krieg_board.specs.declared.men.Kind.TheVariants.{Rook}
use Rattle.krieg_board.proofs.MenLemmas.{is_man_tells, is_man_other_kind, is_pawn_not, same_side_self}
use Rattle.krieg_board.proofs.Counting.{one, count_set}
use Rattle.krieg_moves.proofs.Boards.{Departs, count_moved, man_at_set_same, man_at_set_other, man_at_moved_to, man_at_moved_from, man_at_moved_other, length_moved}

-- next is the board with the man moved, and perhaps a man taken
pub record Effect (b : Board) (man : Man) (m : Move) (next : Board) : Type 0 where
  pub size : length next ≡ length b
  pub no_king_there : (side : Side) → is_man side King (man_at b m.to) ≡ false
  pub taken : Option Man
  pub no_king_taken : (side : Side) → is_man side King taken ≡ false
  pub counts : (q : Option Man → Bool) → q None ≡ false →
      count_by q next + one (q (Some man)) + one (q taken) ≡ count_by q b + one (q (Some (placed man m)))
  pub each : (s : ℕ) → (man_at next s ≡ man_at b s) ⊎ ((is_pawn (man_at next s) ≡ false) ⊎ ((s ≡ m.to) × (man_at next s ≡ Some (placed man m))))
  -- a king or rook that is not on the two squares stays, unless its own king moves
  pub kept : (s : ℕ) (side : Side) (which : Kind) → is_man side which (man_at b s) ≡ true → is_same_kind which Pawn ≡ false →
      s ≢ m.from → s ≢ m.to → (is_same_kind man.kind King && is_same_side man.side side) ≡ false → man_at next s ≡ man_at b s

same_or_other : (s t : ℕ) → (s ≡ t) ⊎ (s ≢ t)
same_or_other s t = grind arith

-- a square that a later write leaves is as it was after the man moved
each_after : (b : Board) (man : Man) (m : Move) (next : Board) (s : ℕ) → Departs b man m → man_at next s ≡ man_at (moved b man m) s →
    (man_at next s ≡ man_at b s) ⊎ ((is_pawn (man_at next s) ≡ false) ⊎ ((s ≡ m.to) × (man_at next s ≡ Some (placed man m))))
each_after b man m next s d e = elim (same_or_other s m.to) [
  | inl at ↦ inr (inr (at, e ∙ rw at (man_at_moved_to b man m d)))
  | inr t ↦ elim (same_or_other s m.from) [
    | inl at ↦ inr (inl (rw (e, at, man_at_moved_from b man m d)))
    | inr f ↦ inl (e ∙ man_at_moved_other b man m s f t)
  ]
]

pub Effect_moved : (b : Board) (man : Man) (m : Move) → Departs b man m →
    ((side : Side) → is_man side King (man_at b m.to) ≡ false) → Effect b man m (moved b man m)
Effect_moved b man m d no_king = record {
  size = length_moved b man m;
  no_king_there = no_king;
  taken = man_at b m.to;
  no_king_taken = no_king;
  counts = λ q none. count_moved q none b man m d;
  each = λ s. each_after b man m (moved b man m) s d refl;
  kept = λ s side which here officer f t still. man_at_moved_other b man m s f t;
}

-- the pawn behind the to-square is gone too
pub Effect_passing : (b : Board) (man : Man) (m : Move) (gone : ℕ) (pawn : Man) → Departs b man m →
    man_at b m.to ≡ None → gone < length b → gone ≢ m.from → gone ≢ m.to → man_at b gone ≡ Some pawn → pawn.kind ≡ Pawn →
    Effect b man m (set (moved b man m) gone None)
Effect_passing b man m gone pawn d empty gone_in not_from not_to there kind =
    let still = man_at_moved_other b man m gone not_from not_to in
    let gone_in' : gone < length (moved b man m) = rw length_moved gone_in in
    record {
      size = length-set (moved b man m) gone None ∙ length_moved b man m;
      no_king_there = λ side. ap (is_man side King) empty;
      taken = Some pawn;
      no_king_taken = λ side. is_man_other_kind side King pawn (ap (λ k. is_same_kind k King) kind);
      counts = λ q none.
          let e1 = count_moved q none b man m d in
          let e2 = count_set q (moved b man m) gone None gone_in' in
          let e3 : one (q (man_at (moved b man m) gone)) ≡ one (q (Some pawn)) = ap (λ x. one (q x)) (still ∙ there) in
          let e4 : one (q (man_at b m.to)) ≡ 0 = ap (λ x. one (q x)) empty ∙ ap one none in
          let e5 : one (q None) ≡ 0 = ap one none in
          omega (arith, e1, e2, e3, e4, e5);
      each = λ s. elim (same_or_other s gone) [
        | inl e ↦ inr (inl (rw (e, man_at_set_same (moved b man m) gone None gone_in')))
        | inr g ↦ after_other s (man_at_set_other (moved b man m) gone s None g)
      ];
      kept = λ s side which here officer f t still'.
          elim (same_or_other s gone) [ inl e ↦ absurd (not_here s side which e here officer) | inr g ↦ man_at_set_other (moved b man m) gone s None g ∙ man_at_moved_other b man m s f t ];
    }
  where
    after_other : (s : ℕ) → man_at (set (moved b man m) gone None) s ≡ man_at (moved b man m) s →
        (man_at (set (moved b man m) gone None) s ≡ man_at b s) ⊎ ((is_pawn (man_at (set (moved b man m) gone None) s) ≡ false)
        ⊎ ((s ≡ m.to) × (man_at (set (moved b man m) gone None) s ≡ Some (placed man m))))
    after_other s e = each_after b man m (set (moved b man m) gone None) s d e

    not_here : (s : ℕ) (side : Side) (which : Kind) → s ≡ gone → is_man side which (man_at b s) ≡ true → is_same_kind which Pawn ≡ false → ⊥
    not_here s side which e here officer =
        let found : is_man side which (Some pawn) ≡ true = ap (is_man side which) (sym there ∙ ap (man_at b) (sym e)) ∙ here in
        let same : Pawn ≡ which = sym kind ∙ (is_man_tells side which pawn found).1 in
        let no : is_same_kind Pawn Pawn ≡ false = ap (λ k. is_same_kind k Pawn) same ∙ officer in
        cc

-- the rook goes round its king
pub Effect_castle : (b : Board) (man : Man) (m : Move) (from to : ℕ) (rook : Man) → Departs b man m →
    man_at b m.to ≡ None → man.kind ≡ King → from < length b → to < length b → from ≢ m.from → from ≢ m.to → to ≢ m.from → to ≢ m.to → to ≢ from →
    man_at b from ≡ Some rook → man_at b to ≡ None → rook.kind ≡ Rook → rook.side ≡ man.side →
    Effect b man m (set (set (moved b man m) from None) to (Some rook))
Effect_castle b man m from to rook d empty king from_in to_in ff ft tf tt' apart there free kind own =
    let from_in' : from < length (moved b man m) = rw length_moved from_in in
    let to_in' : to < length (set (moved b man m) from None) = rw (length-set, length_moved) to_in in
    record {
      size = length-set (set (moved b man m) from None) to (Some rook) ∙ (length-set (moved b man m) from None ∙ length_moved b man m);
      no_king_there = λ side. ap (is_man side King) empty;
      taken = None;
      no_king_taken = λ side. refl;
      counts = λ q none.
          let e1 = count_moved q none b man m d in
          let e2 = count_set q (moved b man m) from None from_in' in
          let e3 = count_set q (set (moved b man m) from None) to (Some rook) to_in' in
          let e4 : one (q (man_at (moved b man m) from)) ≡ one (q (Some rook)) = ap (λ x. one (q x)) (man_at_moved_other b man m from ff ft ∙ there) in
          let e5 : one (q (man_at (set (moved b man m) from None) to)) ≡ 0 =
          ap (λ x. one (q x)) (man_at_set_other (moved b man m) from to None apart ∙ (man_at_moved_other b man m to tf tt' ∙ free)) ∙ ap one none in
          let e6 : one (q (man_at b m.to)) ≡ 0 = ap (λ x. one (q x)) empty ∙ ap one none in
          let e7 : one (q None) ≡ 0 = ap one none in
          omega (arith, e1, e2, e3, e4, e5, e6, e7);
      each = λ s. elim (same_or_other s to) [
        | inl e ↦ inr (inl (rw (e, man_at_set_same (set (moved b man m) from None) to (Some rook) to_in') (is_pawn_not rook (ap (λ k. is_same_kind k Pawn) kind))))
        | inr t ↦ elim (same_or_other s from) [
          | inl e ↦ inr (inl (rw (man_at_set_other (set (moved b man m) from None) to s (Some rook) t, e, man_at_set_same (moved b man m) from None from_in')))
          | inr f ↦ each_after b man m (set (set (moved b man m) from None) to (Some rook)) s d
              (man_at_set_other (set (moved b man m) from None) to s (Some rook) t ∙ man_at_set_other (moved b man m) from s None f)
        ]
      ];
      kept = λ s side which here officer f t still.
          elim (same_or_other s to) [
            | inl e ↦ absurd (let gone : is_man side which None ≡ true = ap (is_man side which) (sym free ∙ ap (man_at b) (sym e)) ∙ here in cc)
            | inr t' ↦ elim (same_or_other s from) [
              | inl e ↦ absurd (own_rook s side which e here still)
              | inr f' ↦ man_at_set_other (set (moved b man m) from None) to s (Some rook) t' ∙ (man_at_set_other (moved b man m) from s None f' ∙ man_at_moved_other b man m s f t)
            ]
          ];
    }
  where
    own_rook : (s : ℕ) (side : Side) (which : Kind) → s ≡ from → is_man side which (man_at b s) ≡ true →
        (is_same_kind man.kind King && is_same_side man.side side) ≡ false → ⊥
    own_rook s side which e here still =
        let found : is_man side which (Some rook) ≡ true = ap (is_man side which) (sym there ∙ ap (man_at b) (sym e)) ∙ here in
        let mine : man.side ≡ side = sym own ∙ (is_man_tells side which rook found).0 in
        let one' : is_same_kind man.kind King ≡ true = ap (λ k. is_same_kind k King) king in
        let two : is_same_side man.side side ≡ true = rw mine (same_side_self side) in
        let yes = and_from (is_same_kind man.kind King) (is_same_side man.side side) one' two in
        cc
