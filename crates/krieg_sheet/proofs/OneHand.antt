-- All positions that are consistent with a sheet have one hand of its side.
use Rattle.std.proofs.Common.{◌≡◌, ℕ, zero, suc, ◌+◌, ◌<◌, true, false, List, [], ◌∷◌, length, None, refl, sym, subst, ◌∙◌, arith}
use Rattle.std.specs.Prelude.{slice_index_or}
use Rattle.std.specs.List.{Contains}
use Rattle.std.proofs.lemmas.List.Elements.{All-contains}
use Rattle.krieg_sheet.proofs.Common.{other, is_same_side, Pos, same_hand, IsValid, Side, White, Black, Move, after, Dialect, Line, Opens, Illegal, Done, Heard, Early, Over, SheetState, other_hand, list_fault, IsConsistent, IsSheet}
use Rattle.krieg_board.proofs.MenLemmas.{same_side_eq}
use Rattle.krieg_moves.proofs.Hands.{Alike, same_hand_alike, alike_same_hand, alike_same, alike_back, alike_through, alike_own}
use Rattle.krieg_moves.proofs.KeepsValid.{valid_after}
use Rattle.krieg_words.proofs.HandsKept.{alike_heard}
use Rattle.krieg_sheet.specs.Games.{Gives}
use Rattle.krieg_sheet.proofs.ListedPositions.{listable, next_hand}

-- each of the positions has the hand of the first one
each_alike : (who : Side) (first : Pos) (n : ℕ) (ps : List Pos) → other_hand who first n ps ≡ None → (k : ℕ) (d : Pos) → k < length ps → Alike who first (slice_index_or ps k d)
each_alike who first n [] h k d l = absurd (omega arith)
each_alike who first n (p ∷ ps) h zero d l = same_hand_alike who first p (next_hand who first n p ps h).0
each_alike who first n (p ∷ ps) h (suc k) d l = each_alike who first (n + 1) ps (next_hand who first n p ps h).1 k d (omega arith)

-- listed positions have one hand
listed_alike : (who : Side) (list : List Pos) → list_fault who list ≡ None → (p q : Pos) → Contains list p → Contains list q → Alike who p q
listed_alike who [] h p q a b = absurd cc
listed_alike who (first ∷ ps) h p q a b =
    alike_through who p first q (alike_back who first p (from_first p a.0 a.1 a.2)) (from_first q b.0 b.1 b.2)
  where
    from_first : (x : Pos) (k : ℕ) → k < length (first ∷ ps) → slice_index_or (first ∷ ps) k x ≡ x → Alike who first x
    from_first x zero l e = subst (Alike who first) e (alike_same who first)
    from_first x (suc k) l e = subst (Alike who first) e (each_alike who first 1 ps (listable who first ps h).same k x (omega arith))

not_mine : (side who : Side) → is_same_side side who ≡ false → side ≡ other who
not_mine White White h = absurd cc
not_mine White Black h = refl
not_mine Black White h = refl
not_mine Black Black h = absurd cc

-- hidden games that give a player the same entries keep the positions alike for him
gives_alike : (d : Dialect) (ls : List Line) (who : Side) (p p' : Pos) (rs rs' : List Move) (q q' : Pos) → Alike who p p' → IsValid p → IsValid p' →
    Gives d p ls who rs q → Gives d p' ls who rs' q' → Alike who q q'
gives_alike d [] who p p' rs rs' q q' e v v' g g' = subst (λ (x : Pos). Alike who x q') (sym g.1) (subst (Alike who p) (sym g'.1) e)
gives_alike d (Illegal m ∷ ls) who p p' rs rs' q q' e v v' g g' = gives_alike d ls who p p' rs rs' q q' e v v' g.3 g'.3
gives_alike d (Done m w ∷ ls) who p p' rs rs' q q' e v v' g g' =
    gives_alike d ls who (after p m) (after p' m) rs rs' q q'
    (alike_own who p p' m e v v' (same_side_eq p.side who g.0) g.1 g'.1)
    (valid_after p m v g.1) (valid_after p' m v' g'.1) g.3 g'.3
gives_alike d (Early m ∷ ls) who p p' rs rs' q q' e v v' g g' = gives_alike d ls who p p' rs rs' q q' e v v' g.2 g'.2
gives_alike d (Over m ∷ ls) who p p' rs rs' q q' e v v' g g' = gives_alike d ls who p p' rs rs' q q' e v v' g.1 g'.1
gives_alike d (Heard w ∷ ls) who p p' [] rs' q q' e v v' g g' = absurd g
gives_alike d (Heard w ∷ ls) who p p' (r ∷ rs) [] q q' e v v' g g' = absurd g'
gives_alike d (Heard w ∷ ls) who p p' (r ∷ rs) (r' ∷ rs') q q' e v v' g g' =
    gives_alike d ls who (after p r) (after p' r') rs rs' q q'
    (alike_heard d who p p' r r' e v v' (not_mine p.side who g.0) g.1 g'.1 (sym g.2 ∙ g'.2))
    (valid_after p r v g.1) (valid_after p' r' v' g'.1) g.3 g'.3
gives_alike d (Opens w ∷ ls) who p p' rs rs' q q' e v v' g g' = absurd g

pub one_hand : (s : SheetState) → IsSheet s → (p q : Pos) → IsConsistent s p → IsConsistent s q → same_hand p q s.side ≡ true
one_hand s sheet p q c c' =
    alike_same_hand s.side p q
    (gives_alike s.dialect s.entries s.side c.start c'.start c.replies c'.replies p q
    (listed_alike s.side s.list sheet.listed c.start c'.start c.is_listed c'.is_listed)
    (All-contains IsValid s.list c.start sheet.valid c.is_listed) (All-contains IsValid s.list c'.start sheet.valid c'.is_listed) c.gives c'.gives)
