-- What comes of listed positions before the first own turn.
use Rattle.std.proofs.Common.{◌≡◌, ℕ, ◌+◌, ◌<◌, Bool, true, false, not, ◌&&◌, List, [], ◌∷◌, ◌++◌, ◌⊎◌, inl, inr, map, flat_map, take, get_or, length, refl, sym, ap, ◌∙◌, subst, arith, Option, Some, None}
use Rattle.std.specs.Prelude.{if◌then◌else◌}
use Rattle.std.specs.List.{list_all}
use Rattle.std.proofs.lemmas.Bool.{cond-true, cond-false, le-leb}
use Rattle.std.proofs.lemmas.Grind.{flat_map-append}
use Rattle.std.proofs.lemmas.List.{length-map, take_more}
use Rattle.std.proofs.lemmas.List.Folds.{list_all-append}
use Rattle.krieg_moves.specs.Moves.{is_nil as no_moves}
use Rattle.krieg_theory.specs.Sets.{is_nil}
use Rattle.krieg_judge.proofs.Common.{Pos, Move, Dialect, In, is_same_side, moves, opening, told, chess, outset, starts, waits, first_move, RootKey, root_lt, NodeTree, within, first_to, Adds, enough, held, waiting, first_at, first_pairs, pair_at, LinksAdd, link_held, Findings, Strategy, root_links, starts_held, start_cost, StartAdds, AreStarted}
use Rattle.krieg_judge.proofs.Adding.{adds_then, adds_same, adds_none, and_true}

-- no moves, by either word
pub ended_nil : (rs : List Move) → no_moves rs ≡ is_nil rs
ended_nil [] = refl
ended_nil (r ∷ rs) = refl

module _ (s : Strategy) where
  abbrev to : RootKey × Pos → List (ℕ × Pos)
  to o = pair_at (chess s.dialect) (first_to root_lt (root_links s) o.0) o.1

  -- links that are the starts of a position, where the test for its end was asked
  by_starts : (p : Pos) (old new : Findings) (over : Bool) (os : List (RootKey × Pos)) → os ≡ starts s.dialect s.side p → over ≡ is_nil os →
      ((trees : List NodeTree) → Adds s.dialect trees old new (λ k. not over && list_all (link_held s.dialect root_lt (root_links s) 0 trees k) os) (flat_map to os)) → StartAdds s p old new
  by_starts p old new over os are ends h trees =
      adds_same s.dialect trees old new _ _ _ _
      (λ k small. ap (λ b. not b && list_all (link_held s.dialect root_lt (root_links s) 0 trees k) os) ends ∙ ap (λ (xs : List (RootKey × Pos)). not (is_nil xs) && list_all (link_held s.dialect root_lt (root_links s) 0 trees k) xs) are)
      (ap (flat_map to) are) (h trees)

  -- at the player's turn
  own_is : (p : Pos) → is_same_side p.side s.side ≡ true → ((told s.dialect (opening p), None), p) ∷ [] ≡ starts s.dialect s.side p
  unfolding starts
  own_is p h = sym (cond-true (is_same_side p.side s.side) _ _ h)

  pub own_adds : (p : Pos) (old new : Findings) → is_same_side p.side s.side ≡ true → LinksAdd s.dialect root_lt (root_links s) 0 old new (((told s.dialect (opening p), None), p) ∷ []) → StartAdds s p old new
  own_adds p old new h links = by_starts p old new false _ (own_is p h) refl links

  pub own_cost : (p : Pos) → is_same_side p.side s.side ≡ true → start_cost s p ≡ 0
  unfolding waits
  own_cost p h = cond-false (not (is_same_side p.side s.side)) _ _ (ap not h)

  -- at the opponent's
  others_are : (p : Pos) → is_same_side p.side s.side ≡ false → map (first_move s.dialect p) (moves p) ≡ starts s.dialect s.side p
  unfolding starts
  others_are p h = sym (cond-false (is_same_side p.side s.side) _ _ h)

  asked : (b : Bool) (k : ℕ) → within (if b then None else Some 0) k ≡ not b
  asked true k = refl
  asked false k = le-leb 0 k (omega arith)

  nil_map : {X Y : Type 0} (f : X → Y) (xs : List X) → is_nil xs ≡ is_nil (map f xs)
  nil_map f [] = refl
  nil_map f (x ∷ xs) = refl

  pub others_add : (p : Pos) (old mid new : Findings) (need : Option ℕ) (over : Bool) → is_same_side p.side s.side ≡ false → need ≡ (if over then None else Some 0) → over ≡ is_nil (moves p) →
      ((d : Dialect) (trees : List NodeTree) → Adds d trees old mid (λ k. within need k) []) → LinksAdd s.dialect root_lt (root_links s) 0 mid new (map (first_move s.dialect p) (moves p)) → StartAdds s p old new
  others_add p old mid new need over h needs ends a links =
      let os = map (first_move s.dialect p) (moves p) in
      by_starts p old new over os (others_are p h) (ends ∙ nil_map (first_move s.dialect p) (moves p))
      (λ trees. adds_same s.dialect trees old new _ _ _ _ (λ k small. ap (λ b. b && list_all (link_held s.dialect root_lt (root_links s) 0 trees k) os) (ap (λ n. within n k) needs ∙ asked over k)) refl
      (adds_then s.dialect trees old mid new (λ k. within need k) (λ k. list_all (link_held s.dialect root_lt (root_links s) 0 trees k) os) [] (flat_map to os) (a s.dialect trees) (links trees)))

  pub others_cost : (p : Pos) → is_same_side p.side s.side ≡ false → start_cost s p ≡ length (moves p)
  unfolding waits
  others_cost p h = cond-true (not (is_same_side p.side s.side)) _ _ (ap not h) ∙ ap (λ (xs : List (RootKey × Pos)). length xs) (sym (others_are p h)) ∙ length-map (moves p) (first_move s.dialect p)

  -- all positions of a list so far
  abbrev pub AreAdded : List Pos → Findings → Findings → Type 0
  AreAdded B old new = (trees : List NodeTree) → Adds s.dialect trees old new (λ k. list_all (starts_held s trees k) B) (first_pairs (chess s.dialect) (outset s.dialect s.side) s.nodes (root_links s) B)

  pub none_added : (a : Findings) → AreAdded [] a a
  none_added a trees = adds_none s.dialect trees a

  append : (a b c : Findings) (B : List Pos) (p : Pos) → AreAdded B a b → StartAdds s p b c → AreAdded (B ++ p ∷ []) a c
  append a b c B p x y trees =
      let first = first_at (chess s.dialect) (outset s.dialect s.side) s.nodes (root_links s) in
      adds_same s.dialect trees a c _ _ _ _
      (λ k small. ap (λ e. list_all (starts_held s trees k) B && e) (sym (and_true (starts_held s trees k p))) ∙ sym (list_all-append (starts_held s trees k) B (p ∷ [])))
      (ap (λ xs. flat_map first B ++ xs) (sym (nil_end (first p))) ∙ sym (flat_map-append first B (p ∷ [])))
      (adds_then s.dialect trees a b c (λ k. list_all (starts_held s trees k) B) (λ k. starts_held s trees k p) (flat_map first B) (first p) (x trees) (y trees))
    where
      nil_end : (xs : List (ℕ × Pos)) → xs ++ [] ≡ xs
      nil_end [] = refl
      nil_end (x ∷ xs) = ap (λ ys. x ∷ ys) (nil_end xs)

  pub one_added : (a b c : Findings) (B : List Pos) (i : ℕ) (p q : Pos) → i < length B → p ≡ get_or B i p → q ≡ p → AreAdded (take i B) a b → StartAdds s q b c → AreAdded (take (i + 1) B) a c
  one_added a b c B i p q within is same x y =
      subst (λ xs. AreAdded xs a c) (sym (take_more B i p within)) (append a b c (take i B) (get_or B i p) x (subst (λ z. StartAdds s z b c) (same ∙ is) y))

  -- all of it, where nothing was found before
  pub are_started : (a b : Findings) (B : List Pos) → a.need ≡ Some 0 → a.waiting.entries ≡ [] → AreAdded B a b → AreStarted s B b
  are_started a b B need none x = record {
    enough_part = λ trees k small. (x trees).enough_part k small ∙ ap (λ e. list_all (starts_held s trees k) B && e) (empty trees k) ∙ and_true (list_all (starts_held s trees k) B);
    pairs_part = λ y. ((λ i. just y (((x []).pairs_part y).0 i)), (λ i. ((x []).pairs_part y).1 (inl i)));
  }
    where
      empty : (trees : List NodeTree) (k : ℕ) → enough s.dialect trees a k ≡ true
      empty trees k = (λ i. within (need i) k && list_all (held s.dialect trees k) (none i)) ∙ ap (λ e. e && true) (le-leb 0 k (omega arith))

      just : (y : ℕ × Pos) → In y (first_pairs (chess s.dialect) (outset s.dialect s.side) s.nodes (root_links s) B) ⊎ In y (waiting a) → In y (first_pairs (chess s.dialect) (outset s.dialect s.side) s.nodes (root_links s) B)
      just y (inl i) = i
      just y (inr i) = absurd (subst (λ (es : List ((ℕ × Pos) × ℕ)). In y (map (λ e. e.0) es)) none i)
