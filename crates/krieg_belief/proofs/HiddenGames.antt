-- The steps on sets have just what hidden games give, one at a time.
use Rattle.std.proofs.Common.{◌≡◌, Bool, true, false, cond, not, List, [], ◌∷◌, map, filter, refl, sym, ap, subst, ◌∙◌, inl, inr}
use Rattle.std.specs.Prelude.{⊤}
use Rattle.std.specs.Ordering.{is_eq}
use Rattle.std.specs.Cmp.{Equal-is}
use Rattle.std.proofs.lemmas.Bool.{and_parts, and_from, not-true, cond-false, both_ways}
use Rattle.krieg_belief.proofs.Common.{is_same_side, Pos, Side, Move, after, moves, Said, words_cmp, are_told, Dialect, Line, Opens, Illegal, Done, Heard, Early, Over, Gives, In, nexts, step, run}
use Rattle.krieg_moves.proofs.Listed.{legal_listed, listed_legal}
use Rattle.krieg_words.proofs.OrderLaws.{words_cmp_equal, words_cmp_self}
use Rattle.krieg_theory.proofs.Lists.{in_filter, filter_in, in_map, map_in, in_flat, flat_in}
use Rattle.krieg_pack.proofs.Membership.{contains_in, in_contains}
use Rattle.krieg_pack.proofs.PositionSets.{in_set, set_in}

pub same_words : (v w : Said) → is_eq (words_cmp v w) ≡ true → v ≡ w
same_words v w h = words_cmp_equal v w ((Equal-is (words_cmp v w)).0 h)

pub words_same : (v w : Said) → v ≡ w → is_eq (words_cmp v w) ≡ true
words_same v w e = ap (λ (x : Said). is_eq (words_cmp v x)) (sym e) ∙ ap is_eq (words_cmp_self v)

-- a member of a list with one member at most
pub in_cond : {X : Type 0} (b : Bool) (x y : X) → In y (cond b (x ∷ []) []) → (b ≡ true) × (x ≡ y)
in_cond true x y (inl e) = (refl, e)
in_cond true x y (inr i) = absurd i
in_cond false x y i = absurd i

pub cond_in : {X : Type 0} (b : Bool) (x : X) → b ≡ true → In x (cond b (x ∷ []) [])
cond_in true x h = inl refl
cond_in false x h = absurd (both_ways false refl h)

-- a line that may be an entry
abbrev pub IsEntry : Line → Type 0
IsEntry (Opens w) = ⊥
IsEntry (Illegal m) = ⊤
IsEntry (Done m w) = ⊤
IsEntry (Heard w) = ⊤
IsEntry (Early m) = ⊤
IsEntry (Over m) = ⊤

abbrev pub AreEntries : List Line → Type 0
AreEntries [] = ⊤
AreEntries (l ∷ ls) = IsEntry l × AreEntries ls

module _ (d : Dialect) (who : Side) where
  -- some hidden game does it
  abbrev pub Reaches : Pos → List Line → Pos → Type 0
  Reaches p ls q = (rs : List Move) × Gives d p ls who rs q

  -- a hidden game goes on from one of the next positions
  pub goes_on : (l : Line) (ls : List Line) (p q : Pos) → Reaches p (l ∷ ls) q → (p' : Pos) × In p' (nexts d who l p) × Reaches p' ls q
  goes_on (Illegal m) ls p q g = (p, cond_in _ p (and_from _ _ (ap not g.1.0) (and_from _ _ g.1.1 (ap not g.1.2))), (g.0, g.1.3))
  goes_on (Done m w) ls p q g = (after p m, cond_in _ (after p m) (and_from _ _ g.1.0 (and_from _ _ g.1.1 (words_same _ _ g.1.2))), (g.0, g.1.3))
  goes_on (Early m) ls p q g = (p, cond_in _ p (and_from _ _ (ap not g.1.0) (ap not g.1.1)), (g.0, g.1.2))
  goes_on (Over m) ls p q g = (p, cond_in _ p g.1.0, (g.0, g.1.1))
  goes_on (Heard w) ls p q g = heard g.0 g.1
    where
      heard : (rs : List Move) → Gives d p (Heard w ∷ ls) who rs q → (p' : Pos) × In p' (nexts d who (Heard w) p) × Reaches p' ls q
      heard [] g = absurd g
      heard (r ∷ rs) g =
          let there = in_map (after p) _ r (in_filter (are_told d w p) (moves p) r (contains_in r (moves p) (legal_listed p r g.1)) (words_same _ _ g.2)) in
          (after p r, subst (In (after p r)) (sym (cond-false (is_same_side p.side who) _ _ g.0)) there, (rs, g.3))
  goes_on (Opens w) ls p q g = absurd g.1

  -- and from each of them a hidden game goes on
  pub comes_from : (l : Line) (ls : List Line) (p p' q : Pos) → IsEntry l → In p' (nexts d who l p) → Reaches p' ls q → Reaches p (l ∷ ls) q
  comes_from (Illegal m) ls p p' q k i g =
      let c = in_cond _ p p' i in
      let a = and_parts _ _ c.0 in
      let b = and_parts _ _ a.1 in
      (g.0, (not-true _ a.0, b.0, not-true _ b.1, subst (λ (x : Pos). Gives d x ls who g.0 q) (sym c.1) g.1))
  comes_from (Done m w) ls p p' q k i g =
      let c = in_cond _ (after p m) p' i in
      let a = and_parts _ _ c.0 in
      let b = and_parts _ _ a.1 in
      (g.0, (a.0, b.0, same_words _ _ b.1, subst (λ (x : Pos). Gives d x ls who g.0 q) (sym c.1) g.1))
  comes_from (Early m) ls p p' q k i g =
      let c = in_cond _ p p' i in
      let a = and_parts _ _ c.0 in
      (g.0, (not-true _ a.0, not-true _ a.1, subst (λ (x : Pos). Gives d x ls who g.0 q) (sym c.1) g.1))
  comes_from (Over m) ls p p' q k i g =
      let c = in_cond _ p p' i in
      (g.0, (c.0, subst (λ (x : Pos). Gives d x ls who g.0 q) (sym c.1) g.1))
  comes_from (Heard w) ls p p' q k i g = heard (is_same_side p.side who) refl i
    where
      heard : (b : Bool) → is_same_side p.side who ≡ b → In p' (cond b [] (map (after p) (filter (are_told d w p) (moves p)))) → Reaches p (Heard w ∷ ls) q
      heard true e i = absurd i
      heard false e i =
          let m = map_in (after p) _ p' i in
          let f = filter_in (are_told d w p) (moves p) m.0 m.1 in
          (m.0 ∷ g.0, (e, listed_legal p m.0 (in_contains m.0 (moves p) f.0), same_words _ _ f.1, subst (λ (x : Pos). Gives d x ls who g.0 q) (sym m.2) g.1))
  comes_from (Opens w) ls p p' q k i g = absurd k

  -- the steps on sets have all that hidden games reach
  pub run_has : (ls : List Line) (ps : List Pos) (p q : Pos) → In p ps → Reaches p ls q → In q (run d who ls ps)
  run_has [] ps p q i g = subst (λ (x : Pos). In x ps) (sym g.1.1) i
  run_has (l ∷ ls) ps p q i g =
      let n = goes_on l ls p q g in
      run_has ls (step d who l ps) n.0 q (in_set n.0 _ (in_flat (nexts d who l) ps p n.0 i n.1)) n.2

  -- and nothing else
  pub has_run : (ls : List Line) (ps : List Pos) (q : Pos) → AreEntries ls → In q (run d who ls ps) → (p : Pos) × In p ps × Reaches p ls q
  has_run [] ps q k i = (q, i, ([], (refl, refl)))
  has_run (l ∷ ls) ps q k i =
      let r = has_run ls (step d who l ps) q k.1 i in
      let f = flat_in (nexts d who l) ps r.0 (set_in r.0 _ r.1) in
      (f.0, f.1, comes_from l ls f.0 r.0 q k.0 f.2 r.2)
