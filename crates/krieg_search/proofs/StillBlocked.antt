-- What blocked a try of a set before is asked again.
use Rattle.std.proofs.Common.{◌≡◌, ℕ, suc, ◌+◌, ◌*◌, ◌^◌, ◌-◌, ◌<◌, ◌≤◌, ◌⊎◌, inl, inr, Bool, true, false, not, ◌||◌, List, [], ◌∷◌, ◌++◌, length, Option, Some, None, Result, Ok, Err, refl, sym, ap, subst, ◌∙◌, arith}
use Rattle.std.specs.Prelude.{IfSome}
use Rattle.std.specs.List.{list_all}
use Rattle.std.proofs.lemmas.Bool.{both_ways, and_parts, or_cases, not-true, false_from_ne_true}
use Rattle.krieg_search.proofs.Common.{Pos, Move, Dialect, In, is_nil, refused, legal_in_some, stale_in_some, keys, class, can, begins, made, LostRefused, block, CoversSet, CoversTry, FallsShort, entries, classes, Key, chess, SetRows, set_at, IsMore, Block, AtOnce, Refused, IsReady, IsSearched, IsBlock, Stretches, SearchStop, Large, TellsSet, TellsBlock}
use Rattle.krieg_costs.specs.Block as theory
use Rattle.krieg_costs.proofs.Blocks.{BlockSays, block_says}
use Rattle.krieg_theory.proofs.Lists.{all_at, append_in, in_map}
use Rattle.krieg_theory.proofs.Steps.{refused_lt}
use Rattle.krieg_accounts.proofs.Covering as covering
use Rattle.krieg_game.proofs.ChessLaws.{chess_is_game}
use Rattle.krieg_search.specs.Blockers.{moves_for, IsPart, IsBlocker, AreBlockers}
use Rattle.krieg_search.specs.declared.blockers.Blocker.{Blocker}
use Rattle.krieg_search.specs.declared.notes.Block.TheVariants.{Class}
use Rattle.krieg_search.specs.declared.stop.SearchStop.TheVariants.{Spent, NoMemory}
use Rattle.krieg_search.proofs.Searching.{ready_from, searched_nothing, searched_split, searched_then, short_behind, still_within}

-- there are none yet
pub no_blockers : (d : Dialect) (cut : Bool) (T : SetRows) (bs : List Blocker) → bs ≡ [] → AreBlockers d cut T bs
no_blockers d cut T bs e = subst (AreBlockers d cut T) (sym e) (λ b i. absurd i)

-- one more
one_more : (d : Dialect) (cut : Bool) (T : SetRows) (bs : List Blocker) (b : Blocker) → AreBlockers d cut T bs → IsBlocker d cut T b → AreBlockers d cut T (bs ++ b ∷ [])
one_more d cut T bs b all h x i = go (append_in bs (b ∷ []) x i)
  where
    go : In x bs ⊎ In x (b ∷ []) → IsBlocker d cut T x
    go (inl k) = all x k
    go (inr (inl e)) = subst (IsBlocker d cut T) e h
    go (inr (inr k)) = absurd k

-- or none
pub after_keep : (d : Dialect) (cut : Bool) (T : SetRows) (bs bs' : List Blocker) (b : Blocker) {kept : Option Blocker} → IfSome kept (λ x. x ≡ b) → (bs' ≡ bs) ⊎ ((x : Blocker) × (kept ≡ Some x) × (cut ≡ true) × (bs' ≡ bs ++ x ∷ []))
    → AreBlockers d cut T bs → (cut ≡ true → IsBlocker d cut T b) → AreBlockers d cut T bs'
after_keep d cut T bs bs' b is (inl e) all h = subst (AreBlockers d cut T) (sym e) all
after_keep d cut T bs bs' b is (inr e) all h =
    let same : e.0 ≡ b = subst (λ o. IfSome o (λ x. x ≡ b)) e.1 is in
    subst (AreBlockers d cut T) (sym e.3) (one_more d cut T bs e.0 all (subst (IsBlocker d cut T) (sym same) (h e.2)))

-- they stay right where sets come to the table
pub more_blockers : (d : Dialect) (cut : Bool) {T T' : SetRows} (bs : List Blocker) → IsMore T T' → AreBlockers d cut T bs → AreBlockers d cut T' bs
more_blockers d cut {T = T} {T' = T'} bs m all b i =
    let h = all b i in
    let same = m.same b.set h.within in
    let part = m.same b.part h.part_within in
    record {
      may = h.may;
      within = still_within b.set m h.within;
      part_within = still_within b.part m h.part_within;
      part = subst (λ (X : List Pos). IsPart d X b.mv b.refuses (set_at T' b.part)) (sym same) (subst (IsPart d (set_at T b.set) b.mv b.refuses) (sym part) h.part);
      made = h.made ∙ ap (λ (X : List Pos). made (chess d) X b.mv) (sym same);
    }

module _ (d : Dialect) (cut : Bool) (B : List Pos) (t : Move) where
  module _ (j : ℕ) (some : 0 < j) where
    one_less : suc (j - 1) ≡ j
    one_less = omega arith

    -- the lists that cover the try cover the part
    pub part_covers : (r : Bool) (X : List Pos) → IsPart d B t r X → (R : List (List Pos × ℕ)) → CoversTry (chess d) B j t R → CoversSet (chess d) X (moves_for r j) R
    part_covers true X p R h = subst (λ (Y : List Pos). CoversSet (chess d) Y j R) (sym p.0) (covering.covers_refused (chess d) B j t (ap is_nil (sym p.0) ∙ p.1) R h)
    part_covers false X p R h =
        covering.covers_set (chess d) (classes (chess d) B t) X (j - 1) (subst (λ (Y : List Pos). In Y (classes (chess d) B t)) (sym p.2) (in_map (class (chess d) B t) (keys (chess d) B t) p.0 p.1)) R
        (covering.covers_classes (chess d) B (j - 1) t R (subst (λ (n : ℕ). CoversTry (chess d) B n t R) (sym one_less) h))

    -- a try that begins to win wins each part
    part_won : (r : Bool) (X : List Pos) → IsPart d B t r X → begins (chess d) (suc (j - 1)) B t ≡ true → can (chess d) (moves_for r j) X ≡ true
    part_won r X p e =
        let a = and_parts (legal_in_some (chess d) B t) _ e in
        let b = and_parts (not (stale_in_some (chess d) B t)) _ a.1 in
        let c = and_parts (list_all (λ key. can (chess d) (j - 1) (class (chess d) B t key)) (keys (chess d) B t)) _ b.1 in
        go r X p c.0 c.1
      where
        go : (r : Bool) (X : List Pos) → IsPart d B t r X → list_all (λ key. can (chess d) (j - 1) (class (chess d) B t key)) (keys (chess d) B t) ≡ true → (is_nil (refused (chess d) B t) || can (chess d) (suc (j - 1)) (refused (chess d) B t)) ≡ true → can (chess d) (moves_for r j) X ≡ true
        go false X p all rest = ap (can (chess d) (j - 1)) p.2 ∙ all_at (λ key. can (chess d) (j - 1) (class (chess d) B t key)) (keys (chess d) B t) all p.0 p.1
        go true X p all rest = one (or_cases (is_nil (refused (chess d) B t)) _ rest)
          where
            one : (is_nil (refused (chess d) B t) ≡ true) ⊎ (can (chess d) (suc (j - 1)) (refused (chess d) B t) ≡ true) → can (chess d) j X ≡ true
            one (inl n) = absurd (both_ways _ p.1 (ap is_nil p.0 ∙ n))
            one (inr w) = ap (can (chess d) j) p.0 ∙ subst (λ (n : ℕ). can (chess d) n (refused (chess d) B t) ≡ true) one_less w

    -- so it begins no win while a part cannot be won
    part_fails : (r : Bool) (X : List Pos) → IsPart d B t r X → can (chess d) (moves_for r j) X ≡ false → begins (chess d) j B t ≡ false
    part_fails r X p lost = subst (λ (n : ℕ). begins (chess d) n B t ≡ false) one_less (false_from_ne_true _ (λ e. both_ways _ lost (part_won r X p e)))

    -- and asking for a part is a stretch over the try
    pub asked_part : (r : Bool) (X : List Pos) → IsPart d B t r X → {T0 T1 : SetRows} {u0 u1 : ℕ} {won : Bool} → IsReady d cut T0 → TellsSet d T1 X (moves_for r j) won × IsSearched d cut (CoversSet (chess d) X (moves_for r j)) 0 T0 T1 u0 u1
        → (not won ≡ true → begins (chess d) j B t ≡ false) × IsSearched d cut (CoversTry (chess d) B j t) 0 T0 T1 u0 u1
    asked_part r X p {T0 = T0} {T1 = T1} {u0 = u0} {u1 = u1} ready v = (
      λ yes. part_fails r X p (sym v.0.right ∙ not-true _ yes),
      searched_then d cut (CoversTry (chess d) B j t) (CoversSet (chess d) X (moves_for r j)) 0 0 0 T0 T0 T1 u0 u0 u1 (part_covers r X p) (searched_nothing d cut (CoversTry (chess d) B j t) T0 u0 ready) (omega arith) v.1,
    )

    says : (b : theory.Block Key) → block (chess d) j B t ≡ b → BlockSays (chess d) (chess_is_game d) (j - 1) B t b
    says b e = subst (BlockSays (chess d) (chess_is_game d) (j - 1) B t) (ap (λ n. block (chess d) n B t) one_less ∙ e) (block_says (chess d) (chess_is_game d) (j - 1) B t)

    -- what blocks a try is such a part
    class_is_part : (T : SetRows) (heard : Key) (set : ℕ) → IsBlock d cut T B j t (Class heard set) → IsPart d B t false (set_at T set)
    class_is_part T heard set h = (heard, (says (theory.LostClass heard) h.blocks).0, h.at)

    refused_is_part : (T : SetRows) (set : ℕ) → IsBlock d cut T B j t (Refused set) → IsPart d B t true (set_at T set)
    refused_is_part T set h = (h.at, ap is_nil h.at ∙ (says LostRefused h.blocks).0)

    -- a part with its number of moves comes before the set with its own
    pub part_less : (r : Bool) (X : List Pos) → legal_in_some (chess d) B t ≡ true → length X < 2 ^ 64 → IsPart d B t r X → 8 * (moves_for r j * 2 ^ 64 + length X) + 4 < 8 * (j * 2 ^ 64 + length B)
    part_less true X l few p = let smaller = subst (λ (Y : List Pos). length Y < length B) (sym p.0) (refused_lt (chess d) (chess_is_game d) B t l) in omega (arith, smaller)
    part_less false X l few p = omega (arith, some, few)

module _ (d : Dialect) (cut : Bool) {B : List Pos} {t : Move} {j : ℕ} {T0 T1 : SetRows} {u0 u1 : ℕ} (s : IsSearched d cut (CoversTry (chess d) B j t) 0 T0 T1 u0 u1) where
  -- the try is split again
  pub split_again : (T2 : SetRows) (u2 : ℕ) (r : Result (Option Block) SearchStop) → Stretches d cut r (TellsBlock d cut T2 B j t u1 u2) (CoversTry (chess d) B j t) (made (chess d) B t) T1 T2 u1 u2 → Stretches d cut r (TellsBlock d cut T2 B j t u0 u2) (CoversTry (chess d) B j t) (made (chess d) B t) T0 T2 u0 u2
  split_again T2 u2 (Ok o) x = (
    record { tells = x.0.tells; blocked = x.0.blocked; paid = λ n. (let p = x.0.paid n in let f = s.stretch.fewer in omega arith) },
    searched_then d cut (CoversTry (chess d) B j t) (CoversTry (chess d) B j t) 0 (made (chess d) B t) (made (chess d) B t) T0 T1 T2 u0 u1 u2 (λ R h. h) s (omega arith) x.1,
  )
  split_again T2 u2 (Err Spent) x = (
    short_behind d cut (CoversTry (chess d) B j t) (CoversTry (chess d) B j t) 0 (made (chess d) B t) (made (chess d) B t) T0 T1 u0 u1 (λ R h. h) s (omega arith) x.0,
    (let f = s.stretch.fewer in let g = x.1 in omega arith),
  )
  split_again T2 u2 (Err Large) x = absurd x
  split_again T2 u2 (Err NoMemory) x = let f = s.stretch.fewer in omega arith

  -- or it is not, and takes what the split takes
  pub still_paid : (u2 : ℕ) → cut ≡ true → begins (chess d) j B t ≡ false → u2 + made (chess d) B t ≡ u1 → TellsBlock d cut T1 B j t u0 u2 (Some AtOnce) × IsSearched d cut (CoversTry (chess d) B j t) (made (chess d) B t) T0 T1 u0 u2
  still_paid u2 may fails e = (
    record {
      tells = record { right = sym fails; stored = record { classes = λ y k i. absurd (both_ways _ refl y); refused_part = λ y n. absurd (both_ways _ refl y); blocked = λ no y. absurd (both_ways cut no may) } };
      blocked = record { fails = fails; no_pair = λ no. absurd (both_ways cut no may) };
      paid = λ n. absurd (let q : ◌≡◌ {A = Option Block} (Some AtOnce) None = n in cc);
    },
    searched_then d cut (CoversTry (chess d) B j t) (CoversTry (chess d) B j t) 0 (made (chess d) B t) (made (chess d) B t) T0 T1 T1 u0 u1 u2 (λ R h. h) s (omega arith) (searched_split d cut (CoversTry (chess d) B j t) T1 (made (chess d) B t) u1 u2 (ready_from d cut s) e),
  )

  -- for which there may be too few units
  pub still_short : (u2 : ℕ) → u2 ≡ u1 → u1 < made (chess d) B t → FallsShort (chess d) (CoversTry (chess d) B j t) (made (chess d) B t) (entries T0) u0 × (u2 ≤ u0)
  still_short u2 same few = (
    short_behind d cut (CoversTry (chess d) B j t) (CoversTry (chess d) B j t) 0 (made (chess d) B t) (made (chess d) B t) T0 T1 u0 u1 (λ R h. h) s (omega arith) (λ R h. omega arith),
    (let f = s.stretch.fewer in omega arith),
  )

-- what blocked a try that was split is kept
module _ (d : Dialect) (cut : Bool) {T0 T1 : SetRows} {set : ℕ} {t : Move} {j : ℕ} (u0 u1 : ℕ) (may : cut ≡ true) (w : set < length T0) (m : IsMore T0 T1) (some : 0 < j) (part : ℕ) (taken : u1 + made (chess d) (set_at T0 set) t ≡ u0) where
  kept : (r : Bool) → part < length T1 → IsPart d (set_at T0 set) t r (set_at T1 part) → IsBlocker d cut T1 (record { set = set; mv = t; part = part; refuses = r; made = u0 - u1 })
  kept r l p =
      let same = m.same set w in
      record {
        may = may;
        within = still_within set m w;
        part_within = l;
        part = subst (λ (X : List Pos). IsPart d X t r (set_at T1 part)) (sym same) p;
        made = (let e : u0 - u1 ≡ made (chess d) (set_at T0 set) t = omega arith in e) ∙ ap (λ (X : List Pos). made (chess d) X t) (sym same);
      }

  pub class_kept : (heard : Key) → IsBlock d cut T1 (set_at T0 set) j t (Class heard part) → IsBlocker d cut T1 (record { set = set; mv = t; part = part; refuses = false; made = u0 - u1 })
  class_kept heard h = kept false h.within (class_is_part d cut (set_at T0 set) t j some T1 heard part h)

  pub refused_kept : IsBlock d cut T1 (set_at T0 set) j t (Refused part) → IsBlocker d cut T1 (record { set = set; mv = t; part = part; refuses = true; made = u0 - u1 })
  refused_kept h = kept true h.within (refused_is_part d cut (set_at T0 set) t j some T1 part h)
