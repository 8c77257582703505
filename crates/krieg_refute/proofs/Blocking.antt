-- What blocks a try, as stored results tell it, and what is claimed for it.
use Rattle.std.proofs.Common.{◌≡◌, ℕ, zero, suc, ◌-◌, ◌<◌, Bool, true, false, List, [], ◌∷◌, map, find, length, Option, Some, None, Ok, refl, sym, ap, subst, inl, inr, ◌∙◌, arith}
use Rattle.std.specs.Prelude.{◌==◌, IfSome, option_map, if◌then◌else◌}
use Rattle.std.proofs.lemmas.Bool.{eqb-true, false_from_ne_true}
use Rattle.std.proofs.lemmas.List.Elements.{All-head, All-tail, All-weaker}
use Rattle.krieg_refute.proofs.Common.{Pos, Move, Dialect, position_lt, refused, legal_in_some, keys, class, Block, Lives, Stale, LostClass, LostRefused, NoBlock, block, pair_of, block_pair, behind, ByLife, ByStalemate, ByClass, ByRefused, StoredLost, stored, claimed, add_all, is_loss, positions_in, reasons_in, AreFew, behind_try, Stands, Key, chess, class_pair, SetRows, entries, Remainder, Leaves, IsReady, AddsSets, Question, ClaimList, Why, Draft, claims_over, AreWithin, why_of, claims_of, most_claims, most_claimed, IsBlockedBy, IsLost, is_lost_class, at_once_reason, pairs_in, IsClaimList, Claims, Blocks}
use Rattle.krieg_theory.specs.Sets.{In}
use Rattle.krieg_costs.specs.Refutation.{Reason}
use Rattle.krieg_costs.proofs.Blocks.{BlockSays, block_says}
use Rattle.krieg_costs.proofs.Reached.{class_some}
use Rattle.krieg_accounts.proofs.TryEnds.{find_map}
use Rattle.krieg_claims.specs.Written as written
use Rattle.krieg_claims.proofs.Adding.{in_all}
use Rattle.krieg_claims.proofs.Standing.{claimed_root}
use Rattle.krieg_claims.proofs.StoredLosses.{block_lost, class_blocks, refused_blocks, at_once}
use Rattle.krieg_game.proofs.ChessLaws.{chess_is_game}
use Rattle.krieg_search.proofs.Blocked.{keyed_some, keyed_none, alive}
use Rattle.krieg_search.proofs.Adding.{adds_nothing, adds_then}
use Rattle.krieg_refutation.specs.declared.refutation.Claim.{Claim}

is_one : (i : ℕ) → (suc i == 1) ≡ (i == 0)
is_one zero = refl
is_one (suc i) = false_from_ne_true (suc (suc i) == 1) (λ e. let q = eqb-true (suc (suc i)) 1 e in omega arith) ∙ sym (false_from_ne_true (suc i == 0) (λ e. let q = eqb-true (suc i) 0 e in omega arith))

module _ (d : Dialect) where
  module _ (T : SetRows) (B : List Pos) (t : Move) (i : ℕ) (ready : IsReady d false T) (lost : IsLost T B (suc i)) (legal : legal_in_some (chess d) B t ≡ true) where
    says : (b : Block Key) → block (chess d) (suc i) B t ≡ b → BlockSays (chess d) (chess_is_game d) i B t b
    says b e = subst (BlockSays (chess d) (chess_is_game d) i B t) e (block_says (chess d) (chess_is_game d) i B t)

    is_stored : (b : Block Key) → block (chess d) (suc i) B t ≡ b → IfSome (pair_of (chess d) i B t b) (λ q. StoredLost (chess d) (entries T) q)
    is_stored b e = subst (λ (x : Block Key). IfSome (pair_of (chess d) i B t x) (λ q. StoredLost (chess d) (entries T) q)) e (block_lost (chess d) (chess_is_game d) (entries T) ready.sound B i lost t legal)

    by_class : (key : Key) → block (chess d) (suc i) B t ≡ LostClass key → IsBlockedBy d T B t i (suc i) (class (chess d) B t key, i) (ByClass key)
    by_class key e = record {
      adds = ap (behind (chess d) (claimed (chess d) i) (claimed (chess d) (suc i)) B t) e;
      pair = ap (pair_of (chess d) i B t) e;
      reason = λ qs. ap (written.reason_of (chess d) qs i B t) e;
      lost = is_stored (LostClass key) e;
      some = class_some (chess d) (chess_is_game d) B t key (says (LostClass key) e).0;
      number = (ready.sound.backed (class (chess d) B t key) i None (is_stored (LostClass key) e)).some;
    }

    by_refused : block (chess d) (suc i) B t ≡ LostRefused → IsBlockedBy d T B t i (suc i) (refused (chess d) B t, suc i) ByRefused
    by_refused e = record {
      adds = ap (behind (chess d) (claimed (chess d) i) (claimed (chess d) (suc i)) B t) e;
      pair = ap (pair_of (chess d) i B t) e;
      reason = λ qs. ap (written.reason_of (chess d) qs i B t) e;
      lost = is_stored LostRefused e;
      some = (says LostRefused e).0;
      number = omega arith;
    }

    module _ (l : Remainder) (a : Leaves d B t (suc i) l) where
      found : find (is_lost_class T i) (map class_pair l.classes.items) ≡ option_map {T = Key} {U = Key × List Pos} (λ key. (key, class (chess d) B t key)) (find (λ key. is_loss (stored position_lt (entries T) (class (chess d) B t key, i))) (keys (chess d) B t))
      found = ap (find (is_lost_class T i)) a.classes_part ∙ find_map (λ (c : Key × List Pos). is_loss (stored position_lt (entries T) (c.1, i))) (λ key. (key, class (chess d) B t key)) (keys (chess d) B t)

      class_found : (key : Key) (C : List Pos) → find (is_lost_class T i) (map class_pair l.classes.items) ≡ Some (key, C) → (block (chess d) (suc i) B t ≡ LostClass key) × (class (chess d) B t key ≡ C)
      class_found key C e =
          let f = keyed_some (class (chess d) B t) (find (λ key. is_loss (stored position_lt (entries T) (class (chess d) B t key, i))) (keys (chess d) B t)) key C (sym found ∙ e) in
          (class_blocks (chess d) (chess_is_game d) (entries T) ready.sound B i lost t legal (alive d B t i l a) a.none_stale key f.0, f.1)

      refused_found : find (is_lost_class T i) (map class_pair l.classes.items) ≡ None → block (chess d) (suc i) B t ≡ LostRefused
      refused_found e =
          refused_blocks (chess d) (chess_is_game d) (entries T) ready.sound B i lost t legal (alive d B t i l a) a.none_stale
          (keyed_none (class (chess d) B t) (find (λ key. is_loss (stored position_lt (entries T) (class (chess d) B t key, i))) (keys (chess d) B t)) (sym found ∙ e))

    -- a try that fails at once adds nothing
    at_once_adds : block_pair (chess d) (suc i) B t ≡ None → behind_try (chess d) i B t ≡ []
    at_once_adds f = go (block (chess d) (suc i) B t) f
      where
        go : (b : Block Key) → pair_of (chess d) i B t b ≡ None → behind (chess d) (claimed (chess d) i) (claimed (chess d) (suc i)) B t b ≡ []
        go Lives e = refl
        go Stale e = refl
        go (LostClass key) e = absurd (cc)
        go LostRefused e = absurd (cc)
        go NoBlock e = refl

    at_once_is : block_pair (chess d) (suc i) B t ≡ None → (qs : List (List Pos × ℕ)) → at_once_reason (suc i) ≡ written.reason_at (chess d) qs (suc i) B t
    at_once_is f qs = ap (λ (b : Bool). if b then ByLife else ByStalemate) (is_one i) ∙ sym (at_once (chess d) (chess_is_game d) (entries T) ready.sound B i lost t legal qs f)

  -- the same at any number
  module _ (T : SetRows) (B B' : List Pos) (t : Move) (j : ℕ) (some : 0 < j) (is : B' ≡ B) (ready : IsReady d false T) (lost : IsLost T B j) (legal : legal_in_some (chess d) B t ≡ true) where
    before : suc (j - 1) ≡ j
    before = omega arith

    before_lost : IsLost T B (suc (j - 1))
    before_lost = subst (IsLost T B) (sym before) lost

    -- what a split tells of the block
    pub class_at : (l : Remainder) → Leaves d B' t j l → (key : Key) (C : List Pos) → find (is_lost_class T (j - 1)) (map class_pair l.classes.items) ≡ Some (key, C) → (block (chess d) j B t ≡ LostClass key) × (class (chess d) B t key ≡ C)
    class_at l a key C e =
        subst (λ (k : ℕ). (block (chess d) k B t ≡ LostClass key) × (class (chess d) B t key ≡ C)) before
        (class_found T B t (j - 1) ready before_lost legal l (subst (λ (k : ℕ). Leaves d B t k l) (sym before) (subst (λ (X : List Pos). Leaves d X t j l) is a)) key C e)

    pub refused_at : (l : Remainder) → Leaves d B' t j l → find (is_lost_class T (j - 1)) (map class_pair l.classes.items) ≡ None → block (chess d) j B t ≡ LostRefused
    refused_at l a e =
        subst (λ (k : ℕ). block (chess d) k B t ≡ LostRefused) before
        (refused_found T B t (j - 1) ready before_lost legal l (subst (λ (k : ℕ). Leaves d B t k l) (sym before) (subst (λ (X : List Pos). Leaves d X t j l) is a)) e)

    -- and what is claimed for it
    pub by_class_at : (key : Key) (C : List Pos) → block (chess d) j B t ≡ LostClass key → class (chess d) B t key ≡ C → IsBlockedBy d T B t (j - 1) j (C, j - 1) (ByClass key)
    by_class_at key C e same =
        subst (λ (X : List Pos). IsBlockedBy d T B t (j - 1) j (X, j - 1) (ByClass key)) same
        (subst (λ (k : ℕ). IsBlockedBy d T B t (j - 1) k (class (chess d) B t key, j - 1) (ByClass key)) before
        (by_class T B t (j - 1) ready before_lost legal key (subst (λ (k : ℕ). block (chess d) k B t ≡ LostClass key) (sym before) e)))

    pub by_refused_at : (R : List Pos) → block (chess d) j B t ≡ LostRefused → refused (chess d) B t ≡ R → IsBlockedBy d T B t (j - 1) j (R, j) ByRefused
    by_refused_at R e same =
        subst (λ (X : List Pos). IsBlockedBy d T B t (j - 1) j (X, j) ByRefused) same
        (subst (λ (k : ℕ). IsBlockedBy d T B t (j - 1) k (refused (chess d) B t, k) ByRefused) before
        (by_refused T B t (j - 1) ready before_lost legal (subst (λ (k : ℕ). block (chess d) k B t ≡ LostRefused) (sym before) e)))

    pub fails_blocks : (w : ClaimList) (y : Why) → block_pair (chess d) j B t ≡ None → IsClaimList d T w → why_of y ≡ at_once_reason j → Blocks d (Ok y) B j t T T w w
    fails_blocks w y none c e =
        let f = subst (λ (k : ℕ). block_pair (chess d) k B t ≡ None) (sym before) none in
        let qs = pairs_in T w.places.keys in (
          adds_nothing T ready.counted,
          c,
          ap (add_all (chess d) qs) (sym (at_once_adds T B t (j - 1) ready before_lost legal f)),
          subst (λ (o : Option (List Pos × ℕ)). IfSome o (λ q. In q qs)) (sym none) tt,
          e ∙ subst (λ (k : ℕ). at_once_reason k ≡ written.reason_at (chess d) qs k B t) before (at_once_is T B t (j - 1) ready before_lost legal f qs),
        )

  -- what is claimed stays claimed where sets come to the table
  pub same_pairs : (T T' : SetRows) (keys : List Question) → AddsSets T T' → ((a : Question) → In a keys → a.set < length T) → pairs_in T' keys ≡ pairs_in T keys
  same_pairs T T' [] s n = refl
  same_pairs T T' (a ∷ keys) s n = let e = s.more.same a.set (n a (inl refl)) in let r = same_pairs T T' keys s (λ x i. n x (inr i)) in λ i. (e i, a.moves) ∷ r i

  same_drafts : (T T' : SetRows) (ws : List Draft) → AddsSets T T' → AreWithin T ws → claims_over T' ws ≡ claims_over T ws
  same_drafts T T' [] s n = refl
  same_drafts T T' (w ∷ ws) s n =
      let e = s.more.same w.set (All-head (λ (x : Draft). x.set < length T) w ws n) in let r = same_drafts T T' ws s (All-tail (λ (x : Draft). x.set < length T) w ws n) in λ i. record { moves = w.moves; set = e i; reasons = w.reasons } ∷ r i

  pub still_claimed : (T T' : SetRows) (w : ClaimList) → AddsSets T T' → IsClaimList d T w → IsClaimList d T' w
  still_claimed T T' w s c =
      let e = same_pairs T T' w.places.keys s c.numbered in
      let f = same_drafts T T' w.claims.items s c.within in
      let longer = s.more.longer in
      record {
        numbered = λ a i. (let n = c.numbered a i in omega arith);
        stands = subst (Stands (chess d) []) (sym e) c.stands;
        within = All-weaker (λ (x : Draft). x.set < length T) (λ (x : Draft). x.set < length T') (λ x n. omega arith) w.claims.items c.within;
        are = ap (claims_of d) f ∙ c.are ∙ ap (written.claims_of (chess d)) (sym e);
        positions_part = c.positions_part ∙ ap (λ (cs : List Claim). positions_in (chess d) (claims_of d cs)) (sym f);
        reasons_part = c.reasons_part ∙ ap (λ (cs : List Claim). reasons_in (chess d) (claims_of d cs)) (sym f);
        few = subst (λ (cs : List Claim). AreFew (chess d) most_claims most_claimed (claims_of d cs)) (sym f) c.few;
      }

  -- the pair of the block is claimed, or is too many
  module _ (T0 T1 T2 : SetRows) (w0 w1 : ClaimList) (B X : List Pos) (t : Move) (j k : ℕ) (r : ℕ → Reason Key) (b : IsBlockedBy d T0 B t (j - 1) j (X, k) r) (sets : AddsSets T0 T1) (c : IsClaimList d T0 w0) where
    same : add_all (chess d) (pairs_in T1 w0.places.keys) (claimed (chess d) k X) ≡ add_all (chess d) (pairs_in T0 w0.places.keys) (behind_try (chess d) (j - 1) B t)
    same = let e = same_pairs T0 T1 w0.places.keys sets c.numbered in let f = sym b.adds in λ i. add_all (chess d) (e i) (f i)

    pub blocked : (place : ℕ) (y : Why) → why_of y ≡ r place → Claims d (Ok place) X k T1 T2 w0 w1 → Blocks d (Ok y) B j t T0 T2 w0 w1
    blocked place y e v =
        let qs = pairs_in T2 w1.places.keys in (
          adds_then T0 T1 T2 sets v.0,
          v.1,
          v.2.all ∙ same,
          subst (λ (o : Option (List Pos × ℕ)). IfSome o (λ q. In q qs)) (sym b.pair)
              (subst (In (X, k)) (sym v.2.all) (in_all (chess d) (chess_is_game d) (pairs_in T1 w0.places.keys) (claimed (chess d) k X) (X, k) (claimed_root (chess d) (chess_is_game d) k X b.some b.number))),
          e ∙ ap r v.2.at ∙ sym (b.reason qs),
        )
