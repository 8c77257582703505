-- The tries of a set, one after another.
use Rattle.std.proofs.Common.{Bool, ◌≡◌, ℕ, ◌+◌, ◌≤◌, ◌<◌, true, false, List, length, take, get_or, Option, Some, None, sym, subst, arith}
use Rattle.krieg_search.proofs.Common.{Pos, Move, Dialect, legal_in_some, tries, first_try, total, made, price, floor_price, IsBacked, CoversTry, CoversTries, LostBelow, chess, SetRows, entries, IsReady, IsSearched, TellsTry}
use Rattle.krieg_accounts.proofs.Covering.{covers_try}
use Rattle.krieg_accounts.proofs.TryWalk.{FailedTo, legal_at, first_here, first_none, price_here, price_none, price_within, price_more, failed_more, backed_here, backed_none}
use Rattle.krieg_game.proofs.ChessLaws.{chess_is_game}
use Rattle.krieg_search.proofs.Searching.{searched_nothing, searched_then}

module _ (d : Dialect) (cut : Bool) where
  -- the first k of the tries of the set have failed, and were split since the first of the two tables
  pub record IsTrying (T0 T : SetRows) (B : List Pos) (j : ℕ) (ts : List Move) (k u0 u : ℕ) : Type 0 where
    pub are : ts ≡ tries (chess d) B
    pub failed : FailedTo (chess d) (chess_is_game d) cut (entries T) B j ts k
    pub searched : IsSearched d cut (CoversTries (chess d) B j) (total (made (chess d) B) (take k ts)) T0 T u0 u

  pub none_tried : (T : SetRows) (B : List Pos) (j : ℕ) (ts : List Move) (u : ℕ) → ts ≡ tries (chess d) B → IsReady d cut T → IsTrying T T B j ts 0 u u
  none_tried T B j ts u are r = record { are = are; failed = λ t i. absurd i; searched = searched_nothing d cut (CoversTries (chess d) B j) T u r }

  module _ {T0 T1 : SetRows} {B : List Pos} {j : ℕ} {ts : List Move} {k : ℕ} {t : Move} {u0 u1 : ℕ} (at : (k < length ts) × (t ≡ get_or ts k t)) (a : IsTrying T0 T1 B j ts k u0 u1) where
    pub next_legal : legal_in_some (chess d) B t ≡ true
    next_legal = legal_at (chess d) (chess_is_game d) B j ts a.are k t at.0 at.1

    pub next_covers : (R : List (List Pos × ℕ)) → CoversTries (chess d) B j R → CoversTry (chess d) B j t R
    next_covers = covers_try (chess d) B j t next_legal

    -- all tries cost at least those up to this one
    pub next_within : total (made (chess d) B) (take k ts) + made (chess d) B t ≤ price (chess d) B
    next_within = price_within (chess d) (chess_is_game d) B j ts a.are k t at.0 at.1

    module _ {T2 : SetRows} {u2 : ℕ} (s : IsSearched d cut (CoversTry (chess d) B j t) (made (chess d) B t) T1 T2 u1 u2) where
      after : (all : ℕ) → total (made (chess d) B) (take k ts) + made (chess d) B t ≡ all → IsSearched d cut (CoversTries (chess d) B j) all T0 T2 u0 u2
      after all p = searched_then d cut (CoversTries (chess d) B j) (CoversTry (chess d) B j t) (total (made (chess d) B) (take k ts)) (made (chess d) B t) all T0 T1 T2 u0 u1 u2 next_covers a.searched p s

      -- this one does not begin to win
      pub fails : TellsTry d cut T2 B j t false → IsTrying T0 T2 B j ts (k + 1) u0 u2
      fails w = record {
        are = a.are;
        failed = failed_more (chess d) (chess_is_game d) B j ts a.are cut (entries T1) (entries T2) k t at.0 at.1 s.stretch.kept a.failed (sym w.right) w.stored;
        searched = after (total (made (chess d) B) (take (k + 1) ts)) (price_more (chess d) (chess_is_game d) B j ts a.are k t at.0 at.1);
      }

      -- it does: it is the first
      module _ (w : TellsTry d cut T2 B j t true) where
        pub win_first : ◌≡◌ {A = Option Move} (Some t) (first_try (chess d) j B)
        win_first = first_here (chess d) (chess_is_game d) B j ts a.are cut (entries T1) k t at.0 at.1 a.failed (sym w.right)

        pub win_searched : IsSearched d cut (CoversTries (chess d) B j) (floor_price (chess d) (B, j)) T0 T2 u0 u2
        win_searched = after (floor_price (chess d) (B, j)) (price_here (chess d) (chess_is_game d) B j ts a.are cut (entries T1) k t at.0 at.1 a.failed (sym w.right))

        -- its split was paid
        pub win_paid : u2 + made (chess d) B t ≤ u1 → u2 + made (chess d) B t ≤ u0
        win_paid p = let f = a.searched.stretch.fewer in omega arith

        pub win_backed : 0 < j → LostBelow (chess d) (entries T0) B j → IsBacked (chess d) cut (entries T2) B j (Some t)
        win_backed some below = backed_here (chess d) (chess_is_game d) B j ts a.are cut (entries T1) (entries T2) k t some at.0 at.1 s.stretch.kept (λ i p q. win_searched.stretch.kept (B, i) None (below i p q)) a.failed w.stored

  -- no try is left: the set cannot be won
  module _ {T0 T : SetRows} {B : List Pos} {j : ℕ} {ts : List Move} {k u0 u : ℕ} (l : length ts ≤ k) (a : IsTrying T0 T B j ts k u0 u) where
    pub loss_first : ◌≡◌ {A = Option Move} None (first_try (chess d) j B)
    loss_first = first_none (chess d) (chess_is_game d) B j ts a.are cut (entries T) k l a.failed

    pub loss_searched : IsSearched d cut (CoversTries (chess d) B j) (floor_price (chess d) (B, j)) T0 T u0 u
    loss_searched = subst (λ (n : ℕ). IsSearched d cut (CoversTries (chess d) B j) n T0 T u0 u) (price_none (chess d) (chess_is_game d) B j ts a.are cut (entries T) k l a.failed) a.searched

    pub loss_backed : 0 < j → LostBelow (chess d) (entries T0) B j → IsBacked (chess d) cut (entries T) B j None
    loss_backed some below = backed_none (chess d) (chess_is_game d) B j ts a.are cut (entries T) k some l (λ i p q. a.searched.stretch.kept (B, i) None (below i p q)) a.failed
