-- Sets come to a table, and no result: what it says of others stays.
use Rattle.std.proofs.Common.{Bool, ◌≡◌, ℕ, ◌<◌, ◌^◌, false, List, Some, refl, sym, subst, ◌∙◌}
use Rattle.krieg_search.proofs.Common.{Pos, Dialect, IsSound, charged, chess, SetRows, AreCounted, IsNumbered, AddsSets, IsPaidFor, stored, position_lt}
use Rattle.krieg_search.proofs.Searching.{more_itself, more_then}

-- only sets come
pub adds_nothing : (T : SetRows) → AreCounted T → AddsSets T T
adds_nothing T c = record { counted = c; more = more_itself T; noted = refl }

pub adds_then : (T0 T1 T2 : SetRows) → AddsSets T0 T1 → AddsSets T1 T2 → AddsSets T0 T2
adds_then T0 T1 T2 a b = record { counted = b.counted; more = more_then T0 T1 T2 a.more b.more; noted = b.noted ∙ a.noted }

pub adds_number : (T0 T1 : SetRows) (B : List Pos) (set : ℕ) → IsNumbered T0 T1 B set → AddsSets T0 T1
adds_number T0 T1 B set n = record { counted = n.counted; more = n.interned.more; noted = n.interned.noted }

module _ (d : Dialect) where
  pub still_paid : {cut : Bool} (T T' : SetRows) → AddsSets T T' → IsPaidFor d cut T → IsPaidFor d cut T'
  still_paid {cut = cut} T T' a p = record {
    ready = record { counted = a.counted; sound = subst (λ E. IsSound (chess d) cut E) (sym a.noted) p.ready.sound };
    paid = subst (λ E. cut ≡ false → charged (chess d) E < 2 ^ 64) (sym a.noted) p.paid;
    wins = λ q m k. p.wins q m (subst (λ E. stored position_lt E q ≡ Some (Some m)) a.noted k);
  }
