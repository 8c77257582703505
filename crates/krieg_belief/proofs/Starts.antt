-- The positions that are possible before the entries are those in which a hidden game may begin.
use Rattle.std.proofs.Common.{[], List, refl, sym, subst}
use Rattle.std.specs.List.{Contains}
use Rattle.krieg_belief.proofs.Common.{Pos, SheetState, OpensWith, In, IsAscending, IsPossible, prefix}

-- the listed positions with the opening words, each once, in order
pub record AreStarts (s : SheetState) (ps : List Pos) : Type 0 where
  pub ascending : IsAscending ps
  pub listed : (p : Pos) → In p ps → Contains s.list p
  pub opens : (p : Pos) → In p ps → OpensWith s.dialect s.opens p
  pub all : (p : Pos) → Contains s.list p → OpensWith s.dialect s.opens p → In p ps

pub are_starts : (s : SheetState) (ps : List Pos) → IsPossible (prefix s 1) ps → AreStarts s ps
are_starts s ps h = record {
  ascending = h.ascending;
  listed = λ p i. let c = (h.exact p).0 i in subst (Contains s.list) (sym c.gives.1) c.is_listed;
  opens = λ p i. let c = (h.exact p).0 i in subst (OpensWith s.dialect s.opens) (sym c.gives.1) c.opens;
  all = λ p l o. (h.exact p).1 (record { start = p; replies = []; is_listed = l; opens = o; gives = (refl, refl) });
}
