-- One member more is gathered.
use Rattle.std.proofs.Common.{◌≡◌, ℕ, suc, ◌+◌, Bool, true, false, cond, not, ◌&&◌, ◌||◌, List, [], ◌∷◌, ◌++◌, length, Result, refl, ap, sym, ◌∙◌, append_assoc, arith}
use Rattle.std.proofs.Math.Bool.{or_assoc, or-false}
use Rattle.std.proofs.lemmas.List.{append-nil}
use Rattle.std.proofs.lemmas.Bool.{both_ways}
use Rattle.krieg_parting.proofs.Common.{Pos, is_legal, refused, stale_in_some, given, all_outcomes, chess, stalemates, outcome_set, Holds, Charges, replies, PartStop, is_wanted, IsAdded, IsGathered, Attempt, UnsortedParts}
use Rattle.krieg_game.proofs.Pools.{holds_grown, holds_all}
use Rattle.krieg_parting.proofs.Charges.{said}
use Rattle.krieg_parting.proofs.LastMoves.{given_length}
use Rattle.krieg_parting.proofs.Wanted.{wanted_before}

-- what was gathered, and what the rest adds, is all
pub record IsLeft (a : Attempt) (parts : UnsortedParts) (rest B : List Pos) : Type 0 where
  pub stale_part : (parts.stale || stale_in_some (chess a.dialect) rest a.mv) ≡ stale_in_some (chess a.dialect) B a.mv
  pub refused_part : is_wanted a.always parts.stale ≡ true → parts.refused.items ++ refused (chess a.dialect) rest a.mv ≡ refused (chess a.dialect) B a.mv
  pub pool_part : is_wanted a.always parts.stale ≡ true → Holds (parts.pool ++ all_outcomes (chess a.dialect) rest a.mv) (all_outcomes (chess a.dialect) B a.mv)

pub left_all : (a : Attempt) (parts : UnsortedParts) (B : List Pos) → parts.refused.items ≡ [] → parts.stale ≡ false → parts.pool ≡ [] → IsLeft a parts B B
left_all a parts B r s o = record {
  stale_part = ap (λ (b : Bool). b || stale_in_some (chess a.dialect) B a.mv) s;
  refused_part = λ e. ap (λ (xs : List Pos). xs ++ refused (chess a.dialect) B a.mv) r;
  pool_part = λ e. ap (λ xs. outcome_set (xs ++ all_outcomes (chess a.dialect) B a.mv)) o;
}

-- a list with what a test lets through of one position, in front of more
pub filtered_more : (b : Bool) (p : Pos) (xs rest : List Pos) → (xs ++ cond b (p ∷ []) []) ++ rest ≡ xs ++ cond b (p ∷ rest) rest
filtered_more true p xs rest = append_assoc xs (p ∷ []) rest
filtered_more false p xs rest = append_assoc xs [] rest

pub left_more : (a : Attempt) (old new : UnsortedParts) (p : Pos) (rest B : List Pos) → IsAdded a old new p → IsLeft a old (p ∷ rest) B → IsLeft a new rest B
left_more a old new p rest B n l =
    let t = a.mv in
    let g = chess a.dialect in
    record {
      stale_part = ap (λ (b : Bool). b || stale_in_some g rest t) n.stale_part ∙ or_assoc old.stale (is_legal p t && stalemates p t) (stale_in_some g rest t) ∙ l.stale_part;
      refused_part = λ e. ap (λ (xs : List Pos). xs ++ refused g rest t) (n.refused_part e) ∙ filtered_more (not (is_legal p t)) p old.refused.items (refused g rest t) ∙ l.refused_part (before e);
      pool_part = λ e. holds_grown new.pool old.pool (given g t p) (all_outcomes g rest t) (all_outcomes g B t) (n.pool_part e) (l.pool_part (before e));
    }
  where
    before : is_wanted a.always new.stale ≡ true → is_wanted a.always old.stale ≡ true
    before e = wanted_before a.always old.stale new.stale (is_legal p a.mv && stalemates p a.mv) n.stale_part e

pub left_none : (a : Attempt) (parts : UnsortedParts) (rest B : List Pos) → rest ≡ [] → IsLeft a parts rest B → IsGathered a B parts
left_none a parts [] B is l = record {
  stale_part = sym (or-false parts.stale) ∙ l.stale_part;
  refused_part = λ e. sym (append-nil parts.refused.items) ∙ l.refused_part e;
  pool_part = λ e. holds_all parts.pool (all_outcomes (chess a.dialect) B a.mv) (l.pool_part e);
}
left_none a parts (p ∷ rest) B is l = absurd cc

-- a member whose replies are only counted adds nothing that is wanted
pub counted : (a : Attempt) (parts : UnsortedParts) (p : Pos) (r : Result (Unit {0}) PartStop) (n old new : ℕ) → parts.stale ≡ true → a.always ≡ false → n ≡ replies a.mv p
    → Charges r (λ u. Unit {0}) (1 + n) old new → Charges r (λ u. IsAdded a parts parts p) (suc (length (given (chess a.dialect) a.mv p))) old new
counted a parts p r n old new s always e h =
    let same : suc (length (given (chess a.dialect) a.mv p)) ≡ 1 + n = omega (arith, given_length a.dialect a.mv p, e) in
    said r (λ u. Unit {0}) (λ u. IsAdded a parts parts p) (1 + n) (suc (length (given (chess a.dialect) a.mv p))) old new (λ u k. record {
      stale_part = s ∙ ap (λ (b : Bool). b || (is_legal p a.mv && stalemates p a.mv)) (sym s);
      refused_part = λ w. absurd (unwanted w);
      pool_part = λ w. absurd (unwanted w);
    }) same h
  where
    unwanted : is_wanted a.always parts.stale ≡ true → ⊥
    unwanted w = both_ways false refl (ap (λ (b : Bool). b || not true) (sym always) ∙ (ap (λ (b : Bool). a.always || not b) (sym s) ∙ w))
