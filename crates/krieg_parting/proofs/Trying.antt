-- One member more was tried.
use Rattle.std.proofs.Common.{◌≡◌, Bool, true, false, ◌||◌, List, [], ◌∷◌, ◌++◌, filter, ap, sym, ◌∙◌}
use Rattle.std.proofs.Math.Bool.{or_assoc, or-false}
use Rattle.std.proofs.lemmas.List.{append-nil}
use Rattle.std.specs.List.{list_any}
use Rattle.krieg_parting.proofs.Common.{Pos, Move, lives, refuses, IsTried, AreTried, is_wanted, Mating}
use Rattle.krieg_parting.proofs.Gathering.{filtered_more}
use Rattle.krieg_parting.proofs.Wanted.{wanted_before}

-- what was found, and what the rest adds, is all
pub record IsLeft (always : Bool) (found : Mating) (rest B : List Pos) (t : Move) : Type 0 where
  pub lives_part : (found.lives || list_any (lives t) rest) ≡ list_any (lives t) B
  pub refused_part : is_wanted always found.lives ≡ true → found.refused.items ++ filter (refuses t) rest ≡ filter (refuses t) B

pub left_all : (always : Bool) (found : Mating) (B : List Pos) (t : Move) → found.lives ≡ false → found.refused.items ≡ [] → IsLeft always found B B t
left_all always found B t l r = record {
  lives_part = ap (λ (b : Bool). b || list_any (lives t) B) l;
  refused_part = λ e. ap (λ (xs : List Pos). xs ++ filter (refuses t) B) r;
}

pub left_more : (always : Bool) (old new : Mating) (p : Pos) (rest B : List Pos) (t : Move) → IsTried always old new p t → IsLeft always old (p ∷ rest) B t → IsLeft always new rest B t
left_more always old new p rest B t a l = record {
  lives_part = ap (λ (b : Bool). b || list_any (lives t) rest) a.lives_part ∙ or_assoc old.lives (lives t p) (list_any (lives t) rest) ∙ l.lives_part;
  refused_part = λ e.
      ap (λ (xs : List Pos). xs ++ filter (refuses t) rest) (a.refused_part e)
      ∙ filtered_more (refuses t p) p old.refused.items (filter (refuses t) rest)
      ∙ l.refused_part (wanted_before always old.lives new.lives (lives t p) a.lives_part e);
}

pub left_none : (always : Bool) (found : Mating) (rest B : List Pos) (t : Move) → rest ≡ [] → IsLeft always found rest B t → AreTried always B t found
left_none always found [] B t is l = record {
  lives_part = sym (or-false found.lives) ∙ l.lives_part;
  refused_part = λ e. sym (append-nil found.refused.items) ∙ l.refused_part e;
}
left_none always found (p ∷ rest) B t is l = absurd cc
