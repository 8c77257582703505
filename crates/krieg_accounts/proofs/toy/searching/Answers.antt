use Rattle.std.proofs.Common.{◌≡◌, ◌+◌, ◌≤◌, ◌⊎◌, ℕ, true, [], ◌∷◌, Option, Some, None, refl, inl, inr, arith}
use Rattle.krieg_accounts.proofs.Common.{toy, known, CoversTry}
use Rattle.krieg_accounts.proofs.Searches.{empty_sound}
use Rattle.krieg_accounts.proofs.Stretches.{stretch_of_cut}
use Rattle.krieg_accounts.proofs.ToySearch as search
use Rattle.krieg_accounts.proofs.toy.searching.Goals as goal

pub returns-clause-by_hand : goal.returns-clause-by_hand
returns-clause-by_hand c = search.by_hand

pub returns-clause-forgetting : goal.returns-clause-forgetting
returns-clause-forgetting c = λ w. (let q : ◌≡◌ {A = Option (Option ℕ)} None (Some None) = w.kept (2 ∷ [], 1) None refl in absurd (cc))

pub returns-clause-another_set : goal.returns-clause-another_set
returns-clause-another_set c = search.another_set

pub returns-clause-a_cut_is_free : goal.returns-clause-a_cut_is_free
returns-clause-a_cut_is_free c = stretch_of_cut toy true (CoversTry toy (2 ∷ []) 2 0) [] 3 20 refl (empty_sound toy true)

pub returns-clause-a_split_is_not : goal.returns-clause-a_split_is_not
returns-clause-a_split_is_not c = λ w. (let e = w.exact refl in omega arith)

pub returns-clause-a_win_is_paid : goal.returns-clause-a_win_is_paid
returns-clause-a_win_is_paid c = λ w. go (w.won (0 ∷ [], 1) 0 refl)
  where
    go : (known toy [] (0 ∷ [], 1) ≡ Some (Some 0)) ⊎ (20 + 1 ≤ 20) → ⊥
    go (inl e) = let q : ◌≡◌ {A = Option (Option ℕ)} None (Some (Some 0)) = e in cc
    go (inr h) = omega arith

pub returns-clause-short : goal.returns-clause-short
returns-clause-short c = search.short

pub returns-clause-enough : goal.returns-clause-enough
returns-clause-enough c = search.enough
