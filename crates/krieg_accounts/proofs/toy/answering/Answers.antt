use Rattle.std.proofs.Common.{[], ◌∷◌, length, inl, refl}
use Rattle.krieg_accounts.proofs.Common.{toy, toy_start, openings, opening_set, StoredWon, of_two}
use Rattle.krieg_accounts.proofs.ToyTables.{all_of, not_won}
use Rattle.krieg_accounts.proofs.toy.answering.Goals as goal

pub returns-clause-won : goal.returns-clause-won
returns-clause-won c = record {
  all_won = λ w. all_of (λ key. StoredWon toy of_two (opening_set toy toy_start (2 ∷ []) key)) (openings toy toy_start (2 ∷ [])) ((2, 0, refl), tt);
  one_lost = λ o n. tt;
}

pub returns-clause-one_opening_of_two : goal.returns-clause-one_opening_of_two
returns-clause-one_opening_of_two c = λ a. not_won (λ X. length X) of_two (0 ∷ 1 ∷ []) refl (a.all_won refl 1 (inl refl))
