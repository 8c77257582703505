use Rattle.std.proofs.Common.{◌≡◌, ℕ, suc, [], ◌∷◌, inl, inr, Option, Some, None, refl, arith}
use Rattle.krieg_accounts.proofs.Common.{total, lost_within, won_within}
use Rattle.krieg_accounts.proofs.ToyTables.{not_won, two_sound, five_sound, cut_sound}
use Rattle.krieg_accounts.proofs.toy.standing.Goals as goal

pub returns-clause-won : goal.returns-clause-won
returns-clause-won c = two_sound

pub returns-clause-lost : goal.returns-clause-lost
returns-clause-lost c = five_sound

pub returns-clause-a_later_try : goal.returns-clause-a_later_try
returns-clause-a_later_try c = λ s. (let q : ◌≡◌ {A = Option ℕ} (Some 2) (Some 1) = s.right (8 ∷ []) 1 (Some 2) refl in absurd (cc))

pub returns-clause-lost_for_more : goal.returns-clause-lost_for_more
returns-clause-lost_for_more c = λ s. (let q : ◌≡◌ {A = Option ℕ} None (Some 0) = s.right (2 ∷ []) 2 None refl in absurd (cc))

pub returns-clause-number_nought : goal.returns-clause-number_nought
returns-clause-number_nought c = λ s. (let b = (s.backed (0 ∷ []) 0 None refl).some in absurd (omega arith))

pub returns-clause-smaller_number_is_missing : goal.returns-clause-smaller_number_is_missing
returns-clause-smaller_number_is_missing c = λ s. (let q : ◌≡◌ {A = Option (Option ℕ)} None (Some None) = (s.backed (2 ∷ []) 2 (Some 0) refl).below 1 (omega arith) (omega arith) in absurd (cc))

pub returns-clause-class_is_missing : goal.returns-clause-class_is_missing
returns-clause-class_is_missing c = λ s.
    not_won (λ X. total (λ n. n) X) (lost_within (2 ∷ []) 1 ∷ won_within (0 ∷ []) 1 0 ∷ won_within (2 ∷ []) 2 0 ∷ []) (1 ∷ []) refl ((s.backed (2 ∷ []) 2 (Some 0) refl).classes 0 refl 1 (inr (inl refl)))

pub returns-clause-refused_part_is_missing : goal.returns-clause-refused_part_is_missing
returns-clause-refused_part_is_missing c = λ s. not_won (λ X. total (λ n. suc n) X) (won_within (0 ∷ 1 ∷ []) 1 0 ∷ []) (1 ∷ []) refl ((s.backed (0 ∷ 1 ∷ []) 1 (Some 0) refl).refused_part 0 refl refl)

pub returns-clause-block_is_cut : goal.returns-clause-block_is_cut
returns-clause-block_is_cut c = cut_sound

pub returns-clause-smaller_number_is_cut : goal.returns-clause-smaller_number_is_cut
returns-clause-smaller_number_is_cut c = λ s. (let q : ◌≡◌ {A = Option (Option ℕ)} None (Some None) = (s.backed (0 ∷ 5 ∷ []) 2 None refl).below 1 (omega arith) (omega arith) in absurd (cc))

pub returns-clause-block_is_missing : goal.returns-clause-block_is_missing
returns-clause-block_is_missing c = λ s. (let q : ◌≡◌ {A = Option (Option ℕ)} None (Some None) = (s.backed (0 ∷ 5 ∷ []) 2 None refl).earlier refl 0 refl tt in absurd (cc))
