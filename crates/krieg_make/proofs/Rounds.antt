-- The tries of a session, round by round.
use Rattle.std.proofs.Common.{◌≡◌, ℕ, ◌+◌, [], ◌++◌, refl, add-one}
use Rattle.krieg_make.proofs.Common.{made_tries, round_of}

pub no_rounds : (s : ℕ) → made_tries s 0 ≡ []
unfolding made_tries
no_rounds s = refl

pub one_round_more : (s m : ℕ) → made_tries s (m + 1) ≡ made_tries s m ++ round_of s m
unfolding made_tries
one_round_more s m = rw add-one refl

pub ruleset rounds = (no_rounds, one_round_more)
