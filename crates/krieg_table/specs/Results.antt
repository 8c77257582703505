-- What is known of one set: with how many own moves it is lost, and with how many it is won, by which try.
use Rattle.std.specs.Prelude.{◌≡◌, ℕ, zero, suc, ◌<◌, ◌==◌, nat_le, Option, Some, None, IfSome, if◌then◌else◌}
use Rattle.krieg_table.specs.declared.set_result.SetResult.{SetResult}
use Rattle.krieg_table.specs.declared.set_result.SetResult.TheVariants.{Wins, Loses}
use Rattle.krieg_table.specs.declared.set_result.Win.{Win}

-- the set is lost with each number of moves from 1 to the first, and won with another, where that is known
pub record Results : Type 0 where
  pub lost : ℕ
  pub won : Option Win

-- nothing is known, whatever the number of moves
abbrev pub nothing : Results
nothing = record { lost = 0; won = None }

-- what a win says of a number of moves: nothing but of its own
abbrev pub won_for : Option Win → ℕ → Option SetResult
won_for None n = None
won_for (Some w) n = if w.moves == n then Some (Wins w.mv) else None

-- what is known for a number of moves: nothing for 0
abbrev pub known_for : Results → ℕ → Option SetResult
known_for rs zero = None
known_for rs (suc i) = if nat_le (suc i) rs.lost then Some Loses else won_for rs.won (suc i)

-- the results with one for a number of moves put in
abbrev pub with_known : Results → ℕ → SetResult → Results
with_known rs n Loses = record { lost = n; won = rs.won }
with_known rs n (Wins t) = record { lost = rs.lost; won = Some (record { moves = n; mv = t }) }

-- a set is lost with fewer moves than it is won with
abbrev pub AreResults : Results → Type 0
AreResults rs = IfSome rs.won (λ w. rs.lost < w.moves)

-- The result may follow. A loss comes one number after the other, and none where a win is known; a win comes above all losses, and once.
abbrev pub Follows : Results → ℕ → SetResult → Type 0
Follows rs n Loses = (n ≡ suc rs.lost) × (won_for rs.won n ≡ None)
Follows rs n (Wins t) = (rs.lost < n) × (rs.won ≡ None)
