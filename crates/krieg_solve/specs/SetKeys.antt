-- The keys of sets by their numbers, and what they take.
use Rattle.std.specs.Prelude.{◌≡◌, ℕ, Bool, List, [], ◌∷◌, map, if◌then◌else◌, Result}
use Rattle.krieg_board.specs.Pos.{Pos}
use Rattle.krieg_board.specs.declared.men.Move.{Move}
use Rattle.krieg_words.specs.declared.dialects.Dialect.{Dialect}
use Rattle.krieg_theory.specs.Split.{tries}
use Rattle.krieg_theory.specs.Can.{begins, least}
use Rattle.krieg_theory.specs.Plans.{greatest}
use Rattle.krieg_costs.specs.Sums.{total}
use Rattle.krieg_costs.specs.Cost.{made}
use Rattle.krieg_accounts.specs.Stretch.{CoversTry}
use Rattle.krieg_game.specs.Keys.{RootKey}
use Rattle.krieg_game.specs.Chess.{chess}
use Rattle.krieg_table.specs.SetRows.{SetRows, set_at}
use Rattle.krieg_solve.specs.declared.keys.KeyTry.{KeyTry}
use Rattle.krieg_solve.specs.declared.keys.Keys.{Keys}
use Rattle.krieg_search.specs.declared.openings.Opening.{Opening}
use Rattle.krieg_solve.specs.declared.set_keys.SetKeys.{SetKeys}
use Rattle.krieg_search.specs.declared.search.Search.{Search}
use Rattle.krieg_search.specs.declared.stop.SearchStop.{SearchStop}
use Rattle.krieg_search.specs.declared.way.Way.{Way}
use Rattle.krieg_solve.specs.KeyTries.{told_of, key_tries, keys_of}
use Rattle.krieg_search.specs.Stretches.{Searches}

-- the numbers of the sets of openings
abbrev pub numbers_of : List Opening → List ℕ
numbers_of os = map (λ o. o.set) os

-- all behind the first that passes; none where none does
abbrev pub behind : {X : Type 0} → (X → Bool) → List X → List X
behind f [] = []
behind f (x ∷ xs) = if f x then xs else behind f xs

-- what the code has of a set: its number, its least number of moves, and its keys
abbrev pub told_set : SetKeys → ℕ × (ℕ × List KeyTry)
told_set k = (k.set, (k.least, k.tries.items))

module _ (d : Dialect) where
  -- what the splits of the tries take that stand behind the first that wins
  abbrev pub later_price : List Pos × ℕ → ℕ
  later_price q = total (made (chess d) q.0) (behind (begins (chess d) q.1 q.0) (tries (chess d) q.0))

  -- what the look at the next try of a set takes, behind the keys that are found: nothing before there is one
  abbrev pub look_price : List KeyTry → List Pos → Move → ℕ
  look_price [] B t = 0
  look_price (k ∷ ks) B t = made (chess d) B t

  module _ (n : ℕ) where
    -- the set with a number, and its least number of moves
    abbrev pub least_pair : SetRows → ℕ → List Pos × ℕ
    least_pair T s = (set_at T s, least (chess d) n (set_at T s))

    -- what is to be told of the set with a number
    abbrev pub set_keys : SetRows → ℕ → ℕ × (ℕ × List KeyTry)
    set_keys T s = (s, (least (chess d) n (set_at T s), key_tries d (least (chess d) n (set_at T s)) (set_at T s)))

    -- these are the keys of the sets with these numbers
    abbrev pub AreSetKeys : SetRows → List ℕ → List SetKeys → Type 0
    AreSetKeys T sets found = map told_set found ≡ map (set_keys T) sets

    -- these are the keys of the openings, and the greatest of their least numbers
    pub record AreKeysAt (cs : List (RootKey × List Pos)) (keys : Keys) : Type 0 where
      pub roots : map told_of keys.roots.items ≡ map (keys_of d n) cs
      pub worst : keys.worst ≡ greatest (λ (c : RootKey × List Pos). least (chess d) n c.1) cs

-- whether the next try begins to win the set with a number within j, behind the keys that are found, by a stretch of the search
abbrev pub LooksAt : Way → ℕ → ℕ → Move → List KeyTry → Result Bool SearchStop → Search → Search → Type 0
LooksAt way set j t keys r s s' =
    Searches way r (λ yes. yes ≡ begins (chess way.d) j (set_at s.table set) t)
    (CoversTry (chess way.d) (set_at s.table set) j t) (look_price way.d keys (set_at s.table set) t) s s'
