-- What a search leaves in the table where it answers.
use Rattle.std.specs.Prelude.{◌≡◌, ℕ, ◌<◌, Bool, true, false, not, List, map, find, IfSome}
use Rattle.std.specs.List.{list_any}
use Rattle.krieg_theory.specs.Sets.{In, is_nil}
use Rattle.krieg_theory.specs.Game.{Game}
use Rattle.krieg_theory.specs.Split.{refused, keys, class}
use Rattle.krieg_theory.specs.Can.{can}
use Rattle.krieg_theory.specs.Plans.{Outset, openings, opening_set, is_over, can_plan}
use Rattle.krieg_costs.specs.Block.{block_pair}
use Rattle.krieg_costs.specs.Backing.{first_lost}
use Rattle.krieg_accounts.specs.Sound.{Table, StoredLost, StoredWon}

module _ (G : Game) where
  -- the classes of a try, in the order of what is heard
  abbrev pub classes : List G.Position → G.Move → List (List G.Position)
  classes B t = map (λ key. class G B t key) (keys G B t)

  -- with every number from 1 to below j the set is stored as lost
  abbrev pub LostBelow : Table G → List G.Position → ℕ → Type 0
  LostBelow T B j = (i : ℕ) → 0 < i → i < j → StoredLost G T (B, i)

  -- whether the set can be won within j: it is stored as won, or as lost with j
  pub record AnswersSet (T : Table G) (B : List G.Position) (j : ℕ) (yes : Bool) : Type 0 where
    pub won : yes ≡ true → StoredWon G T B
    pub lost : yes ≡ false → 0 < j → StoredLost G T (B, j)

  -- whether the try begins a node that wins: its parts are stored as won, or, where tries may not be cut, the pair of
  -- its block as lost
  pub record AnswersTry (cut : Bool) (T : Table G) (B : List G.Position) (j : ℕ) (t : G.Move) (yes : Bool) : Type 0 where
    pub classes : yes ≡ true → (key : G.Key) → In key (keys G B t) → StoredWon G T (class G B t key)
    pub refused_part : yes ≡ true → is_nil (refused G B t) ≡ false → StoredWon G T (refused G B t)
    pub blocked : cut ≡ false → yes ≡ false → IfSome (block_pair G j B t) (λ q. StoredLost G T q)

  -- whether all of the sets can be won within j: each is stored as won, or the first that cannot be as lost with j
  pub record AnswersSets (T : Table G) (Cs : List (List G.Position)) (j : ℕ) (yes : Bool) : Type 0 where
    pub won : yes ≡ true → (C : List G.Position) → In C Cs → StoredWon G T C
    pub lost : yes ≡ false → IfSome (find (λ C. not (can G j C)) Cs) (λ C. 0 < j → StoredLost G T (C, j))

module _ (G : Game) (O : Outset G) where
  -- the opening sets, in the order of what may be heard
  abbrev pub opening_sets : List G.Position → List (List G.Position)
  opening_sets S = map (opening_set G O S) (openings G O S)

  -- whether some plan mates within n: each opening set is stored as won, or the first that cannot be won as lost with n
  pub record AnswersPlan (T : Table G) (n : ℕ) (S : List G.Position) : Type 0 where
    pub all_won : can_plan G O n S ≡ true → (key : O.Root) → In key (openings G O S) → StoredWon G T (opening_set G O S key)
    pub one_lost : list_any (is_over G O) S ≡ false → 0 < n → IfSome (first_lost G O n S) (λ key. StoredLost G T (opening_set G O S key, n))
