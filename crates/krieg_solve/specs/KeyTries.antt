-- The keys of a list of positions: of each opening set the tries with which as few moves are enough as with any.
use Rattle.std.specs.Prelude.{◌≡◌, ℕ, ◌+◌, ◌<◌, ◌≤◌, true, not, List, map, Result, Ok, Err, ⊤}
use Rattle.std.specs.List.{filter}
use Rattle.krieg_board.specs.Pos.{Pos}
use Rattle.krieg_board.specs.declared.men.Move.{Move}
use Rattle.krieg_board.specs.declared.men.Side.{Side}
use Rattle.krieg_words.specs.declared.dialects.Dialect.{Dialect}
use Rattle.krieg_theory.specs.Sets.{is_nil}
use Rattle.krieg_theory.specs.Split.{refused, tries}
use Rattle.krieg_theory.specs.Can.{begins, least}
use Rattle.krieg_theory.specs.Plans.{can_plan, canon_worst}
use Rattle.krieg_costs.specs.Reach.{fresh}
use Rattle.krieg_game.specs.Keys.{RootKey}
use Rattle.krieg_game.specs.Chess.{chess}
use Rattle.krieg_game.specs.Outset.{outset}
use Rattle.krieg_game.specs.ClassLaws.{opening_sets}
use Rattle.krieg_solve.specs.declared.keys.KeyTry.{KeyTry}
use Rattle.krieg_solve.specs.declared.keys.KeysAt.{KeysAt}
use Rattle.krieg_solve.specs.declared.keys.Keys.{Keys}
use Rattle.krieg_solve.specs.declared.keys.KeyAnswer.{KeyAnswer}
use Rattle.krieg_solve.specs.declared.keys.KeyAnswer.TheVariants.{Found, None}
use Rattle.krieg_search.specs.declared.stop.SearchStop.{SearchStop}
use Rattle.krieg_search.specs.declared.stop.SearchStop.TheVariants.{Spent, Large, NoMemory}
use Rattle.krieg_solve.specs.Solutions.{NoneMates}

-- what is told of one opening: what is heard, the least number of moves, and the keys
abbrev pub Told : Type 0
Told = RootKey × (ℕ × List KeyTry)

-- and what the code has of it
abbrev pub told_of : KeysAt → Told
told_of r = ((r.opens, r.heard), (r.least, r.tries.items))

module _ (d : Dialect) where
  -- a try, and whether some member of the set refuses it
  abbrev pub key_try : List Pos → Move → KeyTry
  key_try B t = record { mv = t; may_be_refused = not (is_nil (refused (chess d) B t)) }

  -- the tries that are legal in some member and begin a win of all within j, in their order
  abbrev pub key_tries : ℕ → List Pos → List KeyTry
  key_tries j B = map (key_try B) (filter (begins (chess d) j B) (tries (chess d) B))

  -- what is to be told of an opening set that can be won within n: its least number, and the keys with that
  abbrev pub keys_of : ℕ → RootKey × List Pos → Told
  keys_of n c = (c.0, (least (chess d) n c.1, key_tries (least (chess d) n c.1) c.1))

module _ (d : Dialect) (who : Side) (S : List Pos) (n : ℕ) where
  -- some plan mates within n; these are the keys of each opening that occurs, and that is the worst case of the best plan
  pub record AreKeys (keys : Keys) : Type 0 where
    pub can : can_plan (chess d) (outset d who) n S ≡ true
    pub roots : map told_of keys.roots.items ≡ map (keys_of d n) (opening_sets d who S)
    pub worst : keys.worst ≡ canon_worst (chess d) (outset d who) n S

  -- What each answer says. The first two exclude each other, so each comes exactly where it holds and nothing was wanting.
  abbrev pub IsKeyAnswer : Result KeyAnswer SearchStop → Type 0
  IsKeyAnswer (Ok (Found keys)) = AreKeys keys
  IsKeyAnswer (Ok None) = NoneMates d who S n
  IsKeyAnswer (Err Spent) = ⊤
  IsKeyAnswer (Err Large) = ⊥
  IsKeyAnswer (Err NoMemory) = ⊤

  -- An answer takes at most what is fresh, and Spent comes only where fewer units are left than that.
  abbrev pub IsTaken : Result KeyAnswer SearchStop → ℕ → ℕ → Type 0
  IsTaken (Ok a) had has = (has ≤ had) × (had ≤ has + fresh (chess d) (outset d who) n S)
  IsTaken (Err Spent) had has = had < fresh (chess d) (outset d who) n S
  IsTaken (Err Large) had has = ⊥
  IsTaken (Err NoMemory) had has = ⊤

  -- the same, and an error takes none
  abbrev pub IsWithinFresh : Result KeyAnswer SearchStop → ℕ → ℕ → Type 0
  IsWithinFresh (Ok a) had has = (has ≤ had) × (had ≤ has + fresh (chess d) (outset d who) n S)
  IsWithinFresh (Err Spent) had has = (had < fresh (chess d) (outset d who) n S) × (has ≡ had)
  IsWithinFresh (Err Large) had has = ⊥
  IsWithinFresh (Err NoMemory) had has = has ≡ had
