-- What `keys` answers to a sheet: for each thing that may be heard before the first own turn, each try with which as few own moves
-- are enough as with any; or that no plan mates within the moves that were asked.
use Rattle.std.specs.Prelude.{◌≡◌, ◌⊎◌, ◌↔◌, ℕ, ◌<◌, ◌≤◌, Bool, true, false, All, List, [], ◌∷◌, ◌++◌, length, map, flat_map, Result, Ok, Err, codes, if◌then◌else◌}
use Rattle.krieg_board.specs.Order.{move_lt}
use Rattle.krieg_board.specs.Pos.{Pos}
use Rattle.krieg_board.specs.declared.men.Move.{Move}
use Rattle.krieg_board.specs.declared.men.Side.{Side}
use Rattle.krieg_text.specs.Decimals.{number_text}
use Rattle.krieg_text.specs.Writing.{Pieces, alone, put_lines}
use Rattle.krieg_fen.specs.ListText.{listing_lines}
use Rattle.krieg_fen.specs.MoveText.{move_text}
use Rattle.krieg_moves.specs.Legal.{is_legal}
use Rattle.krieg_wordtext.specs.Versions.{dialect_line}
use Rattle.krieg_words.specs.declared.dialects.Dialect.{Dialect}
use Rattle.krieg_theory.specs.Sets.{In, Ascending}
use Rattle.krieg_theory.specs.Split.{legal_in_some}
use Rattle.krieg_theory.specs.Tree.{Try, Maybe, Edges}
use Rattle.krieg_theory.specs.Wins.{WinsAll}
use Rattle.krieg_theory.specs.Canonical.{IsLeast}
use Rattle.krieg_theory.specs.Plans.{openings, opening_set}
use Rattle.krieg_game.specs.Keys.{Key}
use Rattle.krieg_game.specs.Chess.{chess}
use Rattle.krieg_game.specs.Outset.{outset}
use Rattle.krieg_plan.specs.Trees.{PlanTrees}
use Rattle.krieg_planfile.specs.PlanText.{root_line, worst_line, count_line}
use Rattle.krieg_solve.specs.KeyTries.{Told}
use Rattle.krieg_solve.specs.declared.keys.KeyTry.{KeyTry}
use Rattle.krieg_outcome.specs.Refute.{SomeMates}
use Rattle.krieg_outcome.specs.Solve.{mates_all, NoneMates, none_text, fresh_units}
use Rattle.krieg_outcome.specs.declared.refusal.Refusal.{Refusal}
use Rattle.krieg_outcome.specs.declared.refusal.Refusal.TheVariants.{BudgetSpent}

-- ---- the text

-- what stands behind a try: that some position refuses it, or nothing
abbrev pub refusal_text : Bool → List ℕ
refusal_text refused = if refused then codes " no" else []

-- the line of a try
abbrev pub try_line : KeyTry → Pieces
try_line k = move_text k.mv ∷ refusal_text k.may_be_refused ∷ []

-- the least number of own moves, and how many tries are as fast
abbrev pub least_line : ℕ → ℕ → Pieces
least_line least tries = codes "least " ∷ number_text least ∷ codes " tries " ∷ number_text tries ∷ []

-- what is heard, that line, and the tries
abbrev pub heard_lines : Dialect → Told → List Pieces
heard_lines d r = root_line d r.0 ∷ least_line r.1.0 (length r.1.1) ∷ map try_line r.1.1

-- behind the positions: the worst case, what may be heard, and `end`
abbrev pub told_lines : Dialect → ℕ → List Told → List Pieces
told_lines d worst roots = worst_line worst ∷ count_line (length roots) ∷ (flat_map (heard_lines d) roots ++ alone (codes "end") ∷ [])

-- version and dialect, side and positions, and what is told of them
abbrev pub keys_lines : Dialect → Side → List Pos → ℕ → List Told → List Pieces
keys_lines d who S worst roots = alone (codes "krieg keys 1") ∷ alone (dialect_line d) ∷ (listing_lines who S ++ told_lines d worst roots)

-- a line feed stands after every line
unfoldable pub keys_text : Dialect → Side → List Pos → ℕ → List Told → List ℕ
keys_text d who S worst roots = put_lines [] (keys_lines d who S worst roots)

-- ---- the keys

-- some tree that begins with the try wins all of the set within j own moves
abbrev pub Begins : Dialect → List Pos → ℕ → Move → Type 0
Begins d B j t = (other : Maybe Move Key) × (es : Edges Move Key) × WinsAll (chess d) (Try t other es) B j

-- The keys of a set: j is the least number of own moves within which some tree wins all of it. The tries are exactly those that are
-- legal in some member and begin such a tree, ascending, and each says whether some member refuses it.
pub record AreSetKeys (d : Dialect) (B : List Pos) (j : ℕ) (tries : List KeyTry) : Type 0 where
  pub least : IsLeast (chess d) B j
  pub exact : (t : Move) → In t (map (λ k. k.mv) tries) ↔ ((legal_in_some (chess d) B t ≡ true) × Begins d B j t)
  pub ascending : Ascending move_lt (map (λ k. k.mv) tries)
  pub refused : (k : KeyTry) → In k tries → (k.may_be_refused ≡ true) ↔ ((p : Pos) × In p B × (is_legal p k.mv ≡ false))

module _ (d : Dialect) (who : Side) (S : List Pos) where
  -- what is told of the set that is possible once that was heard
  abbrev pub AreKeysAt : Told → Type 0
  AreKeysAt r = AreSetKeys d (opening_set (chess d) (outset d who) S r.0) r.1.0 r.1.1

  -- The answer is the text of the keys of everything that may be heard before the first own turn, ascending. Some plan mates from
  -- each of the positions within the worst case that it states, which is at most n, and no plan mates within fewer.
  pub record IsKeysText (n : ℕ) (answer : List ℕ) : Type 0 where
    pub worst : ℕ
    pub roots : List Told
    pub text : answer ≡ keys_text d who S worst roots
    pub heard : map (λ r. r.0) roots ≡ openings (chess d) (outset d who) S
    pub keys : All AreKeysAt roots
    pub mates : SomeMates d who S worst
    pub within : worst ≤ n
    pub least : (plan : PlanTrees) (k : ℕ) → mates_all d who S plan k ≡ true → worst ≤ k

  -- that text, or the line that no plan mates
  abbrev pub TellsKeys : ℕ → List ℕ → Type 0
  TellsKeys n answer = IsKeysText n answer ⊎ (NoneMates d who S n × (answer ≡ none_text n))

  -- A search tells its answer; the budget is spent only where it is less than a search may take. No answer is too large.
  abbrev pub Keyed : ℕ → ℕ → Result (List ℕ) Refusal → Type 0
  Keyed n budget (Ok answer) = TellsKeys n answer
  Keyed n budget (Err BudgetSpent) = budget < fresh_units d who S n
  Keyed n budget (Err _) = ⊥
