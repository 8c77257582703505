-- Plans: a tree for each thing that the player may hear before the first own turn.
use Rattle.std.specs.Prelude.{◌≡◌, ℕ, zero, ◌≤◌, Bool, true, false, not, ◌&&◌, max, List, [], ◌∷◌, map, flat_map, ⊤, if◌then◌else◌}
use Rattle.std.specs.List.{list_all, list_any}
use Rattle.krieg_theory.specs.Sets.{IsOrder, as_set, at_key, keys_in, same, is_nil}
use Rattle.krieg_theory.specs.Tree.{Tree, Maybe, Nothing, Just}
use Rattle.krieg_theory.specs.Game.{Game}
use Rattle.krieg_theory.specs.Wins.{wins}
use Rattle.krieg_theory.specs.Can.{can, least}
use Rattle.krieg_theory.specs.Canonical.{IsCanon}
use Rattle.krieg_theory.specs.Computed.{canon}

-- the greatest of some numbers
abbrev pub greatest : {X : Type 0} → (X → ℕ) → List X → ℕ
greatest f [] = zero
greatest f (x ∷ xs) = max (f x) (greatest f xs)

-- How the first own turn comes about from a listed position. Where the player is to move, it is the position
-- itself, under the words of its opening. Where the opponent is, there is one for each of his moves, under the
-- words of the opening and of that move.
pub record Outset (G : Game) : Type 1 where
  pub Root : Type 0
  pub starts : G.Position → List (Root × G.Position)
  -- the opponent is to move first
  pub waits : G.Position → Bool
  pub root_lt : Root → Root → Bool

-- The law that the operations must meet.
pub record IsOutset (G : Game) (O : Outset G) : Type 0 where
  pub root_order : IsOrder O.root_lt

module _ (G : Game) (O : Outset G) where
  -- nothing can start: the opponent is to move and has no move
  abbrev pub is_over : G.Position → Bool
  is_over p = is_nil (O.starts p)

  -- all ways in which a game from a listed position can come to the first own turn
  abbrev pub all_starts : List G.Position → List (O.Root × G.Position)
  all_starts S = flat_map O.starts S

  -- what may be heard before the first own turn, ascending
  abbrev pub openings : List G.Position → List O.Root
  openings S = keys_in O.root_lt (all_starts S)

  -- the positions that are possible at the first own turn, once that was heard
  abbrev pub opening_set : List G.Position → O.Root → List G.Position
  opening_set S key = as_set G.position_lt (at_key O.root_lt key (all_starts S))

  -- trees by what is heard, which is their root's key
  abbrev pub Plan : Type 0
  Plan = List (O.Root × Tree G.Move G.Key)

  -- there is a root with the key, and the tree at the first one wins
  abbrev pub wins_root : Plan → O.Root → G.Position → ℕ → Bool
  wins_root [] key p k = false
  wins_root (r ∷ rs) key p k = if same O.root_lt r.0 key then wins G r.1 p k else wins_root rs key p k

  -- the plan mates from every listed position, however it starts, within k own moves
  abbrev pub mates : Plan → List G.Position → ℕ → Bool
  mates plan S k = list_all (λ p. not (is_over p) && list_all (λ s. wins_root plan s.0 s.1 k) (O.starts p)) S

  -- k is the plan's worst case
  pub record IsWorst (plan : Plan) (S : List G.Position) (k : ℕ) : Type 0 where
    pub mates_within : mates plan S k ≡ true
    pub least : (i : ℕ) → mates plan S i ≡ true → k ≤ i

  -- each root has the canonical node of its opening set
  abbrev pub AreCanonRoots : Plan → List G.Position → Type 0
  AreCanonRoots [] S = ⊤
  AreCanonRoots (r ∷ rs) S = IsCanon G r.1 (opening_set S r.0) × AreCanonRoots rs S

  -- the roots' keys are just what may be heard, ascending, and each tree is the canonical one of its set
  pub record IsCanonPlan (plan : Plan) (S : List G.Position) : Type 0 where
    pub none_over : list_any is_over S ≡ false
    pub same_keys : map (λ r. r.0) plan ≡ openings S
    pub roots : AreCanonRoots plan S

  -- each opening set can be won within j
  abbrev pub can_plan : ℕ → List G.Position → Bool
  can_plan j S = not (list_any is_over S) && list_all (λ key. can G j (opening_set S key)) (openings S)

  -- a root, where there is a tree for it
  abbrev pub root_with : O.Root → Maybe G.Move G.Key → Plan → Plan
  root_with key Nothing rs = rs
  root_with key (Just n) rs = (key, n) ∷ rs

  -- a root for each key that has a tree
  abbrev pub roots_of : List O.Root → (O.Root → Maybe G.Move G.Key) → Plan
  roots_of [] f = []
  roots_of (key ∷ ks) f = root_with key (f key) (roots_of ks f)

  -- the canonical plan of what can be won within j, as it is computed
  abbrev pub canon_plan : ℕ → List G.Position → Plan
  canon_plan j S = roots_of (openings S) (λ key. canon G j (opening_set S key))

  -- its worst case: the greatest of the least numbers of the opening sets
  abbrev pub canon_worst : ℕ → List G.Position → ℕ
  canon_worst j S = greatest (λ key. least G j (opening_set S key)) (openings S)
