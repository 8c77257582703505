-- The canonical node of a set, by what holds of it among all trees.
use Rattle.std.specs.Prelude.{◌≡◌, ℕ, ◌≤◌, true, false, List, [], ◌∷◌, ⊤}
use Rattle.krieg_theory.specs.Sets.{is_nil}
use Rattle.krieg_theory.specs.Tree.{Tree, Try, Maybe, Nothing, Just, Edges, NoEdges, Edge}
use Rattle.krieg_theory.specs.Game.{Game}
use Rattle.krieg_theory.specs.Wins.{WinsAll}
use Rattle.krieg_theory.specs.Split.{refused, legal_in_some, keys, class}

-- the keys of the edges, in their order
abbrev pub edge_keys : {M K : Type 0} → Edges M K → List K
edge_keys NoEdges = []
edge_keys (Edge key n es) = key ∷ edge_keys es

module _ (G : Game) where
  -- j is the least number within which some tree wins all of the set
  pub record IsLeast (B : List G.Position) (j : ℕ) : Type 0 where
    pub some : (n : Tree G.Move G.Key) × WinsAll G n B j
    pub least : (n : Tree G.Move G.Key) (i : ℕ) → WinsAll G n B i → j ≤ i

  -- the try is legal in some member, and no tree that wins all of the set within j begins with an earlier one that is
  pub record IsFirst (B : List G.Position) (t : G.Move) (j : ℕ) : Type 0 where
    pub legal : legal_in_some G B t ≡ true
    pub first : (t' : G.Move) (other : Maybe G.Move G.Key) (es : Edges G.Move G.Key) → WinsAll G (Try t' other es) B j → legal_in_some G B t' ≡ true → G.move_lt t' t ≡ false

  abbrev mutual
    -- the tree wins the set within the least number, by the first try that can; it has a node for the illegal case
    -- just where that can happen, an edge for just what may be heard, ascending, and all below it is canonical too
    pub IsCanon : Tree G.Move G.Key → List G.Position → Type 0
    IsCanon (Try t other es) B =
        record {
          least : (j : ℕ) × IsLeast B j × WinsAll G (Try t other es) B j × IsFirst B t j;
          refused_part : IsCanonOther other (refused G B t);
          same_keys : edge_keys es ≡ keys G B t;
          parts : AreCanon es B t;
        }

    -- there is a node for the illegal case just where some member refuses the try, and then it is canonical
    pub IsCanonOther : Maybe G.Move G.Key → List G.Position → Type 0
    IsCanonOther Nothing R = is_nil R ≡ true
    IsCanonOther (Just n) R = (is_nil R ≡ false) × IsCanon n R

    -- each edge has the canonical node of its class
    pub AreCanon : Edges G.Move G.Key → List G.Position → G.Move → Type 0
    AreCanon NoEdges B t = ⊤
    AreCanon (Edge key n es) B t = IsCanon n (class G B t key) × AreCanon es B t
