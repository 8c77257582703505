-- Which lines spell a plan file, and the grammar of the format, without a reader.
use Rattle.std.specs.Prelude.{◌≡◌, ◌≤◌, ◌⊎◌, ℕ, List, [], ◌∷◌, codes, map, length, None, Ok}
use Rattle.krieg_board.specs.declared.men.Move.{Move}
use Rattle.krieg_text.specs.FirstBad.{Has}
use Rattle.krieg_text.specs.Languages.{Language, One, Any, ◌⨾◌}
use Rattle.krieg_fen.specs.Listing.{SpellsListing, ListingGrammar}
use Rattle.krieg_text.specs.Writing.{Pieces, joined}
use Rattle.krieg_theory.specs.Tree.{Try, Maybe, Nothing, Just, Edges, NoEdges, Edge}
use Rattle.krieg_wordtext.specs.Versions.{first_version, second_version}
use Rattle.krieg_words.specs.Dialects.{unnamed_dialect}
use Rattle.krieg_words.specs.declared.dialects.Dialect.{Dialect}
use Rattle.krieg_game.specs.Keys.{Key, RootKey}
use Rattle.krieg_plan.specs.Trees.{NodeTree}
use Rattle.krieg_plan.specs.declared.limits.TheConstants.{MOST_NODES}
use Rattle.krieg_planfile.specs.NodeText.{edge_count, node_lines, branches_lines, IsTold, AreToldBranches}
use Rattle.krieg_planfile.specs.PlanFiles.{PlanState, IsToldRoot}
use Rattle.krieg_planfile.specs.PlanReading.{turn_in, worst_form, roots_form}
use Rattle.krieg_planfile.specs.PlanText.{root_line, claim_lines}

-- version 1, which names no dialect, or version 2, in which every dialect may be
abbrev pub IsVersion : ℕ → Dialect → Language
IsVersion version d ls =
    ((version ≡ 1) × (d ≡ unnamed_dialect) × (ls ≡ first_version (codes "krieg plan ")))
    ⊎ ((version ≡ 2) × (ls ≡ second_version (codes "krieg plan ") d))

-- Version and dialect, side and listed positions, claim and plan: only the version of wild16 and the positions have more
-- than one spelling. In version 1 the player is to move.
abbrev pub SpellsPlan : PlanState → Language
SpellsPlan s = Any (λ version.
    IsVersion version s.dialect
    ⨾ (λ ls. SpellsListing (turn_in version) ls s.side s.list)
    ⨾ (λ ls. ls ≡ map joined (claim_lines s)))

abbrev mutual
  -- no node, here and below, has more edges than may be told
  pub HasFewEdges : NodeTree → Type 0
  HasFewEdges (Try m other es) = (edge_count es ≤ MOST_NODES) × HasFewOther other × HaveFewEdges es

  -- and the tree for the illegal case has none with more
  pub HasFewOther : Maybe Move Key → Type 0
  HasFewOther Nothing = Unit {0}
  HasFewOther (Just n) = HasFewEdges n

  -- and those behind these edges have none with more
  pub HaveFewEdges : Edges Move Key → Type 0
  HaveFewEdges NoEdges = Unit {0}
  HaveFewEdges (Edge key n es) = HasFewEdges n × HaveFewEdges es

-- the lines of some node, of any size and depth, with its keys in any order
abbrev pub NodeGrammar : Dialect → Language
NodeGrammar d ls = (n : NodeTree) × IsTold d n × HasFewEdges n × (ls ≡ map joined (node_lines d n))

-- in each of the branches no node has more edges than may be told
abbrev pub HaveFewBranches : {K : Type 0} → List (K × NodeTree) → Type 0
HaveFewBranches [] = Unit {0}
HaveFewBranches (b ∷ bs) = HasFewEdges b.1 × HaveFewBranches bs

-- the lines of n branches, each with its key and its node, with their keys in any order
abbrev pub BranchesGrammar : {K : Type 0} → (K → Pieces) → (K → Type 0) → Dialect → ℕ → Language
BranchesGrammar line Told d n ls = (bs : List (_ × NodeTree)) × (length bs ≡ n) × AreToldBranches Told d bs × HaveFewBranches bs × (ls ≡ map joined (branches_lines line d bs))

-- words that can be told, and in version 1 opening words alone
abbrev pub IsRootOf : ℕ → Dialect → RootKey → Type 0
IsRootOf version d key = IsToldRoot d key × (version ≡ 1 → key.1 ≡ None)

-- the lines of n roots, of either form in version 2
abbrev pub RootsGrammar : ℕ → Dialect → ℕ → Language
RootsGrammar version d n = BranchesGrammar (root_line d) (IsRootOf version d) d n

-- the claim, any roots, and `end`
abbrev pub ClaimGrammar : ℕ → Dialect → Language
ClaimGrammar version d = One (Has worst_form) ⨾ Any (λ n. One (λ l. roots_form l ≡ Ok n) ⨾ RootsGrammar version d n ⨾ One (λ l. l ≡ codes "end"))

-- The grammar: version and dialect, side and texts of positions, valid or not, and what is after them.
abbrev pub PlanGrammar : Language
PlanGrammar = Any (λ (h : ℕ × Dialect). IsVersion h.0 h.1 ⨾ ListingGrammar ⨾ ClaimGrammar h.0 h.1)
