-- The one written form of a plan file.
use Rattle.std.specs.Prelude.{ℕ, Bool, List, [], ◌∷◌, ◌++◌, codes, map, length, Some, None, if◌then◌else◌}
use Rattle.krieg_text.specs.Decimals.{number_text}
use Rattle.krieg_fen.specs.ListText.{listing_lines}
use Rattle.krieg_text.specs.Writing.{Pieces, alone, put_lines}
use Rattle.krieg_wordtext.specs.WordsText.{words_text}
use Rattle.krieg_wordtext.specs.Versions.{version_lines, second_version}
use Rattle.krieg_words.specs.declared.dialects.Dialect.{Dialect}
use Rattle.krieg_game.specs.Keys.{RootKey}
use Rattle.krieg_plan.specs.Trees.{PlanTrees}
use Rattle.krieg_planfile.specs.NodeText.{on_line, branches_lines}
use Rattle.krieg_planfile.specs.PlanFiles.{PlanState, waits}

-- the version of the dialect, but where the opponent is to move the second one
abbrev pub heading : Dialect → Bool → List (List ℕ)
heading d waiting = if waiting then second_version (codes "krieg plan ") d else version_lines (codes "krieg plan ") d

-- the line of a root
abbrev pub root_line : Dialect → RootKey → Pieces
root_line d (opens, None) = codes "on " ∷ words_text d opens ∷ []
root_line d (opens, Some heard) = on_line d (opens, heard)

-- each root has its line and its node
abbrev pub roots_lines : Dialect → PlanTrees → List Pieces
roots_lines d rs = branches_lines (root_line d) d rs

-- the own moves that are claimed, and the number of roots
abbrev pub worst_line : ℕ → Pieces
worst_line n = codes "worst " ∷ number_text n ∷ []

-- the line that says how many roots there are
abbrev pub count_line : ℕ → Pieces
count_line n = codes "roots " ∷ number_text n ∷ []

-- after the positions: the claim, the roots, and `end`
abbrev pub claim_lines : PlanState → List Pieces
claim_lines s = worst_line s.worst ∷ count_line (length s.plan) ∷ (roots_lines s.dialect s.plan ++ (alone (codes "end") ∷ []))

-- version and dialect, side and listed positions, claim and plan
abbrev pub plan_lines : PlanState → List Pieces
plan_lines s = map alone (heading s.dialect (waits s.side s.list)) ++ (listing_lines s.side s.list ++ claim_lines s)

-- a line feed stands after every line
unfoldable pub plan_text : PlanState → List ℕ
plan_text s = put_lines [] (plan_lines s)

-- the text of a plan file that can be written has fewer bytes
abbrev pub text_bound : ℕ
text_bound = 36000000
