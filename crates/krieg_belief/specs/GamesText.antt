-- The one written form of hidden games.
use Rattle.std.specs.Prelude.{ℕ, List, [], ◌∷◌, ◌++◌, codes, length, map}
use Rattle.std.specs.List.{flat_map}
use Rattle.krieg_text.specs.Decimals.{number_text}
use Rattle.krieg_fen.specs.FenText.{position_text}
use Rattle.krieg_text.specs.Writing.{Pieces, alone, put_lines}
use Rattle.krieg_words.specs.Dialects.{dialect_text}
use Rattle.krieg_words.specs.declared.dialects.Dialect.{Dialect}
use Rattle.krieg_umpire.specs.SessionText.{event_line}
use Rattle.krieg_belief.specs.Explained.{ShownState}

-- the position in which a game stands, the one in which it began, and a line for each try
abbrev pub game_lines : ShownState → List Pieces
game_lines x = (codes "game " ∷ position_text x.last ∷ []) ∷ (codes "start " ∷ position_text x.start ∷ []) ∷ map event_line x.events

-- version, dialect and how many games, before these
abbrev pub head_lines : Dialect → ℕ → List Pieces
head_lines d n = alone (codes "krieg games 1") ∷ (codes "dialect " ∷ dialect_text d ∷ []) ∷ (codes "games " ∷ number_text n ∷ []) ∷ []

-- these lines, each game, the last line
abbrev pub games_lines : Dialect → List ShownState → List Pieces
games_lines d xs = head_lines d (length xs) ++ (flat_map game_lines xs ++ (alone (codes "end") ∷ []))

-- a line feed stands after every line
unfoldable pub games_text : Dialect → List ShownState → List ℕ
games_text d xs = put_lines [] (games_lines d xs)
