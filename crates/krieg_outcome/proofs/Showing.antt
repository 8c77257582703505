-- The games that `why` shows, as the answer to a sheet.
use Rattle.std.proofs.Common.{◌≡◌, ℕ, ◌<◌, ◌≤◌, true, false, List, [], ◌∷◌, length, Ok, Err, ap, subst, ◌∙◌}
use Rattle.krieg_outcome.proofs.Common.{SheetState, is_nil, Dialect, IsPossible, AllWithin, ShownState, AreShown, games_text, HasGames, Shows, MOST_INPUT, AnswerTooLong}

-- no position is possible where there is no game
pub none_shown : (s : SheetState) (games : List ShownState) → AreShown s games → is_nil games ≡ true → IsPossible s []
none_shown s [] shown none = shown.possible
none_shown s (x ∷ games) shown none = absurd cc

-- the games of a sheet, of which there is one at least, and their text
module _ (limit : ℕ) (s : SheetState) (games : List ShownState) (shown : AreShown s games) (within : AllWithin limit s) (some : is_nil games ≡ false) (d : Dialect) (same : d ≡ s.dialect) (answer : List ℕ) (is : answer ≡ games_text d games) where
  has : HasGames limit s games
  has = record { shown = shown; within = within; some = some }

  text_is : answer ≡ games_text s.dialect games
  text_is = is ∙ ap (λ (e : Dialect). games_text e games) same

  -- a text with more bytes than an input may have is refused
  pub too_long : MOST_INPUT < length answer → Shows limit s (Err AnswerTooLong)
  too_long long = (games, has, subst (λ (text : List ℕ). MOST_INPUT < length text) text_is long)

  -- any other is the answer
  pub answered : length answer ≤ MOST_INPUT → Shows limit s (Ok answer)
  answered fits = (games, has, text_is, fits)
