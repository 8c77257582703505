-- The lines of a game's log are what each side hears of its tries, in the words of the dialect that tells all.
use Rattle.std.proofs.Common.{◌≡◌, ℕ, List, [], ◌∷◌, map, refl, sym, ap, ◌∙◌}
use Rattle.krieg_play.proofs.Common.{Pos, Side, opening, told_line, Wild16, Line, heard, lines_for, GameState, judge, Judged, events_of, IsGameFrom, lines_of, lines_to}
use Rattle.krieg_wordtext.specs.declared.line.Line.TheVariants as line

pub told_wild : (l : Line) → told_line Wild16 l ≡ l
told_wild (line.Opens w) = refl
told_wild (line.Illegal m) = refl
told_wild (line.Done m w) = refl
told_wild (line.Heard w) = refl
told_wild (line.Early m) = refl
told_wild (line.Over m) = refl

all_wild : (ls : List Line) → map (told_line Wild16) ls ≡ ls
all_wild [] = refl
all_wild (l ∷ ls) = ap (λ (x : Line). x ∷ map (told_line Wild16) ls) (told_wild l) ∙ ap (λ (xs : List Line). l ∷ xs) (all_wild ls)

pub heard_is : (p : Pos) (who : Side) (log : List Judged) → log ≡ judge p (events_of log) → lines_to p who log ≡ heard Wild16 p (events_of log) who
heard_is p who log h =
    ap (λ (xs : List Line). line.Opens (opening p) ∷ xs) (sym (all_wild (lines_for who log)))
    ∙ ap (λ (js : List Judged). line.Opens (opening p) ∷ map (told_line Wild16) (lines_for who js)) h

-- the lines of both sides
pub lines_are : (start : Pos) (asks : ℕ) (game : GameState) → IsGameFrom start asks game → ◌≡◌ {A = Side → List Line} (λ who. lines_to start who game.log) (lines_of start game)
lines_are start asks game g = λ i who. heard_is start who game.log g.log i
