-- A line that is told can be told again unchanged.
use Rattle.std.proofs.Common.{◌≡◌, refl, ap}
use Rattle.krieg_wordtext.proofs.Common.{Dialect, Line, Opens, Done, Heard, told_line, LineFits}
use Rattle.krieg_words.proofs.ToldLaws.{told_fits}

-- a told line fits the dialect
pub told_line_fits : (d : Dialect) (l : Line) → LineFits d (told_line d l)
told_line_fits d (Opens w) = ap Opens (told_fits d w)
told_line_fits d (Done m w) = ap (Done m) (told_fits d w)
told_line_fits d (Heard w) = ap Heard (told_fits d w)
told_line_fits d _ = refl
