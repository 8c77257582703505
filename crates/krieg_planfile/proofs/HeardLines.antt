-- What the lines behind a plan file lead to, one after another.
use Rattle.std.proofs.Common.{◌≡◌, true, false, List, [], ◌∷◌, ◌++◌, Result, Ok, Err, append_assoc, arith}
use Rattle.std.proofs.lemmas.List.{append-nil}
use Rattle.std.specs.Prelude.{is_ok}
use Rattle.krieg_planfile.proofs.Common.{TextFault, ◌>>=◌, Place, taken, ended, Gives, GivesOn, Dialect, Line, heard_form, all_by}

-- what is read, behind what was read before
abbrev pub behind_all : List Line → Result (List Line) TextFault → Result (List Line) TextFault
behind_all heard r = r >>= λ more. Ok (heard ++ more)

-- what is read from that place on
abbrev pub rest_at : Dialect → Place → Result (List Line) TextFault
rest_at d p = all_by (heard_form d) p.number p.left

-- before the first line
pub none_before : (r : Result (List Line) TextFault) → behind_all [] r ≡ r
none_before r = grind arith

-- where no line is left
pub heard_end : (d : Dialect) (heard : List Line) (from : Place) (all : Result (List Line) TextFault) → is_ok (ended (tt {0}) from.number from.left) ≡ true → behind_all heard (rest_at d from) ≡ all → all ≡ Ok heard
heard_end d heard from all h is = grind (arith, append-nil {A = Line})

-- a line that is refused
pub heard_bad : {X : Type 0} (view : X → List Line) (d : Dialect) (heard : List Line) (from new : Place) (e : TextFault) (all : Result (List Line) TextFault) → is_ok (ended (tt {0}) from.number from.left) ≡ false →
    GivesOn {X = Line} (λ l. l) (Err e) new (taken (heard_form d) from) → behind_all heard (rest_at d from) ≡ all → Gives view (Err e) all
heard_bad view d heard from new e all some given so = grind arith

-- one line more
pub heard_more : (d : Dialect) (heard : List Line) (from new : Place) (line : Line) (all : Result (List Line) TextFault) → is_ok (ended (tt {0}) from.number from.left) ≡ false → taken (heard_form d) from ≡ Ok (line, new) →
    behind_all heard (rest_at d from) ≡ all → behind_all (heard ++ line ∷ []) (rest_at d new) ≡ all
heard_more d heard from new line all some read so = grind (arith, append_assoc {A = Line})

pub ruleset heard_lines = (none_before, heard_end, heard_bad, heard_more)
