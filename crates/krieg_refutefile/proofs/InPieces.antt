-- A text that is written into pieces is the text of its lines.
use Rattle.std.proofs.Common.{◌≡◌, ℕ, List, [], ◌++◌, Result, Ok, Err, sym, ap, ◌∙◌, append_assoc}
use Rattle.std.specs.Prelude.{IfOk}
use Rattle.krieg_refutefile.proofs.Common.{Pieces, PutsLines, Written, Wrote, put_lines}
use Rattle.krieg_refutefile.specs.InPieces.{IsTaken}
use Rattle.krieg_text.proofs.Writings.{lines_after}

-- lines that are written after the last piece stand after the text, where that piece is put back
pub added : {E : Type 0} (r done : Result (Unit {0}) E) (old rest new : List ℕ) (last last' : Written) (ls : List Pieces) → IsTaken old rest last → PutsLines done last last' ls
    → IfOk r (λ u. (done ≡ Ok tt) × (new ≡ rest ++ (last'.before ++ last'.written))) → Wrote r new (put_lines old ls)
added (Ok u) (Ok v) old rest new last last' ls taken put back =
    back.1 ∙ ap (λ (t : List ℕ). rest ++ (t ++ last'.written)) put.0 ∙ ap (λ (t : List ℕ). rest ++ (last.before ++ t)) (put.1 ∙ ap (λ (t : List ℕ). put_lines t ls) taken.1)
    ∙ sym (append_assoc rest last.before (put_lines [] ls)) ∙ ap (λ (t : List ℕ). t ++ put_lines [] ls) (sym taken.0) ∙ sym (lines_after old ls)
added (Ok u) (Err e) old rest new last last' ls taken put back = absurd (let no : Err e ≡ Ok tt = back.0 in cc)
added (Err e) done old rest new last last' ls taken put back = tt
