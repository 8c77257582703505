-- Sets that are kept: each has one form.
use Rattle.std.proofs.Common.{◌≡◌, List, Bool, true, sym, ap, ◌∙◌}
use Rattle.std.specs.Cmp.Lexicographic.{pointwise}
use Rattle.krieg_board.proofs.SameTests.{same_tests}
use Rattle.krieg_pack.proofs.Common.{Pos, position_eq, one_man}
use Rattle.krieg_pack.specs.Kept.{IsKept, form_for, set_in, sets_decide}
use Rattle.krieg_pack.specs.declared.kept.Form.{Form}

-- a test that tells their forms apart is that of their members
pub test_forms : (t : Bool) (f g : Form) (ps qs : List Pos) → IsKept f → IsKept g → set_in f ≡ ps → set_in g ≡ qs → (t ≡ true → f ≡ g) → (f ≡ g → t ≡ true) → t ≡ pointwise position_eq ps qs
test_forms t f g ps qs a b e d to from =
    let both = sets_decide ps qs in
    same_tests t (pointwise position_eq ps qs) (λ h. both.1 (sym e ∙ ap set_in (to h) ∙ d))
    (λ h. from (a.exact ∙ ap (λ rs. form_for (one_man rs) rs) (e ∙ both.0 h ∙ sym d) ∙ sym b.exact))
