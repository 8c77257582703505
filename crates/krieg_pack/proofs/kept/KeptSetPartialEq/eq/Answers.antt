use Rattle.std.proofs.Common.{◌≡◌, sym, ap, ◌∙◌}
use Rattle.krieg_pack.proofs.Common.{OneMan}
use Rattle.krieg_pack.proofs.Keeping.{test_forms}
use Rattle.krieg_pack.specs.declared.kept.Form.{Form}
use Rattle.krieg_pack.specs.declared.kept.Form.TheVariants as form
use Rattle.krieg_pack.proofs.kept.KeptSetPartialEq.eq.Goals as goal

pub returns-in-OneMan-OneMan : goal.returns-in-OneMan-OneMan
returns-in-OneMan-OneMan c =
    let a = c.in-OneMan-OneMan in
    test_forms _ c.self.inside.form c.other.inside.form _ _ c.self.invariant c.other.invariant c.self.view_is c.other.view_is
    (λ h. a.is-0 ∙ ap (λ (m : OneMan). form.OneMan m) (c.same.ensures.0 h) ∙ sym a.is-1)
    (λ e. c.same.ensures.1 (let q : ◌≡◌ {A = Form} (form.OneMan a.a) (form.OneMan a.b) = sym a.is-0 ∙ e ∙ a.is-1 in cc))

pub returns-in_default : goal.returns-in_default
returns-in_default c =
    test_forms _ c.self.inside.form c.other.inside.form _ _ c.self.invariant c.other.invariant c.self.view_is c.other.view_is
    (λ h. cc) (λ e. let q = sym c.in_default.is-0 ∙ e ∙ c.in_default.is-1 in cc)

pub returns-in_default-2 : goal.returns-in_default-2
returns-in_default-2 c =
    test_forms _ c.self.inside.form c.other.inside.form _ _ c.self.invariant c.other.invariant c.self.view_is c.other.view_is
    (λ h. cc) (λ e. let q = sym c.in_default.is-0 ∙ e ∙ c.in_default.is-1 in cc)
