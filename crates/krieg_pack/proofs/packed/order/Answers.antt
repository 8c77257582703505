use Rattle.std.proofs.Common.{◌≡◌, sym, ap, ◌∙◌}
use Rattle.std.proofs.lemmas.Cmp.{tied_itself}
use Rattle.krieg_pack.proofs.Common.{position_cmp, position_total, same_position}
use Rattle.krieg_pack.proofs.ByteLemmas.{bytes_cmp}
use Rattle.krieg_pack.proofs.packed.order.Goals as goal

whole : (c : goal.After-cmp) → c.cmp.result ≡ position_cmp c.args.a.now c.args.c.now
whole c = c.cmp.ensures ∙ (λ i. position_cmp (c.pack.ensures.value i) (c.pack-2.ensures.value i))

pub returns-clause-bytes : goal.returns-clause-bytes
returns-clause-bytes c = whole c ∙ sym (bytes_cmp c.args.a.now c.args.c.now c.pack.ensures.valid.squares c.pack-2.ensures.valid.squares)

pub returns-clause-equal : goal.returns-clause-equal
returns-clause-equal c = (
  λ e. same_position c.args.a.now c.args.c.now (sym (whole c) ∙ e),
  λ e. whole c ∙ ap (position_cmp c.args.a.now) (sym e) ∙ tied_itself position_total c.args.a.now,
)
