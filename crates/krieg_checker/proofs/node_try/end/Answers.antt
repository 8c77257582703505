use Rattle.std.proofs.Common.{true, refl, ap, subst, ◌∙◌, arith}
use Rattle.krieg_checker.proofs.Common.{set_of, refused, made, chess, IsMating}
use Rattle.krieg_pack.proofs.PositionSets.{set_of_ascending}
use Rattle.krieg_game.proofs.Splitting.{refused_ascends}
use Rattle.krieg_checker.proofs.node_try.end.Goals as goal

pub returns : goal.returns
returns c =
    let a = c.in_ok-lives.ensures c.args.d in
    let m = subst (λ B. IsMating c.args.d true B c.args.mv c.in_ok-lives.field-0) c.members.ensures.value a.0 in (
      record {
        refused_part = c.from_packed.ensures.value ∙ ap set_of (m.refused_part refl) ∙ set_of_ascending (refused (chess c.args.d) c.args.b c.args.mv) (refused_ascends c.args.d c.args.b c.args.mv c.members.ensures.ascending);
        fails_part = m.lives_part;
        classes_part = c.new.ensures.items;
      },
      omega (arith, a.1, ap (λ B. made (chess c.args.d) B c.args.mv) c.members.ensures.value),
    )
