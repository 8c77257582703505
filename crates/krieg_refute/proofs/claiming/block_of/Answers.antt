use Rattle.std.proofs.Common.{◌≡◌, ℕ, ◌-◌, suc, sym, subst, ◌∙◌, refl, arith}
use Rattle.krieg_refute.proofs.Common.{chess, entries, set_at, IsLost}
use Rattle.krieg_claims.proofs.StoredLosses.{loss_paid}
use Rattle.krieg_game.proofs.ChessLaws.{chess_is_game}
use Rattle.krieg_search.proofs.Adding.{adds_nothing, adds_then}
use Rattle.krieg_refute.proofs.Blocking.{class_at, refused_at}
use Rattle.krieg_refute.proofs.claiming.block_of.Goals as goal

pub left_again-requires-clause-paid : goal.left_again-requires-clause-paid
left_again-requires-clause-paid c =
    let d = c.args.way.d in
    let T = c.args.table.now in
    let B = set_at T c.args.set in
    let j = c.args.moves in
    let some = c.requires.some in
    let before : suc (j - 1) ≡ j = omega arith in
    let lost = subst (λ (i : ℕ). IsLost T B i) (sym before) c.requires.lost in
    let a = loss_paid (chess d) (chess_is_game d) (entries T) c.requires.paid.ready.sound B (j - 1) lost c.args.mv c.requires.legal in
    let b = c.requires.paid.paid refl in
    omega arith

pub returns-in_default : goal.returns-in_default
returns-in_default c = (adds_nothing c.args.table.now c.requires.paid.ready.counted, rw c.in_default.is at c.in_ok-classes.ensures)

pub returns-in-Some-2 : goal.returns-in-Some-2
returns-in-Some-2 c =
    let d = c.args.way.d in
    let T = c.args.table.now in
    let B = set_at T c.args.set in
    let a = rw c.in-Some.is at c.in_ok-classes.ensures in
    let h = rw c.in-Some-2.is at c.in_ok-class.ensures in
    let b = class_at d T B B c.args.mv c.args.moves c.requires.some refl c.requires.paid.ready c.requires.lost c.requires.legal c.in-Some.field-0 a c.in-Some-2.class.0 (set_at c.first_lost.new.table c.in-Some-2.class.1) h.first in
    (h.sets, record { blocks = b.0; within = h.within; at = sym b.1 })

pub returns : goal.returns
returns c =
    let d = c.args.way.d in
    let T = c.args.table.now in
    let T1 = c.first_lost.new.table in
    let B = set_at T c.args.set in
    let a = rw c.in-Some.is at c.in_ok-classes.ensures in
    let h = rw c.in_default-2.is at c.in_ok-class.ensures in
    let n = c.in_ok-number_of.ensures in (
      adds_then T T1 c.number_of.new.table h.0 (record { counted = n.counted; more = n.interned.more; noted = n.interned.noted }),
      record {
        blocks = refused_at d T B B c.args.mv c.args.moves c.requires.some refl c.requires.paid.ready c.requires.lost c.requires.legal c.in-Some.field-0 a h.1;
        within = n.interned.within;
        at = n.interned.at ∙ a.refused_part;
      },
    )
