use Rattle.std.proofs.Common.{◌≡◌, ◌<◌, ◌^◌, ◌++◌, List, map, drop, get_or, Option, Some, refl, ap, sym, subst, ◌∙◌}
use Rattle.std.proofs.Math.ListN.{set}
use Rattle.std.proofs.lemmas.Bool.{both_ways}
use Rattle.std.proofs.lemmas.List.{take_all, drop_all, append-nil}
use Rattle.krieg_split.proofs.Common.{Move, tally_with, Tally}
use Rattle.krieg_split.proofs.Tallying.{listed_is_legal, item_is, one_counted, one_passed}
use Rattle.krieg_split.proofs.tallies.add_member.Goals as goal
use Rattle.krieg_split.proofs.tallies.add_member.Goals.{then-stands_at, else-stands_at}

pub add_legal-requires-clause-legal : goal.add_legal-requires-clause-legal
add_legal-requires-clause-legal c = listed_is_legal c.args.p.now c.args.moves.now c.loop-tally.next _ c.requires.moves (c.stands_at.ensures.0 c.if-stands_at.true)

pub add_legal-requires-clause-room : goal.add_legal-requires-clause-room
add_legal-requires-clause-room c =
    let y = c.tally-item.result in
    let same = item_is y c.loop-tally-test.true c.tally-item.is c.loop-tally.invariant in
    subst (λ (z : Tally). z.replies < 2 ^ 63) (sym same ∙ c.tally-item.is) (c.requires.room c.loop-tally.tally-index y c.loop-tally-test.true)

pub loop-tally-init : goal.loop-tally-init
loop-tally-init c = record { added = refl; ahead = c.requires.moves ∙ sym c.requires.tries }

pub loop-tally-preserved : goal.loop-tally-preserved
loop-tally-preserved c =
    let p = c.args.p.now in
    let y = c.tally-item.result in
    let ys = c.loop-tally.tallies in
    let within = c.loop-tally-test.true in
    let at = c.tally-item.is in
    let told = c.stands_at.ensures in
    let same : ◌≡◌ {A = Option Move} (Some (get_or ys c.loop-tally.tally-index y).mv) (Some y.mv) = ap (λ (z : Tally). Some z.mv) (sym at) in
    elim c.if-stands_at.branch [
      | then-stands_at w ↦
          let here = told.0 w.if-stands_at.true ∙ same in
          let is : c.if-stands_at.tallies ≡ set ys c.loop-tally.tally-index (tally_with p y) = w.tallies-is ∙ ap (set ys c.loop-tally.tally-index) (w.add_legal.ensures ∙ ap (tally_with p) (sym at)) in
          rw (is, w.next-is) (one_counted y within at c.loop-tally.invariant here (listed_is_legal p c.args.moves.now c.loop-tally.next y.mv c.requires.moves here))
      | else-stands_at w ↦ rw (w.tallies-is, w.next-is) (one_passed y within at c.loop-tally.invariant (λ e. both_ways _ w.if-stands_at.false (told.1 (e ∙ sym same))))
    ]

pub returns : goal.returns
returns c =
    let xs = c.args.tallies.now in
    let past = c.loop-tally-test.false in
    c.loop-tally.invariant.added
    ∙ ap (λ (ys : List Tally). map (tally_with c.args.p.now) ys ++ drop c.loop-tally.tally-index xs) (take_all c.loop-tally.tally-index xs past)
    ∙ ap (λ ys. map (tally_with c.args.p.now) xs ++ ys) (drop_all c.loop-tally.tally-index xs past)
    ∙ append-nil (map (tally_with c.args.p.now) xs)
