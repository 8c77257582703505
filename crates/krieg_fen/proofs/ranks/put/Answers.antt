use Rattle.std.proofs.Common.{◌≡◌, arith, rules, true, false, ◌&&◌, leb, Option, Some}
use Rattle.krieg_fen.proofs.Common.{Man, man_of, rank_at}
use Rattle.krieg_fen.proofs.RankReading.{rank_put, digit_put, kept_same, kept_set, free_square}
use Rattle.std.proofs.lemmas.List.{length-replicate}
use Rattle.krieg_fen.proofs.ranks.put.Goals as goal

pub returns-in_ok-man-clause-some : goal.returns-in_ok-man-clause-some
returns-in_ok-man-clause-some c =
    let apart : (leb 49 c.args.b && leb c.args.b 56) ≡ false = search rules in
    let man : man_of c.args.b ≡ Some c.in_ok-man.man = search rules in
    let p = rank_put c.args.b c.args.file c.args.rank c.args.bits.now c.in_ok-man.man c.requires.free apart (omega arith) man in
    rw c.put.ensures (omega arith, p.0, p.1)

pub returns-in_err-man-clause-others : goal.returns-in_err-man-clause-others
returns-in_err-man-clause-others c = kept_same c.args.bits.now c.args.rank

pub returns-in_err-man-clause-some : goal.returns-in_err-man-clause-some
returns-in_err-man-clause-some c = rw c.from_residual.ensures tt

pub returns-in_err-man-clause-none : goal.returns-in_err-man-clause-none
returns-in_err-man-clause-none c = search rules

pub put-requires-clause-below : goal.put-requires-clause-below
put-requires-clause-below c = omega arith

pub put-requires-clause-free : goal.put-requires-clause-free
put-requires-clause-free c = free_square c.args.bits.now c.args.rank c.args.file c.if-file-lt8.true c.requires.free

pub returns-in_ok-man-clause-others : goal.returns-in_ok-man-clause-others
returns-in_ok-man-clause-others c = rw c.put.ensures (kept_set c.args.bits.now c.args.rank c.args.file (Some c.in_ok-man.man) c.if-file-lt8.true)

pub returns-then-next-gt8-clause-none : goal.returns-then-next-gt8-clause-none
returns-then-next-gt8-clause-none c =
    let digit : (leb 49 c.args.b && leb c.args.b 56) ≡ true = search rules in
    rw digit (omega (arith, length-replicate {A = Option Man}))

pub returns-else-next-gt8-clause-some : goal.returns-else-next-gt8-clause-some
returns-else-next-gt8-clause-some c =
    let digit : (leb 49 c.args.b && leb c.args.b 56) ≡ true = search rules in
    let p = digit_put c.args.b c.args.file (rank_at c.args.bits.now c.args.rank) c.requires.free digit c.if-next-gt8.false in
    (c.if-next-gt8.false, p.0, p.1)
