use Rattle.std.proofs.Common.{◌≡◌, ◌∷◌, [], ◌++◌, None, Ok, Err, arith, Vec, Global}
use Rattle.std.specs.Prelude.{slice_get}
use Rattle.krieg_fen.proofs.Common.{Pos, Position, taken, GivesOn, listed_form, positions_at}
use Rattle.krieg_fen.proofs.Listing.{listed_ok, listed_gives, listed_start, listed_end, memory_gives}
use Rattle.krieg_text.proofs.ReadingLemmas.{passed_none, passed_then}
use Rattle.krieg_fen.proofs.list.list_at.Goals as goal

pub returns-in-Err-clause-value : goal.returns-in-Err-clause-value
returns-in-Err-clause-value g c =
    let at = g.S.LineSource.place in
    let new = at c.read_listed.new.from in
    let given : GivesOn {X = Pos} (λ p. p) (Err c.in-Err.fault) new (taken (listed_form c.args.turn c.args.who (slice_get c.loop-i.list.items 0)) (at c.loop-i.from)) = rw (c.first.ensures.value, c.deref.ensures.value) at c.in-Err.ensures.value in
    listed_gives {X = Vec Position Global} (λ v. v.items) c.args.turn c.args.who c.loop-i.list.items c.args.n c.loop-i.i (at c.loop-i.from) new c.in-Err.fault (positions_at c.args.turn c.args.who None c.args.n (g.S.LineSource.place c.args.from.now)) (omega arith) given c.loop-i.invariant.read

pub loop-i-preserved : goal.loop-i-preserved
loop-i-preserved g c =
    let at = g.S.LineSource.place in
    let new = at c.read_listed.new.from in
    let read : taken (listed_form c.args.turn c.args.who (slice_get c.loop-i.list.items 0)) (at c.loop-i.from) ≡ Ok (c.in-Ok.position, new) = rw (c.first.ensures.value, c.deref.ensures.value) at c.in-Ok.ensures.value in
    let pushed : c.push.new.self.items ≡ c.loop-i.list.items ++ c.in-Ok.position ∷ [] = c.in_ok-push-in-Ok.ensures.items in
    record {
      read = rw pushed (listed_ok c.args.turn c.args.who c.loop-i.list.items c.args.n c.loop-i.i (at c.loop-i.from) new c.in-Ok.position (positions_at c.args.turn c.args.who None c.args.n (g.S.LineSource.place c.args.from.now)) (omega arith) read c.loop-i.invariant.read);
      rest = passed_then (at c.args.from.now) (at c.loop-i.from) new c.loop-i.invariant.rest c.read_listed.ensures.rest;
    }

pub loop-i-init : goal.loop-i-init
loop-i-init g c =
    let from = g.S.LineSource.place c.args.from.now in
    record { read = listed_start c.args.turn c.args.who c.new-list.result.items c.args.n from c.new-list.ensures.items; rest = passed_none from }

pub returns-in-Err-clause-rest : goal.returns-in-Err-clause-rest
returns-in-Err-clause-rest g c =
    let at = g.S.LineSource.place in
    passed_then (at c.args.from.now) (at c.loop-i.from) (at c.read_listed.new.from) c.loop-i.invariant.rest c.read_listed.ensures.rest

pub returns-in_err-push-in-Ok-clause-value : goal.returns-in_err-push-in-Ok-clause-value
returns-in_err-push-in-Ok-clause-value g c = memory_gives _ _ _ _ c.from_residual.ensures.1

pub returns-in_err-push-in-Ok-clause-rest : goal.returns-in_err-push-in-Ok-clause-rest
returns-in_err-push-in-Ok-clause-rest g c =
    let at = g.S.LineSource.place in
    passed_then (at c.args.from.now) (at c.loop-i.from) (at c.read_listed.new.from) c.loop-i.invariant.rest c.read_listed.ensures.rest

pub returns-clause-value : goal.returns-clause-value
returns-clause-value g c =
    listed_end c.args.turn c.args.who c.loop-i.list.items c.args.n c.loop-i.i (g.S.LineSource.place c.loop-i.from) _ c.loop-i-test.false c.loop-i.invariant.read

pub returns-clause-rest : goal.returns-clause-rest
returns-clause-rest g c = c.loop-i.invariant.rest
