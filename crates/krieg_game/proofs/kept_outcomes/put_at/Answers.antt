use Rattle.std.proofs.Common.{◌++◌, ◌∷◌, [], subst, sym}
use Rattle.krieg_game.proofs.Common.{AreBuckets, IsPlace, Holds, outcomes_in}
use Rattle.krieg_game.proofs.Buckets.{put_more, put_none, put_new}
use Rattle.krieg_game.proofs.kept_outcomes.put_at.Goals as goal

pub returns-in_err-push-in-Ok-clause-are : goal.returns-in_err-push-in-Ok-clause-are
returns-in_err-push-in-Ok-clause-are c =
    put_none c.args.buckets.now.items c.args.heard c.in-Ok.at c.index_mut.result.now c.push.new.self c.requires.are (subst (IsPlace c.args.buckets.now.items c.args.heard) c.in-Ok.is c.requires.place) c.index_mut.ensures.value
    c.in_err-push-in-Ok.ensures.same

pub returns-in_ok-push-in-Ok : goal.returns-in_ok-push-in-Ok
returns-in_ok-push-in-Ok c =
    let more = put_more c.args.buckets.now.items c.args.heard c.in-Ok.at c.index_mut.result.now c.push.new.self c.args.position c.requires.are (subst (IsPlace c.args.buckets.now.items c.args.heard) c.in-Ok.is c.requires.place)
    c.index_mut.ensures.value c.in_ok-push-in-Ok.ensures.added in
    record { are = more.0; added = more.1 }

pub returns-in_ok-insert-in-Err : goal.returns-in_ok-insert-in-Err
returns-in_ok-insert-in-Err c =
    let new = put_new c.args.buckets.now.items c.args.heard c.in-Err.at c.in_ok-of-in-Err.field-0 c.args.position c.requires.are (subst (IsPlace c.args.buckets.now.items c.args.heard) c.in-Err.is c.requires.place)
    c.in_ok-of-in-Err.ensures.heard c.in_ok-of-in-Err.ensures.positions in
    let is = sym c.in_ok-insert-in-Err.ensures.items in
    record { are = subst AreBuckets is new.0; added = subst (λ bs. Holds (outcomes_in bs) (outcomes_in c.args.buckets.now.items ++ (c.args.heard, c.args.position) ∷ [])) is new.1 }
