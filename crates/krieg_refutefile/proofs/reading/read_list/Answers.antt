use Rattle.std.proofs.Common.{rules, ◌≡◌, ◌∷◌, [], ◌++◌, Some, Ok, Err, arith, Vec, Global}
use Rattle.std.specs.Prelude.{unwrap_or}
use Rattle.krieg_refutefile.proofs.Common.{Pos, GivesOn, listed_at}
use Rattle.krieg_format.proofs.Repeats.{item_ok, item_gives}
use Rattle.krieg_refutefile.proofs.reading.read_list.Goals as goal

pub returns-in-Err : goal.returns-in-Err
returns-in-Err c =
    let given : GivesOn {X = Pos} (λ p. p) (Err c.in-Err.fault) c.next_listed.new.from (listed_at c.args.who c.loop-i.first c.loop-i.from) = search rules in
    item_gives (listed_at c.args.who) (λ first x. Some (unwrap_or first x)) {X = Pos} {Y = Vec _ Global} (λ p. p) (λ v. v.items) c.loop-i.list.items c.args.n c.loop-i.i c.loop-i.first c.loop-i.from c.next_listed.new.from c.in-Err.fault _ (omega arith) given c.loop-i.invariant.read

pub loop-i-preserved : goal.loop-i-preserved
loop-i-preserved c =
    let read : listed_at c.args.who c.loop-i.first c.loop-i.from ≡ Ok (c.in-Ok.position, c.next_listed.new.from) = search rules in
    let pushed : c.push.new.self.items ≡ c.loop-i.list.items ++ c.in-Ok.position ∷ [] = search rules in
    let first : c.unwrap_or.result ≡ unwrap_or c.loop-i.first c.in-Ok.position = c.unwrap_or.ensures in
    record { read = rw (pushed, first) (item_ok (listed_at c.args.who) (λ first x. Some (unwrap_or first x)) c.loop-i.list.items c.args.n c.loop-i.i c.loop-i.first c.loop-i.from c.next_listed.new.from c.in-Ok.position _ (omega arith) read c.loop-i.invariant.read) }
