use Rattle.std.proofs.Common.{rules, ◌≡◌, ◌+◌, ◌<◌, ◌≤◌, List, Some, [], length, ap, refl, sym, subst, ◌∙◌, arith, map}
use Rattle.std.proofs.lemmas.List.{length-append}
use Rattle.std.specs.Prelude.{slice_get}
use Rattle.krieg_belief.proofs.Common.{Link, Pos, Entries, Adds, tale_of, kept, tales_after, begun}
use Rattle.krieg_belief.proofs.Kept.{numbered_at}
use Rattle.krieg_belief.proofs.Lines.{none_past, when_ok, tell_more, tell_over, tell_end}
use Rattle.krieg_belief.proofs.links.tell.Goals as goal
use Rattle.krieg_belief.proofs.links.tell.Goals.{in-Some+else-is_err+else-len-setting, in_default}

pub add_next-requires-clause-number : goal.add_next-requires-clause-number
add_next-requires-clause-number c =
    let at : slice_get c.args.tales.now.entries c.loop-i.i ≡ Some (c.in-Some.k.now, c.in-Some.at.now) = search rules in
    let lt = numbered_at _ c.args.tales.now.entries c.loop-i.i (c.in-Some.k.now, c.in-Some.at.now) c.requires.numbered at in
    let e = ap (λ (ls : List Link). length ls) c.loop-i.invariant.adds.more.1 in
    let f = length-append c.args.links.now.items c.loop-i.invariant.adds.more.0 in
    omega (arith, lt, e, f)

pub returns-then-len-setting-clause-stop : goal.returns-then-len-setting-clause-stop
returns-then-len-setting-clause-stop c =
    let ps = c.args.setting.now.starts in
    let a = c.args.links.now.items in
    let b = c.loop-i.links.items in
    let es = c.args.tales.now.entries in
    let eb = c.loop-i.after.entries in
    let links = c.add_next.new.links.items in
    let entries = c.add_next.new.tales.entries in
    let n = c.in-Some.at.now in
    let at : slice_get es c.loop-i.i ≡ Some (c.in-Some.k.now, n) = search rules in
    let g : Adds ps b links eb entries (tales_after c.args.setting.now.dialect c.args.setting.now.who c.args.line.now (tale_of (kept (map begun ps) b) (c.unpack.result, n))) = search rules in
    let over : c.args.setting.now.limit < length entries = search rules in (
      tell_over ps c.args.setting.now.dialect c.args.setting.now.who c.args.line.now a links es entries (c.loop-i.i + 1) c.args.setting.now.limit over
          (tell_more ps c.args.setting.now.dialect c.args.setting.now.who c.args.line.now a b links es eb entries c.loop-i.i (c.in-Some.k.now, n) at c.requires c.loop-i.invariant.adds
          (subst (λ (p : Pos). Adds ps b links eb entries (tales_after c.args.setting.now.dialect c.args.setting.now.who c.args.line.now (tale_of (kept (map begun ps) b) (p, n)))) c.unpack.ensures.value g)),
      refl,
    )

pub loop-i-preserved : goal.loop-i-preserved
loop-i-preserved c =
    let ps = c.args.setting.now.starts in
    let a = c.args.links.now.items in
    let b = c.loop-i.links.items in
    let es = c.args.tales.now.entries in
    let eb = c.loop-i.after.entries in
    elim c.match-get_index.branch [
      | in-Some+else-is_err+else-len-setting v ↦
          let n = v.in-Some.at.now in
          let links = v.add_next.new.links.items in
          let entries = v.add_next.new.tales.entries in
          let at : slice_get es c.loop-i.i ≡ Some (v.in-Some.k.now, n) = search rules in
          let g : Adds ps b links eb entries (tales_after c.args.setting.now.dialect c.args.setting.now.who c.args.line.now (tale_of (kept (map begun ps) b) (v.unpack.result, n))) = when_ok _ v.add_next.result v.add_next.ensures (sym v.is_err.ensures.value ∙ v.if-is_err.false) in
          let small : length entries ≤ c.args.setting.now.limit = search rules in
          let more : c.match-get_index.links.items ≡ links = search rules in
          let next : c.match-get_index.after.entries ≡ entries = search rules in
          let adds = tell_more ps c.args.setting.now.dialect c.args.setting.now.who c.args.line.now a b links es eb entries c.loop-i.i (v.in-Some.k.now, n) at c.requires c.loop-i.invariant.adds
          (subst (λ (p : Pos). Adds ps b links eb entries (tales_after c.args.setting.now.dialect c.args.setting.now.who c.args.line.now (tale_of (kept (map begun ps) b) (p, n)))) v.unpack.ensures.value g) in
          record {
            adds = subst (λ (x : List Link). Adds ps a x [] c.match-get_index.after.entries _) (sym more) (subst (λ (x : Entries). Adds ps a links [] x _) (sym next) adds);
            small = subst (λ (x : Entries). length x ≤ c.args.setting.now.limit) (sym next) small;
          }
      | in_default v ↦ absurd (none_past es c.loop-i.i (search rules) (search rules))
    ]

pub returns-clause-tales : goal.returns-clause-tales
returns-clause-tales c =
    let size : length c.args.tales.now.entries ≤ c.loop-i.i = search rules in
    tell_end c.args.setting.now.starts c.args.setting.now.dialect c.args.setting.now.who c.args.line.now c.args.links.now.items c.loop-i.links.items c.args.tales.now.entries c.loop-i.after.entries c.loop-i.i size c.loop-i.invariant.adds
