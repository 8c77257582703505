use Rattle.std.proofs.Common.{◌≡◌, ◌+◌, ◌*◌, ◌++◌, ◌∙◌, arith, length, map, take, drop}
use Rattle.std.specs.Prelude.{slice_set}
use Rattle.std.proofs.lemmas.List.{length-set, drop-set-lt}
use Rattle.krieg_pack.proofs.Common.{man_code, paired}
use Rattle.krieg_pack.proofs.Unpacking.{stand}
use Rattle.krieg_pack.proofs.ByteLemmas.{pair_step, bytes_end}
use Rattle.krieg_pack.proofs.packed.Packed.bytes.Goals as goal

pub loop-i-preserved : goal.loop-i-preserved
loop-i-preserved c =
    let i = c.loop-i.i in
    let men = c.args.self.now.board in
    let size : length c.loop-i.bytes ≡ 35 = c.loop-i.invariant.size in
    let squares : length men ≡ 64 = (stand c.self.inside c.args.self.now c.self.invariant c.self.view_is).size in
    let byte = 16 * c.code_at.result + c.code_at-in-loop-i.result in
    record {
      size = length-set c.loop-i.bytes i byte ∙ size;
      state = drop-set-lt 32 c.loop-i.bytes i byte c.loop-i-test.true ∙ c.loop-i.invariant.state;
      done =
          (λ k. take (i + 1) (slice_set c.loop-i.bytes i (16 * c.code_at.ensures.value k + c.code_at-in-loop-i.ensures.value k)) ++ paired (drop (2 * (i + 1)) (map man_code men)))
          ∙ pair_step c.loop-i.bytes men i (omega arith) (omega arith)
          ∙ c.loop-i.invariant.done;
    }

pub returns : goal.returns
returns c =
    let s = stand c.self.inside c.args.self.now c.self.invariant c.self.view_is in
    let last : c.loop-i.i ≡ 32 = omega arith in
    bytes_end c.loop-i.bytes c.args.self.now c.loop-i.i _ _ _ last s.size c.loop-i.invariant.state c.loop-i.invariant.done s.rights s.mark s.side
