use Rattle.std.proofs.Common.{◌≡◌, sym, subst, rules, w64, ℕ}
use Rattle.std.specs.Int.{trailing_zeros}
use Rattle.krieg_board.proofs.Common.{IsLowest}
use Rattle.krieg_board.proofs.SetLemmas.{lowest}
use Rattle.krieg_board.proofs.set.lowest.Goals as goal

pub returns : goal.returns
returns c =
    let is : c.unwrap.result ≡ trailing_zeros w64 c.args.set = search rules in
    subst (λ (s : ℕ). IsLowest c.args.set s) (sym is) (lowest c.args.set c.requires c.ranges.set.fits)
