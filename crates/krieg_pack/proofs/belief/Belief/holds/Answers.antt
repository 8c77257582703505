use Rattle.std.proofs.Common.{◌≡◌, List, true, sym, subst, ◌∙◌}
use Rattle.std.specs.Prelude.{is_ok}
use Rattle.krieg_pack.proofs.Common.{Pos, In, IsAscending}
use Rattle.krieg_pack.proofs.PositionSets.{found_position}
use Rattle.krieg_pack.proofs.belief.Belief.holds.Goals as goal

pub returns : goal.returns
returns c =
    let here = c.as_slice.ensures.value ∙ c.self.view_is in
    let f = found_position c.as_slice.result.now c.pack-key.result c.binary_search.result (subst IsAscending (sym c.as_slice.ensures.value) c.self.invariant) c.binary_search.ensures.bound c.binary_search.ensures.position in
    let P : Pos → List Pos → Type 0 = λ p ps. (is_ok c.binary_search.result ≡ true → In p ps) × (In p ps → is_ok c.binary_search.result ≡ true) in
    let g : P c.args.p.now c.args.self.now = subst (λ ps. P c.args.p.now ps) here (subst (λ p. P p c.as_slice.result.now) c.pack-key.ensures.value f) in
    (λ e. g.0 (sym c.is_ok.ensures.value ∙ e), λ i. c.is_ok.ensures.value ∙ g.1 i)
