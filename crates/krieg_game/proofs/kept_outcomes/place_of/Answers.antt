use Rattle.std.proofs.Common.{sym, ap, ◌∙◌, rules}
use Rattle.std.specs.Prelude.{slice_index_or}
use Rattle.std.proofs.lemmas.Fn.{always_returns_same}
use Rattle.std.proofs.lemmas.List.{get_or_default}
use Rattle.krieg_theory.proofs.Ascending.{same_eq}
use Rattle.krieg_game.proofs.Common.{key_cmp, key_lt, Bucket}
use Rattle.krieg_game.proofs.KeyLaws.{key_order}
use Rattle.krieg_game.proofs.Buckets.{heard_in, place_found}
use Rattle.krieg_game.proofs.kept_outcomes.place_of.Goals as goal

pub returns-then-is : goal.returns-then-is
returns-then-is c =
    let bs = c.args.buckets.now in
    let last = c.index-buckets-last.result in
    let is = same_eq key_lt key_order (slice_index_or bs c.args.last last).heard c.args.heard.now (sym c.is.ensures ∙ c.if-is.true) in
    (c.if-last-buckets.true, λ d. ap heard_in (get_or_default bs c.args.last d last c.if-last-buckets.true) ∙ is)

pub returns : goal.returns
returns c =
    place_found c.args.buckets.now c.args.heard.now c.binary_search_by.result c.requires c.binary_search_by.ensures.bound
    (c.binary_search_by.ensures.position (λ (b : Bucket). key_cmp b.heard c.args.heard.now) (always_returns_same _ _ _ (λ a r g h. search rules)))
