use Rattle.std.proofs.Common.{rules, ◌≡◌, ◌<◌, ℕ, List, Some, length, map, refl, sym, ap, subst, ◌∙◌}
use Rattle.std.specs.Prelude.{slice_get}
use Rattle.std.proofs.lemmas.Option.{slice_get_read}
use Rattle.krieg_belief.proofs.Common.{Pos, ShownState, tales_of, shown_of}
use Rattle.krieg_belief.proofs.GivenGames.{as_many, given, game_is}
use Rattle.krieg_belief.proofs.games.Games.get.Goals as goal

pub returns : goal.returns
returns c =
    let s = c.self.inside.sheet.now in
    let ps = c.self.inside.starts in
    let ls = c.self.inside.links.items in
    let lasts = c.self.inside.lasts.items in
    let e : Pos × ℕ = c.index.result.now in
    let games : c.args.self.now ≡ map (shown_of s) (tales_of ps ls lasts) = search rules in
    let within : c.args.i < length lasts = subst (λ (n : ℕ). c.args.i < n) (ap (λ (gs : List ShownState). length gs) games ∙ as_many s ps ls lasts) c.requires in
    let at : slice_get lasts c.args.i ≡ Some e = slice_get_read lasts (length lasts) c.args.i e refl within c.index.ensures in
    ap (λ (gs : List ShownState). slice_get gs c.args.i) games
    ∙ (given s ps ls lasts c.args.i e at
    ∙ ap Some (sym (game_is s ps ls lasts c.deref.result.now e c.unpack.result c.in_ok-traced.traced.start c.side.result c.entries-entries.result.now _ c.in_ok-events_by.field-0.items (search rules) c.deref.ensures.value c.in_ok-traced.ensures.start c.in_ok-traced.ensures.replies c.side.ensures.value c.entries-entries.ensures.value c.in_ok-events_by.ensures)))
