use Rattle.std.proofs.Common.{rules, ◌+◌, ◌≤◌, ℕ, List, length, map, take, sym, subst}
use Rattle.std.specs.Prelude.{IfErr}
use Rattle.krieg_belief.proofs.Common.{Pos, SheetState, AreShown, begun, tales_of, place_of, Link, run}
use Rattle.krieg_belief.proofs.Starts.{are_starts}
use Rattle.krieg_belief.proofs.Found.{all_found, numbers_below, answer, as_told, places_possible}
use Rattle.krieg_pack.specs.Members.{set_of}
use Rattle.krieg_belief.specs.Limits.{IsStop, IsLateStop}
use Rattle.krieg_belief.proofs.Prefixes.{starts_are, listed_fit, starts_fit, entry_exceeds, all_within, if_err}
use Rattle.krieg_belief.proofs.why_possible.least_games.Goals as goal

pub tell_lines-requires-clause-fits : goal.tell_lines-requires-clause-fits
tell_lines-requires-clause-fits c =
    let s : SheetState = c.args.s.now in
    subst (λ (ps : List Pos). length ps ≤ c.args.limit) (sym (starts_are s c.in_ok-starts_of.field-0 c.entries.ensures.sheet c.in_ok-starts_of.ensures.value))
    (starts_fit s c.args.limit c.entries.ensures.sheet c.in_ok-starts_of.ensures.within)

pub returns-in_err-tales-clause-stop : goal.returns-in_err-tales-clause-stop
returns-in_err-tales-clause-stop c =
    let s : SheetState = c.args.s.now in
    let start = starts_are s c.in_ok-starts_of.field-0 c.entries.ensures.sheet c.in_ok-starts_of.ensures.value in
    let late : IfErr c.from_residual-in_err-tales.result (IsLateStop c.dialect.result c.side.result c.entries.result.now c.in_ok-starts_of.field-0 c.args.limit c.line_before_entries-behind.result) = search rules in
    if_err _ (IsStop s c.args.limit) c.from_residual-in_err-tales.result
    (λ r l. entry_exceeds s c.args.limit c.line_before_entries-behind.result r c.entries.ensures.sheet (listed_fit s c.args.limit c.in_ok-starts_of.ensures.within) c.line_before_entries-behind.ensures.value
    (subst (λ (T : Type 0). T)
    (λ i. IsLateStop (c.dialect.ensures.value i) (c.side.ensures.value i) (c.entries.ensures.value i) (start i) c.args.limit c.line_before_entries-behind.result r)
    l))
    late

pub kept-requires : goal.kept-requires
kept-requires c =
    let s : SheetState = c.args.s.now in
    let ps = c.in_ok-starts_of.field-0 in
    let ls : List Link = c.tell_lines.new.links.items in
    let es = c.in_ok-tales.tales.entries in
    let told = as_told s c.dialect.result c.side.result c.entries.result.now (map begun ps) (tales_of ps ls es) c.dialect.ensures.value c.side.ensures.value c.entries.ensures.value c.in_ok-tales.ensures.tales in
    let possible = places_possible s c.entries.ensures.sheet ps c.in_ok-starts_of.ensures.value ls es told in
    let found = all_found s c.entries.ensures.sheet ps (are_starts s ps c.in_ok-starts_of.ensures.value) ls es told (set_of (map place_of es)) possible in
    record {
      grounded = c.in_ok-tales.ensures.kept.grounded;
      numbered = numbers_below (length ps + length ls) es (set_of (map place_of es)) c.in-Ok.lasts.items c.in_ok-tales.ensures.kept.numbered found c.in-Ok.ensures;
    }

pub returns-in-Ok-clause-value : goal.returns-in-Ok-clause-value
returns-in-Ok-clause-value c =
    let s : SheetState = c.args.s.now in
    let ps = c.in_ok-starts_of.field-0 in
    let ls : List Link = c.tell_lines.new.links.items in
    let es = c.in_ok-tales.tales.entries in
    let told = as_told s c.dialect.result c.side.result c.entries.result.now (map begun ps) (tales_of ps ls es) c.dialect.ensures.value c.side.ensures.value c.entries.ensures.value c.in_ok-tales.ensures.tales in
    let possible = places_possible s c.entries.ensures.sheet ps c.in_ok-starts_of.ensures.value ls es told in
    subst (AreShown s) (sym c.kept.ensures) (answer s c.entries.ensures.sheet ps (are_starts s ps c.in_ok-starts_of.ensures.value) ls es told (set_of (map place_of es)) possible c.in-Ok.lasts.items c.in-Ok.ensures)

pub returns-in-Ok-clause-within : goal.returns-in-Ok-clause-within
returns-in-Ok-clause-within c =
    let s : SheetState = c.args.s.now in
    let start = starts_are s c.in_ok-starts_of.field-0 c.entries.ensures.sheet c.in_ok-starts_of.ensures.value in
    all_within s c.args.limit c.entries.ensures.sheet (listed_fit s c.args.limit c.in_ok-starts_of.ensures.within)
    (subst (λ (T : Type 0). T)
    (λ i. (n : ℕ) → n ≤ length (c.entries.ensures.value i) → length (run (c.dialect.ensures.value i) (c.side.ensures.value i) (take n (c.entries.ensures.value i)) (start i)) ≤ c.args.limit)
    c.in_ok-tales.ensures.within)
