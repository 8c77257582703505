use Rattle.std.proofs.Common.{◌≡◌, ◌≤◌, ◌<◌, List, Err, sym, ap, subst, ◌∙◌, length, arith}
use Rattle.krieg_belief.proofs.Common.{Pos, set_of, after_opening, IsPossible, prefix}
use Rattle.krieg_belief.proofs.Prefixes.{begun, possible_behind, list_exceeds, opening_exceeds, starts_within}
use Rattle.krieg_belief.proofs.beliefs.starts_of.Goals as goal

pub returns-then-len-limit-clause-stop : goal.returns-then-len-limit-clause-stop
returns-then-len-limit-clause-stop c =
    let s = c.args.s.now in
    let listed : c.in-Ok.listed ≡ set_of s.list = c.in-Ok.ensures.value ∙ ap set_of c.list.ensures.value in
    let over : c.args.limit < length c.in-Ok.listed = omega (arith, c.len.ensures.value) in
    list_exceeds s c.args.limit c.list_line.result c.in-Ok.listed listed over
    (c.list_line.ensures.value s.side (length s.list) ∙ ap (λ d. length (Rattle.krieg_sheet.specs.SheetText.head_lines d s.side (length s.list))) c.dialect.ensures.value)

starts : (c : goal.In-Ok-after_opening) → c.in-Ok-after_opening.start ≡ begun c.args.s.now
starts c =
    let listed : c.in-Ok.listed ≡ set_of c.args.s.now.list = c.in-Ok.ensures.value ∙ ap set_of c.list.ensures.value in
    c.in-Ok-after_opening.ensures.value ∙ (λ i. after_opening (c.dialect.ensures.value i) (c.side.ensures.value i) (c.opens.ensures.value i) (listed i))

pub returns-in-Ok-after_opening-clause-value : goal.returns-in-Ok-after_opening-clause-value
returns-in-Ok-after_opening-clause-value c = subst (IsPossible (prefix c.args.s.now 1)) (sym (starts c)) (possible_behind c.args.s.now c.opens.ensures.sheet 0)

pub returns-in-Ok-after_opening-clause-within : goal.returns-in-Ok-after_opening-clause-within
returns-in-Ok-after_opening-clause-within c =
    let listed : c.in-Ok.listed ≡ set_of c.args.s.now.list = c.in-Ok.ensures.value ∙ ap set_of c.list.ensures.value in
    let fits : length c.in-Ok.listed ≤ c.args.limit = omega (arith, c.len.ensures.value) in
    starts_within c.args.s.now c.args.limit c.opens.ensures.sheet (subst (λ (ps : List Pos). length ps ≤ c.args.limit) listed fits)
    (subst (λ (ps : List Pos). length ps ≤ c.args.limit) (starts c) c.in-Ok-after_opening.ensures.small)

pub returns-in-Err-after_opening-clause-stop : goal.returns-in-Err-after_opening-clause-stop
returns-in-Err-after_opening-clause-stop c =
    let s = c.args.s.now in
    let listed : c.in-Ok.listed ≡ set_of s.list = c.in-Ok.ensures.value ∙ ap set_of c.list.ensures.value in
    let fits : length c.in-Ok.listed ≤ c.args.limit = omega (arith, c.len.ensures.value) in
    let set : after_opening c.dialect.result c.side.result c.opens.result c.in-Ok.listed ≡ begun s = λ i. after_opening (c.dialect.ensures.value i) (c.side.ensures.value i) (c.opens.ensures.value i) (listed i) in
    opening_exceeds s c.args.limit c.line_before_entries.result c.in-Err-after_opening.stop c.stopped.result c.opens.ensures.sheet (subst (λ (ps : List Pos). length ps ≤ c.args.limit) listed fits)
    (λ e. subst (λ (ps : List Pos). c.args.limit < length ps) set (c.in-Err-after_opening.ensures.too_many (ap Err e))) c.line_before_entries.ensures.value c.stopped.ensures
