use Rattle.std.proofs.Common.{rules, ◌≡◌, ℕ, List, Ok, sym, ap, subst, ◌∙◌, map, length, Result}
use Rattle.krieg_strategy.specs.declared.strategy.Strategy.{Strategy}
use Rattle.krieg_strategyfile.proofs.Common.{GivesOn, Place, TextFault, StrategyState, state_of, an_end, ◌>>=◌, RootKey, all_roots_at, taken, root_of, waits}
use Rattle.krieg_strategyfile.proofs.Whole.{at_end, behind_nodes, from_roots, lost}
use Rattle.krieg_strategyfile.proofs.reading.read_parts.Goals as goal

pub returns-in_err-roots : goal.returns-in_err-roots
returns-in_err-roots c =
    let whole = behind_nodes c.in_ok-dialect.dialect c.in_ok-side.side c.in_ok-side.list.items c.in_ok-worst.worst c.in_ok-nodes.nodes c.args.from.now c.read_heading.new.from c.read_list.new.from c.read_worst.new.from c.read_all_nodes.new.from
    c.in_ok-dialect.ensures c.in_ok-side.ensures c.in_ok-worst.ensures.value c.in_ok-nodes.ensures.value in
    let then = at_end c.in_ok-dialect.dialect c.in_ok-side.side c.in_ok-side.list.items c.in_ok-worst.worst c.in_ok-nodes.nodes in
    let failed : GivesOn {X = Strategy} (λ s. state_of s) c.from_residual-in_err-roots.result c.read_roots_to.new.from (from_roots c.in_ok-dialect.dialect c.in_ok-side.side c.in_ok-side.list.items c.in_ok-worst.worst (c.in_ok-nodes.nodes, c.read_all_nodes.new.from)) = search (rules, lost) in
    subst (λ (t : Result (StrategyState × Place) TextFault). GivesOn {X = Strategy} (λ s. state_of s) c.from_residual-in_err-roots.result c.read_roots_to.new.from t) (sym whole) failed

pub returns-in_err-read_word : goal.returns-in_err-read_word
returns-in_err-read_word c =
    let whole = behind_nodes c.in_ok-dialect.dialect c.in_ok-side.side c.in_ok-side.list.items c.in_ok-worst.worst c.in_ok-nodes.nodes c.args.from.now c.read_heading.new.from c.read_list.new.from c.read_worst.new.from c.read_all_nodes.new.from
    c.in_ok-dialect.ensures c.in_ok-side.ensures c.in_ok-worst.ensures.value c.in_ok-nodes.ensures.value in
    let then = at_end c.in_ok-dialect.dialect c.in_ok-side.side c.in_ok-side.list.items c.in_ok-worst.worst c.in_ok-nodes.nodes in
    let roots : all_roots_at c.in_ok-dialect.dialect (waits c.in_ok-side.side c.in_ok-side.list.items) (length c.in_ok-nodes.nodes) c.read_all_nodes.new.from ≡ Ok (map root_of c.in_ok-roots.roots.items, c.read_roots_to.new.from) = rw c.deref.ensures.value at c.in_ok-roots.ensures.value in
    let given = whole ∙ ap (λ (t : Result (List (RootKey × ℕ) × Place) TextFault). t >>= then) roots in
    let failed : GivesOn {X = Strategy} (λ s. state_of s) c.from_residual-in_err-read_word.result c.read_word.new.from (then (map root_of c.in_ok-roots.roots.items, c.read_roots_to.new.from)) = search (rules, lost) in
    subst (λ (t : Result (StrategyState × Place) TextFault). GivesOn {X = Strategy} (λ s. state_of s) c.from_residual-in_err-read_word.result c.read_word.new.from t) (sym given) failed

pub returns : goal.returns
returns c =
    let whole = behind_nodes c.in_ok-dialect.dialect c.in_ok-side.side c.in_ok-side.list.items c.in_ok-worst.worst c.in_ok-nodes.nodes c.args.from.now c.read_heading.new.from c.read_list.new.from c.read_worst.new.from c.read_all_nodes.new.from
    c.in_ok-dialect.ensures c.in_ok-side.ensures c.in_ok-worst.ensures.value c.in_ok-nodes.ensures.value in
    let then = at_end c.in_ok-dialect.dialect c.in_ok-side.side c.in_ok-side.list.items c.in_ok-worst.worst c.in_ok-nodes.nodes in
    let roots : all_roots_at c.in_ok-dialect.dialect (waits c.in_ok-side.side c.in_ok-side.list.items) (length c.in_ok-nodes.nodes) c.read_all_nodes.new.from ≡ Ok (map root_of c.in_ok-roots.roots.items, c.read_roots_to.new.from) = rw c.deref.ensures.value at c.in_ok-roots.ensures.value in
    let given = whole ∙ ap (λ (t : Result (List (RootKey × ℕ) × Place) TextFault). t >>= then) roots in
    let end : taken an_end.form c.read_roots_to.new.from ≡ Ok (tt, c.read_word.new.from) = c.in_ok-read_word.ensures.value in
    given ∙ ap (λ (t : Result (Unit {0} × Place) TextFault). ◌>>=◌ {B = StrategyState × Place} t (λ e. Ok (record { dialect = c.in_ok-dialect.dialect; side = c.in_ok-side.side; list = c.in_ok-side.list.items; worst = c.in_ok-worst.worst; nodes = c.in_ok-nodes.nodes; roots = map root_of c.in_ok-roots.roots.items }, e.1))) end
