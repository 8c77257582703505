-- The reader of a strategy file in the parts by which it is read.
use Rattle.std.proofs.Common.{◌≡◌, ℕ, List, length, Result, Ok, Err, refl, sym, ap, ◌∙◌}
use Rattle.krieg_text.specs.declared.fault.TextFault.TheVariants.{At, NoMemory}
use Rattle.krieg_strategyfile.proofs.Common.{GivesOn, Pos, Side, Move, TextFault, ◌>>=◌, Place, taken, Dialect, Key, RootKey, Node, waits, StrategyState, a_version, a_dialect, a_side, a_list, a_worst, a_count, a_root_count, an_end, heading_at, list_at, listing_at, nodes_at, all_nodes_at, roots_at, all_roots_at, strategy_at}

-- ---- one step after another

abbrev Read : Type 0 → Type 0
Read A = Result (A × Place) TextFault

grouped : {A B C : Type 0} (t : Read A) (f : A × Place → Read B) (g : B × Place → Read C) → ◌>>=◌ {B = C × Place} (◌>>=◌ {B = B × Place} t f) g ≡ ◌>>=◌ {B = C × Place} t (λ x. ◌>>=◌ {B = C × Place} (f x) g)
grouped (Ok x) f g = refl
grouped (Err e) f g = refl

-- ---- the parts

abbrev pub at_end : Dialect → Side → List Pos → ℕ → List (Node Move Key) → List (RootKey × ℕ) × Place → Read StrategyState
at_end d who list w ns r = taken an_end.form r.1 >>= λ e. Ok (record { dialect = d; side = who; list = list; worst = w; nodes = ns; roots = r.0 }, e.1)

abbrev pub from_roots : Dialect → Side → List Pos → ℕ → List (Node Move Key) × Place → Read StrategyState
from_roots d who list w ns = all_roots_at d (waits who list) (length ns.0) ns.1 >>= at_end d who list w ns.0

abbrev from_nodes : Dialect → Side → List Pos → ℕ × Place → Read StrategyState
from_nodes d who list w = all_nodes_at d w.1 >>= from_roots d who list w.0

abbrev from_worst : Dialect → (Side × List Pos) × Place → Read StrategyState
from_worst d l = taken a_worst.form l.1 >>= from_nodes d l.0.0 l.0.1

abbrev from_list : Dialect × Place → Read StrategyState
from_list d = listing_at d.1 >>= from_worst d.0

-- ---- as the description has them

roots_flat : (d : Dialect) (who : Side) (list : List Pos) (w : ℕ) (ns : List (Node Move Key) × Place) →
    from_roots d who list w ns ≡ (taken a_root_count.form ns.1 >>= λ r. roots_at d (waits who list) (length ns.0) r.0 r.1 >>= at_end d who list w ns.0)
roots_flat d who list w ns = grouped (taken a_root_count.form ns.1) (λ r. roots_at d (waits who list) (length ns.0) r.0 r.1) (at_end d who list w ns.0)

abbrev nodes_on : Dialect → Side → List Pos → ℕ × Place → Read StrategyState
nodes_on d who list w =
    taken a_count.form w.1 >>= λ n. nodes_at d n.0 n.1 >>= λ ns. taken a_root_count.form ns.1 >>= λ r. roots_at d (waits who list) (length ns.0) r.0 r.1 >>= at_end d who list w.0 ns.0

nodes_flat : (d : Dialect) (who : Side) (list : List Pos) (w : ℕ × Place) → from_nodes d who list w ≡ nodes_on d who list w
nodes_flat d who list w =
    grouped (taken a_count.form w.1) (λ n. nodes_at d n.0 n.1) (from_roots d who list w.0)
    ∙ (λ i. taken a_count.form w.1 >>= λ n. nodes_at d n.0 n.1 >>= λ ns. roots_flat d who list w.0 ns i)

abbrev worst_on : Dialect → (Side × List Pos) × Place → Read StrategyState
worst_on d l = taken a_worst.form l.1 >>= nodes_on d l.0.0 l.0.1

abbrev list_on : Dialect × Place → Read StrategyState
list_on d = taken a_side.form d.1 >>= λ who. taken a_list.form who.1 >>= λ k. list_at who.0 k.0 k.1 >>= λ list. worst_on d.0 ((who.0, list.0), list.1)

list_flat : (d : Dialect × Place) → from_list d ≡ list_on d
list_flat d =
    let named = λ (who : Side × Place) (list : List Pos × Place). Ok ((who.0, list.0), list.1) in
    (λ i. listing_at d.1 >>= λ l. taken a_worst.form l.1 >>= λ w. nodes_flat d.0 l.0.0 l.0.1 w i)
    ∙ grouped (taken a_side.form d.1) (λ who. taken a_list.form who.1 >>= λ k. list_at who.0 k.0 k.1 >>= named who) (worst_on d.0)
    ∙ (λ i. taken a_side.form d.1 >>= λ who. grouped (taken a_list.form who.1) (λ k. list_at who.0 k.0 k.1 >>= named who) (worst_on d.0) i)
    ∙ (λ i. taken a_side.form d.1 >>= λ who. taken a_list.form who.1 >>= λ k. grouped (list_at who.0 k.0 k.1) (named who) (worst_on d.0) i)

whole_flat : (p : Place) → (heading_at p >>= from_list) ≡ strategy_at p
unfolding strategy_at
whole_flat p =
    (λ i. heading_at p >>= λ d. list_flat d i)
    ∙ grouped (taken a_version.form p) (λ v. taken a_dialect.form v.1) list_on

-- ---- what is left to read behind the nodes

pub behind_nodes : (d : Dialect) (who : Side) (list : List Pos) (w : ℕ) (ns : List (Node Move Key)) (p a b c q : Place) → heading_at p ≡ Ok (d, a) → listing_at a ≡ Ok ((who, list), b) → taken a_worst.form b ≡ Ok (w, c) → all_nodes_at d c ≡ Ok (ns, q) →
    strategy_at p ≡ from_roots d who list w (ns, q)
behind_nodes d who list w ns p a b c q heading listing worst nodes =
    sym (whole_flat p)
    ∙ ap (λ (t : Read Dialect). t >>= from_list) heading
    ∙ ap (λ (t : Read (Side × List Pos)). t >>= from_worst d) listing
    ∙ ap (λ (t : Read ℕ). t >>= from_nodes d who list) worst
    ∙ ap (λ (t : Read (List (Node Move Key))). t >>= from_roots d who list w) nodes

-- a part that gives no value leaves none of the whole
pub lost : {A B X Y : Type 0} (view : X → A) (views : Y → B) (e : TextFault) (q : Place) (t : Read A) (f : A × Place → Read B) → GivesOn view (Err e) q t → GivesOn views (Err e) q (◌>>=◌ {B = B × Place} t f)
lost view views NoMemory q t f given = tt
lost view views (At line kind) q t f given = (ap (λ (r : Read _). r >>= f) given.0, given.1)
