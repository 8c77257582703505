-- The orders of keys: total, and strict.
use Rattle.std.proofs.Common.{◌≡◌, Bool, not, ◌&&◌, refl, sym, ap, ◌∙◌}
use Rattle.std.specs.Cmp.{IsTotalOrder}
use Rattle.std.specs.Ordering.{is_eq, is_lt, ordering_reverse, ordering_then}
use Rattle.std.specs.declared.cmp.Ordering.{Ordering}
use Rattle.std.specs.declared.cmp.Ordering.TheVariants.{Less, Equal, Greater}
use Rattle.std.proofs.lemmas.Cmp.{then_total, on_total}
use Rattle.std.specs.Prelude.{Option, Some, None}
use Rattle.krieg_game.proofs.Common.{Said, words_cmp, same, IsOrder, Key, RootKey, key_cmp, key_lt, heard_cmp, root_cmp, root_lt, IsStrict}
use Rattle.krieg_words.proofs.OrderLaws.{words_cmp_total, words_cmp_equal}
use Rattle.krieg_pack.proofs.Sorting.{is_order}

-- two comparisons one after the other say equal where both do
pub both_equal : (o r : Ordering) → ordering_then o r ≡ Equal → (o ≡ Equal) × (r ≡ Equal)
both_equal Less r h = absurd cc
both_equal Equal r h = (refl, h)
both_equal Greater r h = absurd cc

pub key_total : IsTotalOrder key_cmp
key_total = then_total (on_total (λ (k : Key). k.0) words_cmp_total) (on_total (λ (k : Key). k.1) words_cmp_total)

pub key_equal : (a b : Key) → key_cmp a b ≡ Equal → a ≡ b
key_equal a b h =
    let both = both_equal (words_cmp a.0 b.0) (words_cmp a.1 b.1) h in
    let own = words_cmp_equal a.0 b.0 both.0 in
    let reply = words_cmp_equal a.1 b.1 both.1 in
    λ i. (own i, reply i)

pub key_strict : IsStrict key_cmp
key_strict = record { total = key_total; apart = key_equal }

pub key_order : IsOrder key_lt
key_order = is_order key_cmp key_total key_equal

pub heard_total : IsTotalOrder heard_cmp
heard_total = record {
  antisymm = λ a b. turned a b;
  trans = λ a b c h k. chain a b c h k;
  congr = λ a b c h. alike a b c h;
}
  where
    turned : (a b : Option Said) → heard_cmp a b ≡ ordering_reverse (heard_cmp b a)
    turned None None = refl
    turned None (Some w) = refl
    turned (Some v) None = refl
    turned (Some v) (Some w) = words_cmp_total.antisymm v w

    chain : (a b c : Option Said) → heard_cmp a b ≡ Less → heard_cmp b c ≡ Less → heard_cmp a c ≡ Less
    chain None None c h k = k
    chain None (Some w) None h k = absurd cc
    chain None (Some w) (Some x) h k = refl
    chain (Some v) None c h k = absurd cc
    chain (Some v) (Some w) None h k = absurd cc
    chain (Some v) (Some w) (Some x) h k = words_cmp_total.trans v w x h k

    alike : (a b c : Option Said) → heard_cmp a b ≡ Equal → heard_cmp a c ≡ heard_cmp b c
    alike None None c h = refl
    alike None (Some w) c h = absurd cc
    alike (Some v) None c h = absurd cc
    alike (Some v) (Some w) None h = refl
    alike (Some v) (Some w) (Some x) h = words_cmp_total.congr v w x h

heard_equal : (a b : Option Said) → heard_cmp a b ≡ Equal → a ≡ b
heard_equal None None h = refl
heard_equal None (Some w) h = absurd cc
heard_equal (Some v) None h = absurd cc
heard_equal (Some v) (Some w) h = ap Some (words_cmp_equal v w h)

pub root_total : IsTotalOrder root_cmp
root_total = then_total (on_total (λ (k : RootKey). k.0) words_cmp_total) (on_total (λ (k : RootKey). k.1) heard_total)

pub root_equal : (a b : RootKey) → root_cmp a b ≡ Equal → a ≡ b
root_equal a b h =
    let both = both_equal (words_cmp a.0 b.0) (heard_cmp a.1 b.1) h in
    let opens = words_cmp_equal a.0 b.0 both.0 in
    let heard = heard_equal a.1 b.1 both.1 in
    λ i. (opens i, heard i)

pub root_strict : IsStrict root_cmp
root_strict = record { total = root_total; apart = root_equal }

pub root_order : IsOrder root_lt
root_order = is_order root_cmp root_total root_equal

neither : (o r : Ordering) → r ≡ ordering_reverse o → is_eq o ≡ not (is_lt o) && not (is_lt r)
neither Less r e = refl
neither Equal r e = sym (ap (λ (o : Ordering). not (is_lt o)) e)
neither Greater r e = sym (ap (λ (o : Ordering). not (is_lt o)) e)

-- keys that compare equal are the same key, by the theory's word
pub key_is : (b : Bool) (x y : Key) → b ≡ is_eq (key_cmp x y) → b ≡ same key_lt x y
key_is b x y e = e ∙ neither (key_cmp x y) (key_cmp y x) (key_total.antisymm y x)

pub root_is : (b : Bool) (x y : RootKey) → b ≡ is_eq (root_cmp x y) → b ≡ same root_lt x y
root_is b x y e = e ∙ neither (root_cmp x y) (root_cmp y x) (root_total.antisymm y x)

pub ruleset keys = (key_is, root_is)
