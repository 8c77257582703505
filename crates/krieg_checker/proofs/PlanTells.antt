-- What the checker found of each root tells the worst case of the plan.
use Rattle.std.proofs.Common.{◌≡◌, ℕ, ◌≤◌, ◌<◌, Bool, true, false, not, ◌&&◌, ◌||◌, List, [], ◌∷◌, Some, None, refl, sym, ap, ◌∙◌, arith}
use Rattle.std.specs.Prelude.{nat_le}
use Rattle.std.specs.List.{list_all, list_any}
use Rattle.std.proofs.lemmas.Bool.{leb-true, leb-false, le-leb, both_ways}
use Rattle.std.proofs.lemmas.List.Folds.{list_all-append}
use Rattle.krieg_checker.proofs.Common.{IsOrder, Game, Outset, Plan, is_over, all_starts, openings, opening_set, wins_root, mates, IsWorst, Tells, MOST_COUNTED}
use Rattle.krieg_checker.proofs.Sets.{by_keys}

module _ (G : Game) (O : Outset G) where
  one_more : (o a A X H : Bool) → X ≡ (not A && H) → ((not o && a) && X) ≡ (not (o || A) && (a && H))
  one_more true a A X H e = refl
  one_more false true A X H e = e
  one_more false false A X H e = sym (no (not A))
    where
      no : (b : Bool) → (b && false) ≡ false
      no true = refl
      no false = refl

  mates_starts : (plan : Plan G O) (S : List G.Position) (k : ℕ) → mates G O plan S k ≡ (not (list_any (is_over G O) S) && list_all (λ s. wins_root G O plan s.0 s.1 k) (all_starts G O S))
  mates_starts plan [] k = refl
  mates_starts plan (p ∷ S) k =
      one_more (is_over G O p) (list_all (λ s. wins_root G O plan s.0 s.1 k) (O.starts p)) (list_any (is_over G O) S) (mates G O plan S k) (list_all (λ s. wins_root G O plan s.0 s.1 k) (all_starts G O S)) (mates_starts plan S k)
      ∙ ap (λ (b : Bool). not (is_over G O p || list_any (is_over G O) S) && b) (sym (list_all-append (λ s. wins_root G O plan s.0 s.1 k) (O.starts p) (all_starts G O S)))

  -- the plan mates where no listed position is over and each opening set is won at its root
  pub mates_parted : IsOrder O.root_lt → IsOrder G.position_lt → (plan : Plan G O) (S : List G.Position) (k : ℕ) →
      mates G O plan S k ≡ (not (list_any (is_over G O) S) && list_all (λ key. list_all (λ p. wins_root G O plan key p k) (opening_set G O S key)) (openings G O S))
  mates_parted ro xo plan S k =
      mates_starts plan S k ∙ ap (λ (b : Bool). not (list_any (is_over G O) S) && b) (by_keys O.root_lt ro G.position_lt xo (λ key p. wins_root G O plan key p k) (all_starts G O S))

  -- a number that was found is the worst case, and where none was found the plan mates within none of the numbers of a file
  pub worst_is : (plan : Plan G O) (S : List G.Position) (w : ℕ) → w ≤ MOST_COUNTED → Tells (Some w) (mates G O plan S) → IsWorst G O plan S w
  worst_is plan S w small h = record {
    mates_within = h w small ∙ le-leb w w (omega arith);
    least = λ i m. least i m;
  }
    where
      least : (i : ℕ) → mates G O plan S i ≡ true → w ≤ i
      least i m = by_size (nat_le w i) refl
        where
          by_size : (b : Bool) → nat_le w i ≡ b → w ≤ i
          by_size true e = leb-true w i e
          by_size false e =
              let below : i < w = leb-false w i e in
              absurd (both_ways (mates G O plan S i) (h i (omega arith) ∙ e) m)

  pub none_mates : (plan : Plan G O) (S : List G.Position) (k : ℕ) → k ≤ MOST_COUNTED → Tells None (mates G O plan S) → mates G O plan S k ≡ false
  none_mates plan S k small h = h k small
