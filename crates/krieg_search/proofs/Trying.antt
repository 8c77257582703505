-- How the test of one try ends.
use Rattle.std.proofs.Common.{◌≡◌, ℕ, suc, ◌+◌, ◌-◌, ◌<◌, ◌⊎◌, inl, inr, Bool, true, false, ◌||◌, List, [], ◌∷◌, length, Option, Some, None, refl, sym, ap, subst, ◌∙◌, arith}
use Rattle.std.specs.Prelude.{IfSome, IsTrue, ◌↔◌}
use Rattle.std.specs.List.{list_all}
use Rattle.std.proofs.lemmas.Bool.{both_ways, or_left}
use Rattle.krieg_search.proofs.Common.{Pos, Move, Dialect, In, is_nil, refused, legal_in_some, can, begins, made, known, StoredLost, StoredWon, CoversSet, CoversTry, CoversSets, classes, Key, chess, SetRows, set_at, entries, Remainder, AtOnce, Refused, IsNumbered, IsReady, IsSearched, TellsSet, TellsTry, TellsSets, sets_of, TellsFirst, TellsBlock, FailsAtOnce, Leaves, IsRemainder}
use Rattle.krieg_theory.proofs.Steps.{refused_lt}
use Rattle.krieg_accounts.proofs.Covering as covering
use Rattle.krieg_accounts.proofs.TryEnds.{begins_class, begins_rest, answered_class, answered_all, answered_rest}
use Rattle.krieg_game.proofs.ChessLaws.{chess_is_game}
use Rattle.krieg_search.specs.declared.notes.Block.TheVariants.{Class}
use Rattle.krieg_search.proofs.Leaving.{sets_are}
use Rattle.krieg_search.proofs.Blocked.{class_blocks, refused_blocks}
use Rattle.krieg_search.proofs.Searching.{searched_split, searched_cut, searched_then, searched_number}

pub empty_is : (X : List Pos) (b : Bool) → (IsTrue b ↔ (X ≡ [])) → b ≡ true → is_nil X ≡ true
empty_is X b h e = ap is_nil (h.0 e)

pub some_is : (X : List Pos) (b : Bool) → (IsTrue b ↔ (X ≡ [])) → b ≡ false → is_nil X ≡ false
some_is [] b h e = absurd (both_ways b e (h.1 refl))
some_is (x ∷ X) b h e = refl

module _ (d : Dialect) (cut : Bool) where
  -- a try that fails at once
  pub failed : (T : SetRows) (B : List Pos) (t : Move) (j u0 u1 : ℕ) {found : Option Remainder} → IsReady d cut T → FailsAtOnce d cut B t j → (u1 + made (chess d) B t ≡ u0) ⊎ ((cut ≡ true) × (found ≡ None) × (u1 ≡ u0))
      → TellsBlock d cut T B j t u0 u1 (Some AtOnce) × IsSearched d cut (CoversTry (chess d) B j t) (made (chess d) B t) T T u0 u1
  failed T B t j u0 u1 {found = found} r f e = (
    record {
      tells = record {
        right = sym f.fails;
        stored = record {
          classes = λ y. absurd (both_ways false refl y);
          refused_part = λ y. absurd (both_ways false refl y);
          blocked = λ c y. subst (λ o. IfSome o (λ q. StoredLost (chess d) (entries T) q)) (sym (f.no_pair c)) tt;
        };
      };
      blocked = f;
      paid = λ n. absurd (cc);
    },
    taken e,
  )
    where
      taken : (u1 + made (chess d) B t ≡ u0) ⊎ ((cut ≡ true) × (found ≡ None) × (u1 ≡ u0)) → IsSearched d cut (CoversTry (chess d) B j t) (made (chess d) B t) T T u0 u1
      taken (inl s) = searched_split d cut (CoversTry (chess d) B j t) T (made (chess d) B t) u0 u1 r s
      taken (inr s) = subst (λ (u : ℕ). IsSearched d cut (CoversTry (chess d) B j t) (made (chess d) B t) T T u0 u) (sym s.2) (searched_cut d cut (CoversTry (chess d) B j t) T (made (chess d) B t) u0 s.0 r)

  -- what is at hand where the try does not fail at once
  pub record IsTried (T : SetRows) (B : List Pos) (t : Move) (j : ℕ) (l : Remainder) (u0 u1 : ℕ) : Type 0 where
    pub some : 0 < j
    pub ready : IsReady d cut T
    pub legal : legal_in_some (chess d) B t ≡ true
    pub leaves : Leaves d B t j l
    pub taken : u1 + made (chess d) B t ≡ u0

  pub tried_at : {T : SetRows} {B0 B : List Pos} {found : Option Remainder} {l : Remainder} (t : Move) (j u0 u1 : ℕ) → B0 ≡ B → found ≡ Some l → 0 < j → IsReady d cut T → legal_in_some (chess d) B t ≡ true → IsRemainder d cut B0 t j found → (u1 + made (chess d) B0 t ≡ u0) ⊎ ((cut ≡ true) × (found ≡ None) × (u1 ≡ u0)) → IsTried T B t j l u0 u1
  tried_at {B0 = B0} {found = found} {l = l} t j u0 u1 same is some ready legal left paid = record {
    some = some;
    ready = ready;
    legal = legal;
    leaves = subst (λ (X : List Pos). Leaves d X t j l) same (subst (λ (o : Option Remainder). IsRemainder d cut B0 t j o) is left);
    taken = subst (λ (X : List Pos). u1 + made (chess d) X t ≡ u0) same (taken paid);
  }
    where
      taken : (u1 + made (chess d) B0 t ≡ u0) ⊎ ((cut ≡ true) × (found ≡ None) × (u1 ≡ u0)) → u1 + made (chess d) B0 t ≡ u0
      taken (inl e) = e
      taken (inr e) = absurd (let k : ◌≡◌ {A = Option Remainder} None (Some l) = sym e.1 ∙ is in cc)

  module _ {T0 : SetRows} {B : List Pos} {t : Move} {j : ℕ} {l : Remainder} {u0 u1 : ℕ} (a : IsTried T0 B t j l u0 u1) where
    one_less : suc (j - 1) ≡ j
    one_less = let p = a.some in omega arith

    leaves_less : Leaves d B t (suc (j - 1)) l
    leaves_less = subst (λ (n : ℕ). Leaves d B t n l) (sym one_less) a.leaves

    at_sets : sets_of l.classes.items ≡ classes (chess d) B t
    at_sets = sets_are d B t l.classes.items a.leaves.classes_part

    -- the lists that cover the try cover its classes with one move less
    pub covers_classes : (R : List (List Pos × ℕ)) → CoversTry (chess d) B j t R → CoversSets (chess d) (sets_of l.classes.items) (j - 1) R
    covers_classes R h =
        subst (λ (Cs : List (List Pos)). CoversSets (chess d) Cs (j - 1) R) (sym at_sets)
        (covering.covers_classes (chess d) B (j - 1) t R (subst (λ (n : ℕ). CoversTry (chess d) B n t R) (sym one_less) h))

    pub after_split : IsSearched d cut (CoversTry (chess d) B j t) (made (chess d) B t) T0 T0 u0 u1
    after_split = searched_split d cut (CoversTry (chess d) B j t) T0 (made (chess d) B t) u0 u1 a.ready a.taken

    pub after_classes : {T1 : SetRows} {u2 : ℕ} → IsSearched d cut (CoversSets (chess d) (sets_of l.classes.items) (j - 1)) 0 T0 T1 u1 u2 → IsSearched d cut (CoversTry (chess d) B j t) (made (chess d) B t) T0 T1 u0 u2
    after_classes {T1 = T1} {u2 = u2} w = searched_then d cut (CoversTry (chess d) B j t) (CoversSets (chess d) (sets_of l.classes.items) (j - 1)) (made (chess d) B t) 0 (made (chess d) B t) T0 T0 T1 u0 u1 u2 covers_classes after_split (omega arith) w

    in_game : (T : SetRows) (won : Bool) → TellsSets d T (sets_of l.classes.items) (j - 1) won → TellsSets d T (classes (chess d) B t) (j - 1) won
    in_game T won w = subst (λ (Cs : List (List Pos)). TellsSets d T Cs (j - 1) won) at_sets w

    -- some class cannot be won
    pub class_lost : {T1 : SetRows} {u2 : ℕ} (heard : Key) (set : ℕ) → TellsFirst d T1 l.classes.items (j - 1) (Some (heard, set)) → TellsBlock d cut T1 B j t u0 u2 (Some (Class heard set))
    class_lost {T1 = T1} {u2 = u2} heard set w =
        let v = in_game T1 false w.tells in
        let b = class_blocks d B t (j - 1) l leaves_less heard (set_at T1 set) w.first in
        subst (λ (n : ℕ). TellsBlock d cut T1 B n t u0 u2 (Some (Class heard set))) one_less (record {
          tells = record {
            right = sym (begins_class (chess d) (chess_is_game d) (j - 1) B t (sym v.right));
            stored = answered_class (chess d) (chess_is_game d) cut (entries T1) B (j - 1) t a.leaves.none_stale (sym v.right) v.stored;
          };
          blocked = record { blocks = b.0; within = w.within; at = b.1 };
          paid = λ n. absurd (cc);
        })

    -- all classes can be won
    module _ {T1 : SetRows} (w : TellsFirst d T1 l.classes.items (j - 1) None) where
      all_won : list_all (can (chess d) (j - 1)) (classes (chess d) B t) ≡ true
      all_won = sym (in_game T1 true w.tells).right

      all_stored : (C : List Pos) → In C (classes (chess d) B t) → StoredWon (chess d) (entries T1) C
      all_stored = (in_game T1 true w.tells).stored.won refl

      rest_decides : begins (chess d) (suc (j - 1)) B t ≡ (is_nil (refused (chess d) B t) || can (chess d) (suc (j - 1)) (refused (chess d) B t))
      rest_decides = begins_rest (chess d) (chess_is_game d) (j - 1) B t a.legal a.leaves.none_stale all_won

      -- and no member refuses the try
      pub none_refuses : {u2 : ℕ} → IsSearched d cut (CoversSets (chess d) (sets_of l.classes.items) (j - 1)) 0 T0 T1 u1 u2 → is_nil l.refused ≡ true → TellsBlock d cut T1 B j t u0 u2 None
      none_refuses {u2 = u2} s n =
          let nil : is_nil (refused (chess d) B t) ≡ true = ap is_nil (sym a.leaves.refused_part) ∙ n in
          subst (λ (n : ℕ). TellsBlock d cut T1 B n t u0 u2 None) one_less (record {
            tells = record {
              right = sym (rest_decides ∙ or_left _ _ nil);
              stored = answered_all (chess d) (chess_is_game d) cut (entries T1) B (j - 1) t all_stored nil;
            };
            blocked = tt;
            paid = λ e. (let p = a.taken in let f = s.stretch.fewer in omega arith);
          })

      -- or those that do are searched last
      module _ {T2 : SetRows} {rest u2 : ℕ} (s : IsSearched d cut (CoversSets (chess d) (sets_of l.classes.items) (j - 1)) 0 T0 T1 u1 u2) (n : is_nil l.refused ≡ false) (i : IsNumbered T1 T2 l.refused rest) where
        abbrev X : List Pos
        X = set_at T2 rest

        is_rest : X ≡ refused (chess d) B t
        is_rest = i.interned.at ∙ a.leaves.refused_part

        some_rest : is_nil (refused (chess d) B t) ≡ false
        some_rest = ap is_nil (sym a.leaves.refused_part) ∙ n

        pub rest_smaller : length X < length B
        rest_smaller = subst (λ (Y : List Pos). length Y < length B) (sym is_rest) (refused_lt (chess d) (chess_is_game d) B t a.legal)

        pub before_rest : IsSearched d cut (CoversTry (chess d) B j t) (made (chess d) B t) T0 T2 u0 u2
        before_rest = searched_number d cut (after_classes s) i

        pub covers_rest : (R : List (List Pos × ℕ)) → CoversTry (chess d) B j t R → CoversSet (chess d) X j R
        covers_rest R h = subst (λ (Y : List Pos). CoversSet (chess d) Y j R) (sym is_rest) (covering.covers_refused (chess d) B j t some_rest R h)

        module _ {T3 : SetRows} {u3 : ℕ} (r : IsSearched d cut (CoversSet (chess d) X j) 0 T2 T3 u2 u3) where
          kept : (C : List Pos) → StoredWon (chess d) (entries T1) C → StoredWon (chess d) (entries T3) C
          kept C m = (m.0, m.1, r.stretch.kept (C, m.0) (Some m.1) (subst (λ E. known (chess d) E (C, m.0) ≡ Some (Some m.1)) (sym i.interned.noted) m.2))

          rest_known : (won : Bool) → TellsSet d T3 X j won → TellsSet d T3 (refused (chess d) B t) (suc (j - 1)) won
          rest_known won v = subst (λ (k : ℕ). TellsSet d T3 (refused (chess d) B t) k won) (sym one_less) (subst (λ (Y : List Pos). TellsSet d T3 Y j won) is_rest v)

          rest_tells : (won : Bool) → TellsSet d T3 X j won → TellsTry d cut T3 B (suc (j - 1)) t won
          rest_tells won v =
              let w = rest_known won v in
              record {
                right = w.right ∙ sym (rest_decides ∙ ap (λ b. b || can (chess d) (suc (j - 1)) (refused (chess d) B t)) some_rest);
                stored = answered_rest (chess d) (chess_is_game d) cut (entries T3) B (j - 1) t won a.leaves.none_stale all_won (λ C m. kept C (all_stored C m)) some_rest w.right w.stored;
              }

          pub after_rest : IsSearched d cut (CoversTry (chess d) B j t) (made (chess d) B t) T0 T3 u0 u3
          after_rest = searched_then d cut (CoversTry (chess d) B j t) (CoversSet (chess d) X j) (made (chess d) B t) 0 (made (chess d) B t) T0 T2 T3 u0 u2 u3 covers_rest before_rest (omega arith) r

          pub rest_won : TellsSet d T3 X j true → TellsBlock d cut T3 B j t u0 u3 None
          rest_won v = subst (λ (n : ℕ). TellsBlock d cut T3 B n t u0 u3 None) one_less (record { tells = rest_tells true v; blocked = tt; paid = λ e. (let p = a.taken in let f = s.stretch.fewer in let g = r.stretch.fewer in omega arith) })

          pub rest_lost : TellsSet d T3 X j false → TellsBlock d cut T3 B j t u0 u3 (Some (Refused rest))
          rest_lost v = subst (λ (n : ℕ). TellsBlock d cut T3 B n t u0 u3 (Some (Refused rest))) one_less (record {
            paid = λ e. absurd (cc);
            tells = rest_tells false v;
            blocked = record {
              blocks = refused_blocks d B t (j - 1) l leaves_less w.first some_rest (sym (rest_known false v).right);
              within = (let n = i.interned.within in let m = r.more.longer in omega arith);
              at = r.more.same rest i.interned.within ∙ is_rest;
            };
          })
