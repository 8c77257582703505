-- Notes on sets that cannot be won.
use Rattle.std.proofs.Common.{◌≡◌, ℕ, suc, ◌+◌, ◌<◌, ◌≤◌, Bool, true, false, ◌⊎◌, inl, inr, List, [], ◌∷◌, ◌++◌, length, map, take, get_or, Option, Some, None, refl, sym, ap, subst, ◌∙◌, arith, Vec}
use Rattle.std.specs.Prelude.{◌==◌, IfSome, option_map}
use Rattle.std.specs.declared.alloc.Global.{Global}
use Rattle.std.specs.List.{All}
use Rattle.std.specs.Map.{lookup}
use Rattle.std.proofs.Math.Seq.{take-suc}
use Rattle.std.proofs.lemmas.List.{map-append, take_all}
use Rattle.std.proofs.lemmas.List.Elements.{All-nil, All-push, All-weaker}
use Rattle.std.proofs.lemmas.Bool.{cases_Bool, cond-true, cond-false, and_parts, eqb-true}
use Rattle.indexmap.specs.IndexMap.{insert_entry}
use Rattle.krieg_search.proofs.Common.{Pos, Move, Dialect, In, refused, class, tries, can, Key, chess, SetRows, set_at, IsMore, Question, Note, Block, AtOnce, Refused, Rows, NoteState, notes_in, same_asked, IsLostPart, IsBlock, IsRow, AreNotes}
use Rattle.krieg_costs.specs.Block as theory
use Rattle.krieg_search.specs.declared.notes.Block.TheVariants.{Class}

equal_asked : (a b : Question) → same_asked a b ≡ true → a ≡ b
equal_asked a b h =
    let p = and_parts (a.set == b.set) (a.moves == b.moves) h in
    let x = eqb-true a.set b.set p.0 in
    let y = eqb-true a.moves b.moves p.1 in
    λ i. record { set = x i; moves = y i }

more_part : (d : Dialect) (T T' : SetRows) (B : List Pos) (j : ℕ) (t : Move) (by : theory.Block Key) (part : List Pos) (set : ℕ) → IsMore T T' → IsLostPart d T B j t by part set → IsLostPart d T' B j t by part set
more_part d T T' B j t by part set m h = record { blocks = h.blocks; within = (let l = m.longer in let w = h.within in omega arith); at = m.same set h.within ∙ h.at }

-- a row that is kept adds at most its notes
pub kept_few : (N : Rows) (a : Question) (ns : Vec Note Global) → notes_in (insert_entry same_asked N a ns) ≤ notes_in N + length ns.items
kept_few [] a ns = omega arith
kept_few (x ∷ N) a ns = go (cases_Bool (same_asked a x.0)) (kept_few N a ns)
  where
    go : (same_asked a x.0 ≡ true) ⊎ (same_asked a x.0 ≡ false) → notes_in (insert_entry same_asked N a ns) ≤ notes_in N + length ns.items → notes_in (insert_entry same_asked (x ∷ N) a ns) ≤ notes_in (x ∷ N) + length ns.items
    go (inl t) few = omega (arith, ap notes_in (cond-true (same_asked a x.0) ((x.0, ns) ∷ N) (x ∷ insert_entry same_asked N a ns) t))
    go (inr t) few = omega (arith, few, ap notes_in (cond-false (same_asked a x.0) ((x.0, ns) ∷ N) (x ∷ insert_entry same_asked N a ns) t))

module _ (d : Dialect) (cut : Bool) where
  -- each row is right
  abbrev pub AreRows : SetRows → Rows → Type 0
  AreRows T N = (e : Question × Vec Note Global) → In e N → IsRow d cut T e.0 e.1.items

  -- there is none yet
  pub none_kept : (T : SetRows) (most : ℕ) → AreNotes d cut T (record { rows = []; most = most; left = most })
  none_kept T most = record { rows = λ e i. absurd i; few = omega arith }

  -- what is found is right
  pub found_row : (T : SetRows) (a : Question) (N : Rows) (ns : Vec Note Global) → AreRows T N → lookup (same_asked a) N ≡ Some ns → IsRow d cut T a ns.items
  found_row T a [] ns r e = absurd (let k : ◌≡◌ {A = Option (Vec Note Global)} None (Some ns) = e in cc)
  found_row T a (x ∷ N) ns r e = go (cases_Bool (same_asked a x.0)) (found_row T a N ns (λ y i. r y (inr i)))
    where
      go : (same_asked a x.0 ≡ true) ⊎ (same_asked a x.0 ≡ false) → (lookup (same_asked a) N ≡ Some ns → IsRow d cut T a ns.items) → IsRow d cut T a ns.items
      go (inl t) f =
          let is : x.1 ≡ ns = (let k : Some x.1 ≡ Some ns = sym (cond-true (same_asked a x.0) (Some x.1) (lookup (same_asked a) N) t) ∙ e in cc) in
          subst (λ (y : Vec Note Global). IsRow d cut T a y.items) is (subst (λ (b : Question). IsRow d cut T b x.1.items) (sym (equal_asked a x.0 t)) (r x (inl refl)))
      go (inr t) f = f (sym (cond-false (same_asked a x.0) (Some x.1) (lookup (same_asked a) N) t) ∙ e)

  -- what is kept is right
  pub kept_row : (T : SetRows) (a : Question) (N : Rows) (ns : Vec Note Global) → AreRows T N → IsRow d cut T a ns.items → AreRows T (insert_entry same_asked N a ns)
  kept_row T a [] ns r h y (inl e) = subst (λ (z : Question × Vec Note Global). IsRow d cut T z.0 z.1.items) e h
  kept_row T a [] ns r h y (inr i) = absurd i
  kept_row T a (x ∷ N) ns r h y i = go (cases_Bool (same_asked a x.0)) (kept_row T a N ns (λ z k. r z (inr k)) h y)
    where
      here : a ≡ x.0 → In y ((x.0, ns) ∷ N) → IsRow d cut T y.0 y.1.items
      here e (inl k) = subst (λ (z : Question × Vec Note Global). IsRow d cut T z.0 z.1.items) k (subst (λ (b : Question). IsRow d cut T b ns.items) e h)
      here e (inr k) = r y (inr k)

      later : In y (x ∷ insert_entry same_asked N a ns) → (In y (insert_entry same_asked N a ns) → IsRow d cut T y.0 y.1.items) → IsRow d cut T y.0 y.1.items
      later (inl k) f = r y (inl k)
      later (inr k) f = f k

      go : (same_asked a x.0 ≡ true) ⊎ (same_asked a x.0 ≡ false) → (In y (insert_entry same_asked N a ns) → IsRow d cut T y.0 y.1.items) → IsRow d cut T y.0 y.1.items
      go (inl t) f = here (equal_asked a x.0 t) (subst (In y) (cond-true (same_asked a x.0) ((x.0, ns) ∷ N) (x ∷ insert_entry same_asked N a ns) t) i)
      go (inr t) f = later (subst (In y) (cond-false (same_asked a x.0) ((x.0, ns) ∷ N) (x ∷ insert_entry same_asked N a ns) t) i) f

  -- what was noted stays right where sets come to the table
  pub more_block : (T T' : SetRows) (B : List Pos) (j : ℕ) (t : Move) (b : Block) → IsMore T T' → IsBlock d cut T B j t b → IsBlock d cut T' B j t b
  more_block T T' B j t AtOnce m h = h
  more_block T T' B j t (Class heard set) m h = more_part d T T' B j t (theory.LostClass heard) (class (chess d) B t heard) set m h
  more_block T T' B j t (Refused set) m h = more_part d T T' B j t theory.LostRefused (refused (chess d) B t) set m h

  pub more_notes : {T T' : SetRows} (N : NoteState) → IsMore T T' → AreNotes d cut T N → AreNotes d cut T' N
  more_notes {T = T} {T' = T'} N m r = record { rows = more_rows; few = r.few }
    where
      more_rows : AreRows T' N.rows
      more_rows e i =
          let h = r.rows e i in
          let same = m.same e.0.set h.within in
          record {
            within = (let l = m.longer in let w = h.within in omega arith);
            lost = ap (can (chess d) e.0.moves) same ∙ h.lost;
            tries_part = h.tries_part ∙ ap (tries (chess d)) (sym same);
            blocks = subst (λ (B : List Pos). All (λ n. IsBlock d cut T' B e.0.moves n.mv n.block) e.1.items) (sym same)
                (All-weaker (λ n. IsBlock d cut T (set_at T e.0.set) e.0.moves n.mv n.block) (λ n. IsBlock d cut T' (set_at T e.0.set) e.0.moves n.mv n.block) (λ n. more_block T T' (set_at T e.0.set) e.0.moves n.mv n.block m) e.1.items h.blocks);
          }

  -- the notes on the first k tries
  pub record IsRowTo (T : SetRows) (B : List Pos) (j : ℕ) (ts : List Move) (k : ℕ) (ns : List Note) : Type 0 where
    pub tries_part : map (λ n. n.mv) ns ≡ take k ts
    pub blocks : All (λ n. IsBlock d cut T B j n.mv n.block) ns

  module _ (T : SetRows) (B : List Pos) (j : ℕ) (ts : List Move) where
    pub no_notes : (o : Option (List Note)) → IfSome o (λ ns. ns ≡ []) → IfSome o (IsRowTo T B j ts 0)
    no_notes None e = tt
    no_notes (Some ns) e = record { tries_part = ap (map (λ n. n.mv)) e; blocks = subst (All (λ n. IsBlock d cut T B j n.mv n.block)) (sym e) (All-nil (λ n. IsBlock d cut T B j n.mv n.block)) }

    -- one more
    pub one_noted : {T' : SetRows} (k : ℕ) (o o' : Option (List Note)) (n : Note) → IsMore T T' → k < length ts → n.mv ≡ get_or ts k n.mv → IsBlock d cut T' B j n.mv n.block → o' ≡ option_map (λ ns. ns ++ n ∷ []) o → IfSome o (IsRowTo T B j ts k) → IfSome o' (IsRowTo T' B j ts (k + 1))
    one_noted {T' = T'} k None o' n m l e b is r = subst (λ (x : Option (List Note)). IfSome x (IsRowTo T' B j ts (k + 1))) (sym is) tt
    one_noted {T' = T'} k (Some ns) o' n m l e b is r = subst (λ (x : Option (List Note)). IfSome x (IsRowTo T' B j ts (k + 1))) (sym is) (record {
      tries_part =
          map-append (λ (x : Note). x.mv) ns (n ∷ []) ∙ ap (λ (xs : List Move). xs ++ n.mv ∷ []) r.tries_part ∙ ap (λ (t : Move). take k ts ++ t ∷ []) e
          ∙ sym (take-suc ts k n.mv l) ∙ ap (λ (i : ℕ). take i ts) (let i : suc k ≡ k + 1 = omega arith in i);
      blocks = All-push (λ x. IsBlock d cut T' B j x.mv x.block) ns n (All-weaker (λ x. IsBlock d cut T B j x.mv x.block) (λ x. IsBlock d cut T' B j x.mv x.block) (λ x. more_block T T' B j x.mv x.block m) ns r.blocks) b;
    })

    -- all
    pub all_noted : {T' : SetRows} (k set : ℕ) (o : Option (List Note)) → IsMore T T' → set < length T' → set_at T' set ≡ B → ts ≡ tries (chess d) B → can (chess d) j B ≡ false → length ts ≤ k → IfSome o (IsRowTo T B j ts k) → IfSome o (IsRow d cut T' (record { set = set; moves = j }))
    all_noted k set None m w at are lost l r = tt
    all_noted {T' = T'} k set (Some ns) m w at are lost l r = record {
      within = w;
      lost = ap (can (chess d) j) at ∙ lost;
      tries_part = r.tries_part ∙ take_all k ts l ∙ are ∙ ap (tries (chess d)) (sym at);
      blocks = subst (λ (X : List Pos). All (λ x. IsBlock d cut T' X j x.mv x.block) ns) (sym at) (All-weaker (λ x. IsBlock d cut T B j x.mv x.block) (λ x. IsBlock d cut T' B j x.mv x.block) (λ x. more_block T T' B j x.mv x.block m) ns r.blocks);
    }
