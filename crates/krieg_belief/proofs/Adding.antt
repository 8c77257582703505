-- The games after a line are added in order, each position with the number of its first game.
use Rattle.std.proofs.Common.{◌≡◌, ℕ, ◌+◌, ◌<◌, Bool, true, false, cond, List, [], ◌∷◌, ◌++◌, map, length, get_or, Some, None, refl, sym, ap, subst, ◌∙◌, arith, filter, take}
use Rattle.std.specs.Prelude.{is_some}
use Rattle.std.specs.Map.{lookup}
use Rattle.std.proofs.lemmas.Bool.{cond-true, cond-false}
use Rattle.std.proofs.lemmas.List.{append-nil, append_assoc, map-append, length-append, length_push, get_or_push, take_more}
use Rattle.indexmap.specs.IndexMap.{insert_entry}
use Rattle.krieg_belief.proofs.Common.{Pos, Move, Side, is_same_side, is_legal, after, is_ended, Said, are_told, after_told, after_told_if_legal, Dialect, Line, Opens, Heard, has_opening, position_eq, Tale, begun, standing, after_reply, tales_after, stays, Entries, nowhere, game_of, kept, tale_of, tales_of, Numbered, AreKept, with_entry, stands_in, added, add_all, Adds, Link}
use Rattle.krieg_moves.proofs.MoveLists.{moves_legal}
use Rattle.krieg_wordtext.specs.declared.line.Line.TheVariants.{Illegal, Done, Early, Over}
use Rattle.krieg_belief.proofs.Kept.{kept_append, games_length, tale_stays, tales_stay, numbered_up, numbered_push, grounded_more}

with_numbered : (n : ℕ) (es : Entries) (q : Pos) (k : ℕ) → k < n → Numbered n es → Numbered n (with_entry es q k)
with_numbered n es q k lt h = go (is_some (lookup (position_eq q) es))
  where
    go : (b : Bool) → Numbered n (cond b es (es ++ (q, k) ∷ []))
    go true = h
    go false = numbered_push n es q k lt h

stands_lookup : (gs : List Tale) (es : Entries) (p : Pos) → is_some (lookup (position_eq p) es) ≡ stands_in p (map (tale_of gs) es)
stands_lookup gs [] p = refl
stands_lookup gs (e ∷ es) p = go (position_eq p e.0) (stands_lookup gs es p)
  where
    go : (b : Bool) → is_some (lookup (position_eq p) es) ≡ stands_in p (map (tale_of gs) es) → is_some (cond b (Some e.1) (lookup (position_eq p) es)) ≡ cond b true (stands_in p (map (tale_of gs) es))
    go true h = refl
    go false h = h

pub insert_new : (es : Entries) (p : Pos) (n : ℕ) → is_some (lookup (position_eq p) es) ≡ false → insert_entry position_eq es p n ≡ es ++ (p, n) ∷ []
insert_new [] p n h = refl
insert_new (e ∷ es) p n h = go (position_eq p e.0) h (insert_new es p n)
  where
    go : (b : Bool) → is_some (cond b (Some e.1) (lookup (position_eq p) es)) ≡ false → (is_some (lookup (position_eq p) es) ≡ false → insert_entry position_eq es p n ≡ es ++ (p, n) ∷ []) →
        cond b ((e.0, n) ∷ es) (e ∷ insert_entry position_eq es p n) ≡ e ∷ (es ++ (p, n) ∷ [])
    go true h k = absurd cc
    go false h k = ap (λ (t : Entries). e ∷ t) (k h)

-- an entry that was inserted where none was
pub inserted : (es : Entries) (p k : Pos) (es' : Entries) (n : ℕ) → k ≡ p → is_some (lookup (position_eq k) es) ≡ false → es' ≡ insert_entry position_eq es k n → es' ≡ with_entry es p n
inserted es p k es' n at none is =
    subst (λ (q : Pos). es' ≡ with_entry es q n) at (is ∙ (insert_new es k n none ∙ sym (cond-false (is_some (lookup (position_eq k) es)) es (es ++ (k, n) ∷ []) none)))

pub add_all_append : (xs ys zs : List Tale) → add_all xs (ys ++ zs) ≡ add_all (add_all xs ys) zs
add_all_append xs [] zs = refl
add_all_append xs (y ∷ ys) zs = add_all_append (added xs y) ys zs

module _ (ps : List Pos) where
  abbrev games : List Link → List Tale
  games ls = kept (map begun ps) ls

  with_tales : (ls : List Link) (es : Entries) (q : Pos) (n : ℕ) → tales_of ps ls (with_entry es q n) ≡ added (tales_of ps ls es) (tale_of (games ls) (q, n))
  with_tales ls es q n =
      go (is_some (lookup (position_eq q) es))
      ∙ ap (λ (b : Bool). cond b (tales_of ps ls es) (tales_of ps ls es ++ tale_of (games ls) (q, n) ∷ [])) (stands_lookup (games ls) es q)
    where
      go : (b : Bool) → tales_of ps ls (cond b es (es ++ (q, n) ∷ [])) ≡ cond b (tales_of ps ls es) (tales_of ps ls es ++ tale_of (games ls) (q, n) ∷ [])
      go true = refl
      go false = map-append (tale_of (games ls)) es ((q, n) ∷ [])

  pub adds_none : (ls : List Link) (es : Entries) → AreKept ps ls es → Adds ps ls ls es es []
  adds_none ls es k = record { more = ([], sym (append-nil ls)); are_kept = k; tales = refl }

  pub adds_one : (ls : List Link) (es es' : Entries) (q : Pos) (n : ℕ) → AreKept ps ls es → n < length ps + length ls → es' ≡ with_entry es q n → Adds ps ls ls es es' (tale_of (games ls) (q, n) ∷ [])
  adds_one ls es es' q n k lt is = subst (λ (x : Entries). Adds ps ls ls es x (tale_of (games ls) (q, n) ∷ [])) (sym is) (record {
    more = ([], sym (append-nil ls));
    are_kept = record { grounded = k.grounded; numbered = with_numbered (length ps + length ls) es q n lt k.numbered };
    tales = with_tales ls es q n;
  })

  pub adds_then : (a b c : List Link) (ea eb ec : Entries) (ys zs : List Tale) → Adds ps a b ea eb ys → Adds ps b c eb ec zs → Adds ps a c ea ec (ys ++ zs)
  adds_then a b c ea eb ec ys zs f g = record {
    more = (f.more.0 ++ g.more.0, g.more.1 ∙ ap (λ (x : List Link). x ++ g.more.0) f.more.1 ∙ append_assoc a f.more.0 g.more.0);
    are_kept = g.are_kept;
    tales = g.tales ∙ ap (λ (x : List Tale). add_all x zs) f.tales ∙ sym (add_all_append (tales_of ps a ea) ys zs);
  }

  -- a reply that leads to a position where no game stands yet
  pub adds_link : (ls ls' : List Link) (es es' : Entries) (p q : Pos) (n m : ℕ) (r : Move) → AreKept ps ls es → n < length ps + length ls → m ≡ length ps + length ls → es' ≡ with_entry es q m → ls' ≡ ls ++ record { before = n; reply = r } ∷ [] →
      q ≡ (after_reply (tale_of (games ls) (p, n)) r).stands → Adds ps ls ls' es es' (after_reply (tale_of (games ls) (p, n)) r ∷ [])
  adds_link ls ls' es es' p q n m r k lt at is longer stands =
      subst (λ (x : List Link). Adds ps ls x es es' (after_reply (tale_of (games ls) (p, n)) r ∷ [])) (sym longer)
      (subst (λ (x : Entries). Adds ps ls (ls ++ l ∷ []) es x (after_reply (tale_of (games ls) (p, n)) r ∷ [])) (sym is) (record {
        more = (l ∷ [], refl);
        are_kept = record {
          grounded = grounded_more (length ps) ls l k.grounded lt;
          numbered = let e = length_push ls l in with_numbered (length ps + length (ls ++ l ∷ [])) es q m (omega (arith, e, at)) (numbered_up (length ps + length ls) (length ps + length (ls ++ l ∷ [])) es (omega (arith, e)) k.numbered);
        };
        tales = with_tales (ls ++ l ∷ []) es q m ∙ ap (λ (x : List Tale). added x (tale_of (games (ls ++ l ∷ [])) (q, m))) (tales_stay ps ls (l ∷ []) es k.numbered) ∙ ap (added (tales_of ps ls es)) game;
      }))
    where
      l : Link
      l = record { before = n; reply = r }

      game : tale_of (games (ls ++ l ∷ [])) (q, m) ≡ after_reply (tale_of (games ls) (p, n)) r
      game =
          ap (λ (t : Tale). standing t q) (ap (λ (gs : List Tale). get_or gs m nowhere) (kept_append (map begun ps) ls (l ∷ [])) ∙ get_or_push (games ls) (game_of (games ls) l) nowhere m (games_length ps ls ∙ sym at))
          ∙ ap (λ (x : Pos). standing (game_of (games ls) l) x) stands

  -- a reply that leads to a position where a game stands already
  pub adds_there : (ls : List Link) (es es' : Entries) (p q : Pos) (n m : ℕ) (r : Move) → AreKept ps ls es → is_some (lookup (position_eq q) es) ≡ true → es' ≡ with_entry es q m →
      q ≡ (after_reply (tale_of (games ls) (p, n)) r).stands → Adds ps ls ls es es' (after_reply (tale_of (games ls) (p, n)) r ∷ [])
  adds_there ls es es' p q n m r k there is stands =
      subst (λ (x : Entries). Adds ps ls ls es x (after_reply (tale_of (games ls) (p, n)) r ∷ [])) (sym (is ∙ cond-true _ es (es ++ (q, m) ∷ []) there))
      (record {
        more = ([], sym (append-nil ls));
        are_kept = k;
        tales = sym (cond-true _ (tales_of ps ls es) (tales_of ps ls es ++ after_reply (tale_of (games ls) (p, n)) r ∷ []) (ap (λ (x : Pos). stands_in x (tales_of ps ls es)) (sym stands) ∙ sym (stands_lookup (games ls) es q) ∙ there));
      })

  -- a line that is no move
  pub adds_stay : (d : Dialect) (who : Side) (line : Line) (p : Pos) (ls : List Link) (es es' : Entries) (n : ℕ) → AreKept ps ls es → n < length ps + length ls → stays d who line p ≡ true → es' ≡ with_entry es p n →
      Adds ps ls ls es es' (tales_after d who line (tale_of (games ls) (p, n)))
  adds_stay d who line p ls es es' n k lt st is = go line st (adds_one ls es es' p n k lt is)
    where
      x : Tale
      x = tale_of (games ls) (p, n)

      if_so : (b : Bool) → b ≡ true → Adds ps ls ls es es' (x ∷ []) → Adds ps ls ls es es' (map (standing x) (cond b (p ∷ []) []))
      if_so true e a = a
      if_so false e a = absurd cc

      go : (l : Line) → stays d who l p ≡ true → Adds ps ls ls es es' (x ∷ []) → Adds ps ls ls es es' (tales_after d who l x)
      go (Opens w) e a = if_so (has_opening d w p) e a
      go (Illegal m) e a = if_so (stays d who (Illegal m) p) e a
      go (Done m w) e a = absurd cc
      go (Heard w) e a = absurd cc
      go (Early m) e a = if_so (stays d who (Early m) p) e a
      go (Over m) e a = if_so (is_ended p) e a

  -- a move of the player
  pub adds_done : (d : Dialect) (who : Side) (line : Line) (m : Move) (w : Said) (p q : Pos) (ls : List Link) (es es' : Entries) (n : ℕ) → AreKept ps ls es → n < length ps + length ls → line ≡ Done m w →
      is_same_side p.side who ≡ true → after_told_if_legal d w p m ≡ Some q → es' ≡ with_entry es q n → Adds ps ls ls es es' (tales_after d who line (tale_of (games ls) (p, n)))
  adds_done d who line m w p q ls es es' n k lt at turn next is =
      subst (λ (l : Line). Adds ps ls ls es es' (tales_after d who l x)) (sym at)
      (go (is_same_side p.side who) (Rattle.std.specs.Prelude.◌&&◌ (is_legal p m) (are_told d w p m)) turn next (adds_one ls es es' q n k lt is))
    where
      x : Tale
      x = tale_of (games ls) (p, n)

      go : (a b : Bool) → a ≡ true → cond b (Some (after p m)) None ≡ Some q → Adds ps ls ls es es' (standing x q ∷ []) → Adds ps ls ls es es' (map (standing x) (cond (Rattle.std.specs.Prelude.◌&&◌ a b) (after p m ∷ []) []))
      go true true ea ec f = subst (λ (y : Pos). Adds ps ls ls es es' (standing x y ∷ [])) (let e : Some q ≡ Some (after p m) = sym ec in cc) f
      go true false ea ec f = absurd cc
      go false b ea ec f = absurd cc

  -- one reply more, by what the test of the words says
  module _ (d : Dialect) (w : Said) (p : Pos) (m : Move) (a b : List Link) (eb : Entries) (n : ℕ) (more : (ms : List Link) × (b ≡ a ++ ms)) (k : AreKept ps b eb) (lt : n < length ps + length a) where
    abbrev x : Tale
    x = tale_of (games a) (p, n)

    told_is : (q : Pos) (t : Bool) → cond t (Some (after p m)) None ≡ Some q → (t ≡ true) × (q ≡ after p m)
    told_is q true e = (refl, cc)
    told_is q false e = absurd cc

    not_told : (t : Bool) → cond t (Some (after p m)) None ≡ None → t ≡ false
    not_told true e = absurd cc
    not_told false e = refl

    same_tale : tale_of (games b) (p, n) ≡ x
    same_tale = ap (λ (ls : List Link). tale_of (games ls) (p, n)) more.1 ∙ tale_stays ps a more.0 (p, n) lt

    longer : n < length ps + length b
    longer = let e = ap (λ (ls : List Link). length ls) more.1 in let f = length-append a more.0 in omega (arith, lt, e, f)

    as_told : (t : Bool) (c : List Link) (ec : Entries) → are_told d w p m ≡ t → Adds ps b c eb ec (map (after_reply x) (cond t (m ∷ []) [])) → Adds ps b c eb ec (map (after_reply x) (filter (are_told d w p) (m ∷ [])))
    as_told t c ec e g = subst (λ (y : Bool). Adds ps b c eb ec (map (after_reply x) (cond y (m ∷ []) []))) (sym e) g

    pub reply_new : (q : Pos) (c : List Link) (ec : Entries) (number : ℕ) → after_told d w p m ≡ Some q → number ≡ length ps + length b → ec ≡ with_entry eb q number → c ≡ b ++ record { before = n; reply = m } ∷ [] →
        Adds ps b c eb ec (map (after_reply x) (filter (are_told d w p) (m ∷ [])))
    reply_new q c ec number told at is link =
        let t = told_is q (are_told d w p m) told in
        as_told true c ec t.0 (subst (λ (y : Tale). Adds ps b c eb ec (after_reply y m ∷ [])) same_tale (adds_link b c eb ec p q n number m k longer at is link t.1))

    pub reply_there : (q : Pos) (c : List Link) (ec : Entries) (number : ℕ) → after_told d w p m ≡ Some q → is_some (lookup (position_eq q) eb) ≡ true → ec ≡ with_entry eb q number → c ≡ b →
        Adds ps b c eb ec (map (after_reply x) (filter (are_told d w p) (m ∷ [])))
    reply_there q c ec number told there is link =
        let t = told_is q (are_told d w p m) told in
        subst (λ (y : List Link). Adds ps b y eb ec (map (after_reply x) (filter (are_told d w p) (m ∷ [])))) (sym link)
        (as_told true b ec t.0 (subst (λ (y : Tale). Adds ps b b eb ec (after_reply y m ∷ [])) same_tale (adds_there b eb ec p q n number m k there is t.1)))

    pub reply_none : (c : List Link) (ec : Entries) → after_told d w p m ≡ None → ec ≡ eb → c ≡ b → Adds ps b c eb ec (map (after_reply x) (filter (are_told d w p) (m ∷ [])))
    reply_none c ec told is link =
        subst (λ (y : List Link). Adds ps b y eb ec (map (after_reply x) (filter (are_told d w p) (m ∷ [])))) (sym link)
        (subst (λ (y : Entries). Adds ps b b eb y (map (after_reply x) (filter (are_told d w p) (m ∷ [])))) (sym is) (as_told false b eb (not_told (are_told d w p m) told) (adds_none b eb k)))

-- the kept of one more
kept_more : (f : Move → Bool) (ms : List Move) (m : Move) → filter f (ms ++ m ∷ []) ≡ filter f ms ++ filter f (m ∷ [])
kept_more f [] m = refl
kept_more f (y ∷ ys) m = go (f y) (kept_more f ys m)
  where
    go : (b : Bool) → filter f (ys ++ m ∷ []) ≡ filter f ys ++ filter f (m ∷ []) → cond b (y ∷ filter f (ys ++ m ∷ [])) (filter f (ys ++ m ∷ [])) ≡ cond b (y ∷ filter f ys) (filter f ys) ++ filter f (m ∷ [])
    go true h = ap (λ (t : List Move). y ∷ t) h
    go false h = h

pub mapped_more : {A : Type 0} (f : Move → Bool) (g : Move → A) (ms : List Move) (i : ℕ) (m : Move) → i < length ms → m ≡ get_or ms i m →
    map g (filter f (take (i + 1) ms)) ≡ map g (filter f (take i ms)) ++ map g (filter f (m ∷ []))
mapped_more f g ms i m h at =
    ap (λ (t : List Move). map g (filter f t)) (take_more ms i m h ∙ ap (λ (y : Move). take i ms ++ y ∷ []) (sym at))
    ∙ (ap (map g) (kept_more f (take i ms) m) ∙ map-append g (filter f (take i ms)) (filter f (m ∷ [])))

pub replies_more : (f : Move → Bool) (x : Tale) (ms : List Move) (i : ℕ) (m : Move) → i < length ms → m ≡ get_or ms i m →
    map (after_reply x) (filter f (take (i + 1) ms)) ≡ map (after_reply x) (filter f (take i ms)) ++ map (after_reply x) (filter f (m ∷ []))
replies_more f x = mapped_more f (after_reply x)

-- the moves in the list of a position are legal
pub ruleset listed = (moves_legal)
