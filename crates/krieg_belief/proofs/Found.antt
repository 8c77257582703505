-- The games that are found for the possible positions are the answer.
use Rattle.std.proofs.Common.{◌≡◌, ℕ, ◌+◌, ◌<◌, Bool, true, false, cond, List, [], ◌∷◌, ◌++◌, length, get_or, take, map, Option, Some, None, inl, inr, refl, sym, ap, subst, ◌∙◌}
use Rattle.std.specs.Prelude.{is_some, slice_get, unwrap_or}
use Rattle.std.specs.List.{All}
use Rattle.std.specs.Map.{lookup}
use Rattle.std.proofs.lemmas.Bool.{cond-true, both_ways}
use Rattle.std.proofs.lemmas.List.{map-append, take_more}
use Rattle.std.proofs.lemmas.List.Elements.{All-head, All-tail, All-cons, All-nil}
use Rattle.krieg_belief.proofs.Common.{Pos, Side, Dialect, Line, SheetState, IsSheet, In, position_eq, IsPossible, prefix, run, AreShown, Tale, stands_of, begun, tell_all, Entries, kept, tale_of, tales_of, number_of, entry_at, place_of, IsFound, Numbered, shown_of, Link, equal_position}
use Rattle.krieg_theory.proofs.Lists.{in_map, map_in}
use Rattle.krieg_belief.proofs.HiddenGames.{AreEntries}
use Rattle.krieg_pack.proofs.PositionSets.{set_in}
use Rattle.krieg_pack.specs.Members.{set_of}
use Rattle.krieg_belief.proofs.Prefixes.{in_place, possible_all, starts_are}
use Rattle.krieg_belief.proofs.Starts.{AreStarts}
use Rattle.krieg_belief.proofs.Facts.{place_same}
use Rattle.krieg_belief.proofs.Least.{possible_stands, are_shown}
use Rattle.krieg_belief.proofs.Sizes.{layer_places}
use Rattle.krieg_belief.proofs.GivenGames.{one_more}

entry_found : (es : Entries) (e : Pos × ℕ) → In e es → IsFound es e.0
entry_found [] e i = absurd i
entry_found (y ∷ es) e (inl i) = ap is_some (cond-true (position_eq e.0 y.0) (Some y.1) (lookup (position_eq e.0) es) (place_same e.0 y.0 (ap (λ (x : Pos × ℕ). x.0) (sym i))))
entry_found (y ∷ es) e (inr i) = go (position_eq e.0 y.0) (entry_found es e i)
  where
    go : (b : Bool) → IsFound es e.0 → is_some (cond b (Some y.1) (lookup (position_eq e.0) es)) ≡ true
    go true h = refl
    go false h = h

found_entry : (es : Entries) (p : Pos) → IsFound es p → In (p, number_of es p) es
found_entry [] p h = absurd cc
found_entry (y ∷ es) p h = go (position_eq p y.0) refl h (found_entry es p)
  where
    go : (b : Bool) → position_eq p y.0 ≡ b → is_some (cond b (Some y.1) (lookup (position_eq p) es)) ≡ true → (IsFound es p → In (p, number_of es p) es) → In (p, unwrap_or (cond b (Some y.1) (lookup (position_eq p) es)) 0) (y ∷ es)
    go true e f r = inl (ap (λ (x : Pos). (x, y.1)) (sym (equal_position p y.0 e)))
    go false e f r = inr (r f)

all_in : {X : Type 0} (P : X → Type 0) (xs : List X) → ((x : X) → In x xs → P x) → All P xs
all_in P [] h = All-nil P
all_in P (x ∷ xs) h = All-cons P x xs (h x (inl refl)) (all_in P xs (λ y i. h y (inr i)))

in_all : {X : Type 0} (P : X → Type 0) (xs : List X) → All P xs → (x : X) → In x xs → P x
in_all P [] h x i = absurd i
in_all P (y ∷ xs) h x (inl e) = subst P e (All-head P y xs h)
in_all P (y ∷ xs) h x (inr i) = in_all P xs (All-tail P y xs h) x i

-- an entry for a position is one of the entries
found_among : (es : Entries) (qs : List Pos) → All (IsFound es) qs → (e : Pos × ℕ) → In e (map (entry_at es) qs) → In e es
found_among es qs found e i =
    let q = map_in (entry_at es) qs e i in
    subst (λ (x : Pos × ℕ). In x es) q.2 (found_entry es q.0 (in_all (IsFound es) qs found q.0 q.1))

pub entries_of : (s : SheetState) → IsSheet s → AreEntries s.entries
entries_of s sheet = in_place _ _ _ s.entries sheet.in_place

module _ (s : SheetState) (sheet : IsSheet s) (ps : List Pos) (starts : AreStarts s ps) (ls : List Link) (es : Entries) (tales : tales_of ps ls es ≡ tell_all s.dialect s.side s.entries (map begun ps)) (qs : List Pos) (possible : IsPossible s qs) where
  -- a game is kept for each possible position
  pub all_found : All (IsFound es) qs
  all_found = all_in (IsFound es) qs (λ q i. one q i)
    where
      one : (q : Pos) → In q qs → IsFound es q
      one q i =
          let y = possible_stands s ps starts (entries_of s sheet) q ((possible.exact q).0 i) in
          let e = map_in (tale_of (kept (map begun ps) ls)) es y.0 (subst (In y.0) (sym tales) y.1) in
          subst (IsFound es) (ap (λ (x : Tale). x.stands) e.2 ∙ y.2) (entry_found es e.0 e.1)

  stand : (rs : List Pos) → map stands_of (tales_of ps ls (map (entry_at es) rs)) ≡ rs
  stand [] = refl
  stand (r ∷ rs) = ap (λ (x : List Pos). r ∷ x) (stand rs)

  there : (y : Tale) → In y (tales_of ps ls (map (entry_at es) qs)) → In y (tell_all s.dialect s.side s.entries (map begun ps))
  there y i =
      let e = map_in (tale_of (kept (map begun ps) ls)) (map (entry_at es) qs) y i in
      subst (In y) tales (subst (λ (x : Tale). In x (tales_of ps ls es)) e.2 (in_map (tale_of (kept (map begun ps) ls)) es e.0 (found_among es qs all_found e.0 e.1)))

  -- and these games are the answer
  pub answer : (lasts : Entries) → lasts ≡ map (entry_at es) qs → AreShown s (map (shown_of s) (tales_of ps ls lasts))
  answer lasts is =
      subst (λ (x : Entries). AreShown s (map (shown_of s) (tales_of ps ls x))) (sym is)
      (are_shown s ps starts (entries_of s sheet) qs (tales_of ps ls (map (entry_at es) qs)) possible (stand qs) there)

-- the layer by what the sheet is
pub as_told : (s : SheetState) (d : Dialect) (who : Side) (ls : List Line) (xs ys : List Tale) → d ≡ s.dialect → who ≡ s.side → ls ≡ s.entries → ys ≡ tell_all d who ls xs → ys ≡ tell_all s.dialect s.side s.entries xs
as_told s d who ls xs ys by_dialect by_side by_entries h = h ∙ (λ i. tell_all (by_dialect i) (by_side i) (by_entries i) xs)

-- the numbers are numbers of games
pub numbers_below : (b : ℕ) (es : Entries) (qs : List Pos) (lasts : Entries) → Numbered b es → All (IsFound es) qs → lasts ≡ map (entry_at es) qs → Numbered b lasts
numbers_below b es qs lasts numbers found is =
    subst (Numbered b) (sym is) (all_in (λ (e : Pos × ℕ). e.1 < b) (map (entry_at es) qs) (λ e i. in_all (λ (x : Pos × ℕ). x.1 < b) es numbers e (found_among es qs found e i)))

pub entry_is : (es : Entries) (q : Pos) (n : ℕ) → lookup (position_eq q) es ≡ Some n → (q, n) ≡ entry_at es q
entry_is es q n is = ap (λ (o : Option ℕ). (q, unwrap_or o 0)) (sym is)

pub none_found : (es : Entries) (q : Pos) → lookup (position_eq q) es ≡ None → IsFound es q → ⊥
none_found es q none h = both_ways (is_some (lookup (position_eq q) es)) (ap is_some none) h

-- what is made of each position, one more
pub each_more : {X : Type 0} (f : Pos → X) (qs : List Pos) (i : ℕ) (q : Pos) (xs xs' : List X) (x : X) → i < length qs → q ≡ get_or qs i q → xs' ≡ xs ++ x ∷ [] → x ≡ f q → xs ≡ map f (take i qs) → xs' ≡ map f (take (i + 1) qs)
each_more {X = X} f qs i q xs xs' x lt at pushed is h =
    pushed ∙ (ap (λ (t : List X). t ++ x ∷ []) h ∙ (ap (λ (y : X). map f (take i qs) ++ y ∷ []) is
    ∙ sym (ap (map f) (take_more qs i q lt ∙ ap (λ (y : Pos). take i qs ++ y ∷ []) (sym at)) ∙ map-append f (take i qs) (q ∷ []))))

-- where one game more stands
pub place_more : (es : Entries) (i : ℕ) (k : Pos) (n : ℕ) (ps ps' : List Pos) → slice_get es i ≡ Some (k, n) → ps' ≡ ps ++ k ∷ [] → ps ≡ map place_of (take i es) → ps' ≡ map place_of (take (i + 1) es)
place_more es i k n ps ps' at pushed h = pushed ∙ (ap (λ (qs : List Pos). qs ++ k ∷ []) h ∙ sym (ap (map place_of) (one_more es i (k, n) at) ∙ map-append place_of (take i es) ((k, n) ∷ [])))

-- an entry stands for each of the positions of the games
pub places_found : (es : Entries) (qs : List Pos) → qs ≡ set_of (map place_of es) → All (IsFound es) qs
places_found es qs is = all_in (IsFound es) qs (λ q i.
    let e = map_in place_of es q (set_in q (map place_of es) (subst (In q) is i)) in
    subst (IsFound es) e.2 (entry_found es e.0 e.1))

-- where the games of a layer stand
places_stand : (ps : List Pos) (ls : List Link) (es : Entries) → map place_of es ≡ map stands_of (tales_of ps ls es)
places_stand ps ls [] = refl
places_stand ps ls (e ∷ es) = ap (λ (qs : List Pos). e.0 ∷ qs) (places_stand ps ls es)

-- the positions of the games after all entries are those that are possible
pub places_possible : (s : SheetState) → IsSheet s → (ps : List Pos) → IsPossible (prefix s 1) ps → (ls : List Link) (es : Entries) → tales_of ps ls es ≡ tell_all s.dialect s.side s.entries (map begun ps) → IsPossible s (set_of (map place_of es))
places_possible s sheet ps starts ls es tales =
    subst (IsPossible s) (sym (ap set_of (places_stand ps ls es ∙ ap (map stands_of) tales) ∙ (layer_places s.dialect s.side s.entries ps starts.ascending ∙ ap (run s.dialect s.side s.entries) (starts_are s ps sheet starts))))
    (possible_all s sheet)
