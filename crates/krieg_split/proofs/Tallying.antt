-- Tallies, member by member.
use Rattle.std.proofs.Common.{◌≡◌, ℕ, ◌+◌, ◌-◌, ◌*◌, ◌^◌, ◌<◌, ◌≤◌, Bool, true, false, cond, not, ◌&&◌, ◌||◌, List, [], ◌∷◌, ◌++◌, length, map, filter, take, drop, get_or, Some, refl, sym, ap, subst, ◌∙◌, arith, add-zero}
use Rattle.std.proofs.Math.Bool.{or-false}
use Rattle.std.proofs.Math.ListN.{set}
use Rattle.std.proofs.lemmas.Bool.{both_ways, false_from_ne_true}
use Rattle.std.proofs.lemmas.Simd.{map-map}
use Rattle.std.proofs.lemmas.List.Folds.{list_any-append}
use Rattle.std.proofs.lemmas.List.{take_more, drop_more, get_or-map, get_or-append_right, length-map, length-take-le, length-append}
use Rattle.std.proofs.lemmas.List.Edits.{map_over_more}
use Rattle.std.proofs.lemmas.List.Elements.{All-map}
use Rattle.std.proofs.lemmas.Option.{slice_get_within, get_or_from_slice_get}
use Rattle.std.specs.Prelude.{All}
use Rattle.std.specs.List.{slice_get, list_any}
use Rattle.krieg_split.proofs.Common.{Pos, Move, after, is_legal, moves, all_moves, is_mate, Dialect, Wild16, In, total, chess, lives, replies, tally_of, tally_with, AreTallies, MemberMoves, MOST_COUNTED, Tally}
use Rattle.krieg_moves.proofs.Counting.{few_moves}
use Rattle.krieg_pack.proofs.Membership.{in_at}
use Rattle.krieg_theory.specs.Split as theory
use Rattle.krieg_theory.proofs.Lists.{filter_in, any_from}
use Rattle.krieg_costs.proofs.Totals.{total_append}
use Rattle.krieg_split.proofs.TryLists.{at_head}

-- a move that stands in the list of the legal ones
pub listed_is_legal : (p : Pos) (ms : List Move) (k : ℕ) (t : Move) → ms ≡ moves p → slice_get ms k ≡ Some t → is_legal p t ≡ true
unfolding moves
listed_is_legal p ms k t are at =
    (filter_in (is_legal p) all_moves t (subst (In t) are (in_at ms k t t (slice_get_within ms k t at) (get_or_from_slice_get ms k t t at)))).1

-- a member in which the try is illegal adds nothing
pub with_illegal : (p : Pos) (y : Tally) → is_legal p y.mv ≡ false → tally_with p y ≡ y
with_illegal p y e =
    let tally : ℕ → Bool → Tally = λ n b. record { mv = y.mv; replies = n; lives = b } in
    ap (λ (b : Bool). tally (y.replies + cond b (length (moves (after p y.mv))) 0) (y.lives || (b && not (is_mate (after p y.mv))))) e
    ∙ ap (λ (n : ℕ). tally n (y.lives || false)) (add-zero y.replies)
    ∙ ap (λ (b : Bool). tally y.replies b) (or-false y.lives)

-- what a walk that writes f x over each x has not come to is as it was
as_it_was : {X : Type 0} (f : X → X) (xs ys : List X) (i : ℕ) (x : X) → i < length xs → ys ≡ map f (take i xs) ++ drop i xs → x ≡ get_or ys i x → x ≡ get_or xs i x
as_it_was f xs ys i x within is at =
    let n : length (map f (take i xs)) ≡ i = length-map (take i xs) f ∙ length-take-le i xs (omega arith) in
    let zero : i - i ≡ 0 = omega arith in
    at ∙ ap (λ zs. get_or zs i x) is ∙ get_or-append_right (map f (take i xs)) (drop i xs) i i x n (omega arith) ∙ ap (λ k. get_or (drop i xs) k x) zero ∙ ap (λ zs. get_or zs 0 x) (drop_more xs i x within)

-- a member of the set with its legal moves
pub listed_at : (ls : List MemberMoves) (B : List Pos) (i : ℕ) (m : MemberMoves) → map (λ m. m.position) ls ≡ B → i < length ls → m ≡ get_or ls i m → (i < length B) × (m.position ≡ get_or B i m.position)
listed_at ls B i m is within at =
    let position = λ (m : MemberMoves). m.position in
    let n : length B ≡ length ls = ap length (sym is) ∙ length-map ls position in
    (omega arith, ap position at ∙ sym (get_or-map position ls i m m.position within) ∙ ap (λ ps. get_or ps i m.position) is)

-- the tallies of one member more
with_one_more : (B : List Pos) (p : Pos) (t : Move) → tally_with p (tally_of B t) ≡ tally_of (B ++ p ∷ []) t
with_one_more B p t =
    let tally : ℕ → Bool → Tally = λ n b. record { mv = t; replies = n; lives = b } in
    let n : total (replies t) B + replies t p ≡ total (replies t) (B ++ p ∷ []) = (let e = total_append (replies t) B (p ∷ []) in omega arith) in
    let b : (list_any (lives t) B || lives t p) ≡ list_any (lives t) (B ++ p ∷ []) = sym (list_any-append (lives t) B (p ∷ []) ∙ ap (λ (b : Bool). list_any (lives t) B || b) (or-false (lives t p))) in
    ap (λ (n : ℕ). tally n (list_any (lives t) B || lives t p)) n ∙ ap (λ (b : Bool). tally (total (replies t) (B ++ p ∷ [])) b) b

pub tallied_one : (B : List Pos) (p : Pos) (ts : List Move) (old new : List Tally) → old ≡ map (tally_of B) ts → new ≡ map (tally_with p) old → new ≡ map (tally_of (B ++ p ∷ [])) ts
tallied_one B p ts old new was is =
    is ∙ ap (map (tally_with p)) was ∙ map-map (tally_with p) (tally_of B) ts
    ∙ ap (λ (f : Move → Tally). map f ts) (λ k t. with_one_more B p t k)

one_more_member : (B : List Pos) (i : ℕ) (p : Pos) → i < length B → p ≡ get_or B i p → take i B ++ p ∷ [] ≡ take (i + 1) B
one_more_member B i p within at = sym (take_more B i p within ∙ ap (λ q. take i B ++ q ∷ []) (sym at))

pub tallied_more : (B : List Pos) (i : ℕ) (p : Pos) (ts : List Move) (old new : List Tally) → i < length B → p ≡ get_or B i p → old ≡ map (tally_of (take i B)) ts → new ≡ map (tally_with p) old → new ≡ map (tally_of (take (i + 1) B)) ts
tallied_more B i p ts old new within at was is = tallied_one (take i B) p ts old new was is ∙ ap (λ (C : List Pos). map (tally_of C) ts) (one_more_member B i p within at)

pub tallied_moves : (B : List Pos) (ts : List Move) → map (λ y. y.mv) (map (tally_of B) ts) ≡ ts
tallied_moves B [] = refl
tallied_moves B (t ∷ ts) = ap (λ ms. t ∷ ms) (tallied_moves B ts)

-- the legal moves of a member are the tries that are legal in it
filter_filter : {X : Type 0} (f g : X → Bool) (xs : List X) → ((x : X) → f x ≡ true → g x ≡ true) → filter f (filter g xs) ≡ filter f xs
filter_filter f g [] h = refl
filter_filter f g (x ∷ xs) h = go (f x) (g x) refl refl (filter_filter f g xs h)
  where
    go : (a b : Bool) → f x ≡ a → g x ≡ b → filter f (filter g xs) ≡ filter f xs → filter f (cond b (x ∷ filter g xs) (filter g xs)) ≡ cond a (x ∷ filter f xs) (filter f xs)
    go true true e k r = ap (λ (b : Bool). cond b (x ∷ filter f (filter g xs)) (filter f (filter g xs))) e ∙ ap (λ ys. x ∷ ys) r
    go true false e k r = absurd (both_ways _ k (h x e))
    go false true e k r = ap (λ (b : Bool). cond b (x ∷ filter f (filter g xs)) (filter f (filter g xs))) e ∙ r
    go false false e k r = r

pub moves_of_tries : (d : Dialect) (B : List Pos) (i : ℕ) (p : Pos) → i < length B → p ≡ get_or B i p → filter (is_legal p) (theory.tries (chess d) B) ≡ moves p
unfolding moves
moves_of_tries d B i p within at = filter_filter (is_legal p) (theory.legal_in_some (chess d) B) all_moves (λ t e. any_from (λ q. is_legal q t) B p (in_at B i p p within (sym at)) e)

-- there is room for the replies in one member more
few_replies : (t : Move) (p : Pos) → replies t p ≤ 20480
few_replies t p = go (is_legal p t)
  where
    go : (b : Bool) → cond b (length (moves (after p t))) 0 ≤ 20480
    go true = few_moves (after p t)
    go false = omega arith

few_in_all : (t : Move) (B : List Pos) → total (replies t) B ≤ length B * 20480
few_in_all t [] = omega arith
few_in_all t (p ∷ B) = let a = few_replies t p in let b = few_in_all t B in omega arith

pub room_for_more : (B : List Pos) (ts : List Move) (ys : List Tally) → length B ≤ MOST_COUNTED → ys ≡ map (tally_of B) ts → All (λ y. y.replies < 2 ^ 63) ys
room_for_more B ts ys few are =
    let P : Tally → Type 0 = λ y. y.replies < 2 ^ 63 in
    subst (All P) (sym are) (All-map P (tally_of B) ts (λ k t within. (let a = few_in_all (get_or ts k t) B in omega arith)))

-- the tallies are those of some members before a place, and of all of these where none is left out
pub record AreOfSome (B : List Pos) (step place : ℕ) (ys : List Tally) : Type 0 where
  pub members : List Pos
  pub few : length members ≤ place
  pub are : AreTallies B members ys
  pub all : step ≡ 1 → members ≡ take place B

module _ {B : List Pos} {step place : ℕ} {ys : List Tally} (p q : Pos) (same : p ≡ q) (within : place < length B) (there : q ≡ get_or B place q) (a : AreOfSome B step place ys) where
  at : p ≡ get_or B place p
  at = subst (λ (r : Pos). r ≡ get_or B place r) (sym same) there

  pub some_room : length B ≤ MOST_COUNTED → All (λ y. y.replies < 2 ^ 63) ys
  some_room few = room_for_more a.members (theory.tries (chess Wild16) B) ys (omega (arith, a.few)) (a.are Wild16)

  pub some_tries : filter (is_legal p) (map (λ y. y.mv) ys) ≡ moves p
  some_tries =
      ap (λ (zs : List Tally). filter (is_legal p) (map (λ y. y.mv) zs)) (a.are Wild16)
      ∙ ap (filter (is_legal p)) (tallied_moves a.members (theory.tries (chess Wild16) B))
      ∙ moves_of_tries Wild16 B place p within at

  pub some_more : (new : List Tally) → 0 < step → new ≡ map (tally_with p) ys → AreOfSome B step (place + step) new
  some_more new some is = record {
    members = a.members ++ p ∷ [];
    few = (let n = length-append a.members (p ∷ []) in omega (arith, a.few));
    are = λ d. tallied_one a.members p (theory.tries (chess d) B) ys new (a.are d) is;
    all = λ one. ap (λ C. C ++ p ∷ []) (a.all one) ∙ one_more_member B place p within at ∙ ap (λ n. take (place + n) B) (sym one);
  }

-- the walk through the tallies has come to place i, and that through the legal moves to the first that is not counted
pub record IsWalk (p : Pos) (ms : List Move) (xs ys : List Tally) (i next : ℕ) : Type 0 where
  pub added : ys ≡ map (tally_with p) (take i xs) ++ drop i xs
  pub ahead : drop next ms ≡ filter (is_legal p) (map (λ y. y.mv) (drop i xs))

module _ {p : Pos} {ms : List Move} {xs ys : List Tally} {i next : ℕ} (y : Tally) (within : i < length xs) (at : y ≡ get_or ys i y) (a : IsWalk p ms xs ys i next) where
  abbrev rest : List Move
  rest = filter (is_legal p) (map (λ y. y.mv) (drop (i + 1) xs))

  pub item_is : y ≡ get_or xs i y
  item_is = as_it_was (tally_with p) xs ys i y within a.added at

  ahead_of : (b : Bool) → is_legal p y.mv ≡ b → drop next ms ≡ cond b (y.mv ∷ rest) rest
  ahead_of b e =
      a.ahead ∙ ap (λ zs. filter (is_legal p) (map (λ (y : Tally). y.mv) zs)) (drop_more xs i y within ∙ ap (λ z. z ∷ drop (i + 1) xs) (sym item_is)) ∙ ap (λ (b : Bool). cond b (y.mv ∷ rest) rest) e

  -- the next legal move is this one
  pub one_counted : slice_get ms next ≡ Some y.mv → is_legal p y.mv ≡ true → IsWalk p ms xs (set ys i (tally_with p y)) (i + 1) (next + 1)
  one_counted here legal = record {
    added = map_over_more (tally_with p) xs ys i y within a.added at;
    ahead = (let b = drop_more ms next y.mv (slice_get_within ms next y.mv here) in let c = ahead_of true legal in cc);
  }

  -- it is another, or there is none: this one is illegal
  pub one_passed : (slice_get ms next ≡ Some y.mv → ⊥) → IsWalk p ms xs (set ys i (get_or ys i y)) (i + 1) next
  one_passed none =
      let illegal = false_from_ne_true (is_legal p y.mv) (λ e. none (at_head ms rest next y.mv (ahead_of true e))) in
      record {
        added = ap (set ys i) (sym (with_illegal p y illegal ∙ at)) ∙ map_over_more (tally_with p) xs ys i y within a.added at;
        ahead = ahead_of false illegal;
      }
