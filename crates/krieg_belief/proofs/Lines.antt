-- A layer after one line more, and after one after another.
use Rattle.std.proofs.Common.{◌≡◌, ℕ, zero, suc, ◌+◌, ◌<◌, ◌≤◌, List, [], ◌∷◌, ◌++◌, map, length, get_or, Some, None, Bool, true, false, cond, refl, sym, ap, subst, ◌∙◌, arith, take, drop, flat_map}
use Rattle.std.specs.Prelude.{slice_get, Result, Ok, Err, OnOk, is_err}
use Rattle.std.proofs.lemmas.List.{append-nil, length-map, length-append, take-append-drop, take_more, take_all}
use Rattle.std.proofs.lemmas.Grind.{flat_map-append}
use Rattle.krieg_belief.proofs.Common.{Pos, Side, Dialect, Line, IsAscending, run, IsOver, Tale, begun, tales_after, firsts, tell, tell_all, Entries, kept, tale_of, tales_of, AreKept, stands_in, added, add_all, Adds, Link}
use Rattle.krieg_belief.proofs.Kept.{tale_stays, numbered_at}
use Rattle.krieg_belief.proofs.Adding.{add_all_append, adds_then}
use Rattle.krieg_belief.proofs.Firsts.{firsts_all}
use Rattle.krieg_belief.proofs.Sizes.{layer_size}
use Rattle.krieg_belief.proofs.Runs.{up_to_more}
use Rattle.krieg_belief.specs.Limits.{IsLateStop}
use Rattle.krieg_belief.specs.declared.beliefs.BeliefStop.{BeliefStop}
use Rattle.krieg_belief.specs.declared.beliefs.BeliefStop.TheVariants as stops

taken : (f : Pos × ℕ → Tale) (es : Entries) (i : ℕ) (e : Pos × ℕ) → slice_get es i ≡ Some e → take (suc i) (map f es) ≡ take i (map f es) ++ f e ∷ []
taken f [] i e at = absurd cc
taken f (y ∷ es) zero e at = let s : y ≡ e = cc in ap (λ (z : Pos × ℕ). f z ∷ []) s
taken f (y ∷ es) (suc i) e at = ap (λ (t : List Tale). f y ∷ t) (taken f es i e at)

pub none_past : (es : Entries) (i : ℕ) → slice_get es i ≡ None → i < length es → ⊥
none_past [] i at h = let k : i < 0 = h in omega (arith, k)
none_past (y ∷ es) zero at h = cc
none_past (y ∷ es) (suc i) at h = none_past es i at (omega (arith, h))

-- what holds where a call was not refused
pub when_ok : {X E : Type 0} (P : Type 0) (r : Result X E) → OnOk r P → is_err r ≡ false → P
when_ok P (Ok x) h e = h
when_ok P (Err x) h e = absurd cc

pub tell_more : (ps : List Pos) (d : Dialect) (who : Side) (line : Line) (a b c : List Link) (es eb ec : Entries) (i : ℕ) (e : Pos × ℕ) → slice_get es i ≡ Some e → AreKept ps a es → Adds ps a b [] eb (flat_map (tales_after d who line) (take i (tales_of ps a es))) →
    Adds ps b c eb ec (tales_after d who line (tale_of (kept (map begun ps) b) e)) → Adds ps a c [] ec (flat_map (tales_after d who line) (take (i + 1) (tales_of ps a es)))
tell_more ps d who line a b c es eb ec i e at k f g =
    subst (λ (ys : List Tale). Adds ps a c [] ec ys) (sym parts)
    (adds_then ps a b c [] eb ec (flat_map (tales_after d who line) (take i (tales_of ps a es))) (tales_after d who line (tale_of (kept (map begun ps) a) e)) f
    (subst (λ (t : Tale). Adds ps b c eb ec (tales_after d who line t)) same g))
  where
    same : tale_of (kept (map begun ps) b) e ≡ tale_of (kept (map begun ps) a) e
    same = ap (λ (ls : List Link). tale_of (kept (map begun ps) ls) e) f.more.1 ∙ tale_stays ps a f.more.0 e (numbered_at (length ps + length a) es i e k.numbered at)

    next : (n : ℕ) → n + 1 ≡ suc n
    next n = omega arith

    parts : flat_map (tales_after d who line) (take (i + 1) (tales_of ps a es)) ≡ flat_map (tales_after d who line) (take i (tales_of ps a es)) ++ tales_after d who line (tale_of (kept (map begun ps) a) e)
    parts =
        ap (λ (n : ℕ). flat_map (tales_after d who line) (take n (tales_of ps a es))) (next i) ∙ (ap (flat_map (tales_after d who line)) (taken (tale_of (kept (map begun ps) a)) es i e at)
        ∙ (flat_map-append (tales_after d who line) (take i (tales_of ps a es)) (tale_of (kept (map begun ps) a) e ∷ [])
        ∙ ap (λ (r : List Tale). flat_map (tales_after d who line) (take i (tales_of ps a es)) ++ r) (append-nil (tales_after d who line (tale_of (kept (map begun ps) a) e)))))

pub tell_end : (ps : List Pos) (d : Dialect) (who : Side) (line : Line) (a b : List Link) (es eb : Entries) (i : ℕ) → length es ≤ i → Adds ps a b [] eb (flat_map (tales_after d who line) (take i (tales_of ps a es))) →
    tales_of ps b eb ≡ firsts (flat_map (tales_after d who line) (tales_of ps a es))
tell_end ps d who line a b es eb i h f =
    let n = length-map es (tale_of (kept (map begun ps) a)) in
    f.tales ∙ (ap (λ (ys : List Tale). add_all [] (flat_map (tales_after d who line) ys)) (take_all i (tales_of ps a es) (omega (arith, h, n)))
    ∙ sym (firsts_all (flat_map (tales_after d who line) (tales_of ps a es))))

-- games that are added make no list shorter
adds_up : (xs ys : List Tale) → length xs ≤ length (add_all xs ys)
adds_up xs [] = omega arith
adds_up xs (y ∷ ys) = let r = adds_up (added xs y) ys in let a = one (stands_in y.stands xs) in omega (arith, r, a)
  where
    one : (b : Bool) → length xs ≤ length (cond b xs (xs ++ y ∷ []))
    one true = omega arith
    one false = let n = length-append xs (y ∷ []) in omega (arith, n)

-- where the games after a part of a layer are too many, so are those after all of it
pub tell_over : (ps : List Pos) (d : Dialect) (who : Side) (line : Line) (a b : List Link) (es eb : Entries) (i limit : ℕ) → limit < length eb → Adds ps a b [] eb (flat_map (tales_after d who line) (take i (tales_of ps a es))) →
    limit < length (tell d who line (tales_of ps a es))
tell_over ps d who line a b es eb i limit over f =
    let xs = tales_of ps a es in
    let part = flat_map (tales_after d who line) (take i xs) in
    let rest = flat_map (tales_after d who line) (drop i xs) in
    let all : flat_map (tales_after d who line) xs ≡ part ++ rest = ap (flat_map (tales_after d who line)) (sym (take-append-drop i xs)) ∙ flat_map-append (tales_after d who line) (take i xs) (drop i xs) in
    let whole : tell d who line xs ≡ add_all (add_all [] part) rest = firsts_all (flat_map (tales_after d who line) xs) ∙ (ap (add_all []) all ∙ add_all_append [] part rest) in
    let up = adds_up (add_all [] part) rest in
    let size = ap (λ (t : List Tale). length t) whole in
    let there = ap (λ (t : List Tale). length t) f.tales in
    let entries = length-map eb (tale_of (kept (map begun ps) b)) in
    omega (arith, over, up, size, there, entries)

tell_push : (d : Dialect) (who : Side) (ls : List Line) (l : Line) (xs : List Tale) → tell_all d who (ls ++ l ∷ []) xs ≡ tell d who l (tell_all d who ls xs)
tell_push d who [] l xs = refl
tell_push d who (k ∷ ls) l xs = tell_push d who ls l (tell d who k xs)

pub lines_more : (d : Dialect) (who : Side) (ls : List Line) (i : ℕ) (l : Line) (xs now next : List Tale) → i < length ls → l ≡ get_or ls i l → now ≡ tell_all d who (take i ls) xs → next ≡ tell d who l now → next ≡ tell_all d who (take (i + 1) ls) xs
lines_more d who ls i l xs now next h at is told =
    told ∙ (ap (tell d who l) is ∙ (sym (tell_push d who (take i ls) l xs) ∙ ap (λ (t : List Line). tell_all d who t xs) (ap (λ (y : Line). take i ls ++ y ∷ []) at ∙ sym (take_more ls i l h))))

module _ (d : Dialect) (who : Side) (ls : List Line) (i : ℕ) (l : Line) (ps : List Pos) (xs : List Tale) (up : IsAscending ps) (h : i < length ls) (at : l ≡ get_or ls i l) (is : xs ≡ tell_all d who (take i ls) (map begun ps)) where
  next_size : length (tell d who l xs) ≡ length (run d who (take (i + 1) ls) ps)
  next_size = ap (λ (t : List Tale). length t) (lines_more d who ls i l (map begun ps) xs (tell d who l xs) h at is refl) ∙ layer_size d who (take (i + 1) ls) ps up

  -- the first layer that is too large tells where too many positions are possible
  pub layer_late : (limit behind : ℕ) (r : BeliefStop) → ((m : ℕ) → m ≤ i → length (run d who (take m ls) ps) ≤ limit) → IsOver limit (behind + i + 1) (tell d who l xs) r → IsLateStop d who ls ps limit behind r
  layer_late limit behind stops.NoMemory within over = tt
  layer_late limit behind (stops.TooMany line) within over = record {
    place = i + 1;
    in_lines = omega (arith, h);
    exceeds = let size = next_size in let more = over.0 in omega (arith, size, more);
    before = λ n lt. within n (omega (arith, lt));
    line_is = let number = over.1 in omega (arith, number);
  }

  -- and where none was, there is none with one line more
  pub layer_within : (limit : ℕ) (es : Entries) (links : List Link) (starts : List Pos) → tales_of starts links es ≡ tell d who l xs → length es ≤ limit → ((m : ℕ) → m ≤ i → length (run d who (take m ls) ps) ≤ limit) →
      (m : ℕ) → m ≤ i + 1 → length (run d who (take m ls) ps) ≤ limit
  layer_within limit es links starts tales small within =
      let size = next_size in
      let there = ap (λ (t : List Tale). length t) tales in
      let entries = length-map es (tale_of (kept (map begun starts) links)) in
      up_to_more (λ (m : ℕ). length (run d who (take m ls) ps) ≤ limit) i within (omega (arith, size, there, entries, small))
