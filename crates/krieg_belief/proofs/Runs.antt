-- What one entry more does to the set.
use Rattle.std.proofs.Common.{◌≡◌, ℕ, ◌+◌, ◌<◌, ◌≤◌, ◌⊎◌, inl, inr, List, [], ◌∷◌, ◌++◌, length, take, flat_map, refl, sym, ap, subst, ◌∙◌, arith, get_or}
use Rattle.std.proofs.lemmas.List.{take_more, append-nil}
use Rattle.std.proofs.lemmas.Grind.{flat_map-append}
use Rattle.std.proofs.Math.Nat.{eq-or-lt_of_le}
use Rattle.krieg_belief.proofs.Common.{Pos, Side, Dialect, Line, IsAscending, set_of, nexts, step, run, stopped, IsLateStop, StepStop, BeliefStop}
use Rattle.krieg_theory.proofs.Lists.{take_in, in_flat, flat_in}
use Rattle.krieg_pack.proofs.PositionSets.{set_ascending, set_part_le}
use Rattle.krieg_moves.proofs.MoveLists.{moves_legal}
use Rattle.krieg_belief.specs.declared.steps.StepStop.TheVariants as steps

run_more : (d : Dialect) (who : Side) (ls : List Line) (l : Line) (ps : List Pos) → run d who (ls ++ l ∷ []) ps ≡ step d who l (run d who ls ps)
run_more d who [] l ps = refl
run_more d who (x ∷ ls) l ps = run_more d who ls l (step d who x ps)

pub run_next : (d : Dialect) (who : Side) (ls : List Line) (i : ℕ) (l : Line) (start b next : List Pos) → i < length ls → l ≡ get_or ls i l → b ≡ run d who (take i ls) start →
    next ≡ step d who l b → next ≡ run d who (take (i + 1) ls) start
run_next d who ls i l start b next h at there is =
    is ∙ ap (step d who l) there ∙ sym (ap (λ (xs : List Line). run d who xs start) (take_more ls i l h) ∙ ap (λ (x : Line). run d who (take i ls ++ x ∷ []) start) (sym at) ∙ run_more d who (take i ls) l start)

pub run_ascending : (d : Dialect) (who : Side) (ls : List Line) (ps : List Pos) → IsAscending ps → IsAscending (run d who ls ps)
run_ascending d who [] ps up = up
run_ascending d who (l ∷ ls) ps up = run_ascending d who ls (step d who l ps) (set_ascending _)

pub up_to_more : (P : ℕ → Type 0) (i : ℕ) → ((m : ℕ) → m ≤ i → P m) → P (i + 1) → (m : ℕ) → m ≤ i + 1 → P m
up_to_more P i h last m le = go (eq-or-lt_of_le le)
  where
    go : (m ≡ i + 1) ⊎ (m < i + 1) → P m
    go (inl e) = subst P (sym e) last
    go (inr l) = h m (omega arith)

pub next_more : (d : Dialect) (who : Side) (l : Line) (ps : List Pos) (i : ℕ) (p : Pos) → i < length ps → p ≡ get_or ps i p →
    flat_map (nexts d who l) (take (i + 1) ps) ≡ flat_map (nexts d who l) (take i ps) ++ nexts d who l p
next_more d who l ps i p h at =
    let f = nexts d who l in
    ap (flat_map f) (take_more ps i p h ∙ ap (λ (x : Pos). take i ps ++ x ∷ []) (sym at)) ∙ flat_map-append f (take i ps) (p ∷ []) ∙ ap (λ (r : List Pos). flat_map f (take i ps) ++ r) (append-nil (f p))

-- the moves in the list of a position are legal
pub ruleset listed = (moves_legal)

-- the set of a part is too large, so the whole set is
pub part_exceeds : (d : Dialect) (who : Side) (l : Line) (ps qs : List Pos) (n limit : ℕ) → limit < length (set_of qs) → set_of qs ≡ set_of (flat_map (nexts d who l) (take n ps)) →
    limit < length (step d who l ps)
part_exceeds d who l ps qs n limit over is =
    let f = nexts d who l in
    let part : length (set_of (flat_map f (take n ps))) ≤ length (set_of (flat_map f ps)) =
    set_part_le (flat_map f (take n ps)) (flat_map f ps) (λ p j. let r = flat_in f (take n ps) p j in in_flat f ps r.0 p (take_in n ps r.0 r.1) r.2) in
    omega (arith, over, part, ap length is)

-- where a step is too large, it is the first one
pub late_stop : (d : Dialect) (who : Side) (ls : List Line) (i : ℕ) (l : Line) (start b : List Pos) (limit behind : ℕ) (stop : StepStop) (r : BeliefStop) → i < length ls → l ≡ get_or ls i l →
    b ≡ run d who (take i ls) start → ((m : ℕ) → m ≤ i → length (run d who (take m ls) start) ≤ limit) → (stop ≡ steps.TooMany → limit < length (step d who l b)) →
    r ≡ stopped stop (behind + i + 1) → IsLateStop d who ls start limit behind r
late_stop d who ls i l start b limit behind steps.TooMany r h at there within over is =
    subst (IsLateStop d who ls start limit behind) (sym is) (record {
      place = i + 1;
      in_lines = omega arith;
      exceeds = subst (λ (ps : List Pos). limit < length ps) (run_next d who ls i l start b (step d who l b) h at there refl) (over refl);
      before = λ n lt. within n (omega arith);
      line_is = omega arith;
    })
late_stop d who ls i l start b limit behind steps.NoMemory r h at there within over is = subst (IsLateStop d who ls start limit behind) (sym is) tt
