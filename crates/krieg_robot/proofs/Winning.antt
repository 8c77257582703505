-- What a plan that mates makes of a game in which its side follows it.
use Rattle.std.proofs.Common.{◌≡◌, ℕ, suc, ◌+◌, Bool, true, false, not, cond, List, [], ◌∷◌, ◌++◌, length, filter, map, option_to_list, refl, sym, ap, subst, ◌∙◌, append_assoc, Some, None, arith, inl}
use Rattle.std.proofs.lemmas.Bool.{and_parts, both_ways, not-true, cond-true, cond-false}
use Rattle.std.proofs.lemmas.List.{append-nil}
use Rattle.krieg_robot.proofs.Common.{other, is_same_side, Pos, Side, after, moves, is_ended, is_mate, words, opening, told, told_line, Dialect, Line, next, judge, judged, last, heard, line_for, Event, Judged, Ended, Left, events_of, AreOnTurn, In, mates_from, PlanTrees, first_root_in, IsOneTurn, Guidance, Stand, Unopened, Opened, At, Sent, Won, Lost, opened, follow_on, follow, next_try, is_first, stand_after, IsTried, AreTried, own_moves, is_own_move, LeadStops, MatingPlanWins}
use Rattle.krieg_board.proofs.MenLemmas.{same_side_self}
use Rattle.krieg_play.proofs.Judging.{last_end}
use Rattle.krieg_theory.proofs.Lists.{all_at}
use Rattle.krieg_game.proofs.Starting.{mates_from_each}
use Rattle.krieg_plan.proofs.WonRoots.{root_wins}
use Rattle.krieg_robot.proofs.Following.{follow_more}
use Rattle.krieg_robot.proofs.HeardMore.{heard_end}
use Rattle.krieg_robot.proofs.Moving.{is_other, legal_in}
use Rattle.krieg_robot.proofs.Holding.{Holds, Keeps, at_holds, kept, won_goes}

-- ---- the first line

-- a plan that mates from the start holds once the opening words are heard
first_holds : (d : Dialect) (who : Side) (own : Bool) (plan : PlanTrees) (p : Pos) (k : ℕ) → own ≡ is_same_side p.side who → mates_from d who plan k p ≡ true →
    Holds d who own plan (opened own plan Unopened (told d (opening p))) p k
first_holds d who own plan p k own_is h = by_turn own (sym own_is)
  where
    by_turn : (b : Bool) → is_same_side p.side who ≡ b → Holds d who own plan (opened b plan Unopened (told d (opening p))) p k
    by_turn true turn =
        at_holds d who own plan (first_root_in plan (told d (opening p), None)) p k turn
        (sym (root_wins d who plan (told d (opening p), None) p k) ∙ (sym (cond-true (is_same_side p.side who) _ _ turn) ∙ h))
    by_turn false turn =
        let b = and_parts (not (is_ended p)) _ (sym (cond-false (is_same_side p.side who) _ _ turn) ∙ h) in
        record {
          turn = turn;
          goes = not-true _ b.0;
          wins = λ r legal. sym (root_wins d who plan (told d (opening p), Some (told d (words p r))) (after p r) k) ∙ all_at _ (moves p) b.1 r (legal_in p r legal);
        }

-- ---- all tries

own_more : (who : Side) (j : Judged) (js : List Judged) → own_moves who (j ∷ js) ≡ cond (is_own_move who j) (suc (own_moves who js)) (own_moves who js)
own_more who j js = go (is_own_move who j)
  where
    go : (b : Bool) → length (cond b (j ∷ filter (is_own_move who) js) (filter (is_own_move who) js)) ≡ cond b (suc (own_moves who js)) (own_moves who js)
    go true = refl
    go false = refl

counted : (b : Bool) (k left now n : ℕ) → k ≡ cond b (suc left) left → left ≡ now + n → k ≡ now + cond b (suc n) n
counted true k left now n e f = omega arith
counted false k left now n e f = omega arith

module _ (f : Guidance) (start : Pos) where
  abbrev own : Bool
  own = is_first f.side f.list

  -- what holds once these tries were judged, of which so many more than before were own moves
  record Kept (events : List Event) (k n : ℕ) : Type 0 where
    left : ℕ
    holds : Holds f.dialect f.side own f.plan (stand_after f start events) (last start events) left
    counts : k ≡ left + n

  one_more : (before : List Event) (e : Event) (k : ℕ) → Holds f.dialect f.side own f.plan (stand_after f start before) (last start before) k → e.who ≡ (last start before).side → IsTried f start before e →
      Keeps f.dialect f.side own f.plan (stand_after f start (before ++ e ∷ [])) (last start (before ++ e ∷ [])) k (is_own_move f.side (judged (last start before) e))
  one_more before e k h turn tried =
      let p : Pos = last start before in
      let more : List Line = map (told_line f.dialect) (option_to_list (line_for f.side (judged p e))) in
      let stands : stand_after f start (before ++ e ∷ []) ≡ follow_on own f.plan (stand_after f start before) more =
      ap (λ (ls : List Line). follow own f.plan ls) (heard_end f.dialect start before f.side e) ∙ follow_more own f.plan Unopened (heard f.dialect start before f.side) more in
      subst (λ (s : Stand). Keeps f.dialect f.side own f.plan s (last start (before ++ e ∷ [])) k (is_own_move f.side (judged p e))) (sym stands)
      (subst (λ (q : Pos). Keeps f.dialect f.side own f.plan (follow_on own f.plan (stand_after f start before) more) q k (is_own_move f.side (judged p e))) (sym (last_end start before e))
      (kept f.dialect f.side own f.plan (stand_after f start before) p e k h turn tried))

  all_kept : (es before : List Event) (k : ℕ) → Holds f.dialect f.side own f.plan (stand_after f start before) (last start before) k → AreOnTurn (last start before) es → AreTried f start before es →
      Kept (before ++ es) k (own_moves f.side (judge (last start before) es))
  all_kept [] before k h turns tried =
      subst (λ (xs : List Event). Kept xs k 0) (sym (append-nil before)) (record { left = k; holds = h; counts = omega arith })
  all_kept (e ∷ es) before k h turns tried =
      let p : Pos = last start before in
      let one = one_more before e k h turns.0 tried.0 in
      let there : last start (before ++ e ∷ []) ≡ next p e.who e.mv = last_end start before e in
      let rest = all_kept es (before ++ e ∷ []) one.left one.holds (subst (λ (q : Pos). AreOnTurn q es) (sym there) turns.1) tried.1 in
      let n : ℕ = own_moves f.side (judge (next p e.who e.mv) es) in
      let now : one.left ≡ rest.left + n = rest.counts ∙ ap (λ (q : Pos). rest.left + own_moves f.side (judge q es)) there in
      subst (λ (xs : List Event). Kept xs k (own_moves f.side (judge p (e ∷ es)))) (append_assoc before (e ∷ []) es) (record {
        left = rest.left;
        holds = rest.holds;
        counts = counted (is_own_move f.side (judged p e)) k one.left rest.left n one.counts now ∙ ap (λ (x : ℕ). rest.left + x) (sym (own_more f.side (judged p e) (judge (next p e.who e.mv) es)));
      })

-- ---- what holds at the stop

module _ (d : Dialect) (who : Side) (own : Bool) (plan : PlanTrees) where
  -- at the player's turn the plan has a try
  has_try : (s : Stand) (p : Pos) (k : ℕ) → Holds d who own plan s p k → is_same_side p.side who ≡ true → next_try s ≡ None → ⊥
  has_try Unopened p k h turn none = h
  has_try (Opened w) p k h turn none = both_ways _ h.turn turn
  has_try (At n) p k h turn none = cc
  has_try (Sent n w) p k h turn none = both_ways _ h.turn turn
  has_try Won p k h turn none = both_ways _ h.turn turn
  has_try Lost p k h turn none = h

  -- where the game has ended the opponent is mated
  has_mated : (s : Stand) (p : Pos) (k : ℕ) → Holds d who own plan s p k → is_ended p ≡ true → (is_mate p ≡ true) × (is_same_side p.side who ≡ false)
  has_mated Unopened p k h e = absurd h
  has_mated (Opened w) p k h e = absurd (both_ways _ h.goes e)
  has_mated (At n) p k h e = absurd (both_ways _ (won_goes d n p k h.wins) e)
  has_mated (Sent n w) p k h e = absurd (both_ways _ h.goes e)
  has_mated Won p k h e = (h.mate, h.turn)
  has_mated Lost p k h e = absurd h

first_is : (f : Guidance) (start : Pos) → IsOneTurn f.list → In start f.list → is_first f.side f.list ≡ is_same_side start.side f.side
first_is f start one i = go f.list i one.same_side
  where
    go : (ps : List Pos) → In start ps → ((p q : Pos) → In p ps → In q ps → p.side ≡ q.side) → is_first f.side ps ≡ is_same_side start.side f.side
    go [] i same = absurd i
    go (p ∷ ps) i same = ap (λ (s : Side). is_same_side s f.side) (same p start (inl refl) i)

pub mating_plan_wins : MatingPlanWins
mating_plan_wins f start asks entry now game stop one i mates led = record {
  stays = λ e. leaves (subst (LeadStops f start asks game) e led.stops);
  few = omega (arith, all.counts, ap (own_moves f.side) led.whole.is_game.log);
  mates = λ e. mated (subst (LeadStops f start asks game) e led.stops);
}
  where
    es : List Event
    es = events_of game.log

    all : Kept f start es f.worst (own_moves f.side (judge start es))
    all =
        all_kept f start es [] f.worst
        (first_holds f.dialect f.side (is_first f.side f.list) f.plan start f.worst (first_is f start one i)
        (all_at (mates_from f.dialect f.side f.plan f.worst) f.list (sym (mates_from_each f.dialect f.side f.plan f.list f.worst) ∙ mates) start i))
        led.whole.is_game.on_turn led.whole.tried

    holds : Holds f.dialect f.side (is_first f.side f.list) f.plan (stand_after f start es) game.position all.left
    holds = subst (λ (p : Pos). Holds f.dialect f.side (is_first f.side f.list) f.plan (stand_after f start es) p all.left) (sym led.whole.is_game.position) all.holds

    leaves : LeadStops f start asks game (Left f.side) → ⊥
    leaves h = has_try f.dialect f.side (is_first f.side f.list) f.plan (stand_after f start es) game.position all.left holds
        (ap (λ (s : Side). is_same_side s f.side) (sym h.2) ∙ same_side_self f.side) (h.3 refl)

    mated : LeadStops f start asks game Ended → (is_mate game.position ≡ true) × (game.position.side ≡ other f.side)
    mated h =
        let m = has_mated f.dialect f.side (is_first f.side f.list) f.plan (stand_after f start es) game.position all.left holds h in
        (m.0, is_other game.position.side f.side m.1)
