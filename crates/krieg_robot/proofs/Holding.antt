-- What holds of a game where a plan that mates leads it, and that each try keeps it.
use Rattle.std.proofs.Common.{◌≡◌, ℕ, zero, suc, Bool, true, false, not, ◌&&◌, ◌||◌, cond, List, map, option_to_list, refl, sym, ap, subst, ◌∙◌, Some}
use Rattle.std.specs.List.{list_all}
use Rattle.std.proofs.lemmas.Bool.{and_parts, both_ways, not-true}
use Rattle.std.proofs.lemmas.Slice.Eq.{bytes_eq-Decides}
use Rattle.std.proofs.lemmas.Map.Text.{is_eq-slice_cmp}
use Rattle.krieg_robot.proofs.Common.{is_same_side, move_numbers, Pos, Side, Move, is_legal, after, moves, is_ended, is_mate, Said, words, told, told_line, Dialect, Line, verdict, position_after, is_done, own_line, others_line, Event, Verdict, Over, Early, Illegal, Done, Maybe, Nothing, Just, Edges, wins, wins_other, Key, chess, is_answered, NodeTree, PlanTrees, first_root_in, first_edge_in, Stand, Unopened, Opened, At, Sent, Won, Lost, at, node_try, is_try, after_try, follow_on, next_try}
use Rattle.krieg_board.proofs.MenLemmas.{same_side_eq, same_side_self}
use Rattle.krieg_theory.specs.Tree.{Try}
use Rattle.krieg_theory.proofs.Lists.{all_at}
use Rattle.krieg_game.proofs.Winning.{illegal_try_goes_on, legal_try_wins}
use Rattle.krieg_robot.proofs.Moving.{turn_passes, legal_in, mate_ends, mated_words}
use Rattle.krieg_moves.proofs.Turns.{legal_goes}

own_try : (n : NodeTree) → is_try n (node_try n) ≡ true
own_try n = let ms = move_numbers (node_try n) in is_eq-slice_cmp ms ms ∙ (bytes_eq-Decides ms ms).1 refl

-- the verdict on a try of the side to move
on_turn : (p : Pos) (who : Side) (m : Move) → who ≡ p.side → verdict p who m ≡ cond (is_ended p) Over (cond (not (is_legal p m)) Illegal (Done (words p m)))
unfolding verdict
on_turn p who m turn =
    ap (λ (b : Bool). cond (is_ended p) Over (cond (not b) Early (cond (not (is_legal p m)) Illegal (Done (words p m))))) (ap (λ (s : Side). is_same_side s p.side) turn ∙ same_side_self p.side)

module _ (d : Dialect) where
  -- ---- a position that is won is not over

  by_legal : (t : Move) (o : Maybe Move Key) (es : Edges Move Key) (p : Pos) (k : ℕ) (legal : Bool) → is_legal p t ≡ legal →
      (wins_other (chess d) o p (suc k) ≡ true → is_ended p ≡ false) → wins (chess d) (Try t o es) p (suc k) ≡ true → is_ended p ≡ false
  by_legal t o es p k true l below h = legal_goes p t l
  by_legal t o es p k false l below h = below (sym (illegal_try_goes_on d t o es p k l) ∙ h)

  mutual
    pub won_goes : (n : NodeTree) (p : Pos) (k : ℕ) → wins (chess d) n p k ≡ true → is_ended p ≡ false
    won_goes (Try t o es) p zero h = absurd (both_ways false refl h)
    won_goes (Try t o es) p (suc k) h = by_legal t o es p k (is_legal p t) refl (other_goes o p (suc k)) h

    other_goes : (o : Maybe Move Key) (p : Pos) (k : ℕ) → wins_other (chess d) o p k ≡ true → is_ended p ≡ false
    other_goes Nothing p k h = absurd (both_ways false refl h)
    other_goes (Just n) p k h = won_goes n p k h

module _ (d : Dialect) (who : Side) (own : Bool) (plan : PlanTrees) where
  -- ---- what holds

  -- it is the player's turn, and the node wins within so many own moves
  pub record Wins (n : NodeTree) (p : Pos) (k : ℕ) : Type 0 where
    pub turn : is_same_side p.side who ≡ true
    pub wins : wins (chess d) n p k ≡ true

  -- the opponent has a move, and after each of his moves the node that is found by its words wins
  pub record Awaits (find : Said → Maybe Move Key) (p : Pos) (k : ℕ) : Type 0 where
    pub turn : is_same_side p.side who ≡ false
    pub goes : is_ended p ≡ false
    pub wins : (r : Move) → is_legal p r ≡ true → wins_other (chess d) (find (told d (words p r))) (after p r) k ≡ true

  -- the opponent is mated
  pub record IsMated (p : Pos) : Type 0 where
    pub turn : is_same_side p.side who ≡ false
    pub mate : is_mate p ≡ true

  abbrev pub Holds : Stand → Pos → ℕ → Type 0
  Holds Unopened p k = ⊥
  Holds (Opened w) p k = Awaits (λ (r : Said). first_root_in plan (w, Some r)) p k
  Holds (At n) p k = Wins n p k
  Holds (Sent n w) p k = Awaits (λ (r : Said). first_edge_in n (w, r)) p k
  Holds Won p k = IsMated p
  Holds Lost p k = ⊥

  pub at_holds : (o : Maybe Move Key) (p : Pos) (k : ℕ) → is_same_side p.side who ≡ true → wins_other (chess d) o p k ≡ true → Holds (at o) p k
  at_holds Nothing p k t h = absurd (both_ways false refl h)
  at_holds (Just n) p k t h = record { turn = t; wins = h }

  -- ---- one try

  -- what is left holds, and a move of the player's own takes one
  pub record Keeps (s : Stand) (p : Pos) (k : ℕ) (moved : Bool) : Type 0 where
    pub left : ℕ
    pub holds : Holds s p left
    pub counts : k ≡ cond moved (suc left) left

  -- what the player hears of a try that was judged so, his own or not
  abbrev heard_by : Bool → Move → Verdict → List Line
  heard_by mine m v = map (told_line d) (option_to_list (cond mine (Some (own_line m v)) (others_line v)))

  abbrev pub KeepsBy : Stand → Pos → ℕ → Move → Bool → Verdict → Type 0
  KeepsBy s p k m mine v = Keeps (follow_on own plan s (heard_by mine m v)) (position_after v p m) k (mine && is_done v)

  same : (s : Stand) (p : Pos) (k : ℕ) → Holds s p k → Keeps s p k false
  same s p k h = record { left = k; holds = h; counts = refl }

  -- his own try is illegal: he goes on at the node for that
  illegal_kept : (t : Move) (o : Maybe Move Key) (es : Edges Move Key) (p : Pos) (k : ℕ) → Wins (Try t o es) p k → is_legal p t ≡ false → KeepsBy (At (Try t o es)) p k t true Illegal
  illegal_kept t o es p zero h l = absurd (both_ways false refl h.wins)
  illegal_kept t o es p (suc k) h l =
      let below : Holds (at o) p (suc k) = at_holds o p (suc k) h.turn (sym (illegal_try_goes_on d t o es p k l) ∙ h.wins) in
      record {
        left = suc k;
        holds = subst (λ (b : Bool). Holds (cond b (at o) Lost) p (suc k)) (sym (own_try (Try t o es))) below;
        counts = refl;
      }

  -- it is done: it mates, or every reply is answered
  answered : (t : Move) (o : Maybe Move Key) (es : Edges Move Key) (p : Pos) (k : ℕ) → is_same_side p.side who ≡ true → is_legal p t ≡ true →
      (mate : Bool) → is_mate (after p t) ≡ mate → (mate || (not (is_ended (after p t)) && list_all (is_answered d es p t k) (moves (after p t)))) ≡ true →
      Holds (cond mate Won (Sent (Try t o es) (told d (words p t)))) (after p t) k
  answered t o es p k turn l true m h = record { turn = turn_passes who p t true l turn; mate = m }
  answered t o es p k turn l false m h =
      let b = and_parts (not (is_ended (after p t))) (list_all (is_answered d es p t k) (moves (after p t))) h in
      record {
        turn = turn_passes who p t true l turn;
        goes = not-true _ b.0;
        wins = λ r legal. all_at (is_answered d es p t k) (moves (after p t)) b.1 r (legal_in (after p t) r legal);
      }

  done_kept : (t : Move) (o : Maybe Move Key) (es : Edges Move Key) (p : Pos) (k : ℕ) → Wins (Try t o es) p k → is_legal p t ≡ true → KeepsBy (At (Try t o es)) p k t true (Done (words p t))
  done_kept t o es p zero h l = absurd (both_ways false refl h.wins)
  done_kept t o es p (suc k) h l =
      let n : NodeTree = Try t o es in
      let w : Said = told d (words p t) in
      let won : Holds (cond (is_mate (after p t)) Won (Sent n w)) (after p t) k =
      answered t o es p k h.turn l (is_mate (after p t)) refl (sym (legal_try_wins d t o es p k l) ∙ h.wins) in
      let told_so : Holds (after_try n w) (after p t) k = subst (λ (b : Bool). Holds (cond b Won (Sent n w)) (after p t) k) (sym (mated_words d p t)) won in
      record {
        left = k;
        holds = subst (λ (b : Bool). Holds (cond b (after_try n w) Lost) (after p t) k) (sym (own_try n)) told_so;
        counts = refl;
      }

  own_kept : (n : NodeTree) (p : Pos) (k : ℕ) → Wins n p k → (ended legal : Bool) → is_legal p (node_try n) ≡ legal →
      KeepsBy (At n) p k (node_try n) true (cond ended Over (cond (not legal) Illegal (Done (words p (node_try n)))))
  own_kept (Try t o es) p k h true legal l = same (At (Try t o es)) p k h
  own_kept (Try t o es) p k h false false l = illegal_kept t o es p k h l
  own_kept (Try t o es) p k h false true l = done_kept t o es p k h l

  -- the opponent moved: it is the player's turn at the node that is found
  awaited : (find : Said → Maybe Move Key) (p : Pos) (m : Move) (k : ℕ) → Awaits find p k → is_legal p m ≡ true → Holds (at (find (told d (words p m)))) (after p m) k
  awaited find p m k h l = at_holds (find (told d (words p m))) (after p m) k (turn_passes who p m false l h.turn) (h.wins m l)

  their_kept : (s : Stand) (p : Pos) (m : Move) (k : ℕ) → Holds s p k → is_same_side p.side who ≡ false → (ended legal : Bool) → is_ended p ≡ ended → is_legal p m ≡ legal →
      KeepsBy s p k m false (cond ended Over (cond (not legal) Illegal (Done (words p m))))
  their_kept s p m k h turn true legal e l = same s p k h
  their_kept s p m k h turn false false e l = same s p k h
  their_kept Unopened p m k h turn false true e l = absurd h
  their_kept (Opened w) p m k h turn false true e l = record { left = k; holds = awaited (λ (r : Said). first_root_in plan (w, Some r)) p m k h l; counts = refl }
  their_kept (At n) p m k h turn false true e l = absurd (both_ways _ turn h.turn)
  their_kept (Sent n w) p m k h turn false true e l = record { left = k; holds = awaited (λ (r : Said). first_edge_in n (w, r)) p m k h l; counts = refl }
  their_kept Won p m k h turn false true e l = absurd (both_ways _ e (mate_ends p h.mate))
  their_kept Lost p m k h turn false true e l = absurd h

  -- whose turn it is tells where he may stand
  same_try : (n : NodeTree) (m : Move) → next_try (At n) ≡ Some m → node_try n ≡ m
  same_try n m h = cc

  -- a try of the side to move keeps what holds, where the player tries what the plan says
  pub kept : (s : Stand) (p : Pos) (e : Event) (k : ℕ) → Holds s p k → e.who ≡ p.side → (e.who ≡ who → next_try s ≡ Some e.mv) →
      KeepsBy s p k e.mv (is_same_side e.who who) (verdict p e.who e.mv)
  kept s p e k h turn tried =
      subst (KeepsBy s p k e.mv (is_same_side e.who who)) (sym (on_turn p e.who e.mv turn)) (by_side (is_same_side e.who who) refl)
    where
      judged : Move → Verdict
      judged m = cond (is_ended p) Over (cond (not (is_legal p m)) Illegal (Done (words p m)))

      mine : (t : Stand) → Holds t p k → next_try t ≡ Some e.mv → KeepsBy t p k e.mv true (judged e.mv)
      mine Unopened h n = absurd h
      mine (Opened w) h n = absurd cc
      mine (At n) h is =
          subst (λ (m : Move). KeepsBy (At n) p k m true (judged m)) (same_try n e.mv is) (own_kept n p k h (is_ended p) (is_legal p (node_try n)) refl)
      mine (Sent n w) h is = absurd cc
      mine Won h n = absurd cc
      mine Lost h n = absurd h

      by_side : (b : Bool) → is_same_side e.who who ≡ b → KeepsBy s p k e.mv b (judged e.mv)
      by_side true b = mine s h (tried (same_side_eq e.who who b))
      by_side false b = their_kept s p e.mv k h (ap (λ (x : Side). is_same_side x who) (sym turn) ∙ b) (is_ended p) (is_legal p e.mv) refl refl
