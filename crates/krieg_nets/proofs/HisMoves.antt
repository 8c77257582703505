-- A king who is alone steps to a square that none of the officers attacks: so he gets away, where they mate him there no more in time.
use Rattle.std.proofs.Common.{◌≡◌, ◌≢◌, ℕ, ◌<◌, ◌==◌, true, false, not, ◌&&◌, length, refl, sym, ◌∙◌, ap, subst, arith}
use Rattle.std.specs.Prelude.{Some, None, slice_set}
use Rattle.std.proofs.lemmas.Bool.{and_parts, both_ways, eq-eqb, not-true}
use Rattle.std.proofs.lemmas.List.{set-get_or, set-set}
use Rattle.std.proofs.lemmas.List.Folds.{list_any_at}
use Rattle.krieg_board.specs.Attacks.{is_attacked, is_king_attacked, man_attacks}
use Rattle.krieg_board.specs.Board.{Board, is_man, is_of, man_at}
use Rattle.krieg_board.specs.Men.{no_rights, other}
use Rattle.krieg_board.specs.Pos.{Pos}
use Rattle.krieg_board.specs.Validity.{IsValid}
use Rattle.krieg_board.specs.declared.men.Kind.TheVariants.{King}
use Rattle.krieg_board.specs.declared.men.Move.{Move}
use Rattle.krieg_board.specs.declared.men.Side.{Side}
use Rattle.krieg_board.specs.declared.men.Side.TheVariants.{White}
use Rattle.krieg_board.proofs.MenLemmas.{same_side_self}
use Rattle.krieg_rays.specs.Rays.{goes}
use Rattle.krieg_rays.proofs.Attacking.{king_from}
use Rattle.krieg_moves.specs.After.{after, after_by}
use Rattle.krieg_moves.specs.Legal.{is_candidate, is_legal}
use Rattle.krieg_moves.specs.Moves.{moves, plain_move}
use Rattle.krieg_moves.proofs.Boards.{man_at_set_other, man_at_set_same}
use Rattle.krieg_moves.proofs.Castling.{king_near}
use Rattle.krieg_moves.proofs.Going.{attacks_is, goes_plainly}
use Rattle.krieg_moves.proofs.KeepsValid.{valid_after}
use Rattle.krieg_moves.proofs.Listed.{legal_listed}
use Rattle.krieg_moves.proofs.LoneKings.{steps_go}
use Rattle.krieg_moves.proofs.Safety.{mover_is}
use Rattle.krieg_moves.proofs.Shapes.{board_after_plain}
use Rattle.krieg_nets.specs.LoneKings.{AreOfficers, king_of, with_king}
use Rattle.krieg_nets.specs.Seen.{leaves_none, mates_within}
use Rattle.krieg_nets.proofs.OwnMoves.{unheld}

-- a legal move behind which there is no mate in time leaves none
leaves_by : (j : ℕ) (q : Pos) (m : Move) → is_legal q m ≡ true → mates_within j (after q m) ≡ false → leaves_none j q ≡ true
leaves_by j q m legal none =
    let (k, l, e) = legal_listed q m legal in
    list_any_at (λ r. not (mates_within j (after q r))) (moves q) k m l (ap (λ r. not (mates_within j (after q r))) e ∙ ap not none)

-- the step of the king, and the position behind it
module _ (men : Board) (lone : Side) (king to : ℕ) (size : length men ≡ 64) (inside : king < 64) (there : to < 64) (are : AreOfficers men lone) (empty : man_at men king ≡ None)
    (valid : IsValid (with_king men lone king lone)) (step : goes King White king to ≡ true) where
  abbrev stood : Board
  stood = slice_set men king (Some (king_of lone))

  abbrev m : Move
  m = plain_move king to

  stands : man_at stood king ≡ Some (king_of lone)
  stands = man_at_set_same men king (Some (king_of lone)) (omega (arith, size, inside))

  left : slice_set stood king None ≡ men
  left = set-set men king (Some (king_of lone)) None ∙ ap (slice_set men king) (sym empty) ∙ set-get_or men king None

  attacked : man_attacks stood (Some (king_of lone)) king to ≡ true
  attacked = sym (king_from stood (king_of lone) king to refl) ∙ step

  apart : to ≢ king
  apart e = both_ways (king == to) (not-true (king == to) (and_parts (not (king == to)) _ attacked).0) (eq-eqb king to (sym e))

  legal : is_attacked men to (other lone) ≡ false → is_legal (with_king men lone king lone) m ≡ true
  unfolding with_king
  legal safe =
      let here = with_king men lone king lone in
      let free = ap (is_of lone) (man_at_set_other men king to (Some (king_of lone)) apart) ∙ are.enemies to there in
      sym (goes_plainly here king to (king_of lone) stands refl)
      ∙ sym (steps_go here king valid inside (ap (is_man lone King) stands ∙ ap (λ x. x && true) (same_side_self lone)) (unheld lone) to there)
      ∙ (λ i. (step i && not (free i)) && not (is_attacked (left i) to (other lone)))
      ∙ ap not safe

  next : is_legal (with_king men lone king lone) m ≡ true → after (with_king men lone king lone) m ≡ with_king (slice_set men to None) lone to (other lone)
  unfolding with_king is_legal after
  next may =
      let here = with_king men lone king lone in
      let man = king_of lone in
      let goer = mover_is here m man valid stands (and_parts (is_candidate here m) (not (is_king_attacked (after here m).board lone)) may).0 in
      let near = attacks_is here king to man stands ∙ attacked in
      let plain = board_after_plain stood None man m refl (λ wing. king_near here m man wing goer refl near) in
      ap (λ x. after_by here x m) stands
      ∙ (λ i. record {
        board = (plain ∙ ap (λ b. slice_set b to (Some man)) left ∙ sym (set-set men to None (Some man))) i;
        side = other lone;
        rights = no_rights;
        mark = None;
      })

-- to a square where an officer stands, whom he captures, or nobody
pub flees_there : (men : Board) (lone : Side) (king to moves : ℕ) → length men ≡ 64 → king < 64 → to < 64 → AreOfficers men lone → man_at men king ≡ None →
    IsValid (with_king men lone king lone) → goes King White king to ≡ true → is_attacked men to (other lone) ≡ false →
    (IsValid (with_king (slice_set men to None) lone to (other lone)) → mates_within moves (with_king (slice_set men to None) lone to (other lone)) ≡ false) →
    leaves_none moves (with_king men lone king lone) ≡ true
flees_there men lone king to moves size inside there are empty valid step safe none =
    let may = legal men lone king to size inside there are empty valid step safe in
    let behind = next men lone king to size inside there are empty valid step may in
    leaves_by moves (with_king men lone king lone) (plain_move king to) may
    (ap (mates_within moves) behind ∙ none (subst IsValid behind (valid_after (with_king men lone king lone) (plain_move king to) valid may)))

-- to an empty square
pub flees_free : (men : Board) (lone : Side) (king to moves : ℕ) → length men ≡ 64 → king < 64 → to < 64 → AreOfficers men lone → man_at men king ≡ None → man_at men to ≡ None →
    IsValid (with_king men lone king lone) → goes King White king to ≡ true → is_attacked men to (other lone) ≡ false →
    (IsValid (with_king men lone to (other lone)) → mates_within moves (with_king men lone to (other lone)) ≡ false) →
    leaves_none moves (with_king men lone king lone) ≡ true
flees_free men lone king to moves size inside there are empty free valid step safe none =
    let same : slice_set men to None ≡ men = ap (slice_set men to) (sym free) ∙ set-get_or men to None in
    flees_there men lone king to moves size inside there are empty valid step safe
    (subst (λ b. IsValid (with_king b lone to (other lone)) → mates_within moves (with_king b lone to (other lone)) ≡ false) (sym same) none)
