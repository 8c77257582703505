-- What comes of a step of a king who is alone does not depend on where he comes from.
use Rattle.std.proofs.Common.{◌≡◌, ℕ, ◌<◌, ◌==◌, Bool, true, false, not, ◌&&◌, List, Some, None, refl, sym, ap, subst, ◌∙◌, inl, inr, ◌⊎◌, bit_or}
use Rattle.std.specs.Prelude.{IfSome, Option, is_some, if◌then◌else◌, slice_set}
use Rattle.std.proofs.lemmas.Bool.{eqb-true, ne_eqb, or_cases}
use Rattle.krieg_board.specs.Board.{man_at}
use Rattle.krieg_board.specs.Boards.{board_of}
use Rattle.krieg_board.specs.Men.{other}
use Rattle.krieg_board.specs.Sets.{has}
use Rattle.krieg_board.specs.declared.men.Promo.TheVariants.{Plain}
use Rattle.krieg_board.specs.declared.men.Kind.TheVariants.{King}
use Rattle.krieg_board.proofs.SetLemmas.{has_or}
use Rattle.krieg_moves.specs.After.{after_by, is_castling, kind_after, moved, rights_after, with_rook}
use Rattle.krieg_moves.specs.Wings.{arrival}
use Rattle.krieg_moves.specs.declared.wing.Wing.{Wing}
use Rattle.krieg_moves.specs.declared.wing.Wing.TheVariants.{Short, Long}
use Rattle.krieg_moves.proofs.Boards.{man_at_set_other}
use Rattle.krieg_words.specs.WordsOfMoves.{said, taken, took_by}
use Rattle.krieg_words.specs.declared.words.Took.TheVariants.{Nothing}
use Rattle.krieg_game.proofs.Common.{Pos, Move, Said, Dialect, In, after, words, told, outcome, KeyedPosition}
use Rattle.krieg_game.specs.Steps.{AreFor, AreReached, IsKept, IsKingAt, king_of, step_outcome, stepped, told_before}
use Rattle.krieg_game.specs.declared.steps.Steps.{Steps}

pub none_is : {X : Type 0} (x : Option X) (b : Bool) → is_some x ≡ not b → b ≡ true → x ≡ None
none_is None b e t = refl
none_is (Some k) b e t = absurd (let z : true ≡ false = e ∙ ap not t in cc)

-- steps that are kept stay so in a pool that keeps all that it had
pub reached_still : (s : Steps) (old new : List KeyedPosition) → ((o : KeyedPosition) → In o old → In o new) → AreReached s old → AreReached s new
reached_still s old new f a to l h = let k = a to l h in record { free = k.free; there = f _ k.there }

module _ (d : Dialect) (own : Said) (s : Steps) (p : Pos) (r : Move) (are : AreFor s (told_before d own) p) (king : s.king ≡ Some r.from) (plain : r.promo ≡ Plain) (apart : (r.to ≡ r.from) → ⊥) where
  at : IsKingAt p r.from s.side s.others
  at = subst (λ k. IfSome k (λ f. IsKingAt p f s.side s.others)) king are.stands

  no_castling : (wing : Wing) → is_castling wing (king_of s.side) r ≡ false
  no_castling wing = ap (λ b. b && r.to == arrival wing s.side) (ne_eqb r.from _ at.away)

  move_is : moved p.board (king_of s.side) r ≡ slice_set (board_of s.others) r.to (Some (king_of s.side))
  move_is = λ i. slice_set (at.rest i) r.to (Some (record { side = s.side; kind = kind_after (plain i) King }))

  after_is : after p r ≡ stepped s.side s.others r.to
  unfolding after
  after_is =
      let b = moved p.board (king_of s.side) r in
      ap (λ m. after_by p m r) at.stands
      ∙ (λ i. record {
        board = (ap (λ c. if c then with_rook Short s.side b else if is_castling Long (king_of s.side) r then with_rook Long s.side b else b) (no_castling Short)
            ∙ ap (λ c. if c then with_rook Long s.side b else b) (no_castling Long)
            ∙ move_is) i;
        side = other (at.turn i);
        rights = rights_after (at.unheld i) (king_of s.side) r;
        mark = None;
      })

  -- where nobody else stands, nobody stood
  pub left_free : man_at p.board r.to ≡ None → man_at (board_of s.others) r.to ≡ None
  left_free e = sym (ap (λ b. man_at b r.to) at.rest) ∙ man_at_set_other p.board r.from r.to None apart ∙ e

  module _ (free : man_at (board_of s.others) r.to ≡ None) where
    empty : man_at p.board r.to ≡ None
    empty = sym (man_at_set_other p.board r.from r.to None apart) ∙ ap (λ b. man_at b r.to) at.rest ∙ free

    words_are : words p r ≡ said Nothing (stepped s.side s.others r.to)
    unfolding words
    words_are = λ i. said ((ap (λ m. took_by p m r) at.stands ∙ ap (λ x. taken x r.to) empty) i) (after_is i)

    pub outcome_is : outcome d own p r ≡ step_outcome s r.to
    outcome_is =
        let by : s.before ≡ told_before d own = subst (λ k. IfSome k (λ f. s.before ≡ told_before d own)) king are.told in
        λ i. (((sym by i).own, told (sym by i).dialect (words_are i)), after_is i)

  -- what comes of a step that was made is kept
  pub kept_there : (pool : List KeyedPosition) → r.to < 64 → has s.reached r.to ≡ true → AreReached s pool → In (outcome d own p r) pool
  kept_there pool l h a = let k = a r.to l h in subst (λ o. In o pool) (sym (outcome_is k.free)) k.there

  -- and so is one that was made just now
  pub reached_too : (pool : List KeyedPosition) (n : ℕ) → man_at p.board r.to ≡ None → ((k : ℕ) → k < 64 → has n k ≡ (k == r.to)) → In (outcome d own p r) pool → AreReached s pool →
      (to : ℕ) → to < 64 → has (bit_or s.reached n) to ≡ true → IsKept s to pool
  reached_too pool n e one i a to l h = go (or_cases (has s.reached to) (has n to) (sym (has_or s.reached n to) ∙ h))
    where
      here : IsKept s r.to pool
      here = let f = left_free e in record { free = f; there = subst (λ o. In o pool) (outcome_is f) i }

      go : (has s.reached to ≡ true) ⊎ (has n to ≡ true) → IsKept s to pool
      go (inl x) = a to l x
      go (inr x) = subst (λ k. IsKept s k pool) (sym (eqb-true to r.to (sym (one to l) ∙ x))) here
