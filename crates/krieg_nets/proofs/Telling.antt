-- What a net says behind a move of the men, in the words of what is told.
use Rattle.std.proofs.Common.{◌≡◌, ℕ, ◌<◌, true, ap, sym, subst, ◌∙◌}
use Rattle.std.specs.Prelude.{Option, None, Some, if◌then◌else◌, slice_set}
use Rattle.krieg_board.specs.Board.{Board, man_at}
use Rattle.krieg_board.specs.Men.{other}
use Rattle.krieg_board.specs.Pos.{Pos}
use Rattle.krieg_board.specs.Sets.{has}
use Rattle.krieg_board.specs.Validity.{IsValid}
use Rattle.krieg_board.specs.declared.men.Man.{Man}
use Rattle.krieg_board.specs.declared.men.Move.{Move}
use Rattle.krieg_board.specs.declared.men.Side.{Side}
use Rattle.krieg_board.specs.declared.men.Side.TheVariants.{Black, White}
use Rattle.krieg_moves.proofs.Boards.{man_at_set_other}
use Rattle.krieg_moves.specs.After.{after}
use Rattle.krieg_moves.specs.Legal.{is_legal}
use Rattle.krieg_nets.proofs.OwnMoves.{Goes, officer_goes}
use Rattle.krieg_nets.specs.Answers.{TellsFledBehind}
use Rattle.krieg_nets.specs.LoneKings.{IsMovedMan, with_king}
use Rattle.krieg_nets.specs.Nets.{IsNet, IsWith, against, against_by}
use Rattle.krieg_nets.specs.Others.{lone_of}
use Rattle.krieg_nets.specs.Seen.{leaves_none}
use Rattle.krieg_nets.specs.declared.men.Men.{Men}
use Rattle.krieg_nets.specs.declared.kept.Net.{Net}

same_man : (x : Option Man) (a b : Man) → x ≡ Some a → x ≡ Some b → a ≡ b
same_man x a b h k = cc

no_man : (x : Option Man) (a : Man) → x ≡ Some a → x ≡ None → ⊥
no_man x a h k = cc

-- one of the men moves, with the lone king on a square, where he stays
module _ (men next : Men) (mv : Move) (moves : ℕ) (net : Net) (moved : IsMovedMan men.bits next.bits mv) (black : next.others.black ≡ men.others.black) (is : IsNet (against next) moves net)
    (k : ℕ) (p : Pos) (inside : k < 64) (with : IsWith (against_by men.others) k p) (valid : IsValid p) (turn : p.side ≡ other (lone_of men.others)) (legal : is_legal p mv ≡ true) where
  abbrev lone : Side
  lone = lone_of men.others

  here : with_king men.bits lone k (other lone) ≡ p
  here = (λ i. with_king (sym men.these i) lone k (sym turn i)) ∙ with.is

  empty : man_at men.bits k ≡ None
  empty = ap (λ b. man_at b k) (sym men.these) ∙ with.empty

  goes : Goes men.bits lone k mv
  goes = officer_goes men.bits lone k mv men.size inside (record { enemies = men.enemies; officers = men.officers }) empty (subst IsValid (sym here) valid) (ap (λ q. is_legal q mv) here ∙ legal)

  abbrev behind : Board
  behind = slice_set (slice_set men.bits mv.from None) mv.to (Some goes.man)

  next_is : next.bits ≡ behind
  next_is = moved.next_is ∙ ap (λ m. slice_set (slice_set men.bits mv.from None) mv.to (Some m)) (same_man (man_at men.bits mv.from) moved.man goes.man moved.is goes.is)

  there : with_king next.bits (lone_of next.others) k (lone_of next.others) ≡ with_king behind lone k lone
  there = λ i. with_king (next_is i) (if black i then Black else White) k (if black i then Black else White)

  stays : man_at next.bits k ≡ None
  stays =
      ap (λ b. man_at b k) next_is
      ∙ man_at_set_other (slice_set men.bits mv.from None) mv.to k (Some goes.man) (λ e. goes.off (sym e))
      ∙ man_at_set_other men.bits mv.from k None (λ e. no_man (man_at men.bits k) goes.man (ap (man_at men.bits) e ∙ goes.is) empty)
      ∙ empty

  pub fled_behind : has net.fled k ≡ true → leaves_none moves (after p mv) ≡ true
  fled_behind h =
      ap (leaves_none moves) (ap (λ q. after q mv) (sym here) ∙ goes.next ∙ sym there)
      ∙ is.fled k inside h stays (subst IsValid (sym there) goes.valid)

pub tells_fled_behind : (men next : Men) (mv : Move) (moves : ℕ) (net : Net) → IsMovedMan men.bits next.bits mv → next.others.black ≡ men.others.black → IsNet (against next) moves net →
    TellsFledBehind men.others mv moves net.fled
tells_fled_behind men next mv moves net moved black is k p inside h with valid turn legal = fled_behind men next mv moves net moved black is k p inside with valid turn legal h
