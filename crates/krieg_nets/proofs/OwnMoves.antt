-- A legal move of the officers, with the king who is alone on a square: he does not stand in its way, and is where he was behind it.
use Rattle.std.proofs.Common.{◌≡◌, ◌≢◌, ℕ, ◌<◌, ◌==◌, Bool, true, false, not, ◌&&◌, ◌||◌, cond, length, set, refl, sym, ap, subst, ◌∙◌}
use Rattle.std.specs.Prelude.{Option, Some, None, is_some, slice_set}
use Rattle.std.proofs.Math.Bool.{and-false, or-false}
use Rattle.std.proofs.Math.ListN.{length-set}
use Rattle.std.proofs.lemmas.Bool.{and_from, and_parts, both_ways, false_from_ne_true, not-true}
use Rattle.std.proofs.lemmas.List.{set_comm}
use Rattle.krieg_board.specs.Attacks.{attacks, is_attacked, is_between, is_king_attacked, man_attacks}
use Rattle.krieg_board.specs.Board.{Board, is_man, is_of, man_at}
use Rattle.krieg_board.specs.Boards.{is_kind}
use Rattle.krieg_board.specs.Men.{is_same_kind, is_same_side, no_rights, other}
use Rattle.krieg_board.specs.Pos.{Pos}
use Rattle.krieg_board.specs.Squares.{landing_rank, pawn_rank, rank_of}
use Rattle.krieg_board.specs.Validity.{IsValid}
use Rattle.krieg_board.specs.declared.men.Kind.{Kind}
use Rattle.krieg_board.specs.declared.men.Kind.TheVariants.{Bishop, King, Knight, Pawn, Queen, Rook}
use Rattle.krieg_board.specs.declared.men.Man.{Man}
use Rattle.krieg_board.specs.declared.men.Move.{Move}
use Rattle.krieg_board.specs.declared.men.Promo.{Promo}
use Rattle.krieg_board.specs.declared.men.Promo.TheVariants.{Plain}
use Rattle.krieg_board.specs.declared.men.Side.{Side}
use Rattle.krieg_board.specs.declared.men.Side.TheVariants.{Black, White}
use Rattle.krieg_board.proofs.Facts.{facts}
use Rattle.krieg_board.proofs.MenLemmas.{other_other, same_kind_eq, same_side_self}
use Rattle.krieg_board.proofs.SquareTests.{some_square_at}
use Rattle.krieg_rays.specs.Rays.{goes}
use Rattle.krieg_rays.proofs.Attacking.{king_from}
use Rattle.krieg_rays.proofs.Symmetry.{king_turned}
use Rattle.krieg_moves.specs.After.{after, after_by, crossed, is_castling, kind_after, rights_after}
use Rattle.krieg_moves.specs.Legal.{can_castle, holds, is_candidate, is_legal, is_move_of_kind, is_plain}
use Rattle.krieg_moves.specs.declared.wing.Wing.{Wing}
use Rattle.krieg_moves.specs.declared.wing.Wing.TheVariants.{Long, Short}
use Rattle.krieg_moves.proofs.Boards.{man_at_set_other, man_at_set_same}
use Rattle.krieg_moves.proofs.Castling.{king_near}
use Rattle.krieg_moves.proofs.KeepsValid.{valid_after}
use Rattle.krieg_moves.proofs.LoneKings.{from_off, to_off}
use Rattle.krieg_moves.proofs.Movers.{Mover, mover}
use Rattle.krieg_moves.proofs.Putting.{Puts, attacks_with}
use Rattle.krieg_moves.proofs.Shapes.{board_after_plain, castles_not, passes_not}
use Rattle.krieg_nets.specs.LoneKings.{AreOfficers, king_of, with_king}

-- the man who goes, by the board without the king who is alone
pub record Goes (men : Board) (lone : Side) (king : ℕ) (t : Move) : Type 0 where
  pub man : Man
  pub is : man_at men t.from ≡ Some man
  pub from_in : t.from < 64
  pub to_in : t.to < 64
  pub attacks : man_attacks men (Some man) t.from t.to ≡ true
  pub free : man_at men t.to ≡ None
  pub clear : is_between t.from t.to king ≡ false
  pub off : t.to ≢ king
  pub apart : is_same_kind man.kind King ≡ true → goes King White t.to king ≡ false
  pub next : after (with_king men lone king (other lone)) t ≡ with_king (slice_set (slice_set men t.from None) t.to (Some man)) lone king lone
  pub valid : IsValid (with_king (slice_set (slice_set men t.from None) t.to (Some man)) lone king lone)

-- no right is held where there are none
pub unheld : (side : Side) (wing : Wing) → holds no_rights side wing ≡ false
unheld White Short = refl
unheld White Long = refl
unheld Black Short = refl
unheld Black Long = refl

third_not : (a b c d : Bool) → c ≡ false → (a && (b && (c && d))) ≡ false
third_not a b c d h = (λ i. a && (b && (h i && d))) ∙ (λ i. a && and-false b i) ∙ and-false a

plain_is : (x : Promo) → is_plain x ≡ true → x ≡ Plain
plain_is Plain h = refl
plain_is _ h = cc

-- a man is of one of the sides
no_side : (lone side : Side) → is_same_side side lone ≡ false → is_same_side side (other lone) ≡ false → ⊥
no_side White White h k = cc
no_side White Black h k = cc
no_side Black White h k = cc
no_side Black Black h k = cc

nobody : (lone : Side) (x : Option Man) → is_of lone x ≡ false → is_of (other lone) x ≡ false → x ≡ None
nobody lone None h k = refl
nobody lone (Some man) h k = absurd (no_side lone man.side h k)

-- a man who is no pawn, where nobody may castle, attacks where he goes
goes_plain : (p : Pos) (t : Move) (which : Kind) → p.rights ≡ no_rights → is_same_kind which Pawn ≡ false → is_move_of_kind which p t ≡ true → (is_plain t.promo ≡ true) × (attacks p.board t.from t.to ≡ true)
goes_plain p t Pawn none officer h = cc
goes_plain p t Knight none officer h = and_parts (is_plain t.promo) (attacks p.board t.from t.to) h
goes_plain p t Bishop none officer h = and_parts (is_plain t.promo) (attacks p.board t.from t.to) h
goes_plain p t Rook none officer h = and_parts (is_plain t.promo) (attacks p.board t.from t.to) h
goes_plain p t Queen none officer h = and_parts (is_plain t.promo) (attacks p.board t.from t.to) h
goes_plain p t King none officer h =
    let r = and_parts (is_plain t.promo) (attacks p.board t.from t.to || (can_castle Short p t || can_castle Long p t)) h in
    (r.0, sym ((λ i. attacks p.board t.from t.to || (no_castling Short i || no_castling Long i)) ∙ or-false (attacks p.board t.from t.to)) ∙ r.1)
  where
    no_castling : (wing : Wing) → can_castle wing p t ≡ false
    no_castling wing = third_not _ _ _ _ (ap (λ r. holds r p.side wing) none ∙ unheld p.side wing)

-- a man who is no pawn, and who goes where he attacks, is all that moves
after_plain : (p : Pos) (t : Move) (man : Man) → Mover p t man → is_same_kind man.kind Pawn ≡ false → p.rights ≡ no_rights → is_plain t.promo ≡ true → attacks p.board t.from t.to ≡ true →
    after p t ≡ record { board = set (set p.board t.from None) t.to (Some man); side = other p.side; rights = no_rights; mark = None }
unfolding after
after_plain p t man v officer none plain hit =
    ap (λ x. after_by p x t) v.departs.stands
    ∙ (λ i. record {
      board = (board_after_plain p.board p.mark man t (passes_not p.mark man t officer) (λ wing. no_castling wing (is_same_kind man.kind King) refl)
          ∙ (λ j. set (set p.board t.from None) t.to (Some (record { side = man.side; kind = kind_after (plain_is t.promo plain j) man.kind })))) i;
      side = other p.side;
      rights = ap (λ r. rights_after r man t) none i;
      mark = ap (λ c. cond (c && (rank_of t.from == pawn_rank man.side && rank_of t.to == landing_rank man.side)) (Some (crossed man.side t.from)) None) officer i;
    })
  where
    no_castling : (wing : Wing) (b : Bool) → is_same_kind man.kind King ≡ b → is_castling wing man t ≡ false
    no_castling wing true e = king_near p t man wing v (same_kind_eq man.kind King e) hit
    no_castling wing false e = castles_not wing man t e

-- the king who is alone stands where he was put
lone_stands : (men : Board) (lone : Side) (king : ℕ) → length men ≡ 64 → king < 64 → man_at (with_king men lone king (other lone)).board king ≡ Some (king_of lone)
unfolding with_king
lone_stands men lone king size inside = man_at_set_same men king (Some (king_of lone)) (subst (λ n. king < n) (sym size) inside)

-- the kings do not stand side by side, where the king who is alone is to move: he would attack the other one
kings_apart : (men : Board) (lone : Side) (king to : ℕ) (man : Man) → length men ≡ 64 → king < 64 → to < 64 → man.side ≡ other lone → man_at men to ≡ Some man → to ≢ king → IsValid (with_king men lone king lone) →
    is_same_kind man.kind King ≡ true → goes King White to king ≡ false
unfolding with_king attacks is_attacked is_king_attacked
kings_apart men lone king to man size inside there own stands off valid royal =
    let board = set men king (Some (king_of lone)) in
    let his : is_man (other lone) King (man_at board to) ≡ true =
    ap (is_man (other lone) King) (man_at_set_other men king to (Some (king_of lone)) off ∙ stands)
    ∙ and_from (is_same_side man.side (other lone)) (is_same_kind man.kind King) (ap (λ s. is_same_side s (other lone)) own ∙ same_side_self (other lone)) royal in
    let here = lone_stands men lone king size inside in
    let mine : is_of (other (other lone)) (man_at board king) ≡ true =
    ap (is_of (other (other lone))) here ∙ ap (is_same_side lone) (other_other lone) ∙ same_side_self lone in
    let hit : goes King White to king ≡ true → attacks board king to ≡ true = λ step.
    ap (λ x. man_attacks board x king to) here ∙ sym (king_from board (king_of lone) king to refl) ∙ sym (king_turned to king there inside) ∙ step in
    false_from_ne_true (goes King White to king) (λ step.
    both_ways (is_king_attacked board (other lone)) (facts (with_king men lone king lone) valid).idle
    (some_square_at (λ k. is_man (other lone) King (man_at board k) && is_attacked board k (other (other lone))) to there
    (and_from (is_man (other lone) King (man_at board to)) (is_attacked board to (other (other lone))) his
    (some_square_at (λ k. is_of (other (other lone)) (man_at board k) && attacks board k to) king inside
    (and_from (is_of (other (other lone)) (man_at board king)) (attacks board king to) mine (hit step))))))

-- what a legal move of a man tells
module _ (men : Board) (lone : Side) (king : ℕ) (t : Move) (size : length men ≡ 64) (inside : king < 64) (are : AreOfficers men lone) (valid : IsValid (with_king men lone king (other lone)))
    (legal : is_legal (with_king men lone king (other lone)) t ≡ true) (man : Man) (v : Mover (with_king men lone king (other lone)) t man) where
  abbrev before : Pos
  before = with_king men lone king (other lone)

  abbrev behind : Board
  behind = slice_set (slice_set men t.from None) t.to (Some man)

  is_king : is_man (other (other lone)) King (man_at before.board king) ≡ true
  is_king = ap (λ s. is_man s King (man_at before.board king)) (other_other lone) ∙ ap (is_man lone King) (lone_stands men lone king size inside) ∙ and_from (is_same_side lone lone) true (same_side_self lone) refl

  off_from : king ≢ t.from
  unfolding with_king
  off_from = from_off before t man king valid v.departs.stands legal is_king

  off_to : t.to ≢ king
  unfolding with_king
  off_to = to_off before t man king valid v.departs.stands legal is_king

  puts : Puts men before.board king
  unfolding with_king
  puts = record { inside = inside; there = ap is_some (lone_stands men lone king size inside); others = λ j h n. man_at_set_other men king j (Some (king_of lone)) n }

  is : man_at men t.from ≡ Some man
  is = sym (puts.others t.from v.from_in (λ e. off_from (sym e))) ∙ v.departs.stands

  officer : is_same_kind man.kind Pawn ≡ false
  officer = sym (ap (is_kind Pawn) is) ∙ are.officers t.from v.from_in

  hits : (is_plain t.promo ≡ true) × (attacks before.board t.from t.to ≡ true)
  unfolding with_king
  hits = goes_plain before t man.kind refl officer v.moves

  sees : (man_attacks men (Some man) t.from t.to ≡ true) × (not (is_between t.from t.to king) ≡ true)
  unfolding attacks
  sees =
      and_parts (man_attacks men (Some man) t.from t.to) (not (is_between t.from t.to king))
      (sym (attacks_with men before.board king (Some man) t.from t.to puts v.from_in v.to_in) ∙ ap (λ x. man_attacks before.board x t.from t.to) (sym v.departs.stands) ∙ hits.1)

  free : man_at men t.to ≡ None
  unfolding with_king
  free = nobody lone (man_at men t.to) (are.enemies t.to v.to_in) (ap (is_of (other lone)) (sym (puts.others t.to v.to_in off_to)) ∙ v.not_own)

  next : after before t ≡ with_king behind lone king lone
  unfolding with_king
  next =
      after_plain before t man v officer refl hits.0 hits.1
      ∙ (λ i. record {
        board = (ap (λ b. set b t.to (Some man)) (set_comm men king t.from (Some (king_of lone)) None off_from)
            ∙ set_comm (set men t.from None) king t.to (Some (king_of lone)) (Some man) (λ e. off_to (sym e))) i;
        side = other_other lone i;
        rights = no_rights;
        mark = None;
      })

  behind_valid : IsValid (with_king behind lone king lone)
  behind_valid = subst IsValid next (valid_after before t valid legal)

  behind_size : length behind ≡ 64
  behind_size = length-set (set men t.from None) t.to (Some man) ∙ length-set men t.from None ∙ size

  arrived : man_at behind t.to ≡ Some man
  arrived = man_at_set_same (set men t.from None) t.to (Some man) (subst (λ n. t.to < n) (sym (length-set men t.from None ∙ size)) v.to_in)

  owned : man.side ≡ other lone
  unfolding with_king
  owned = v.own

  all_goes : Goes men lone king t
  all_goes = record {
    man = man;
    is = is;
    from_in = v.from_in;
    to_in = v.to_in;
    attacks = sees.0;
    free = free;
    clear = not-true (is_between t.from t.to king) sees.1;
    off = off_to;
    apart = kings_apart behind lone king t.to man behind_size inside v.to_in owned arrived off_to behind_valid;
    next = next;
    valid = behind_valid;
  }

pub officer_goes : (men : Board) (lone : Side) (king : ℕ) (t : Move) → length men ≡ 64 → king < 64 → AreOfficers men lone → man_at men king ≡ None →
    IsValid (with_king men lone king (other lone)) → is_legal (with_king men lone king (other lone)) t ≡ true → Goes men lone king t
unfolding is_legal
officer_goes men lone king t size inside are empty valid legal =
    let p = with_king men lone king (other lone) in
    let (man, v) = mover p t (facts p valid) (and_parts (is_candidate p t) (not (is_king_attacked (after p t).board p.side)) legal).0 in
    all_goes men lone king t size inside are valid legal man v
