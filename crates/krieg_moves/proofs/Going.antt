-- Where a man may go: knights, bishops, rooks and queens, and kings.
use Rattle.std.proofs.Common.{◌≡◌, ℕ, ◌<◌, Bool, true, false, not, ◌&&◌, ◌||◌, ◌==◌, refl, sym, ◌∙◌, ap, set, ◌≢◌}
use Rattle.std.proofs.Math.Bool.{and_comm}
use Rattle.std.specs.Prelude.{Some, None}
use Rattle.std.proofs.lemmas.Bool.{and_left, ne_eqb, or_left, or_right}
use Rattle.krieg_moves.proofs.Common.{Kind, Pawn, King, Man, Move, other, is_same_kind, Pos, rank_of, last_rank, man_at, is_of, is_man, attacks, man_attacks, is_attacked, IsValid, king_square, is_legal, is_candidate, is_move_of_kind, is_plain, can_castle, plain_move, promotes, can_go, is_answered, is_officer, is_king_step, Wing, Short, Long}
use Rattle.krieg_board.specs.declared.men.Kind.TheVariants.{Knight, Bishop, Rook, Queen}
use Rattle.krieg_board.proofs.Facts.{facts}
use Rattle.krieg_board.proofs.MenLemmas.{is_man_other_kind}
use Rattle.krieg_moves.proofs.Shapes.{passes_not}
use Rattle.krieg_moves.proofs.Castling.{king_near, castling_by}
use Rattle.krieg_moves.proofs.MoveLists.{any_plain, any_between_not_own}
use Rattle.krieg_moves.proofs.Safety.{mover_is, candidate_is, legal_as, legal_answered, legal_step}

-- a man who is no pawn is not promoted
promotes_not : (p : Pos) (f t : ℕ) (man : Man) → man_at p.board f ≡ Some man → is_same_kind man.kind Pawn ≡ false → promotes p f t ≡ false
promotes_not p f t man is h = ap (λ x. is_man p.side Pawn x && rank_of t == last_rank p.side) is ∙ ap (λ x. x && rank_of t == last_rank p.side) (is_man_other_kind p.side Pawn man h)

pub goes_plainly : (p : Pos) (f t : ℕ) (man : Man) → man_at p.board f ≡ Some man → is_same_kind man.kind Pawn ≡ false → can_go p f t ≡ is_legal p (plain_move f t)
unfolding can_go
goes_plainly p f t man is h = any_plain p f t (promotes_not p f t man is h)

pub attacks_is : (p : Pos) (f t : ℕ) (man : Man) → man_at p.board f ≡ Some man → attacks p.board f t ≡ man_attacks p.board (Some man) f t
unfolding attacks
attacks_is p f t man is = ap (λ x. man_attacks p.board x f t) is

pub no_pawn : (which : Kind) → is_officer which ≡ true → is_same_kind which Pawn ≡ false
no_pawn Pawn h = cc
no_pawn Knight h = refl
no_pawn Bishop h = refl
no_pawn Rook h = refl
no_pawn Queen h = refl
no_pawn King h = cc

no_king : (which : Kind) → is_officer which ≡ true → is_same_kind which King ≡ false
no_king Pawn h = cc
no_king Knight h = refl
no_king Bishop h = refl
no_king Rook h = refl
no_king Queen h = refl
no_king King h = cc

by_attack : (which : Kind) (p : Pos) (f t : ℕ) → is_officer which ≡ true → is_move_of_kind which p (plain_move f t) ≡ attacks p.board f t
by_attack Pawn p f t h = cc
by_attack Knight p f t h = refl
by_attack Bishop p f t h = refl
by_attack Rook p f t h = refl
by_attack Queen p f t h = refl
by_attack King p f t h = cc

pub officer_goes : (p : Pos) (f t k : ℕ) (man : Man) → IsValid p → f < 64 → t < 64 → k < 64 → is_man p.side King (man_at p.board k) ≡ true → man_at p.board f ≡ Some man →
    man.side ≡ p.side → is_officer man.kind ≡ true →
    ((man_attacks p.board (Some man) f t && not (is_of p.side (man_at p.board t))) && is_answered (set p.board f None) (other p.side) k t) ≡ can_go p f t
officer_goes p f t k man valid hf ht hk king is own officer =
    let m : Move = plain_move f t in
    let c : is_candidate p m ≡ (man_attacks p.board (Some man) f t && not (is_of p.side (man_at p.board t))) =
    candidate_is p m man hf ht is own
    ∙ ap (λ x. not (is_of p.side (man_at p.board t)) && x) (by_attack man.kind p f t officer ∙ attacks_is p f t man is)
    ∙ and_comm (not (is_of p.side (man_at p.board t))) (man_attacks p.board (Some man) f t) in
    sym (goes_plainly p f t man is (no_pawn man.kind officer)
    ∙ legal_as p m (man_attacks p.board (Some man) f t && not (is_of p.side (man_at p.board t))) (is_answered (set p.board f None) (other p.side) k t) c
    (λ h. legal_answered p m man k valid is (no_king man.kind officer) (passes_not p.mark man m (no_pawn man.kind officer)) hk king (c ∙ h)))

absorbed : (l s x : Bool) → l ≡ s → ((s || (x && l))) ≡ l
absorbed true true x e = refl
absorbed false false true e = refl
absorbed false false false e = refl
absorbed true false x e = cc
absorbed false true x e = cc

-- a king steps or castles
pub king_goes : (p : Pos) (f t : ℕ) (man : Man) → IsValid p → f < 64 → t < 64 → man_at p.board f ≡ Some man → man.side ≡ p.side → man.kind ≡ King →
    ((is_king_step p f man t || (can_castle Short p (plain_move f t) && is_legal p (plain_move f t))) || (can_castle Long p (plain_move f t) && is_legal p (plain_move f t))) ≡ can_go p f t
king_goes p f t man valid hf ht is own king =
    by_target (is_of p.side (man_at p.board t)) refl ∙ sym (goes_plainly p f t man is (ap (λ k. is_same_kind k Pawn) king))
  where
    m : Move
    m = plain_move f t

    a : Bool
    a = man_attacks p.board (Some man) f t

    hit : Bool
    hit = is_attacked (set p.board f None) t (other p.side)

    short : Bool
    short = can_castle Short p m

    long : Bool
    long = can_castle Long p m

    candidate : is_candidate p m ≡ (not (is_of p.side (man_at p.board t)) && (a || (short || long)))
    candidate =
        candidate_is p m man hf ht is own
        ∙ ap (λ x. not (is_of p.side (man_at p.board t)) && x)
        (ap (λ k. is_move_of_kind k p m) king ∙ ap (λ x. x || (short || long)) (attacks_is p f t man is))

    nothing : (x y z w : Bool) → w ≡ false → (((x && false) && y || (z && w))) ≡ false
    nothing true y true w e = e
    nothing true y false w e = refl
    nothing false y true w e = e
    nothing false y false w e = refl

    none_left : (x l : Bool) → l ≡ false → (false || (x && l)) ≡ l
    none_left true l e = refl
    none_left false l e = sym e

    of_castles : (s l g : Bool) → ((s || l) ≡ false → g ≡ false) → ((false || (s && g)) || (l && g)) ≡ g
    of_castles true l true e = refl
    of_castles true true false e = refl
    of_castles true false false e = refl
    of_castles false true g e = refl
    of_castles false false g e = sym (e refl)

    by_attacked : (x : Bool) → a ≡ x → is_of p.side (man_at p.board t) ≡ false →
        ((((x && true) && not hit) || (short && is_legal p m)) || (long && is_legal p m)) ≡ is_legal p m
    by_attacked true e free =
        let c : is_candidate p m ≡ true = candidate ∙ (λ i. not (free i) && (e i || (short || long))) in
        let v = mover_is p m man valid is c in
        let legal : is_legal p m ≡ not hit = legal_step p f t man valid is king (λ wing. king_near p m man wing v king (attacks_is p f t man is ∙ e)) c in
        ap (λ x. x || (long && is_legal p m)) (absorbed (is_legal p m) (not hit) short legal)
        ∙ absorbed (is_legal p m) (is_legal p m) long refl
    by_attacked false e free =
        of_castles short long (is_legal p m) (λ none.
        legal_as p m false false (candidate ∙ (λ i. not (free i) && (e i || none i))) (λ h. cc))

    by_target : (o : Bool) → is_of p.side (man_at p.board t) ≡ o →
        ((((a && not (is_of p.side (man_at p.board t))) && not hit) || (short && is_legal p m)) || (long && is_legal p m)) ≡ is_legal p m
    by_target true e =
        let no : is_legal p m ≡ false = legal_as p m false false (candidate ∙ ap (λ o. not o && (a || (short || long))) e) (λ h. cc) in
        ap (λ o. (((a && not o) && not hit) || (short && is_legal p m)) || (long && is_legal p m)) e
        ∙ ap (λ x. x || (long && is_legal p m)) (nothing a (not hit) short (is_legal p m) no)
        ∙ none_left long (is_legal p m) no
    by_target false e =
        (λ i. (((a && not (e i)) && not hit) || (short && is_legal p m)) || (long && is_legal p m))
        ∙ ap (λ x. (((x && true) && not hit) || (short && is_legal p m)) || (long && is_legal p m)) refl
        ∙ go a refl e
      where
        go : (x : Bool) → a ≡ x → is_of p.side (man_at p.board t) ≡ false → ((((a && true) && not hit) || (short && is_legal p m)) || (long && is_legal p m)) ≡ is_legal p m
        go x q free = ap (λ y. (((y && true) && not hit) || (short && is_legal p m)) || (long && is_legal p m)) q ∙ by_attacked x q free

-- a king that may castle moves as kings do
pub castle_candidate : (p : Pos) (m : Move) (man : Man) (wing : Wing) → IsValid p → m.from < 64 → m.to < 64 → man_at p.board m.from ≡ Some man → man.side ≡ p.side → man.kind ≡ King →
    is_plain m.promo ≡ true → can_castle wing p m ≡ true → is_candidate p m ≡ true
castle_candidate p m man wing valid hf ht is own king plain may =
    candidate_is p m man hf ht is own
    ∙ ap (λ k. not (is_of p.side (man_at p.board m.to)) && is_move_of_kind k p m) king
    ∙ (λ i. not (is_of p.side ((castling_by p m wing (facts p valid) may).empty i)) && (plain i && (attacks p.board m.from m.to || (can_castle Short p m || can_castle Long p m))))
    ∙ by_wing wing may
  where
    by_wing : (wing : Wing) → can_castle wing p m ≡ true → (attacks p.board m.from m.to || (can_castle Short p m || can_castle Long p m)) ≡ true
    by_wing Short e = or_right (attacks p.board m.from m.to) (can_castle Short p m || can_castle Long p m) (or_left (can_castle Short p m) (can_castle Long p m) e)
    by_wing Long e = or_right (attacks p.board m.from m.to) (can_castle Short p m || can_castle Long p m) (or_right (can_castle Short p m) (can_castle Long p m) e)

-- a king who has left his own square only steps
pub king_steps_only : (p : Pos) (f t : ℕ) (man : Man) → IsValid p → f < 64 → t < 64 → man_at p.board f ≡ Some man → man.side ≡ p.side → man.kind ≡ King →
    f ≢ king_square p.side → is_king_step p f man t ≡ can_go p f t
king_steps_only p f t man valid hf ht is own king off =
    sym ((λ i. (is_king_step p f man t || (castles Short i && is_legal p (plain_move f t))) || (castles Long i && is_legal p (plain_move f t)))
    ∙ no_more (is_king_step p f man t))
    ∙ king_goes p f t man valid hf ht is own king
  where
    castles : (wing : Wing) → can_castle wing p (plain_move f t) ≡ false
    castles wing = and_left (f == king_square p.side) _ (ne_eqb f (king_square p.side) off)

    no_more : (x : Bool) → ((x || (false && is_legal p (plain_move f t))) || (false && is_legal p (plain_move f t))) ≡ x
    no_more true = refl
    no_more false = refl

-- nobody goes from a square without a man of the side to move
pub nothing_goes : (p : Pos) (f t : ℕ) → is_of p.side (man_at p.board f) ≡ false → can_go p f t ≡ false
unfolding can_go
nothing_goes p f t h = any_between_not_own p f t h
