-- What is told of the opponent's move says what it leaves of a side's men and rights.
use Rattle.std.proofs.Common.{◌≡◌, ℕ, Bool, true, false, not, ◌&&◌, ◌==◌, cond, refl, sym, ap, ◌∙◌, subst}
use Rattle.std.proofs.Math.Bool.{and-true}
use Rattle.std.proofs.lemmas.Bool.{eqb-true, ne_eqb}
use Rattle.std.specs.Prelude.{Option, Some, None}
use Rattle.krieg_words.proofs.Common.{Side, Man, Move, other, man_at, is_man, Pos, IsValid, is_pawn, corner, after, is_en_passant, passed_square, is_legal, holds, Wing, Took, Piece, Dialect, MenTold, dialect_rules, told, as_piece, took_told, words, took_by}
use Rattle.krieg_board.specs.declared.men.Kind.TheVariants as kind
use Rattle.krieg_board.proofs.Facts.{facts}
use Rattle.krieg_moves.proofs.OwnMen.{own, captured_on}
use Rattle.krieg_moves.proofs.Hands.{Alike, TheirMove, their_move}
use Rattle.krieg_moves.proofs.Castling.{rook_stands}
use Rattle.krieg_words.proofs.Cases.{by_test}
use Rattle.krieg_words.specs.declared.words.Took.TheVariants.{Nothing, Pawn}
use Rattle.krieg_words.specs.declared.dialects.MenTold.TheVariants as men
use Rattle.krieg_words.specs.WordsOfMoves.{taken}

-- the man on s was captured
abbrev pub is_taken_on : Took → ℕ → Bool
is_taken_on Nothing s = false
is_taken_on (Pawn t) s = s == t
is_taken_on (Piece t) s = s == t

as_piece_on : (t : Took) (s : ℕ) → is_taken_on (as_piece t) s ≡ is_taken_on t s
as_piece_on Nothing s = refl
as_piece_on (Pawn t) s = refl
as_piece_on (Piece t) s = refl

-- each dialect tells the square of a capture
told_on : (m : MenTold) (t : Took) (s : ℕ) → is_taken_on (took_told m t) s ≡ is_taken_on t s
told_on men.Apart t s = refl
told_on men.Alike t s = as_piece_on t s

taken_on : (man : Man) (t s : ℕ) → is_taken_on (taken (Some man) t) s ≡ (s == t)
taken_on man t s = by_test (λ b. is_taken_on (cond b (Pawn t) (Piece t)) s ≡ (s == t)) (is_pawn (Some man)) (λ h. refl) (λ h. refl)

-- the man on s is told as captured where the move captures, and none is where nothing stands there
by_capture : (P : Bool → Type 0) (p : Pos) (m : Move) (man : Man) (s : ℕ) → P (s == captured_on p.mark man m) →
    (man_at p.board m.to ≡ None → captured_on p.mark man m ≡ m.to → P false) → P (is_taken_on (took_by p (Some man) m) s)
by_capture P p m man s there nobody = by_passing (is_en_passant p.mark man m) there nobody
  where
    by_man : (x : Option Man) → man_at p.board m.to ≡ x → P (s == m.to) → (man_at p.board m.to ≡ None → P false) → P (is_taken_on (taken x m.to) s)
    by_man None e here none = none e
    by_man (Some other) e here none = subst P (sym (taken_on other m.to s)) here

    by_passing : (t : Bool) → P (s == cond t (passed_square m) m.to) → (man_at p.board m.to ≡ None → cond t (passed_square m) m.to ≡ m.to → P false) →
        P (is_taken_on (cond t (Pawn (passed_square m)) (taken (man_at p.board m.to) m.to)) s)
    by_passing true here none = here
    by_passing false here none = by_man (man_at p.board m.to) refl here (λ e. none e refl)

-- a square with nothing of a side's on it may be taken from
cond_same : (t : Bool) (x : Option Man) → (t ≡ true → x ≡ None) → x ≡ cond t None x
cond_same true x h = h refl
cond_same false x h = refl

and_same : (held t : Bool) → (held ≡ true → t ≡ false) → held ≡ held && not t
and_same true t h = sym (ap not (h refl))
and_same false t h = refl

-- the words say what the opponent's move leaves of a side's men
words_men : (who : Side) (p : Pos) (m : Move) (s : ℕ) → TheirMove who p m →
    own who (man_at (after p m).board s) ≡ cond (is_taken_on (words p m).took s) None (own who (man_at p.board s))
unfolding words
words_men who p m s t =
    t.leaves.men s
    ∙ sym (ap (λ y. cond (is_taken_on (took_by p y m) s) None x) t.stands
    ∙ by_capture (λ b. cond b None x ≡ cond (s == captured_on p.mark t.man m) None x) p m t.man s refl
    (λ e c. cond_same (s == captured_on p.mark t.man m) x (λ h. ap (λ k. own who (man_at p.board k)) (eqb-true s (captured_on p.mark t.man m) h ∙ c) ∙ ap (own who) e)))
  where
    x : Option Man
    x = own who (man_at p.board s)

-- and of its rights
words_rights : (who : Side) (p : Pos) (m : Move) (wing : Wing) → IsValid p → TheirMove who p m →
    holds (after p m).rights who wing ≡ holds p.rights who wing && not (is_taken_on (words p m).took (corner wing who))
unfolding words
words_rights who p m wing valid t =
    t.leaves.rights wing
    ∙ sym (ap (λ y. held && not (is_taken_on (took_by p y m) s)) t.stands
    ∙ by_capture (λ b. held && not b ≡ held && not (s == captured_on p.mark t.man m)) p m t.man s refl
    (λ e c. and-true held ∙ and_same held (s == captured_on p.mark t.man m) (not_there e c)))
  where
    held : Bool
    held = holds p.rights who wing

    s : ℕ
    s = corner wing who

    no_rook : is_man who kind.Rook None ≡ true → ⊥
    no_rook h = cc

    not_there : man_at p.board m.to ≡ None → captured_on p.mark t.man m ≡ m.to → held ≡ true → (s == captured_on p.mark t.man m) ≡ false
    not_there e c h =
        let rook = rook_stands p.board p.rights wing who (facts p valid).castles h in
        ne_eqb s (captured_on p.mark t.man m) (λ z. no_rook (ap (is_man who kind.Rook) (sym e ∙ ap (man_at p.board) (sym (z ∙ c))) ∙ rook))

-- after moves of the opponent of which the same is told, a side that had the same men and rights still has
pub alike_heard : (d : Dialect) (who : Side) (p q : Pos) (m n : Move) → Alike who p q → IsValid p → IsValid q → p.side ≡ other who →
    is_legal p m ≡ true → is_legal q n ≡ true → told d (words p m) ≡ told d (words q n) → Alike who (after p m) (after q n)
alike_heard d who p q m n e valid_p valid_q turn legal_p legal_q same =
    let a = their_move who p m valid_p turn legal_p in
    let b = their_move who q n valid_q (sym e.turn ∙ turn) legal_q in
    let taken_same : (s : ℕ) → is_taken_on (words p m).took s ≡ is_taken_on (words q n).took s =
    λ s. sym (told_on (dialect_rules d).men (words p m).took s) ∙ (ap (λ w. is_taken_on w.took s) same ∙ told_on (dialect_rules d).men (words q n).took s) in
    record {
      turn = a.leaves.turn ∙ (ap other e.turn ∙ sym b.leaves.turn);
      men = λ s l.
          words_men who p m s a
          ∙ (ap (cond (is_taken_on (words p m).took s) None) (e.men s l)
          ∙ (ap (λ t. cond t None (own who (man_at q.board s))) (taken_same s) ∙ sym (words_men who q n s b)));
      rights = λ wing.
          words_rights who p m wing valid_p a
          ∙ (ap (λ h. h && not (is_taken_on (words p m).took (corner wing who))) (e.rights wing)
          ∙ (ap (λ t. holds q.rights who wing && not t) (taken_same (corner wing who)) ∙ sym (words_rights who q n wing valid_q b)));
    }
