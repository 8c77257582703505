-- The readers of listed positions keep to their grammar, so that a fault is the first bad line.
use Rattle.std.proofs.Common.{◌≡◌, inl, inr, ℕ, zero, suc, Bool, true, false, cond, List, [], ◌∷◌, ◌++◌, length, Option, Some, None, Result, Ok, Err, refl, sym, ap, subst, ◌∙◌, arith}
use Rattle.std.specs.Prelude.{◌⊎◌, unwrap_or, replicate, codes}
use Rattle.std.proofs.lemmas.List.Elements.{All-nil, All-cons, All-head, All-tail}
use Rattle.krieg_fen.proofs.Common.{Pos, same_hand, attacks, is_attacked, is_king_attacked, squares, some_square, every_square, IsValid, first_fault, has_pawns_inside, Board, Side, White, Black, King, TextKind, Differs, OutOfPlace, Turn, Either, Own, ◌>>=◌, no_rights, position_text, taken, side_line, side_form, list_line, list_form, position_form, has_turn, matching, listed_form, positions_at, listing_at, start_form, One, Nothing, Times, Any, ◌⨾◌, is_beyond_form, IsFormed, Has, ListGrammar, ListingGrammar, behind_or}
use Rattle.krieg_fen.proofs.FormSpellings.{side_again, count_again, position_read}
use Rattle.krieg_text.proofs.Grammars.{untold, KeepsTo, HasForm, line_keeps, pure_keeps, bind_keeps, same_keeps, then_keeps, made_keeps}
use Rattle.krieg_fen.proofs.HandOfItself.{hand_self}
use Rattle.krieg_fen.proofs.ListSpellings.{written_spells, listed_spells}
use Rattle.krieg_text.proofs.FormGrammars.{form_of, value_form}
use Rattle.krieg_text.proofs.NameLemmas.{behind_again}

-- ---- a position that may stand first

-- two kings and nothing else, the white one on e1 and the black one on e8
abbrev pub kings : Board
kings = None ∷ None ∷ None ∷ None ∷ Some (record { side = White; kind = King }) ∷ (replicate 55 None ++ Some (record { side = Black; kind = King }) ∷ None ∷ None ∷ None ∷ [])

abbrev pub lone_kings : Side → Pos
lone_kings who = record { board = kings; side = who; rights = no_rights; mark = None }

pub kings_valid : (who : Side) → IsValid (lone_kings who)
unfolding first_fault has_pawns_inside every_square squares is_king_attacked some_square is_attacked attacks
kings_valid White = record { squares = refl; no_fault = refl }
kings_valid Black = record { squares = refl; no_fault = refl }

kings_turn : (turn : Turn) (who : Side) → has_turn turn who (lone_kings who) ≡ true
kings_turn Either who = refl
kings_turn Own White = refl
kings_turn Own Black = refl

pub written_form : (p : Pos) → IsValid p → position_form (position_text p) ≡ Ok p
written_form p valid = position_read (position_text p) p (written_spells p valid)

-- ---- one position

-- the first position, where there is one, is valid
abbrev pub IsValidFirst : Option Pos → Type 0
IsValidFirst None = Unit {0}
IsValidFirst (Some p) = IsValid p

some_listed : (turn : Turn) (who : Side) (first : Option Pos) → IsValidFirst first → (l : List ℕ) × (p : Pos) × (listed_form turn who first l ≡ Ok p)
unfolding listed_form
some_listed turn who None valid = (
  position_text (lone_kings who),
  lone_kings who,
  ap (λ (r : Result Pos TextKind). r >>= matching turn who None) (written_form (lone_kings who) (kings_valid who)) ∙ ap (λ (t : Bool). cond t (Ok (lone_kings who)) (Err OutOfPlace)) (kings_turn turn who),
)
some_listed turn who (Some f) valid =
    (position_text f, f, ap (λ (r : Result Pos TextKind). r >>= matching turn who (Some f)) (written_form f valid) ∙ ap (λ (t : Bool). cond t (Ok f) (Err Differs)) (hand_self who f))

abbrev Judgement : {A : Type 0} → Result A TextKind → Type 0
Judgement {A = A} r = ((x : A) × (untold x ≡ tt) × (r ≡ Ok x)) ⊎ ((kind : TextKind) × (is_beyond_form kind ≡ true) × (r ≡ Err kind))

chosen_judged : (kind : TextKind) (t : Bool) (p : Pos) → is_beyond_form kind ≡ true → Judgement (cond t (Ok p) (Err kind))
chosen_judged kind true p beyond = inl (p, refl, refl)
chosen_judged kind false p beyond = inr (kind, beyond, refl)

matching_judged : (turn : Turn) (who : Side) (first : Option Pos) (p : Pos) → Judgement (matching turn who first p)
matching_judged turn who None p = chosen_judged OutOfPlace (has_turn turn who p) p refl
matching_judged turn who (Some f) p = chosen_judged Differs (same_hand f p who) p refl

listed_has : (turn : Turn) (who : Side) (first : Option Pos) → IsValidFirst first → HasForm (listed_form turn who first) IsValid untold (λ u. Has position_form)
unfolding listed_form
listed_has turn who first valid = record {
  holds = λ l p e. (listed_spells turn who first l p e).0.is_valid;
  said = λ l p e. said l p (position_form l) refl e;
  judged = λ l b f. judged l (position_form l) refl f;
  some = some_listed turn who first valid;
}
  where
    said : (l : List ℕ) (p : Pos) (r : Result Pos TextKind) → position_form l ≡ r → (r >>= matching turn who first) ≡ Ok p → Has position_form l
    said l p (Err kind) is e = absurd cc
    said l p (Ok q) is e = subst IsFormed (sym is) tt

    judged : (l : List ℕ) (r : Result Pos TextKind) → position_form l ≡ r → IsFormed r → Judgement (position_form l >>= matching turn who first)
    judged l (Ok q) is f = subst (λ (t : Result Pos TextKind). Judgement (t >>= matching turn who first)) (sym is) (matching_judged turn who first q)
    judged l (Err kind) is f = subst (λ (t : Result Pos TextKind). Judgement (t >>= matching turn who first)) (sym is) (inr (kind, f, refl))

-- ---- listed positions

times_more : (n : ℕ) (F : List ℕ → Type 0) (ls : List (List ℕ)) → (One F ⨾ Times n F) ls → Times (suc n) F ls
times_more n F ls s =
    let all : ls ≡ s.first.line ∷ s.back = s.is ∙ ap (λ (t : List (List ℕ)). t ++ s.back) s.first.is in
    subst (Times (suc n) F) (sym all) (ap suc s.second.0, All-cons F s.first.line s.back s.first.says s.second.1)

times_less : (n : ℕ) (F : List ℕ → Type 0) (ls : List (List ℕ)) → Times (suc n) F ls → (One F ⨾ Times n F) ls
times_less n F [] s = let none : 0 ≡ suc n = s.0 in absurd (omega (arith, none))
times_less n F (l ∷ ls) s =
    let count : suc (length ls) ≡ suc n = s.0 in
    record { front = l ∷ []; back = ls; is = refl; first = record { line = l; is = refl; says = All-head F l ls s.1 }; second = (omega (arith, count), All-tail F l ls s.1) }

still_valid : (first : Option Pos) (p : Pos) → IsValidFirst first → IsValid p → IsValidFirst (Some (unwrap_or first p))
still_valid None p first valid = valid
still_valid (Some f) p first valid = first

pub positions_keep : (n : ℕ) (turn : Turn) (who : Side) (first : Option Pos) → IsValidFirst first → KeepsTo (positions_at turn who first n) (λ ps. Unit {0}) untold (λ u. ListGrammar n)
positions_keep zero turn who first valid =
    same_keeps (positions_at turn who first 0) (λ ps. Unit {0}) untold (λ b ls. (tt ≡ b) × Nothing ls) untold (λ u. ListGrammar 0)
    (λ ps ls s. subst (ListGrammar 0) (sym s.1) (refl, All-nil (Has position_form))) (λ d ls s. (tt, (refl, no_line ls s.0), λ x e. refl)) (pure_keeps [] (λ ps. Unit {0}) untold tt)
  where
    no_line : (ls : List (List ℕ)) → length ls ≡ 0 → ls ≡ []
    no_line [] e = refl
    no_line (l ∷ ls) e = absurd (omega (arith, e))
positions_keep (suc n) turn who first valid =
    same_keeps (positions_at turn who first (suc n)) (λ ps. Unit {0}) untold (λ u. One (Has position_form) ⨾ ListGrammar n) untold (λ u. ListGrammar (suc n))
    (λ ps ls s. times_more n (Has position_form) ls s) (λ d ls s. (d, times_less n (Has position_form) ls s, λ x e. e))
    (then_keeps (taken (listed_form turn who first)) (λ one p. positions_at turn who (Some (unwrap_or first one)) n p >>= λ o. Ok (one ∷ o.0, o.1)) IsValid (One (Has position_form)) (λ ps. Unit {0}) untold (λ u. ListGrammar n)
    (line_keeps (listed_form turn who first) IsValid untold (λ u. Has position_form) (listed_has turn who first valid))
    (λ one is. made_keeps (positions_at turn who (Some (unwrap_or first one)) n) (λ o. one ∷ o) (λ ps. Unit {0}) untold (λ u. ListGrammar n) (λ ps. Unit {0}) untold (λ o h. tt) (λ o. refl)
    (positions_keep n turn who (Some (unwrap_or first one)) (still_valid first one valid is))))

-- ---- a side and its listed positions

pub listing_keeps : (turn : Turn) → KeepsTo (listing_at turn) (λ x. Unit {0}) untold (λ u. ListingGrammar)
unfolding listing_at
listing_keeps turn =
    then_keeps (taken side_form) _ (λ who. Unit {0}) (One (Has side_form)) (λ x. Unit {0}) untold (λ u. Any (λ n. One (λ l. list_form l ≡ Ok n) ⨾ ListGrammar n))
    (line_keeps side_form (λ who. Unit {0}) untold (λ u. Has side_form) (form_of side_form (side_line White) White (side_again White)))
    (λ who h.
    bind_keeps (taken list_form) _ (λ n. Unit {0}) (λ n. n) (λ n. One (λ l. list_form l ≡ Ok n)) (λ x. Unit {0}) untold (λ n u. ListGrammar n)
    (line_keeps list_form (λ n. Unit {0}) (λ n. n) (λ n l. list_form l ≡ Ok n) (value_form list_form (list_line 1) 1 (count_again 1 (omega arith) (omega arith))))
    (λ n h.
    made_keeps (positions_at turn who None n) (λ list. (who, list)) (λ ps. Unit {0}) untold (λ u. ListGrammar n) (λ x. Unit {0}) untold (λ ps h. tt) (λ ps. refl) (positions_keep n turn who None tt)))

-- a start is there
pub some_start : start_form (codes "start " ++ position_text (lone_kings White)) ≡ Ok (lone_kings White)
unfolding start_form
some_start = ap (behind_or position_form) (behind_again (codes "start ") (position_text (lone_kings White))) ∙ written_form (lone_kings White) (kings_valid White)
