-- The tries that are done are those by the side to move whose moves are legal.
use Rattle.std.proofs.Common.{◌≡◌, Bool, true, false, not, cond, ◌&&◌, List, [], ◌∷◌, refl, sym, ap, ◌∙◌, subst, arith}
use Rattle.std.proofs.lemmas.Bool.{and_parts}
use Rattle.krieg_board.specs.Men.{is_same_side}
use Rattle.krieg_board.specs.Pos.{Pos}
use Rattle.krieg_board.specs.Validity.{IsValid}
use Rattle.krieg_board.specs.declared.men.Side.{Side}
use Rattle.krieg_board.specs.declared.men.Move.{Move}
use Rattle.krieg_board.proofs.MenLemmas.{same_side_eq}
use Rattle.krieg_moves.specs.After.{after}
use Rattle.krieg_moves.specs.Legal.{is_legal}
use Rattle.krieg_moves.specs.Moves.{moves, is_nil, is_ended}
use Rattle.krieg_moves.proofs.Listed.{legal_listed}
use Rattle.std.specs.List.{Contains}
use Rattle.krieg_words.specs.WordsOfMoves.{words}
use Rattle.krieg_umpire.specs.declared.verdict.Event.{Event}
use Rattle.krieg_umpire.specs.declared.verdict.Verdict.{Verdict}
use Rattle.krieg_umpire.specs.declared.verdict.Verdict.TheVariants.{Over, Early, Illegal, Done}
use Rattle.krieg_umpire.specs.Verdicts.{verdict, is_done, position_after, next}
use Rattle.krieg_umpire.specs.Games.{judge}
use Rattle.krieg_record.specs.Records.{AreLegal, IsRecord}
use Rattle.krieg_record.proofs.RecordTexts.{text_again}
use Rattle.krieg_fen.specs.MoveText.{IsOnBoard}
use Rattle.krieg_moves.proofs.LegalMoves.{legal}
use Rattle.krieg_moves.proofs.Movers.{below_from}
use Rattle.krieg_umpire.specs.Laws.{AreTries, DoneAreLegal, DoneAreTries, SansAreReadBack, UnsansAreReadBack}
use Rattle.krieg_umpire.proofs.SessionFormat.{sessions_again}
use Rattle.krieg_umpire.specs.Sessions.{SessionState}
use Rattle.krieg_umpire.specs.Scores.{done_events, done_moves, record_of, session_of, tries_of}
use Rattle.std.proofs.lemmas.List.Elements.{All-nil, All-cons}

-- where a move is legal the game is not over
not_ended : (p : Pos) (m : Move) → is_legal p m ≡ true → is_ended p ≡ false
unfolding is_ended
not_ended p m h = go (moves p) (legal_listed p m h)
  where
    go : (ms : List Move) → Contains ms m → is_nil ms ≡ false
    go [] (k, l, e) = absurd (omega arith)
    go (x ∷ ms) c = refl

abbrev plays : Pos → Event → Bool
plays p e = is_same_side e.who p.side && is_legal p e.mv

verdict_done : (p : Pos) (e : Event) → plays p e ≡ true → verdict p e.who e.mv ≡ Done (words p e.mv)
unfolding verdict
verdict_done p e h =
    let r = and_parts (is_same_side e.who p.side) (is_legal p e.mv) h in
    rw (not_ended p e.mv r.1, r.0, r.1) refl

verdict_not : (p : Pos) (e : Event) → plays p e ≡ false → is_done (verdict p e.who e.mv) ≡ false
unfolding verdict
verdict_not p e h = go (is_ended p) (is_same_side e.who p.side) (is_legal p e.mv) h
  where
    go : (a b c : Bool) → (b && c) ≡ false → is_done (cond a Over (cond (not b) Early (cond (not c) Illegal (Done (words p e.mv))))) ≡ false
    go true b c h = refl
    go false false c h = refl
    go false true false h = refl
    go false true true h = absurd cc

not_after : (v : Verdict) (p : Pos) (m : Move) → is_done v ≡ false → position_after v p m ≡ p
not_after Over p m h = refl
not_after Early p m h = refl
not_after Illegal p m h = refl
not_after (Done w) p m h = absurd cc

-- one more try
pub done_more : (p : Pos) (e : Event) (es : List Event) → plays p e ≡ true → done_moves (judge p (e ∷ es)) ≡ e.mv ∷ done_moves (judge (after p e.mv) es)
done_more p e es h =
    ap (λ v. cond (is_done v) (e.mv ∷ done_moves (judge (position_after v p e.mv) es)) (done_moves (judge (position_after v p e.mv) es))) (verdict_done p e h)

pub done_same : (p : Pos) (e : Event) (es : List Event) → plays p e ≡ false → done_moves (judge p (e ∷ es)) ≡ done_moves (judge p es)
done_same p e es h =
    let n = verdict_not p e h in
    ap (λ b. cond b (e.mv ∷ done_moves (judge (next p e.who e.mv) es)) (done_moves (judge (next p e.who e.mv) es))) n
    ∙ ap (λ q. done_moves (judge q es)) (not_after (verdict p e.who e.mv) p e.mv n)

tried_more : (p : Pos) (e : Event) (es : List Event) → plays p e ≡ true → done_events (judge p (e ∷ es)) ≡ e ∷ done_events (judge (after p e.mv) es)
tried_more p e es h =
    ap (λ v. cond (is_done v) (e ∷ done_events (judge (position_after v p e.mv) es)) (done_events (judge (position_after v p e.mv) es))) (verdict_done p e h)

tried_same : (p : Pos) (e : Event) (es : List Event) → plays p e ≡ false → done_events (judge p (e ∷ es)) ≡ done_events (judge p es)
tried_same p e es h =
    let n = verdict_not p e h in
    ap (λ b. cond b (e ∷ done_events (judge (next p e.who e.mv) es)) (done_events (judge (next p e.who e.mv) es))) n
    ∙ ap (λ q. done_events (judge q es)) (not_after (verdict p e.who e.mv) p e.mv n)

pub done_legal : DoneAreLegal
done_legal p [] = tt
done_legal p (e ∷ es) = go (plays p e) refl (done_legal (after p e.mv) es) (done_legal p es)
  where
    go : (b : Bool) → plays p e ≡ b → AreLegal (after p e.mv) (done_moves (judge (after p e.mv) es)) → AreLegal p (done_moves (judge p es)) → AreLegal p (done_moves (judge p (e ∷ es)))
    go true is more same = subst (AreLegal p) (sym (done_more p e es is)) ((and_parts (is_same_side e.who p.side) (is_legal p e.mv) is).1, more)
    go false is more same = subst (AreLegal p) (sym (done_same p e es is)) same

pub done_tries : DoneAreTries
done_tries p [] = refl
done_tries p (e ∷ es) = go (plays p e) refl (done_tries (after p e.mv) es) (done_tries p es)
  where
    go : (b : Bool) → plays p e ≡ b → tries_of (after p e.mv) (done_moves (judge (after p e.mv) es)) ≡ done_events (judge (after p e.mv) es) →
        tries_of p (done_moves (judge p es)) ≡ done_events (judge p es) → tries_of p (done_moves (judge p (e ∷ es))) ≡ done_events (judge p (e ∷ es))
    go true is more same =
        let who = same_side_eq e.who p.side (and_parts (is_same_side e.who p.side) (is_legal p e.mv) is).0 in
        ap (tries_of p) (done_more p e es is)
        ∙ ap (λ (s : Side). record { who = s; mv = e.mv } ∷ tries_of (after p e.mv) (done_moves (judge (after p e.mv) es))) (sym who)
        ∙ ap (λ (xs : List Event). e ∷ xs) more ∙ sym (tried_more p e es is)
    go false is more same = ap (tries_of p) (done_same p e es is) ∙ same ∙ sym (tried_same p e es is)

pub sans_again : SansAreReadBack
sans_again s valid = text_again (record_of s) (record { valid = valid; legal = done_legal s.start s.events })

pub record_is : (s : SessionState) → IsValid s.start → IsRecord (record_of s)
record_is s valid = record { valid = valid; legal = done_legal s.start s.events }

tries_on_board : (p : Pos) (ms : List Move) → AreLegal p ms → AreTries (tries_of p ms)
tries_on_board p [] h = All-nil (λ e. IsOnBoard e.mv)
tries_on_board p (m ∷ ms) h =
    let l = legal p m h.0 in
    All-cons (λ (e : Event). IsOnBoard e.mv) (record { who = p.side; mv = m }) (tries_of (after p m) ms)
    (below_from m.from 64 l.from_in, below_from m.to 64 l.to_in) (tries_on_board (after p m) ms h.1)

pub unsans_again : UnsansAreReadBack
unsans_again r is = sessions_again (session_of r) (record { valid = is.valid; tries = tries_on_board r.start r.moves is.legal })

pub ruleset laws = (done_legal, done_tries, sans_again, unsans_again)

pub ruleset done = (done_more, done_same)
