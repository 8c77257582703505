use Rattle.std.proofs.Common.{false, ◌≡◌, ◌+◌, ◌-◌, ◌≤◌, List, length, map, take, None, Err, is_some, sym, ap, subst, ◌∙◌, arith, refl}
use Rattle.std.proofs.lemmas.List.{length-map, take_all}
use Rattle.std.specs.Prelude.{IfSome}
use Rattle.krieg_refute.proofs.Common.{Pos, Move, Key, Large, position_lt, tries, block_pair, stored, add_all, behind_try, WalksTries, chess, set_at, why_of, reason_of, Class, Refused, pairs_in, Claims, Reasons, Blocks, Question, entries, ByClass, ByRefused}
use Rattle.krieg_costs.specs.Refutation as theory
use Rattle.krieg_theory.specs.Sets.{In}
use Rattle.krieg_theory.proofs.Steps.{refused_lt}
use Rattle.krieg_claims.specs.Written as written
use Rattle.krieg_game.proofs.ChessLaws.{chess_is_game}
use Rattle.krieg_search.proofs.Adding.{adds_nothing, adds_then, still_paid}
use Rattle.krieg_refutation.specs.declared.refutation.Reason.{Reason}
use Rattle.krieg_refute.proofs.Reasoning.{walked_more, reasons_more}
use Rattle.krieg_claims.proofs.Walking.{walks_there}
use Rattle.krieg_search.specs.contracts.notes.QuestionPartialEq.TheImpl as derived_eq
use Rattle.krieg_refute.proofs.Places.{absent, place_at, same_asked}
use Rattle.krieg_refute.proofs.Carrying.{carried, set_large, tries_large, pushed, next_is}
use Rattle.krieg_accounts.proofs.Tables.{result_can}
use Rattle.std.proofs.lemmas.Bool.{and_from, eq-eqb}
use Rattle.krieg_refute.proofs.Blocking.{fails_blocks, still_claimed, blocked, by_class_at, by_refused_at}
use Rattle.krieg_search.proofs.Noted.{more_notes}
use Rattle.krieg_refute.proofs.Rows.{moves_of, note_at, noted_legal, noted_block, reasons_behind}
use Rattle.krieg_refute.proofs.claiming.+claim.Goals as goal

pub claim-returns-in-Some : goal.claim-returns-in-Some
claim-returns-in-Some t c =
    let d = c.args.setting.now.way.d in
    let T = c.args.table.now in
    let B = set_at T c.args.asked.set in
    let j = c.args.asked.moves in
    let w = c.args.claimed.now in
    let qs = pairs_in T w.places.keys in
    let a : Question = c.args.asked in
    let p = place_at d T c.know_once.ensures.sets a c.requires.within ((derived_eq.ghosts).eq a) (and_from _ _ (eq-eqb c.args.asked.set c.args.asked.set refl) (eq-eqb c.args.asked.moves c.args.asked.moves refl)) (λ k h. same_asked a k h) w.places.keys c.in-Some.index c.requires.claimed.numbered (sym c.in-Some.ensures.index) in
    let walks = walks_there (chess d) (chess_is_game d) qs B j c.requires.claimed.stands p.0 in
    let at : (c.in-Some.index + 1) ≡ written.place_of (chess d) qs (B, j) = (let e = p.1 in omega arith) in
    (adds_nothing T c.requires.paid.ready.counted, c.requires.claimed, record { all = walks.all; stands = walks.stands; at = at })

pub claim-returns-in_err-reasons : goal.claim-returns-in_err-reasons
claim-returns-in_err-reasons t c =
    let d = c.args.setting.now.way.d in
    let T0 = c.args.table.now in
    let T1 = c.reasons_of.new.table in
    let B = set_at T0 c.args.asked.set in
    let ts = tries (chess d) B in
    carried _ c.from_residual.result c.in_err-reasons.field-0.0 (λ e. Reasons d (Err e) B c.args.asked.moves ts T0 T1 c.args.claimed.now c.reasons_of.new.claimed) (λ r. Claims d r B c.args.asked.moves T0 T1 c.args.claimed.now c.reasons_of.new.claimed)
    (λ x h. cc) c.from_residual.ensures.1 (λ v. v) (set_large d (pairs_in T0 c.args.claimed.now.places.keys) B c.args.asked.moves ts c.requires.some c.requires.members refl) tt c.in_err-reasons.ensures

pub claim-push-requires-clause-next : goal.claim-push-requires-clause-next
claim-push-requires-clause-next t c =
    let d = c.args.setting.now.way.d in
    let T0 = c.args.table.now in
    let T1 = c.reasons_of.new.table in
    let B = set_at T0 c.args.asked.set in
    let j = c.args.asked.moves in
    let r = c.in_ok-reasons.ensures in
    let w0 = c.args.claimed.now in
    let w1 = c.reasons_of.new.claimed in
    let ts = tries (chess d) B in
    let same = r.0.more.same c.args.asked.set c.requires.within in
    let cannot = result_can (chess d) (chess_is_game d) false (entries T0) c.requires.paid.ready.sound B j None c.requires.lost in
    let a : Question = c.args.asked in
    let new : In (B, j) (pairs_in T0 w0.places.keys) → ⊥ = (let f = c.get_index_of.ensures.found in let i = c.in_default.is in absent T0 w0.places.keys a ((derived_eq.ghosts).eq a) c.know_once.ensures.sets c.requires.within c.requires.claimed.numbered (and_from _ _ (eq-eqb c.args.asked.set c.args.asked.set refl) (eq-eqb c.args.asked.moves c.args.asked.moves refl)) (sym f ∙ ap is_some i)) in
    next_is d T1 w1.places.keys (pairs_in T0 w0.places.keys) B (set_at T1 c.args.asked.set) j ts (map reason_of c.in_ok-reasons.reasons.items) same c.requires.some c.requires.members cannot new refl r.2 r.3

pub claim-returns : goal.claim-returns
claim-returns t c =
    let d = c.args.setting.now.way.d in
    let T0 = c.args.table.now in
    let T1 = c.reasons_of.new.table in
    let B = set_at T0 c.args.asked.set in
    let j = c.args.asked.moves in
    let r = c.in_ok-reasons.ensures in
    let w0 = c.args.claimed.now in
    let w1 = c.reasons_of.new.claimed in
    let ts = tries (chess d) B in
    let same = r.0.more.same c.args.asked.set c.requires.within in
    let cannot = result_can (chess d) (chess_is_game d) false (entries T0) c.requires.paid.ready.sound B j None c.requires.lost in
    let a : Question = c.args.asked in
    let new : In (B, j) (pairs_in T0 w0.places.keys) → ⊥ = (let f = c.get_index_of.ensures.found in let i = c.in_default.is in absent T0 w0.places.keys a ((derived_eq.ghosts).eq a) c.know_once.ensures.sets c.requires.within c.requires.claimed.numbered (and_from _ _ (eq-eqb c.args.asked.set c.args.asked.set refl) (eq-eqb c.args.asked.moves c.args.asked.moves refl)) (sym f ∙ ap is_some i)) in
    pushed d T0 T1 B (set_at T1 c.args.asked.set) j w0 w1 c.push.new.claimed c.push.result same c.requires.some c.requires.members cannot new r.0 r.2 c.push.ensures

pub reasons_of-reasons_for-requires : goal.reasons_of-reasons_for-requires
reasons_of-reasons_for-requires t c =
    let d = c.args.setting.now.way.d in
    let T = c.args.table.now in
    (omega arith, (c.requires.some, (c.requires.within, (c.requires.paid, (c.requires.noted, (c.requires.lost, (c.requires.claimed, rw c.in-Some.is at c.of.ensures.right d false T c.requires.noted)))))))

pub reasons_of-reasons_for-requires-2 : goal.reasons_of-reasons_for-requires-2
reasons_of-reasons_for-requires-2 t c =
    let d = c.args.setting.now.way.d in
    let T0 = c.args.table.now in
    let T1 = c.row_of.new.table in
    let row = c.in_ok-row.ensures in
    let same = row.0.more.same c.args.asked.set c.requires.within in
    let noted = row.0.noted in
    let long = ap length same in (
      omega arith,
      (
        c.requires.some,
        (
          row.1.within,
          (
            still_paid d T0 T1 row.0 c.requires.paid,
            (
              more_notes d false c.args.setting.now.notes row.0.more c.requires.noted,
              ((λ i. stored position_lt (noted i) (same i, c.args.asked.moves)) ∙ c.requires.lost, (still_claimed d T0 T1 c.args.claimed.now row.0 c.requires.claimed, rw (sym c.as_slice.ensures.value) at row.1)),
            ),
          ),
        ),
      ),
    )

pub reasons_of-returns : goal.reasons_of-returns
reasons_of-returns t c =
    let d = c.args.setting.now.way.d in
    let T0 = c.args.table.now in
    let T1 = c.row_of.new.table in
    let row = c.in_ok-row.ensures in
    let same = row.0.more.same c.args.asked.set c.requires.within in
    reasons_behind d c.reasons_for-2.result (set_at T0 c.args.asked.set) (set_at T1 c.args.asked.set) c.args.asked.moves (tries (chess d) (set_at T0 c.args.asked.set)) (tries (chess d) (set_at T1 c.args.asked.set)) T0 T1 c.reasons_for-2.new.table
    c.args.claimed.now c.reasons_for-2.new.claimed same (ap (tries (chess d)) same) row.0 c.requires.claimed c.reasons_for-2.ensures

pub reasons_for-why-requires : goal.reasons_for-why-requires
reasons_for-why-requires t c =
    let d = c.args.setting.now.way.d in
    let T0 = c.args.table.now in
    let T1 = c.loop-note.table in
    let s = c.loop-note.invariant.sets in
    let same = s.more.same c.args.asked.set c.requires.within in
    let noted = s.noted in
    let long = ap length same in
    let more = s.more.longer in
    let within = c.requires.within in
    let legal = noted_legal d T0 T1 c.args.asked c.args.row.now c.requires.row c.loop-note.note-index c.note-item.result c.loop-note-test.true c.note-item.is s.more in
    let blocked = noted_block d T0 T1 c.args.asked c.args.row.now c.requires.row c.loop-note.note-index c.note-item.result c.loop-note-test.true c.note-item.is s.more in (
      omega arith,
      (
        c.requires.some,
        (
          omega arith,
          (
            still_paid d T0 T1 s c.requires.paid,
            (
              more_notes d false c.args.setting.now.notes s.more c.requires.noted,
              ((λ i. stored position_lt (noted i) (same i, c.args.asked.moves)) ∙ c.requires.lost, (c.loop-note.invariant.claimed, (legal, blocked))),
            ),
          ),
        ),
      ),
    )

pub reasons_for-returns-in_err-why : goal.reasons_for-returns-in_err-why
reasons_for-returns-in_err-why t c =
    let d = c.args.setting.now.way.d in
    let T0 = c.args.table.now in
    let T1 = c.loop-note.table in
    let T2 = c.why.new.table in
    let inv = c.loop-note.invariant in
    let same = inv.sets.more.same c.args.asked.set c.requires.within in
    let B = set_at T0 c.args.asked.set in
    let j = c.args.asked.moves in
    let ts = moves_of c.args.row.now in
    let m = c.note-item.result.mv in
    let at = note_at c.args.row.now c.loop-note.note-index c.note-item.result c.loop-note-test.true c.note-item.is in
    let w0 = c.args.claimed.now in
    let w1 = c.loop-note.claimed in
    let w2 = c.why.new.claimed in
    carried _ c.from_residual-in_err-why.result c.in_err-why.field-0.0 (λ e. Blocks d (Err e) B j m T1 T2 w1 w2) (λ r. Reasons d r B j (tries (chess d) B) T0 T2 w0 w2)
    (λ x h. cc) c.from_residual-in_err-why.ensures.1 (λ v. v)
    (λ h. subst (λ (us : List Move). Reasons d (Err Large) B j us T0 T2 w0 w2) c.requires.row.tries_part (tries_large d (pairs_in T0 w0.places.keys) (pairs_in T1 w1.places.keys) B (j - 1) ts c.loop-note.note-index m at.0 at.1 inv.walked.all h)) tt
    (subst (λ (X : List Pos). Blocks d (Err c.in_err-why.field-0.0) X j m T1 T2 w1 w2) same c.in_err-why.ensures)

pub reasons_for-loop-note-preserved : goal.reasons_for-loop-note-preserved
reasons_for-loop-note-preserved t c =
    let d = c.args.setting.now.way.d in
    let T0 = c.args.table.now in
    let T1 = c.loop-note.table in
    let T2 = c.why.new.table in
    let inv = c.loop-note.invariant in
    let s = inv.sets in
    let same = s.more.same c.args.asked.set c.requires.within in
    let r = c.in_ok-why.ensures in
    let B = set_at T0 c.args.asked.set in
    let j = c.args.asked.moves in
    let ts = moves_of c.args.row.now in
    let k = c.loop-note.note-index in
    let m = c.note-item.result.mv in
    let at = note_at c.args.row.now k c.note-item.result c.loop-note-test.true c.note-item.is in
    let qs = pairs_in T0 c.args.claimed.now.places.keys in
    let qs1 = pairs_in T1 c.loop-note.claimed.places.keys in
    let qs2 = pairs_in T2 c.why.new.claimed.places.keys in
    let more : qs2 ≡ add_all (chess d) qs1 (behind_try (chess d) (j - 1) B m) = subst (λ (X : List Pos). qs2 ≡ add_all (chess d) qs1 (behind_try (chess d) (j - 1) X m)) same r.2 in
    let has = subst (λ (X : List Pos). IfSome (block_pair (chess d) j X m) (λ q. In q qs2)) same r.3 in
    let why : why_of c.in_ok-why.why ≡ written.reason_at (chess d) qs2 j B m = subst (λ (X : List Pos). why_of c.in_ok-why.why ≡ written.reason_at (chess d) qs2 j X m) same r.4 in
    let new : Reason = record { mv = m; why = c.in_ok-why.why } in
    let pushed = c.in_ok-push.ensures.items in
    record {
      sets = adds_then T0 T1 T2 s r.0;
      claimed = r.1;
      walked = walked_more d qs qs1 qs2 B j c.requires.some ts k m at.0 at.1 inv.walked more r.1.stands has;
      reasons = ap (map reason_of) pushed ∙ reasons_more d qs qs1 qs2 B j c.requires.some ts k m at.0 at.1 inv.walked more r.1.stands has c.loop-note.reasons.items new refl why inv.reasons;
    }

pub reasons_for-returns : goal.reasons_for-returns
reasons_for-returns t c =
    let d = c.args.setting.now.way.d in
    let T0 = c.args.table.now in
    let B = set_at T0 c.args.asked.set in
    let j = c.args.asked.moves in
    let ts = moves_of c.args.row.now in
    let inv = c.loop-note.invariant in
    let l : length ts ≤ c.loop-note.note-index = rw length-map c.loop-note-test.false in
    let all : take c.loop-note.note-index ts ≡ tries (chess d) B = take_all _ ts l ∙ c.requires.row.tries_part in
    let qs = pairs_in T0 c.args.claimed.now.places.keys in
    let qs' = pairs_in c.loop-note.table c.loop-note.claimed.places.keys in
    (inv.sets, inv.claimed, subst (WalksTries (chess d) qs qs' B (j - 1)) all inv.walked, inv.reasons ∙ ap (map {B = Move × theory.Reason Key} (λ t. (t, written.reason_at (chess d) qs' j B t))) all)

pub why-returns-in-AtOnce : goal.why-returns-in-AtOnce
why-returns-in-AtOnce t c =
    let d = c.args.setting.now.way.d in
    let T = c.args.table.now in
    let B = set_at T c.args.asked.set in
    let none = rw c.in-AtOnce.is at c.requires.blocked in
    fails_blocks d T B B c.args.note.now.mv c.args.asked.moves c.requires.some refl c.requires.paid.ready c.requires.lost c.requires.legal c.args.claimed.now c.at_once.result (none.no_pair refl) c.requires.claimed c.at_once.ensures

pub why-claim-requires : goal.why-claim-requires
why-claim-requires t c =
    let d = c.args.setting.now.way.d in
    let T = c.args.table.now in
    let B = set_at T c.args.asked.set in
    let h = rw c.in-Class.is at c.requires.blocked in
    let b = by_class_at d T B B c.args.note.now.mv c.args.asked.moves c.requires.some refl c.requires.paid.ready c.requires.lost c.requires.legal _ _ h.blocks (sym h.at) in
    let small = c.requires.paid.ready.counted c.in-Class.set in
    let some = c.requires.some in
    (omega (arith, small, some), (b.number, (h.within, (b.some, (c.requires.paid, (c.requires.noted, (b.lost, c.requires.claimed)))))))

pub why-claim-requires-in-Refused : goal.why-claim-requires-in-Refused
why-claim-requires-in-Refused t c =
    let d = c.args.setting.now.way.d in
    let T = c.args.table.now in
    let B = set_at T c.args.asked.set in
    let h = rw c.in-Refused.is at c.requires.blocked in
    let b = by_refused_at d T B B c.args.note.now.mv c.args.asked.moves c.requires.some refl c.requires.paid.ready c.requires.lost c.requires.legal _ h.blocks (sym h.at) in
    let less = refused_lt (chess d) (chess_is_game d) B c.args.note.now.mv c.requires.legal in
    let same = ap length h.at in
    (omega (arith, less, same), (c.requires.some, (h.within, (b.some, (c.requires.paid, (c.requires.noted, (b.lost, c.requires.claimed)))))))

pub why-returns-in_ok-place-in-Class : goal.why-returns-in_ok-place-in-Class
why-returns-in_ok-place-in-Class t c =
    let d = c.args.setting.now.way.d in
    let T = c.args.table.now in
    let B = set_at T c.args.asked.set in
    let h = rw c.in-Class.is at c.requires.blocked in
    let b = by_class_at d T B B c.args.note.now.mv c.args.asked.moves c.requires.some refl c.requires.paid.ready c.requires.lost c.requires.legal _ _ h.blocks (sym h.at) in
    blocked d T T c.claim.new.table c.args.claimed.now c.claim.new.claimed B (set_at T c.in-Class.set) c.args.note.now.mv c.args.asked.moves (c.args.asked.moves - 1) (ByClass c.in-Class.heard) b (adds_nothing T c.requires.paid.ready.counted) c.requires.claimed
    c.in_ok-place-in-Class.place (Class c.in-Class.heard c.in_ok-place-in-Class.place) refl c.in_ok-place-in-Class.ensures

pub why-returns-in_ok-place-in-Refused : goal.why-returns-in_ok-place-in-Refused
why-returns-in_ok-place-in-Refused t c =
    let d = c.args.setting.now.way.d in
    let T = c.args.table.now in
    let B = set_at T c.args.asked.set in
    let h = rw c.in-Refused.is at c.requires.blocked in
    let b = by_refused_at d T B B c.args.note.now.mv c.args.asked.moves c.requires.some refl c.requires.paid.ready c.requires.lost c.requires.legal _ h.blocks (sym h.at) in
    blocked d T T c.claim-in-Refused.new.table c.args.claimed.now c.claim-in-Refused.new.claimed B (set_at T c.in-Refused.set) c.args.note.now.mv c.args.asked.moves c.args.asked.moves ByRefused b (adds_nothing T c.requires.paid.ready.counted) c.requires.claimed
    c.in_ok-place-in-Refused.place (Refused c.in_ok-place-in-Refused.place) refl c.in_ok-place-in-Refused.ensures
