-- Which lines are those of nodes.
use Rattle.std.proofs.Common.{◌≡◌, ℕ, ◌+◌, ◌-◌, ◌<◌, ◌≤◌, ◌^◌, true, List, [], ◌∷◌, ◌++◌, Option, Some, None, Result, Ok, Err, refl, sym, ap, subst, ◌∙◌, arith}
use Rattle.std.specs.Prelude.{codes}
use Rattle.std.specs.Char.{is_ascii_digit}
use Rattle.std.specs.List.{list_all}
use Rattle.krieg_strategyfile.proofs.Common.{Move, Count, NumberFault, NotPlain, OutOfRange, number_text, number_between, ranged, is_line, move_text, move_of, IsOnBoard, behind, cut, joined, MOST_NODES, MOST_EDGES, Play, after_no, no_or_edges, moved_form, played_form, play_form, with_no, without_no, no_pieces, play_line, IsPlay, LeadsToSome, a_play}
use Rattle.krieg_board.specs.declared.men.Promo.TheVariants.{Plain}
use Rattle.krieg_fen.proofs.CleanTexts.{move_above, move_line}
use Rattle.krieg_fen.proofs.MoveTexts.{move_spells, move_again}
use Rattle.krieg_text.proofs.CleanTexts.{number_line}
use Rattle.krieg_text.proofs.Formats.{IsForm, named_form}
use Rattle.krieg_text.proofs.Free.{above_less}
use Rattle.krieg_text.proofs.LineTexts.{line_append}
use Rattle.krieg_text.proofs.NameLemmas.{behind_again, behind_spells, cut_again, cut_spells}
use Rattle.krieg_text.proofs.Numbers.{between_spells, between_again, digits_again}
use Rattle.krieg_wordtext.proofs.CleanWords.{above_free}
use Rattle.krieg_format.proofs.Judged.{IsLine}
use Rattle.krieg_format.proofs.Leaves.{formed_law}
use Rattle.krieg_format.proofs.Writing.{IsWritten}
use Rattle.krieg_strategyfile.proofs.LedLines.{number_free}

-- what stands behind the move
abbrev behind_move : Play → List ℕ
behind_move p = joined (no_pieces p.no ++ (codes " " ∷ number_text p.edges ∷ []))

-- ---- what is read

-- the text after the move and its space
record MovedIs (text : List ℕ) (m : Move) (p : Play) : Type 0 where
  mv : m ≡ p.mv
  is : 32 ∷ text ≡ behind_move p
  some : LeadsToSome p.no
  few : p.edges ≤ MOST_EDGES

by_edges : (text : List ℕ) (m : Move) (r : Result ℕ NumberFault) (p : Play) → number_between text 0 MOST_EDGES ≡ r → without_no m (ranged Count r) ≡ Ok p → MovedIs text m p
by_edges text m (Err NotPlain) p is e = absurd cc
by_edges text m (Err OutOfRange) p is e = absurd cc
by_edges text m (Ok k) p is e =
    let s = between_spells text 0 MOST_EDGES k (omega arith) is in
    let same : record { mv = m; no = None; edges = k } ≡ p = cc in
    subst (MovedIs text m) same (record { mv = refl; is = ap (λ (x : List ℕ). 32 ∷ x) s.2; some = tt; few = s.1 })

by_numbers : (text node edges : List ℕ) (m : Move) (a b : Result ℕ NumberFault) (p : Play) → text ≡ codes "no " ++ (node ++ (32 ∷ edges)) → number_between node 1 MOST_NODES ≡ a → number_between edges 0 MOST_EDGES ≡ b → with_no m a b ≡ Ok p → MovedIs text m p
by_numbers text node edges m (Ok i) (Err NotPlain) p whole a b e = absurd cc
by_numbers text node edges m (Ok i) (Err OutOfRange) p whole a b e = absurd cc
by_numbers text node edges m (Err NotPlain) k p whole a b e = absurd cc
by_numbers text node edges m (Err OutOfRange) (Ok k) p whole a b e = absurd cc
by_numbers text node edges m (Err OutOfRange) (Err NotPlain) p whole a b e = absurd cc
by_numbers text node edges m (Err OutOfRange) (Err OutOfRange) p whole a b e = absurd cc
by_numbers text node edges m (Ok i) (Ok k) p whole a b e =
    let s = between_spells node 1 MOST_NODES i (omega arith) a in
    let t = between_spells edges 0 MOST_EDGES k (omega arith) b in
    let same : record { mv = m; no = Some (i - 1); edges = k } ≡ p = cc in
    let next : i ≡ i - 1 + 1 = omega (arith, s.0) in
    subst (MovedIs text m) same (
    record {
      mv = refl;
      is =
          ap (λ (x : List ℕ). 32 ∷ x) whole ∙ ap (λ (x : List ℕ). codes " no " ++ (x ++ (32 ∷ edges))) (s.2 ∙ ap number_text next)
          ∙ ap (λ (x : List ℕ). codes " no " ++ (number_text (i - 1 + 1) ++ (32 ∷ x))) t.2;
      some = omega (arith, s.0, s.1);
      few = t.1;
    }
    )

by_rest : (text rest : List ℕ) (m : Move) (node : List ℕ) (edges : Option (List ℕ)) (p : Play) → text ≡ codes "no " ++ rest → (cut 32 rest).0 ≡ node → (cut 32 rest).1 ≡ edges → after_no m node edges ≡ Ok p → MovedIs text m p
by_rest text rest m node None p front c k e = absurd cc
by_rest text rest m node (Some edges) p front c k e =
    by_numbers text node edges m (number_between node 1 MOST_NODES) (number_between edges 0 MOST_EDGES) p (front ∙ ap (λ (x : List ℕ). codes "no " ++ x) (cut_spells 32 rest node edges c k)) refl refl e

by_no : (text : List ℕ) (m : Move) (o : Option (List ℕ)) (p : Play) → behind (codes "no ") text ≡ o → no_or_edges m o text ≡ Ok p → MovedIs text m p
by_no text m None p is e = by_edges text m (number_between text 0 MOST_EDGES) p refl e
by_no text m (Some rest) p is e = by_rest text rest m (cut 32 rest).0 (cut 32 rest).1 p (behind_spells (codes "no ") text rest is) refl refl e

-- the text after `play `
abbrev IsPlayed : List ℕ → Play → Type 0
IsPlayed text p = (text ≡ move_text p.mv ++ behind_move p) × IsPlay p

by_move : (text first : List ℕ) (o : Option Move) (rest : Option (List ℕ)) (p : Play) → (cut 32 text).0 ≡ first → move_of first ≡ o → (cut 32 text).1 ≡ rest → moved_form o rest ≡ Ok p → IsPlayed text p
by_move text first None rest p c is r e = absurd cc
by_move text first (Some m) None p c is r e = absurd cc
by_move text first (Some m) (Some rest) p c is r e =
    let a = move_spells first m is in
    let b = by_no rest m (behind (codes "no ") rest) p refl e in (
      cut_spells 32 text first rest c r ∙ ap (λ (x : List ℕ). x ++ (32 ∷ rest)) a.1 ∙ ap (λ (x : List ℕ). move_text m ++ x) b.is ∙ ap (λ (n : Move). move_text n ++ behind_move p) b.mv,
      (subst IsOnBoard b.mv a.0, b.some, b.few),
    )

-- ---- what is spelled

-- a number begins with no letter
no_number : (k : ℕ) → k < 2 ^ 64 → behind (codes "no ") (number_text k) ≡ None
no_number k lt = go (behind (codes "no ") (number_text k)) refl
  where
    go : (o : Option (List ℕ)) → behind (codes "no ") (number_text k) ≡ o → o ≡ None
    go None is = refl
    go (Some rest) is =
        let all : list_all is_ascii_digit (codes "no " ++ rest) ≡ true = ap (list_all is_ascii_digit) (sym (behind_spells (codes "no ") (number_text k) rest is)) ∙ digits_again k lt in
        absurd cc

no_again : (m : Move) (o : Option ℕ) (k : ℕ) (rest : List ℕ) → LeadsToSome o → k ≤ MOST_EDGES → 32 ∷ rest ≡ behind_move (record { mv = m; no = o; edges = k }) → no_or_edges m (behind (codes "no ") rest) rest ≡ Ok (record { mv = m; no = o; edges = k })
no_again m None k rest some few is =
    let same : rest ≡ number_text k = cc in
    ap (λ (x : List ℕ). no_or_edges m (behind (codes "no ") x) x) same
    ∙ ap (λ (o : Option (List ℕ)). no_or_edges m o (number_text k)) (no_number k (omega (arith, few)))
    ∙ ap (λ (r : Result ℕ NumberFault). without_no m (ranged Count r)) (between_again 0 MOST_EDGES k (omega arith) few (omega arith))
no_again m (Some i) k rest some few is =
    let numbers : List ℕ = number_text (i + 1) ++ (32 ∷ number_text k) in
    let same : rest ≡ codes "no " ++ numbers = cc in
    let low : i < MOST_NODES = some in
    let back : i + 1 - 1 ≡ i = omega arith in
    ap (λ (x : List ℕ). no_or_edges m (behind (codes "no ") x) x) same
    ∙ ap (λ (o : Option (List ℕ)). no_or_edges m o (codes "no " ++ numbers)) (behind_again (codes "no ") numbers)
    ∙ ap (λ (x : List ℕ × Option (List ℕ)). after_no m x.0 x.1) (cut_again 32 (number_text (i + 1)) (number_text k) (number_free (i + 1) (omega (arith, low))))
    ∙ ap (λ (a : Result ℕ NumberFault). with_no m a (number_between (number_text k) 0 MOST_EDGES)) (between_again 1 MOST_NODES (i + 1) (omega arith) (omega (arith, low)) (omega arith))
    ∙ ap (with_no m (Ok (i + 1))) (between_again 0 MOST_EDGES k (omega arith) few (omega arith))
    ∙ ap (λ (j : ℕ). Ok (record { mv = m; no = Some j; edges = k })) back

-- there is a space before it
spaced : (o : Option ℕ) (m : Move) (k : ℕ) → (rest : List ℕ) × (32 ∷ rest ≡ behind_move (record { mv = m; no = o; edges = k }))
spaced None m k = (number_text k, refl)
spaced (Some i) m k = (codes "no " ++ (number_text (i + 1) ++ (32 ∷ number_text k)), refl)

played_again : (text : List ℕ) (p : Play) → IsPlayed text p → played_form text ≡ Ok p
played_again text p s =
    let m = p.mv in
    let f = spaced p.no m p.edges in
    ap played_form (s.0 ∙ ap (λ (x : List ℕ). move_text m ++ x) (sym f.1))
    ∙ ap (λ (x : List ℕ × Option (List ℕ)). moved_form (move_of x.0) x.1) (cut_again 32 (move_text m) f.0 (above_free 32 (move_text m) (above_less 32 48 (move_text m) (omega arith) (move_above m))))
    ∙ ap (λ (o : Option Move). moved_form o (Some f.0)) (move_again m s.1.0)
    ∙ no_again m p.no p.edges f.0 s.1.1 s.1.2 f.1

-- ---- the line

pub play_joined : (p : Play) → joined (play_line p) ≡ codes "play " ++ (move_text p.mv ++ behind_move p)
play_joined p = go p.no
  where
    go : (o : Option ℕ) → joined (play_line (record p { no = o })) ≡ codes "play " ++ (move_text p.mv ++ behind_move (record p { no = o }))
    go None = refl
    go (Some i) = refl

plays : IsForm play_form a_play.says
unfolding play_form
plays =
    let n = named_form (codes "play ") played_form IsPlayed (record { found = λ t p e. by_move t (cut 32 t).0 (move_of (cut 32 t).0) (cut 32 t).1 p refl refl refl e; only = played_again }) in
    record {
      found = λ l p e. let b = n.found l p e in (b.is ∙ ap (λ (x : List ℕ). codes "play " ++ x) b.says.0 ∙ sym (play_joined p), b.says.1);
      only = λ l p s. n.only l p (record { text = move_text p.mv ++ behind_move p; is = s.0 ∙ play_joined p; says = (refl, s.1) });
    }

pub play_law : IsLine a_play
play_law = formed_law plays

-- a node that is always there
abbrev pub some_play : Play
some_play = record { mv = record { from = 0; to = 0; promo = Plain }; no = None; edges = 0 }

pub play_read : play_form (joined (play_line some_play)) ≡ Ok some_play
play_read = plays.only (joined (play_line some_play)) some_play (refl, ((omega arith, omega arith), tt, omega arith))

no_clean : (p : Play) → IsPlay p → is_line (behind_move p) ≡ true
no_clean p s = go p.no s.1 s.2
  where
    go : (o : Option ℕ) → LeadsToSome o → p.edges ≤ MOST_EDGES → is_line (behind_move (record p { no = o })) ≡ true
    go None some few = number_line p.edges (omega (arith, few))
    go (Some i) some few =
        let low : i < MOST_NODES = some in
        let edges : is_line (32 ∷ number_text p.edges) ≡ true = number_line p.edges (omega (arith, few)) in
        line_append (codes " no ") (number_text (i + 1) ++ (32 ∷ number_text p.edges)) refl (line_append (number_text (i + 1)) (32 ∷ number_text p.edges) (number_line (i + 1) (omega (arith, low))) edges)

pub play_written : IsWritten a_play
play_written p s = (
  (refl, s),
  ap is_line (play_joined p) ∙ line_append (codes "play ") (move_text p.mv ++ behind_move p) refl (line_append (move_text p.mv) (behind_move p) (move_line p.mv) (no_clean p s)),
)
