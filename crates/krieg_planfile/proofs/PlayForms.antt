-- Which lines are those of nodes.
use Rattle.std.proofs.Common.{◌≡◌, ℕ, zero, suc, ◌<◌, ◌≤◌, ◌^◌, Bool, true, false, cond, not, eqb, List, [], ◌∷◌, ◌++◌, Option, Some, None, Result, Ok, Err, refl, sym, ap, subst, ◌∙◌, arith}
use Rattle.std.specs.Prelude.{codes, ◌==◌}
use Rattle.std.specs.Char.{is_ascii_digit}
use Rattle.std.specs.List.{list_all}
use Rattle.std.proofs.lemmas.Bool.{and_from, ne_eqb}
use Rattle.krieg_planfile.proofs.Common.{Move, TextKind, Count, Large, NumberFault, NotPlain, OutOfRange, number_text, number_between, ranged, move_text, move_of, IsOnBoard, behind, cut, ◌>>=◌, joined, Play, edges_form, play_with, no_or_edges, moved_form, played_form, any_play_form, play_form, no_text, play_line, MOST_NODES}
use Rattle.krieg_fen.proofs.CleanTexts.{move_above}
use Rattle.krieg_text.proofs.Formats.{IsForm, named_form}
use Rattle.krieg_text.proofs.Free.{Above}
use Rattle.krieg_fen.proofs.MoveTexts.{move_spells, move_again}
use Rattle.krieg_text.proofs.NameLemmas.{behind_again, behind_spells, cut_again, cut_spells}
use Rattle.krieg_text.proofs.Numbers.{between_spells, between_again, digits_again}
use Rattle.krieg_text.proofs.Takings.{steps}

-- ---- what is read

-- the text after the move
record MovedIs (text : List ℕ) (m : Move) (play : Play) : Type 0 where
  mv : m ≡ play.mv
  is : 32 ∷ text ≡ no_text play.no ++ number_text play.edges
  few : play.edges ≤ MOST_NODES

by_edges : (text rest : List ℕ) (m : Move) (b : Bool) (r : Result ℕ NumberFault) (play : Play) → 32 ∷ text ≡ no_text b ++ rest → number_between rest 0 MOST_NODES ≡ r →
    play_with m b (ranged Count r) ≡ Ok play → MovedIs text m play
by_edges text rest m b (Err NotPlain) play front is e = absurd cc
by_edges text rest m b (Err OutOfRange) play front is e = absurd cc
by_edges text rest m b (Ok k) play front is e =
    let s = between_spells rest 0 MOST_NODES k (omega arith) is in
    let same : record { mv = m; no = b; edges = k } ≡ play = cc in
    subst (MovedIs text m) same (record { mv = refl; is = front ∙ ap (λ (x : List ℕ). no_text b ++ x) s.2; few = s.1 })

by_no : (text : List ℕ) (m : Move) (o : Option (List ℕ)) (play : Play) → behind (codes "no ") text ≡ o → no_or_edges m o text ≡ Ok play → MovedIs text m play
by_no text m None play is e = by_edges text text m false (number_between text 0 MOST_NODES) play refl refl e
by_no text m (Some rest) play is e = by_edges text rest m true (number_between rest 0 MOST_NODES) play (ap (λ (x : List ℕ). 32 ∷ x) (behind_spells (codes "no ") text rest is)) refl e

-- the text after `play `
abbrev pub IsPlayed : List ℕ → Play → Type 0
IsPlayed text play = (text ≡ move_text play.mv ++ (no_text play.no ++ number_text play.edges)) × IsOnBoard play.mv × (play.edges ≤ MOST_NODES)

by_move : (text first : List ℕ) (o : Option Move) (rest : Option (List ℕ)) (play : Play) → (cut 32 text).0 ≡ first → move_of first ≡ o → (cut 32 text).1 ≡ rest → moved_form o rest ≡ Ok play → IsPlayed text play
by_move text first None rest play c is r e = absurd cc
by_move text first (Some m) None play c is r e = absurd cc
by_move text first (Some m) (Some rest) play c is r e =
    let a = move_spells first m is in
    let b = by_no rest m (behind (codes "no ") rest) play refl e in (
      cut_spells 32 text first rest c r ∙ ap (λ (x : List ℕ). x ++ (32 ∷ rest)) a.1 ∙ ap (λ (x : List ℕ). move_text m ++ x) b.is ∙ ap (λ (n : Move). move_text n ++ (no_text play.no ++ number_text play.edges)) b.mv,
      subst IsOnBoard b.mv a.0,
      b.few,
    )

-- ---- what is spelled

-- a number begins with no letter
no_number : (k : ℕ) → k < 2 ^ 64 → behind (codes "no ") (number_text k) ≡ None
no_number k lt = go (behind (codes "no ") (number_text k)) refl
  where
    go : (o : Option (List ℕ)) → behind (codes "no ") (number_text k) ≡ o → o ≡ None
    go None is = refl
    go (Some rest) is =
        let all : list_all is_ascii_digit (codes "no " ++ rest) ≡ true = ap (list_all is_ascii_digit) (sym (behind_spells (codes "no ") (number_text k) rest is)) ∙ digits_again k lt in
        absurd cc

above_free : (n c : ℕ) (text : List ℕ) → c ≤ n → Above n text → list_all (λ b. not (eqb b c)) text ≡ true
above_free n c [] le h = refl
above_free n c (b ∷ text) le h =
    let over : n < b = h.0 in
    and_from (not (eqb b c)) (list_all (λ b. not (eqb b c)) text) (ap not (ne_eqb b c (λ e. absurd (omega arith)))) (above_free n c text le h.1)

edges_again : (k : ℕ) → k ≤ MOST_NODES → edges_form (number_text k) ≡ Ok k
edges_again k few = ap (ranged Count) (between_again 0 MOST_NODES k (omega arith) few (omega arith))

no_again : (m : Move) (b : Bool) (k : ℕ) (rest : List ℕ) → k ≤ MOST_NODES → 32 ∷ rest ≡ no_text b ++ number_text k → no_or_edges m (behind (codes "no ") rest) rest ≡ Ok (record { mv = m; no = b; edges = k })
no_again m false k rest few is =
    let same : rest ≡ number_text k = cc in
    ap (λ (x : List ℕ). no_or_edges m (behind (codes "no ") x) x) same ∙ ap (λ (o : Option (List ℕ)). no_or_edges m o (number_text k)) (no_number k (omega (arith, few))) ∙ ap (play_with m false) (edges_again k few)
no_again m true k rest few is =
    let same : rest ≡ codes "no " ++ number_text k = cc in
    ap (λ (x : List ℕ). no_or_edges m (behind (codes "no ") x) x) same ∙ ap (λ (o : Option (List ℕ)). no_or_edges m o (codes "no " ++ number_text k)) (behind_again (codes "no ") (number_text k)) ∙ ap (play_with m true) (edges_again k few)

no_front : (b : Bool) (k : ℕ) → (rest : List ℕ) × (32 ∷ rest ≡ no_text b ++ number_text k)
no_front false k = (number_text k, refl)
no_front true k = (codes "no " ++ number_text k, refl)

played_again : (text : List ℕ) (play : Play) → IsPlayed text play → played_form text ≡ Ok play
played_again text play s =
    let m = play.mv in
    let f = no_front play.no play.edges in
    ap played_form (s.0 ∙ ap (λ (x : List ℕ). move_text m ++ x) (sym f.1))
    ∙ ap (λ (x : List ℕ × Option (List ℕ)). moved_form (move_of x.0) x.1) (cut_again 32 (move_text m) f.0 (above_free 48 32 (move_text m) (omega arith) (move_above m)))
    ∙ ap (λ (o : Option Move). moved_form o (Some f.0)) (move_again m s.1)
    ∙ no_again m play.no play.edges f.0 s.2 f.1

played : IsForm played_form IsPlayed
played = record { found = λ text play e. by_move text (cut 32 text).0 (move_of (cut 32 text).0) (cut 32 text).1 play refl refl refl e; only = played_again }

-- ---- the line

-- a try of the board, and no more edges than may be told
abbrev pub SaysPlay : List ℕ → Play → Type 0
SaysPlay line play = (line ≡ joined (play_line play.mv play.no play.edges)) × IsOnBoard play.mv × (play.edges ≤ MOST_NODES)

pub any_play : IsForm any_play_form SaysPlay
unfolding any_play_form
any_play =
    let n = named_form (codes "play ") played_form IsPlayed played in
    record {
      found = λ l play e. let b = n.found l play e in (b.is ∙ ap (λ (x : List ℕ). codes "play " ++ x) b.says.0, b.says.1, b.says.2);
      only = λ l play s. n.only l play (record { text = move_text play.mv ++ (no_text play.no ++ number_text play.edges); is = s.0; says = (refl, s.1, s.2) });
    }

-- by how many nodes may still come
by_left : (left : ℕ) (t : Bool) (p play : Play) → (left == 0) ≡ t → ◌≡◌ {A = Result Play TextKind} (cond t (Err Large) (Ok p)) (Ok play) → (0 < left) × (p ≡ play)
by_left zero t p play is e = absurd cc
by_left (suc left) true p play is e = absurd cc
by_left (suc left) false p play is e = (omega arith, cc)

pub play_spells : (left : ℕ) (line : List ℕ) (play : Play) → play_form left line ≡ Ok play → SaysPlay line play × (0 < left)
play_spells left line play e =
    let s = steps (any_play_form line) (λ (p : Play). cond (left == 0) (Err Large) (Ok p)) play e in
    let l = by_left left (left == 0) s.mid play refl s.second in
    (subst (SaysPlay line) l.1 (any_play.found line s.mid s.first), l.0)

pub play_again : (left : ℕ) (line : List ℕ) (play : Play) → SaysPlay line play → 0 < left → play_form left line ≡ Ok play
play_again left line play s some =
    let more : (left == 0) ≡ false = ne_eqb left 0 (λ e. absurd (omega (arith, some, e))) in
    ap (λ (r : Result Play TextKind). r >>= λ play. cond (left == 0) (Err Large) (Ok play)) (any_play.only line play s)
    ∙ ap (λ (t : Bool). cond t (Err Large) (Ok play)) more
