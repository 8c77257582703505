-- A sheet has one list of least games: a game is told by its start, the sheet's entries and the opponent's moves, and of two games that are least both of these are the same.
use Rattle.std.proofs.Common.{◌≡◌, Bool, true, false, cond, List, [], ◌∷◌, map, Option, Some, None, refl, sym, ap, subst, ◌∙◌}
use Rattle.std.specs.List.{All, cons_option}
use Rattle.std.specs.Cmp.{IsTotalOrder}
use Rattle.std.specs.Cmp.Lexicographic.{slice_cmp}
use Rattle.std.specs.Ordering.{is_le, ordering_then, ordering_reverse}
use Rattle.std.specs.declared.cmp.Ordering.{Ordering}
use Rattle.std.specs.declared.cmp.Ordering.TheVariants.{Less, Equal, Greater}
use Rattle.std.proofs.lemmas.Bool.{both_ways}
use Rattle.std.proofs.lemmas.Cmp.{on_total, then_total, lists_total}
use Rattle.std.proofs.lemmas.List.Elements.{All-head, All-tail}
use Rattle.krieg_belief.proofs.Common.{other, is_same_side, move_cmp, Pos, Side, Move, told_line, Dialect, Line, Event, Verdict, verdict, next, is_done, judge, judged, line_for, lines_for, own_line, others_line, tries_of, SheetState, position_cmp, position_total, same_position, ShownState, last_of, is_shown, their_moves, shown_cmp, Explains, IsLeast, events_by, ShownAreOnce}
use Rattle.krieg_board.proofs.MenLemmas.{same_side_eq}
use Rattle.krieg_board.proofs.MoveOrder.{move_total, move_equal}
use Rattle.krieg_wordtext.specs.declared.line.Line.TheVariants as line
use Rattle.krieg_umpire.specs.declared.verdict.Verdict.TheVariants.{Over, Early, Illegal, Done}
use Rattle.krieg_pack.proofs.PositionSets.{same_members}
use Rattle.krieg_belief.proofs.Least.{entries_heard}
use Rattle.krieg_belief.proofs.TriedGames.{try_is, others}

-- one try more, by its verdict
one_told : (d : Dialect) (who : Side) (e : Event) (lines : List Line) (moves : List Move) (es : List Event) → events_by who (map (told_line d) lines) moves ≡ es → (mine : Bool) → is_same_side e.who who ≡ mine → (v : Verdict) →
    (mine ≡ false → is_done v ≡ true) → events_by who (map (told_line d) (cons_option (cond mine (Some (own_line e.mv v)) (others_line v)) lines)) (cons_option (cond mine None (Some e.mv)) moves) ≡ e ∷ es
one_told d who e lines moves es later = by_side
  where
    own : is_same_side e.who who ≡ true → events_by who (line.Over e.mv ∷ map (told_line d) lines) moves ≡ e ∷ es
    own h = λ i. record { who = sym (same_side_eq e.who who h) i; mv = e.mv } ∷ later i

    by_side : (mine : Bool) → is_same_side e.who who ≡ mine → (v : Verdict) → (mine ≡ false → is_done v ≡ true) →
        events_by who (map (told_line d) (cons_option (cond mine (Some (own_line e.mv v)) (others_line v)) lines)) (cons_option (cond mine None (Some e.mv)) moves) ≡ e ∷ es
    by_side true h Over done = own h
    by_side true h Early done = own h
    by_side true h Illegal done = own h
    by_side true h (Done w) done = own h
    by_side false h Over done = absurd (both_ways false refl (done refl))
    by_side false h Early done = absurd (both_ways false refl (done refl))
    by_side false h Illegal done = absurd (both_ways false refl (done refl))
    by_side false h (Done w) done = λ i. record { who = others e.who who h i; mv = e.mv } ∷ later i

-- the tries of a game are those that its lines and the opponent's moves tell
retold : (d : Dialect) (who : Side) (p : Pos) (events : List Event) → All (is_shown who) (judge p events) → events_by who (map (told_line d) (lines_for who (judge p events))) (tries_of (other who) events) ≡ events
retold d who p [] h = refl
retold d who p (e ∷ es) h =
    let lines : List Line = lines_for who (judge (next p e.who e.mv) es) in
    let moves : List Move = tries_of (other who) es in
    let later = retold d who (next p e.who e.mv) es (All-tail (is_shown who) (judged p e) (judge (next p e.who e.mv) es) h) in
    ap (λ (o : Option Move). events_by who (map (told_line d) (cons_option (line_for who (judged p e)) lines)) (cons_option o moves)) (try_is who e (is_same_side e.who who) refl)
    ∙ one_told d who e lines moves es later (is_same_side e.who who) refl (verdict p e.who e.mv) (All-head (is_shown who) (judged p e) (judge (next p e.who e.mv) es) h)

-- a game that explains a position has the tries that the sheet and the opponent's moves tell
tries_are : (s : SheetState) (x : ShownState) → Explains s x → events_by s.side s.entries (their_moves s.side x) ≡ x.events
tries_are s x e = ap (λ (ls : List Line). events_by s.side ls (their_moves s.side x)) (sym (entries_heard s x e)) ∙ retold s.dialect s.side x.start x.events e.all_done

-- ---- two games of which neither is after the other

both_le : (o : Ordering) → is_le o ≡ true → is_le (ordering_reverse o) ≡ true → o ≡ Equal
both_le Less h k = absurd cc
both_le Equal h k = refl
both_le Greater h k = absurd cc

both_equal : (a b : Ordering) → ordering_then a b ≡ Equal → (a ≡ Equal) × (b ≡ Equal)
both_equal Less b h = absurd cc
both_equal Equal b h = (refl, h)
both_equal Greater b h = absurd cc

same_moves : (ms ns : List Move) → slice_cmp move_cmp ms ns ≡ Equal → ms ≡ ns
same_moves [] [] h = refl
same_moves [] (n ∷ ns) h = absurd cc
same_moves (m ∷ ms) [] h = absurd cc
same_moves (m ∷ ms) (n ∷ ns) h =
    let e = both_equal (move_cmp m n) (slice_cmp move_cmp ms ns) h in
    λ i. move_equal m n e.0 i ∷ same_moves ms ns e.1 i

shown_total : (who : Side) → IsTotalOrder (shown_cmp who)
shown_total who = then_total (on_total (λ (x : ShownState). x.start) position_total) (on_total (their_moves who) (lists_total move_total))

same_game : (s : SheetState) (x y : ShownState) → IsLeast s x → IsLeast s y → x.last ≡ y.last → x ≡ y
same_game s x y f g here = λ i. record { last = here i; start = start i; events = events i }
  where
    order : shown_cmp s.side x y ≡ Equal
    order = both_le (shown_cmp s.side x y) (f.least y g.explains (sym here)) (subst (λ (o : Ordering). is_le o ≡ true) ((shown_total s.side).antisymm y x) (g.least x f.explains here))

    parts : (position_cmp x.start y.start ≡ Equal) × (slice_cmp move_cmp (their_moves s.side x) (their_moves s.side y) ≡ Equal)
    parts = both_equal (position_cmp x.start y.start) (slice_cmp move_cmp (their_moves s.side x) (their_moves s.side y)) order

    start : x.start ≡ y.start
    start = same_position x.start y.start parts.0

    events : x.events ≡ y.events
    events =
        sym (tries_are s x f.explains)
        ∙ (ap (events_by s.side s.entries) (same_moves (their_moves s.side x) (their_moves s.side y) parts.1) ∙ tries_are s y g.explains)

same_games : (s : SheetState) (xs ys : List ShownState) → All (IsLeast s) xs → All (IsLeast s) ys → map last_of xs ≡ map last_of ys → xs ≡ ys
same_games s [] [] f g h = refl
same_games s [] (y ∷ ys) f g h = absurd cc
same_games s (x ∷ xs) [] f g h = absurd cc
same_games s (x ∷ xs) (y ∷ ys) f g h =
    let here : x.last ≡ y.last = cc in
    let rest : map last_of xs ≡ map last_of ys = cc in
    λ i. same_game s x y (All-head (IsLeast s) x xs f) (All-head (IsLeast s) y ys g) here i ∷ same_games s xs ys (All-tail (IsLeast s) x xs f) (All-tail (IsLeast s) y ys g) rest i

pub shown_once : ShownAreOnce
shown_once s xs ys f g =
    same_games s xs ys f.least g.least
    (same_members (map last_of xs) (map last_of ys) f.possible.ascending g.possible.ascending (λ p i. (g.possible.exact p).1 ((f.possible.exact p).0 i)) (λ p i. (f.possible.exact p).1 ((g.possible.exact p).0 i)))
