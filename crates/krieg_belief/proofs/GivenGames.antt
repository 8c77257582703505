-- Games that are given one by one: one of those that are kept, and those that were given so far with one more.
use Rattle.std.proofs.Common.{◌≡◌, ℕ, ◌+◌, List, [], ◌∷◌, ◌++◌, ◌<◌, length, get_or, drop, take, append_assoc, map, flat_map, Some, Result, Ok, Err, sym, ap, ◌∙◌}
use Rattle.std.specs.Prelude.{slice_get, option_map}
use Rattle.std.proofs.lemmas.List.{append-nil, length-map, take_more, drop_more}
use Rattle.std.proofs.lemmas.Option.{slice_get-map, slice_get_within, get_or_from_slice_get}
use Rattle.std.proofs.lemmas.Grind.{flat_map-append}
use Rattle.krieg_belief.proofs.Common.{Pos, Side, Move, Line, Event, SheetState, Pieces, Written, HasLines, PutsLines, put_lines, ShownState, game_lines, begun, Entries, kept, numbered_tale, tale_of, tales_of, events_by, shown_of, Link}
use Rattle.krieg_text.proofs.Writings.{lines_then}

module _ (s : SheetState) (ps : List Pos) (ls : List Link) (lasts : Entries) where
  -- there are as many games as last positions
  pub as_many : length (map (shown_of s) (tales_of ps ls lasts)) ≡ length lasts
  as_many = length-map (tales_of ps ls lasts) (shown_of s) ∙ length-map lasts (tale_of (kept (map begun ps) ls))

  -- the game that ends in a last position
  pub given : (i : ℕ) (e : Pos × ℕ) → slice_get lasts i ≡ Some e → slice_get (map (shown_of s) (tales_of ps ls lasts)) i ≡ Some (shown_of s (tale_of (kept (map begun ps) ls) e))
  given i e at =
      slice_get-map (shown_of s) (tales_of ps ls lasts) i
      ∙ ap (option_map (shown_of s)) (slice_get-map (tale_of (kept (map begun ps) ls)) lasts i ∙ ap (option_map (tale_of (kept (map begun ps) ls))) at)

  -- the game of an entry, by its parts
  pub game_is : (ls' : List Link) (e : Pos × ℕ) (last start : Pos) (who : Side) (entries : List Line) (replies : List Move) (events : List Event) → last ≡ e.0 → ls' ≡ ls → start ≡ (numbered_tale ps ls' e.1).start →
      replies ≡ (numbered_tale ps ls' e.1).replies → who ≡ s.side → entries ≡ s.entries → events ≡ events_by who entries replies → ◌≡◌ {A = ShownState} (record { last = last; start = start; events = events }) (shown_of s (tale_of (kept (map begun ps) ls) e))
  game_is ls' e last start who entries replies events last_is links_are start_is replies_are who_is entries_are events_are =
      let starts = start_is ∙ ap (λ (x : List Link). (numbered_tale ps x e.1).start) links_are in
      let moves = replies_are ∙ ap (λ (x : List Link). (numbered_tale ps x e.1).replies) links_are in
      let tries = events_are ∙ (λ i. events_by (who_is i) (entries_are i) (moves i)) in
      λ i. record { last = last_is i; start = starts i; events = tries i }

-- one member more
pub one_more : {X : Type 0} (xs : List X) (i : ℕ) (x : X) → slice_get xs i ≡ Some x → take (i + 1) xs ≡ take i xs ++ x ∷ []
one_more {X = X} xs i x at = take_more xs i x (slice_get_within xs i x at) ∙ ap (λ (y : X). take i xs ++ y ∷ []) (get_or_from_slice_get xs i x x at)

entry_next : (ls : List Line) (i : ℕ) (l : Line) → i < length ls → l ≡ get_or ls i l → drop i ls ≡ l ∷ drop (i + 1) ls
entry_next ls i l lt is = drop_more ls i l lt ∙ ap (λ (k : Line). k ∷ drop (i + 1) ls) (sym is)

-- an entry more, which tells a try
pub event_more : (who : Side) (ls : List Line) (i : ℕ) (l : Line) (es es' : List Event) (old new : List Move) (e : Event) (all : List Event) → i < length ls → l ≡ get_or ls i l →
    ((ms : List Line) → events_by who (l ∷ ms) old ≡ e ∷ events_by who ms new) → es' ≡ es ++ e ∷ [] → es ++ events_by who (drop i ls) old ≡ all → es' ++ events_by who (drop (i + 1) ls) new ≡ all
event_more who ls i l es es' old new e all lt is tells pushed h =
    let rest = events_by who (drop (i + 1) ls) new in
    ap (λ (t : List Event). t ++ rest) pushed ∙ append_assoc es (e ∷ []) rest ∙ ap (λ (t : List Event). es ++ t) (sym (tells (drop (i + 1) ls)))
    ∙ sym (ap (λ (ms : List Line). es ++ events_by who ms old) (entry_next ls i l lt is)) ∙ h

-- and one that tells none
pub no_event_more : (who : Side) (ls : List Line) (i : ℕ) (l : Line) (es es' : List Event) (old new : List Move) (all : List Event) → i < length ls → l ≡ get_or ls i l →
    ((ms : List Line) → events_by who (l ∷ ms) old ≡ events_by who ms new) → es' ≡ es → es ++ events_by who (drop i ls) old ≡ all → es' ++ events_by who (drop (i + 1) ls) new ≡ all
no_event_more who ls i l es es' old new all lt is tells same h =
    ap (λ (t : List Event). t ++ events_by who (drop (i + 1) ls) new) same ∙ ap (λ (t : List Event). es ++ t) (sym (tells (drop (i + 1) ls)))
    ∙ sym (ap (λ (ms : List Line). es ++ events_by who ms old) (entry_next ls i l lt is)) ∙ h

-- a line, and those after it
pub one_then : {E : Type 0} (r : Result (Unit {0}) E) (old now next : Written) (l : Pieces) (ls : List Pieces) → HasLines old now (l ∷ []) → PutsLines r now next ls → PutsLines r old next (l ∷ ls)
one_then (Ok u) old now next l ls f g = (g.0 ∙ f.0, g.1 ∙ ap (λ (t : List ℕ). put_lines t ls) f.1)
one_then (Err e) old now next l ls f g = (g.0 ∙ f.0, tt)

-- one game more that is written
pub written_more : (old now next : Written) (games : List ShownState) (i : ℕ) (x : ShownState) → slice_get games i ≡ Some x → HasLines old now (flat_map game_lines (take i games)) → HasLines now next (game_lines x) →
    HasLines old next (flat_map game_lines (take (i + 1) games))
written_more old now next games i x at f g =
    (g.0 ∙ f.0, g.1 ∙ (ap (λ (t : List ℕ). put_lines t (game_lines x)) f.1 ∙ (sym (lines_then old.written (flat_map game_lines (take i games)) (game_lines x)) ∙ ap (put_lines old.written) (sym lines))))
  where
    lines : flat_map game_lines (take (i + 1) games) ≡ flat_map game_lines (take i games) ++ game_lines x
    lines =
        ap (flat_map game_lines) (one_more games i x at)
        ∙ (flat_map-append game_lines (take i games) (x ∷ []) ∙ ap (λ (t : List Pieces). flat_map game_lines (take i games) ++ t) (append-nil (game_lines x)))
