-- A session's text as a format: what is read is what is spelled, its fault is the first bad line, and what is written is read back.
use Rattle.std.proofs.Common.{◌≡◌, inl, ℕ, true, List, [], ◌∷◌, ◌++◌, map, Option, Some, None, Result, Ok, Err, refl, sym, ap, subst, ◌∙◌}
use Rattle.std.specs.Prelude.{codes, IfOk}
use Rattle.std.proofs.lemmas.List.Elements.{All-nil, All-cons, All-head, All-tail}
use Rattle.krieg_umpire.proofs.Common.{Pos, Side, White, Black, Move, TextFault, TextKind, ◌>>=◌, behind, lines, is_line, AreLines, position_text, move_of, move_text, IsOnBoard, Spells, taken, up_to_last, whole, Step, goes_on, stops, position_form, start_form, side_mark, joined, Has, behind_or, Always, IsReading, Behind, One, UpToLast, Dialect, version_lines, version_at, SpellVersion, Event, Stop, Ended, Left, AsksUsed, SessionState, tried, white_try, try_form, last_lines, last_form, unless_last, line_form, led, event_form, events_at, session_at, session_version_at, start_at, SpellsTry, SpellsSession, SessionGrammar, SpellsStart, StartGrammar, event_line, last_text, session_lines, session_text, sheet_of, AreTries, IsGame, SessionsAreReadBack, SheetsAreReadBack, SessionLine, Try, Last}
use Rattle.krieg_text.specs.Reading.{Gives, GivesOn, Place}
use Rattle.krieg_fen.proofs.CleanTexts.{move_line, position_line, mark_line}
use Rattle.krieg_fen.proofs.FormSpellings.{positions, starts_form}
use Rattle.krieg_text.proofs.Formats.{IsFormat, word_is, line_format, last_part, part_then, IsStep, IsItemForm, items_format, whole_found, whole_only, reading}
use Rattle.krieg_text.proofs.Grammars.{untold, KeepsTo, line_keeps, bind_keeps, then_keeps, made_keeps}
use Rattle.krieg_fen.proofs.ListGrammars.{lone_kings, kings_valid, written_form, some_start}
use Rattle.krieg_text.proofs.FormGrammars.{form_of}
use Rattle.krieg_text.proofs.LoopGrammars.{Goes, HasLoopForm, loop_keeps}
use Rattle.krieg_text.proofs.LineTexts.{line_append, lines_append, lines_again}
use Rattle.krieg_fen.proofs.ListSpellings.{written_spells}
use Rattle.krieg_fen.proofs.MoveTexts.{move_spells, move_again}
use Rattle.krieg_text.proofs.NameLemmas.{behind_spells, behind_again}
use Rattle.krieg_text.proofs.Takings.{loop_refused}
use Rattle.krieg_text.proofs.Writings.{put_lines_is, joined_alone}
use Rattle.krieg_wordtext.proofs.VersionFormats.{version_format, version_keeps}
use Rattle.krieg_wordtext.proofs.VersionTexts.{version_are}
use Rattle.krieg_sheet.proofs.SheetsAgain.{sheet_again}
use Rattle.krieg_umpire.proofs.SheetsOfGames.{sheets_in_place}

-- The forms.

tried_is : (who : Side) (l t : List ℕ) (e : Event) → l ≡ side_mark who ++ t → tried who (move_of t) ≡ Ok e → SpellsTry l e
tried_is who l t e front h = go (move_of t) refl h
  where
    go : (o : Option Move) → move_of t ≡ o → tried who o ≡ Ok e → SpellsTry l e
    go None is k = absurd cc
    go (Some m) is k =
        let same : ◌≡◌ {A = Event} (record { who = who; mv = m }) e = cc in
        let spelled = move_spells t m is in
        subst (SpellsTry l) same (front ∙ ap (λ (x : List ℕ). side_mark who ++ x) spelled.1, spelled.0)

try_is : (l : List ℕ) (e : Event) → try_form l ≡ Ok e → SpellsTry l e
unfolding try_form
try_is l e h = white (behind (codes "w ") l) refl h
  where
    black : (o : Option (List ℕ)) → behind (codes "b ") l ≡ o → behind_or (λ t. tried Black (move_of t)) o ≡ Ok e → SpellsTry l e
    black None is k = absurd cc
    black (Some t) is k = tried_is Black l t e (behind_spells (codes "b ") l t is) k

    white : (o : Option (List ℕ)) → behind (codes "w ") l ≡ o → white_try o l ≡ Ok e → SpellsTry l e
    white None is k = black (behind (codes "b ") l) refl k
    white (Some t) is k = tried_is White l t e (behind_spells (codes "w ") l t is) k

step_is : (es : List Event) (l : List ℕ) (step : Step (List Event) (List Event × Option Stop)) → event_form es l ≡ Ok step → IsStep (λ before line e. SpellsTry line e) (λ before line stop. line ≡ last_text stop) es l step
unfolding line_form last_form
step_is es l step h = by_last (last_form l) refl h
  where
    by_try : (r : Result Event TextKind) → try_form l ≡ r → ((r >>= λ e. Ok (Try e)) >>= λ k. Ok (led es k)) ≡ Ok step → IsStep (λ before line e. SpellsTry line e) (λ before line stop. line ≡ last_text stop) es l step
    by_try (Err kind) is k = absurd cc
    by_try (Ok e) is k = let same : led es (Try e) ≡ step = cc in subst (IsStep (λ before line e. SpellsTry line e) (λ before line stop. line ≡ last_text stop) es l) same (e, refl, try_is l e is)

    by_last : (o : Option (Option Stop)) → last_form l ≡ o → (unless_last o l >>= λ k. Ok (led es k)) ≡ Ok step → IsStep (λ before line e. SpellsTry line e) (λ before line stop. line ≡ last_text stop) es l step
    by_last (Some stop) is k =
        let same : led es (Last stop) ≡ step = cc in
        subst (IsStep (λ before line e. SpellsTry line e) (λ before line stop. line ≡ last_text stop) es l) same (refl, word_is last_text last_lines l stop (refl, (refl, (refl, (refl, (refl, tt))))) is)
    by_last None is k = by_try (try_form l) refl k

not_white : (t : List ℕ) → behind (codes "w ") (codes "b " ++ t) ≡ None
unfolding behind
not_white t = refl

try_again : (who : Side) (m : Move) → IsOnBoard m → line_form (side_mark who ++ move_text m) ≡ Ok (Try (record { who = who; mv = m }))
unfolding line_form last_form try_form
try_again White m there = ap (λ o. white_try o (codes "w " ++ move_text m) >>= λ e. Ok (Try e)) (behind_again (codes "w ") (move_text m)) ∙ ap (λ o. tried White o >>= λ e. Ok (Try e)) (move_again m there)
try_again Black m there =
    ap (λ o. white_try o (codes "b " ++ move_text m) >>= λ e. Ok (Try e)) (not_white (move_text m))
    ∙ ap (λ o. behind_or (λ t. tried Black (move_of t)) o >>= λ e. Ok (Try e)) (behind_again (codes "b ") (move_text m)) ∙ ap (λ o. tried Black o >>= λ e. Ok (Try e)) (move_again m there)

last_again : (stop : Option Stop) → line_form (last_text stop) ≡ Ok (Last stop)
unfolding line_form last_form
last_again None = refl
last_again (Some Ended) = refl
last_again (Some (Left White)) = refl
last_again (Some (Left Black)) = refl
last_again (Some AsksUsed) = refl

events_form : IsItemForm event_form (λ before line e. SpellsTry line e) (λ before line stop. line ≡ last_text stop)
events_form = record {
  found = step_is;
  one = λ es l e s. ap (λ (t : List ℕ). line_form t >>= λ k. Ok (led es k)) s.0 ∙ ap (λ (r : Result SessionLine TextKind). r >>= λ k. Ok (led es k)) (try_again e.who e.mv s.1);
  last = λ es l stop s. ap (λ (t : List ℕ). line_form t >>= λ k. Ok (led es k)) s ∙ ap (λ (r : Result SessionLine TextKind). r >>= λ k. Ok (led es k)) (last_again stop);
}

-- The format.

session_format : IsFormat session_at SpellsSession
unfolding session_at session_version_at
session_format =
    part_then (version_at (codes "krieg session ")) _ Always (λ d ls. SpellVersion (codes "krieg session ") ls d) _ (λ s. s.dialect) Always (version_format (codes "krieg session ")) (λ d h.
    part_then (taken start_form) _ Always (λ p. One (Behind (codes "start ") (λ t. Spells t p))) _ (λ s. s.start) (λ s. (s.dialect ≡ d) × Unit {0}) (line_format start_form _ starts_form) (λ p h.
    last_part events_at Always (λ x. UpToLast (λ before line e. SpellsTry line e) (λ before line stop. line ≡ last_text stop) [] x.0 x.1)
    (λ x. record { dialect = d; start = p; events = x.0; stop = x.1 }) (λ s. (s.events, s.stop)) (λ s. (s.start ≡ p) × ((s.dialect ≡ d) × Unit {0}))
    (λ x h. (refl, (refl, tt))) (λ s k. tt) (λ x. refl) (λ s k. ap (λ (t : Pos). record { dialect = d; start = t; events = s.events; stop = s.stop }) (sym k.0) ∙ ap (λ (t : Dialect). record { dialect = t; start = s.start; events = s.events; stop = s.stop }) (sym k.1.0))
    (items_format event_form _ _ events_form)) (λ s k. tt)) (λ s k. tt)

-- The grammar.

no_try : (stop : Option Stop) (e : Event) → try_form (last_text stop) ≡ Ok e → ⊥
unfolding try_form behind
no_try None e h = absurd cc
no_try (Some Ended) e h = absurd cc
no_try (Some (Left White)) e h = absurd cc
no_try (Some (Left Black)) e h = absurd cc
no_try (Some AsksUsed) e h = absurd cc

last_is : (l : List ℕ) (stop : Option Stop) → last_form l ≡ Some stop → l ≡ last_text stop
unfolding last_form
last_is l stop e = word_is last_text last_lines l stop (refl, (refl, (refl, (refl, (refl, tt))))) e

abbrev step_of : List Event → List ℕ → Option (Option Stop) → Result Event TextKind → Result (Step (List Event) (List Event × Option Stop)) TextKind
step_of es l None r = (r >>= λ e. Ok (Try e)) >>= λ k. Ok (led es k)
step_of es l (Some stop) r = Ok (led es (Last stop))

event_step : (es : List Event) (l : List ℕ) → event_form es l ≡ step_of es l (last_form l) (try_form l)
unfolding line_form
event_step es l = go (last_form l)
  where
    go : (o : Option (Option Stop)) → (unless_last o l >>= λ k. Ok (led es k)) ≡ step_of es l o (try_form l)
    go None = refl
    go (Some stop) = refl

lines_form : HasLoopForm event_form (λ es. Unit {0}) Always (λ line. (e : Event) × (try_form line ≡ Ok e)) (λ line. (stop : Option Stop) × (line ≡ last_text stop))
unfolding line_form
lines_form = record {
  keeps = λ es more l i h. (tt, keeps es more l (last_form l) (try_form l) refl (sym (event_step es l) ∙ h));
  ends = λ es x l i h. (tt, ends es x l (last_form l) refl (try_form l) (sym (event_step es l) ∙ h));
  item = λ es l i f. subst Goes (sym (event_step es l)) (item es l f.0 f.1 (last_form l) refl);
  last = λ es l i f. ((es, f.0), ap (λ (t : List ℕ). event_form es t) f.1 ∙ ap (λ (r : Result SessionLine TextKind). r >>= λ k. Ok (led es k)) (last_again f.0));
  some = (codes "end", (None, refl));
}
  where
    keeps : (es more : List Event) (l : List ℕ) (o : Option (Option Stop)) (r : Result Event TextKind) → try_form l ≡ r → step_of es l o r ≡ Ok (goes_on more) → (e : Event) × (try_form l ≡ Ok e)
    keeps es more l (Some stop) r is h = absurd cc
    keeps es more l None (Err kind) is h = absurd cc
    keeps es more l None (Ok e) is h = (e, is)

    ends : (es : List Event) (x : List Event × Option Stop) (l : List ℕ) (o : Option (Option Stop)) → last_form l ≡ o → (r : Result Event TextKind) → step_of es l o r ≡ Ok (stops x) → (stop : Option Stop) × (l ≡ last_text stop)
    ends es x l (Some stop) is r h = (stop, last_is l stop is)
    ends es x l None is (Err kind) h = absurd cc
    ends es x l None is (Ok e) h = absurd cc

    item : (es : List Event) (l : List ℕ) (e : Event) → try_form l ≡ Ok e → (o : Option (Option Stop)) → last_form l ≡ o → Goes (step_of es l o (try_form l))
    item es l e is (Some stop) end = absurd (no_try stop e (ap try_form (sym (last_is l stop end)) ∙ is))
    item es l e is None end = inl (es ++ e ∷ [], ap (λ (r : Result Event TextKind). step_of es l None r) is)

pub session_keeps : KeepsTo session_at Always untold (λ u. SessionGrammar)
unfolding session_at session_version_at
session_keeps =
    bind_keeps (version_at (codes "krieg session ")) _ Always (λ d. d) (λ d ls. SpellVersion (codes "krieg session ") ls d) Always untold _ (version_keeps (codes "krieg session ")) (λ d h.
    then_keeps (taken start_form) _ Always (One (Has start_form)) Always untold _ (line_keeps start_form Always untold (λ u. Has start_form) (form_of start_form _ _ some_start)) (λ p h.
    made_keeps events_at (λ x. record { dialect = d; start = p; events = x.0; stop = x.1 }) Always untold _ Always untold (λ x h. tt) (λ x. refl)
    (loop_keeps event_form (λ es. Unit {0}) Always _ _ lines_form [] tt)))

-- a line behind tries that is refused
pub events_bad : {X : Type 0} (view : X → List Event × Option Stop) (es : List Event) (from new : Place) (e : TextFault) (all : Result ((List Event × Option Stop) × Place) TextFault) →
    GivesOn {X = SessionLine} (λ l. l) (Err e) new (taken line_form from) → up_to_last event_form es from.number from.left ≡ all → GivesOn view (Err e) new all
events_bad view es from new e all given so = loop_refused event_form line_form es (led es) (λ l. refl) view from new e all given so

pub session_reading : {X : Type 0} (view : X → SessionState) (answer : Result X TextFault) (ls : List (List ℕ)) → Gives view answer (whole session_at ls) → IsReading view session_at Always SpellsSession SessionGrammar ls answer
session_reading view answer ls given = reading view answer session_at Always SpellsSession Always SessionGrammar session_format session_keeps ls given

start_format : IsFormat start_at SpellsStart
start_format = line_format position_form Spells positions

start_keeps : KeepsTo start_at Always untold (λ u. StartGrammar)
start_keeps = line_keeps position_form Always untold (λ u. Has position_form) (form_of position_form _ _ (written_form (lone_kings White) (kings_valid White)))

pub start_reading : (answer : Result Pos TextFault) (ls : List (List ℕ)) → Gives (λ p. p) answer (whole start_at ls) → IsReading (λ p. p) start_at Always SpellsStart StartGrammar ls answer
start_reading answer ls given = reading (λ p. p) answer start_at Always SpellsStart Always StartGrammar start_format start_keeps ls given

-- Lines that spell a session spell a game.

tries_of : (es more : List Event) (stop : Option Stop) (ls : List (List ℕ)) → UpToLast (λ before line e. SpellsTry line e) (λ before line stop. line ≡ last_text stop) es more stop ls → AreTries more
tries_of es [] stop ls s = All-nil (λ e. IsOnBoard e.mv)
tries_of es (e ∷ more) stop [] s = absurd s
tries_of es (e ∷ more) stop (l ∷ ls) s = All-cons (λ e. IsOnBoard e.mv) e more s.0.1 (tries_of (es ++ e ∷ []) more stop ls s.1)

pub game_of : (s : SessionState) (ls : List (List ℕ)) → SpellsSession s ls → IsGame s
game_of s ls is = record { valid = is.second.first.says.says.is_valid; tries = tries_of [] s.events s.stop is.second.back is.second.second }

pub code_game : {X : Type 0} (view : X → SessionState) (answer : Result X TextFault) (ls : List (List ℕ)) → Gives view answer (whole session_at ls) → IfOk answer (λ x. IsGame (view x))
code_game view (Ok x) ls given = game_of (view x) ls (whole_found session_at Always SpellsSession session_format ls (view x) given).1
code_game view (Err e) ls given = tt

pub ruleset sessions = (session_reading, code_game)

pub ruleset starts = (start_reading)

-- The written form.

tries_spelled : (es more : List Event) (stop : Option Stop) → AreTries more → UpToLast (λ before line e. SpellsTry line e) (λ before line stop. line ≡ last_text stop) es more stop (map joined (map event_line more ++ ((last_text stop ∷ []) ∷ [])))
tries_spelled es [] stop tries = (refl, refl)
tries_spelled es (e ∷ more) stop tries = ((refl, All-head (λ e. IsOnBoard e.mv) e more tries), tries_spelled (es ++ e ∷ []) more stop (All-tail (λ e. IsOnBoard e.mv) e more tries))

lines_spell : (s : SessionState) → IsGame s → SpellsSession s (map joined (session_lines s))
lines_spell s game = record {
  front = version_lines (codes "krieg session ") s.dialect;
  back = _;
  is = joined_alone (version_lines (codes "krieg session ") s.dialect) _;
  first = inl refl;
  second = record {
    front = _;
    back = _;
    is = refl;
    first = record { line = _; is = refl; says = record { text = position_text s.start; is = refl; says = written_spells s.start game.valid } };
    second = tries_spelled [] s.events s.stop game.tries;
  };
}

last_line : (stop : Option Stop) → is_line (last_text stop) ≡ true
last_line None = refl
last_line (Some Ended) = refl
last_line (Some (Left White)) = refl
last_line (Some (Left Black)) = refl
last_line (Some AsksUsed) = refl

tries_are : (es : List Event) (stop : Option Stop) → AreLines (map joined (map event_line es ++ ((last_text stop ∷ []) ∷ [])))
tries_are [] stop = (last_line stop, tt)
tries_are (e ∷ es) stop = (line_append (side_mark e.who) (move_text e.mv) (mark_line e.who) (move_line e.mv), tries_are es stop)

session_are : (s : SessionState) → AreLines (map joined (session_lines s))
session_are s =
    subst AreLines (sym (joined_alone (version_lines (codes "krieg session ") s.dialect) _))
    (lines_append (version_lines (codes "krieg session ") s.dialect) _ (version_are (codes "krieg session ") s.dialect refl) (line_append (codes "start ") (position_text s.start) refl (position_line s.start), tries_are s.events s.stop))

-- the written text of a session spells it
pub text_spells : (s : SessionState) → IsGame s → SpellsSession s (lines (session_text s))
unfolding session_text
text_spells s game = subst (SpellsSession s) (sym (ap lines (put_lines_is [] (session_lines s)) ∙ lines_again (map joined (session_lines s)) (session_are s))) (lines_spell s game)

pub sessions_again : SessionsAreReadBack
sessions_again s game = whole_only session_at Always SpellsSession session_format (lines (session_text s)) s tt (text_spells s game)

pub sheets_again : SheetsAreReadBack
sheets_again d p events who valid tries = sheet_again (sheet_of d p events who) (sheets_in_place d p events who valid tries)

pub ruleset writes = (text_spells, sessions_again)

pub ruleset again = (sessions_again, sheets_again)
