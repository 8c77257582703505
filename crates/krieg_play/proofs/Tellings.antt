-- Lines told one after another.
use Rattle.std.proofs.Common.{◌≡◌, ℕ, ◌+◌, ◌<◌, ◌≤◌, length, take, drop, take-append-drop, List, [], ◌∷◌, ◌++◌, Result, Ok, Err, refl, sym, ap, ◌∙◌, subst, append_assoc}
use Rattle.std.specs.Prelude.{slice_index_or, Option, Some, None, option_to_list}
use Rattle.std.specs.List.{cons_option}
use Rattle.std.proofs.lemmas.List.{append-nil, take_more}
use Rattle.std.proofs.lemmas.List.Elements.{filter_map-append}
use Rattle.krieg_play.proofs.Common.{Rose, Line, Side, Judged, line_for, lines_for, Account, Told, SeatFault, Failed, ToldAll, BreaksOff}
use Rattle.krieg_seats.specs.declared.seat.SeatFault.TheVariants.{NoMemory}

-- a seat that heard some more lines
abbrev pub hearing : Account → List Line → Account
hearing a lines = record a { heard = a.heard ++ lines }

-- no line, and lines in two parts
pub hears_nothing : (a : Account) → a ≡ hearing a []
hears_nothing a = ap (λ (ls : List Line). record a { heard = ls }) (sym (append-nil a.heard))

pub hears_more : (a b c : Account) (before more : List Line) → b ≡ hearing a before → c ≡ hearing b more → c ≡ hearing a (before ++ more)
hears_more a b c before more e f =
    f ∙ (ap (λ (x : Account). hearing x more) e ∙ ap (λ (ls : List Line). record a { heard = ls }) (append_assoc a.heard before more))

-- the same with another count of faults
faulty : (a b : Account) (before : List Line) → b ≡ hearing a before → (n : ℕ) → record b { faults = n } ≡ record a { heard = a.heard ++ before; faults = n }
faulty a b before e n = ap (λ (x : Account). record x { faults = n }) e

-- a line that was not told
pub one_told : (b c : Account) (line : Line) (fault : SeatFault) → Told line (Err fault) b c → ToldAll (line ∷ []) (Err fault) b c
one_told b c line Failed h = (record { told = []; due = line ∷ []; split = refl; now_is = h.1 ∙ faulty b b [] (hears_nothing b) c.faults }, h.0)
one_told b c line NoMemory h = (record { told = []; due = line ∷ []; split = refl; now_is = h.1 ∙ faulty b b [] (hears_nothing b) c.faults }, h.0)

-- the same where a call before told some of them
breaks_later_in : (a b c : Account) (before later lines : List Line) → b ≡ hearing a before → before ++ later ≡ lines → BreaksOff later b c → BreaksOff lines a c
breaks_later_in a b c before later lines e split h = record {
  told = before ++ h.told;
  due = h.due;
  split = append_assoc before h.told h.due ∙ (ap (λ (ls : List Line). before ++ ls) h.split ∙ split);
  now_is = h.now_is ∙ (ap (λ (x : Account). record x { heard = x.heard ++ h.told; faults = c.faults }) e ∙ ap (λ (ls : List Line). record a { heard = ls; faults = c.faults }) (append_assoc a.heard before h.told));
}

pub breaks_later : (a b c : Account) (before later lines : List Line) (fault : SeatFault) → b ≡ hearing a before → before ++ later ≡ lines → ToldAll later (Err fault) b c → ToldAll lines (Err fault) a c
breaks_later a b c before later lines Failed e split h = (breaks_later_in a b c before later lines e split h.0, subst (λ (x : Account). Rose x.faults c.faults) e h.1)
breaks_later a b c before later lines NoMemory e split h = (breaks_later_in a b c before later lines e split h.0, subst (λ (x : Account). x.faults ≤ c.faults) e h.1)

-- the lines of one try: one or none
cons_of : (o : Option Line) (ls : List Line) → cons_option o ls ≡ option_to_list o ++ ls
cons_of None ls = refl
cons_of (Some l) ls = refl

pub lone : (who : Side) (j : Judged) → lines_for who (j ∷ []) ≡ option_to_list (line_for who j)
lone who j = cons_of (line_for who j) [] ∙ append-nil (option_to_list (line_for who j))

-- the lines of one try more
pub lines_next : (who : Side) (log : List Judged) (i : ℕ) (j : Judged) → i < length log → j ≡ slice_index_or log i j →
    lines_for who (take (i + 1) log) ≡ lines_for who (take i log) ++ option_to_list (line_for who j)
lines_next who log i j h e =
    ap (lines_for who) (take_more log i j h)
    ∙ (ap (λ (x : Judged). lines_for who (take i log ++ x ∷ [])) (sym e)
    ∙ (filter_map-append (line_for who) (take i log) (j ∷ []) ∙ ap (λ (ls : List Line). lines_for who (take i log) ++ ls) (lone who j)))

-- the lines of the tries before one, of it, and of those behind it
pub lines_split : (who : Side) (log : List Judged) (i : ℕ) (j : Judged) → i < length log → j ≡ slice_index_or log i j →
    lines_for who (take i log) ++ (option_to_list (line_for who j) ++ lines_for who (drop (i + 1) log)) ≡ lines_for who log
lines_split who log i j h e =
    sym (append_assoc (lines_for who (take i log)) (option_to_list (line_for who j)) (lines_for who (drop (i + 1) log)))
    ∙ (ap (λ (ls : List Line). ls ++ lines_for who (drop (i + 1) log)) (sym (lines_next who log i j h e))
    ∙ (sym (filter_map-append (line_for who) (take (i + 1) log) (drop (i + 1) log)) ∙ ap (lines_for who) (take-append-drop (i + 1) log)))

-- a call that told a front part of some lines told a front part of more
breaks_front : (b c : Account) (now more : List Line) → BreaksOff now b c → BreaksOff (now ++ more) b c
breaks_front b c now more h = record { told = h.told; due = h.due ++ more; split = sym (append_assoc h.told h.due more) ∙ ap (λ (ls : List Line). ls ++ more) h.split; now_is = h.now_is }

pub fails_front : (b c : Account) (now more : List Line) (fault : SeatFault) → ToldAll now (Err fault) b c → ToldAll (now ++ more) (Err fault) b c
fails_front b c now more Failed h = (breaks_front b c now more h.0, h.1)
fails_front b c now more NoMemory h = (breaks_front b c now more h.0, h.1)

-- a line that is there was told, or none was
pub told_some : (o : Option Line) (l : Line) (r : Result (Unit {0}) SeatFault) (b c : Account) → o ≡ Some l → Told l r b c → ToldAll (option_to_list o) r b c
told_some o l (Ok x) b c e h = subst (λ (p : Option Line). ToldAll (option_to_list p) (Ok x) b c) (sym e) h
told_some o l (Err fault) b c e h = subst (λ (p : Option Line). ToldAll (option_to_list p) (Err fault) b c) (sym e) (one_told b c l fault h)

pub told_none : (o : Option Line) (r : Result (Unit {0}) SeatFault) (b : Account) → o ≡ None → r ≡ Ok tt → ToldAll (option_to_list o) r b b
told_none o r b e f = subst (λ (p : Option Line). ToldAll (option_to_list p) r b b) (sym e) (subst (λ (s : Result (Unit {0}) SeatFault). ToldAll [] s b b) (sym f) (hears_nothing b))

-- the first of the lines was told, and then the others, or not
pub told_then : (r : Result (Unit {0}) SeatFault) (a b c : Account) (l : Line) (ls : List Line) → Told l (Ok tt) a b → ToldAll ls r b c → ToldAll (l ∷ ls) r a c
told_then (Ok x) a b c l ls e h = hears_more a b c (l ∷ []) ls e h
told_then (Err fault) a b c l ls e h = breaks_later a b c (l ∷ []) ls (l ∷ ls) fault e refl h

pub fails_first : (a b : Account) (l : Line) (ls : List Line) (fault : SeatFault) → Told l (Err fault) a b → ToldAll (l ∷ ls) (Err fault) a b
fails_first a b l ls fault h = fails_front a b (l ∷ []) ls fault (one_told a b l fault h)

pub ruleset tellings = (told_some, told_none, told_then, fails_first)
