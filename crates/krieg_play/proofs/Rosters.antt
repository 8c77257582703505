-- What a turn of two players makes of both sides of a live game, each of which is a team of seats.
use Rattle.std.proofs.Common.{◌≡◌, ℕ, ◌-◌, ◌<◌, ◌≤◌, List, length, refl, sym, ap, inl, inr, arith, Result, Ok, Err, Option, Some, None}
use Rattle.std.specs.Prelude.{option_map}
use Rattle.krieg_play.proofs.Common.{Pos, Side, White, Black, told_line, Wild16, Line, GameState, judged, line_for, Event, Account, SeatFault, Team, Sides, sides, seats_of, AsksTeam, TellsTeam, IsLastOnes, lines_to, seat_count, TellsBoth, AsksOne, Passes, AskOutcome, Tried, Relieved, PlayFault, BothHear, due_in, IsStepped, next_turn, AsksOf, Follows, TakesTurns}
use Rattle.krieg_play.specs.declared.ask_outcome.AskOutcome.TheVariants.{Left}
use Rattle.krieg_play.proofs.HeardLines.{told_wild}
use Rattle.krieg_play.proofs.BothSides.{white_untold, black_untold, both_told, asks_white, asks_black}
use Rattle.krieg_play.proofs.Judging.{IsJudged, judges}
use Rattle.krieg_play.proofs.Turning.{passes_tried, passes_relieved, passes_left, passes_fault}

-- in the dialect that tells all, a line is told as it is
wild : (o : Option Line) → option_map (told_line Wild16) o ≡ o
wild None = refl
wild (Some l) = ap Some (told_wild l)

module _ {T X : Type 0} (account : X → Account) (f : T → Team X) where
  abbrev asks : List Line → Result AskOutcome SeatFault → T → T → Type 0
  asks lines r x y = AsksTeam account r (f x) (f y) lines

  abbrev hears : List Line → List Line → Result (Unit {0}) SeatFault → T → T → Type 0
  hears lines due r x y = TellsTeam account r (f x) (f y) lines due

  -- both were told, or not
  pub both_heard : (r : Result (Unit {0}) PlayFault) (lines due : Side → List Line) (w w' b b' : T) → BothHear hears hears r lines due w w' b b' →
      TellsBoth account r (sides (f w) (f b)) (sides (f w') (f b')) lines due
  both_heard (Ok _) lines due w w' b b' h = both_told account (Ok tt) (Ok tt) _ _ lines due refl h.0.tells refl h.1.tells
  both_heard (Err fault) lines due w w' b b' (met, inl h) = white_untold account (Err met) met fault _ _ lines due h.0 refl h.1.tells h.1.last (ap f h.2)
  both_heard (Err fault) lines due w w' b b' (met, inr h) = black_untold account (Ok tt) (Err met) met fault _ _ lines due h.0 refl h.1.tells refl h.2.tells h.2.last

  no_more : (r : Result (Unit {0}) PlayFault) (lines due : Side → List Line) (w w' b b' : T) → BothHear hears hears r lines due w w' b b' →
      seat_count (sides (f w') (f b')) ≤ seat_count (sides (f w) (f b))
  no_more (Ok _) lines due w w' b b' h = omega (arith, h.0.no_more, h.1.no_more)
  no_more (Err fault) lines due w w' b b' (met, inl h) = omega (arith, h.1.no_more, ap (λ t. length (f t).seats) h.2)
  no_more (Err fault) lines due w w' b b' (met, inr h) = omega (arith, h.1.no_more, h.2.no_more)

  -- one side was asked
  record IsAsked (who : Side) (r : Result AskOutcome SeatFault) (lines : Side → List Line) (before now : Sides X) : Type 0 where
    one : AsksOne account who r before now lines
    none_more : seat_count now ≤ seat_count before
    fewer : r ≡ Ok Relieved → seat_count now < seat_count before
    last : IsLastOnes r → length (seats_of who now) ≡ 1

  asked : (who : Side) (r : Result AskOutcome SeatFault) (lines : Side → List Line) (w w' b b' : T) → AsksOf asks asks hears hears who r lines w w' b b' →
      IsAsked who r lines (sides (f w) (f b)) (sides (f w') (f b'))
  asked White r lines w w' b b' (h, same) = let seats = ap (λ t. length (f t).seats) same in record {
    one = asks_white account White r _ _ lines refl h.takes (ap f same);
    none_more = omega (arith, h.no_more, seats);
    fewer = λ e. omega (arith, h.fewer e, seats);
    last = h.last;
  }
  asked Black r lines w w' b b' (h, same) = let seats = ap (λ t. length (f t).seats) same in record {
    one = asks_black account Black r _ _ lines refl h.takes (ap f same);
    none_more = omega (arith, h.no_more, seats);
    fewer = λ e. omega (arith, h.fewer e, seats);
    last = h.last;
  }

  module _ (start : Pos) (seats : ℕ) (game : GameState) where
    judged_by : (told : Result (Unit {0}) PlayFault) (e : Event) (w w' b b' : T) (game' : GameState) → IsStepped e game game' →
        BothHear hears hears told (λ side. lines_to start side game'.log) (due_in Wild16 (judged game.position e)) w w' b b' → IsJudged account told start e (sides (f w) (f b)) (sides (f w') (f b')) game game'
    judged_by told e w w' b b' game' s h = record {
      judgement = judged game.position e;
      is_judged = refl;
      log = s.log;
      position = s.position;
      spare = s.spare;
      no_more = no_more told _ _ w w' b b' h;
      tells = rw (sym (wild (line_for White (judged game.position e))), sym (wild (line_for Black (judged game.position e)))) (both_heard told _ _ w w' b b' h);
    }

    follows : (said : Result AskOutcome SeatFault) (result : Result (Option Side) PlayFault) (w m w' b n b' : T) (game' : GameState) → seats - seat_count (sides (f w) (f b)) < game.spare →
        IsAsked game.position.side said (λ side. lines_to start side game.log) (sides (f w) (f b)) (sides (f m) (f n)) → Follows asks asks hears hears said result Wild16 start game.position.side m w' n b' game game' →
        Passes account result start seats (sides (f w) (f b)) (sides (f w') (f b')) game game'
    follows (Ok (Tried mv)) result w m w' b n b' game' less a (told, result_is, stepped, h) =
        rw result_is (passes_tried account game.position.side (Ok (Tried mv)) start seats (sides (f w) (f b)) (sides (f m) (f n)) game less a.none_more a.one (next_turn told) mv (sides (f w') (f b')) game' refl refl
        (judges account told start _ _ _ game game' (judged_by told _ m w' n b' game' stepped h)))
    follows (Ok Relieved) result w m w' b n b' game' less a (result_is, white, black, same) =
        rw (result_is, white, black, same) (passes_relieved account game.position.side (Ok Relieved) start seats (sides (f w) (f b)) (sides (f m) (f n)) game less a.none_more a.one (a.fewer refl) refl refl)
    follows (Ok Left) result w m w' b n b' game' less a (result_is, white, black, same) =
        rw (result_is, white, black, same) (passes_left account game.position.side (Ok Left) start seats (sides (f w) (f b)) (sides (f m) (f n)) game less a.none_more a.one refl refl)
    follows (Err met) result w m w' b n b' game' less a (result_is, white, black, same) =
        rw (result_is, white, black) (passes_fault account game.position.side (Err met) start seats (sides (f w) (f b)) (sides (f m) (f n)) game less a.none_more a.one met _ game' refl refl refl (λ e. a.last (inr e)))

  -- a turn
  pub passes : (result : Result (Option Side) PlayFault) (start : Pos) (seats : ℕ) (w w' b b' : T) (game game' : GameState) → seats - seat_count (sides (f w) (f b)) < game.spare →
      TakesTurns asks asks hears hears result Wild16 start w w' b b' game game' → Passes account result start seats (sides (f w) (f b)) (sides (f w') (f b')) game game'
  passes result start seats w w' b b' game game' less t =
      follows start seats game t.said result w t.white w' b t.black b' game' less (asked game.position.side t.said _ w t.white b t.black t.asked) t.follows
