-- How a game that a plan leads begins.
use Rattle.std.proofs.Common.{◌≡◌, ℕ, List, [], ◌∷◌, ◌++◌, refl, sym, ap, subst, ◌∙◌, inl, arith, Result, Ok, Err}
use Rattle.krieg_robot.proofs.Common.{other, Pos, Side, opening, told_line, Line, Opens, GameState, heard, Stop, Account, new_account, Guidance, Follower, IsLed, IsBroken, hearing, BothTold, IsUnderway, LeadFault, NoMemory}
use Rattle.krieg_play.proofs.Serving.{serves_none, only_hears}
use Rattle.krieg_robot.proofs.Breaking.{IsShort, breaks_by}

abbrev begun_game : Pos → ℕ → GameState
begun_game start n = record { position = start; log = []; spare = n }

begun_at : (f : Guidance) (start : Pos) (n : ℕ) (a a' : Account) (s' : Follower) → s'.guide ≡ f → s'.account.heard ≡ heard f.dialect start [] f.side → a' ≡ hearing a (heard f.dialect start [] (other f.side)) →
    IsUnderway f start n a a' s' (begun_game start n)
begun_at f start n a a' s' guide_is follows is = record {
  whole = record {
    is_game = record { log = refl; position = refl; on_turn = tt; places = omega arith };
    tried = tt;
    vain = 0;
    serves = only_hears a a' (heard f.dialect start [] (other f.side)) (ap (λ (x : Account). x.asks) is) (ap (λ (x : Account). x.said) is) (ap (λ (x : Account). x.heard) is);
    counts = (ap (λ (x : Account). x.faults) is, ap (λ (x : Account). x.leaves) is, refl);
  };
  guide_is = guide_is;
  follows = follows;
}

-- a game in which nobody was asked
unasked : (f : Guidance) (start : Pos) (n : ℕ) (a a' : Account) (fault : LeadFault) (told due : List Line) → IsShort fault told due 0 a a' → told ++ due ≡ heard f.dialect start [] (other f.side) →
    IsBroken f start n a a' fault
unasked f start n a a' fault told due short split = record {
  game = begun_game start n;
  is_game = record { log = refl; position = refl; on_turn = tt; places = omega arith };
  tried = tt;
  breaks = breaks_by [] [] [] (heard f.dialect start [] (other f.side)) 0 a short (serves_none a) (refl, refl, refl) split;
  at_once = inl (refl, refl);
}

game_is : (start : Pos) (game : GameState) → game.position ≡ start → game.log ≡ [] → begun_game start game.spare ≡ game
game_is start game p l = λ i. record { position = sym p i; log = sym l i; spare = game.spare }

-- both were told the opening words, or not
pub record IsBegun (r : Result (Unit {0}) LeadFault) (start : Pos) (a a' : Account) (s s' : Follower) (game : GameState) : Type 0 where
  pub line : Line
  pub fresh_is : s.account ≡ new_account
  pub position : game.position ≡ start
  pub log : game.log ≡ []
  pub line_is : line ≡ told_line s.guide.dialect (Opens (opening start))
  pub tells : BothTold r s.guide.side s s' (line ∷ []) a a' (line ∷ [])

module _ {r : Result (Unit {0}) LeadFault} {start : Pos} {a a' : Account} {s s' : Follower} {game : GameState} (b : IsBegun r start a a' s s' game) where
  first_line : (who : Side) → b.line ∷ [] ≡ heard s.guide.dialect start [] who
  first_line who = ap (λ (x : Line). x ∷ []) b.line_is

  pub begins : r ≡ Ok tt → IsUnderway s.guide start game.spare a a' s' game
  begins is =
      let t = subst (λ (x : Result (Unit {0}) LeadFault). BothTold x s.guide.side s s' (b.line ∷ []) a a' (b.line ∷ [])) is b.tells in
      subst (IsUnderway s.guide start game.spare a a' s') (game_is start game b.position b.log)
      (begun_at s.guide start game.spare a a' s' t.0.0 (t.0.1 ∙ (ap (λ (x : Account). x.heard ++ b.line ∷ []) b.fresh_is ∙ first_line s.guide.side))
      (t.1 ∙ ap (hearing a) (first_line (other s.guide.side))))

  pub breaks : (fault : LeadFault) → r ≡ Err fault → IsBroken s.guide start game.spare a a' fault
  breaks fault is =
      let p = (subst (λ (x : Result (Unit {0}) LeadFault). BothTold x s.guide.side s s' (b.line ∷ []) a a' (b.line ∷ [])) is b.tells).0 in
      unasked s.guide start game.spare a a' fault p.told p.due
      (record {
        serves = only_hears a a' p.told (ap (λ (x : Account). x.asks) p.now_is) (ap (λ (x : Account). x.said) p.now_is) (ap (λ (x : Account). x.heard) p.now_is);
        counts = p.counts;
        leaves = ap (λ (x : Account). x.leaves) p.now_is;
        few = omega arith;
      })
      (p.split ∙ first_line (other s.guide.side))

-- a game for which there was no room
pub never_begun : (f : Guidance) (start : Pos) (n : ℕ) (a : Account) → IsBroken f start n a a NoMemory
never_begun f start n a =
    unasked f start n a a NoMemory [] (heard f.dialect start [] (other f.side)) (record { serves = serves_none a; counts = omega arith; leaves = refl; few = omega arith }) refl

-- the same game by the names of a caller
pub led_from : (f g : Guidance) (start : Pos) (n k : ℕ) (a b : Account) (game : GameState) (stop : Stop) → g ≡ f → n ≡ k → IsLed g start n a b game stop → IsLed f start k a b game stop
led_from f g start n k a b game stop guide_is asks_is h =
    subst (λ (x : Guidance). IsLed x start k a b game stop) guide_is (subst (λ (x : ℕ). IsLed g start x a b game stop) asks_is h)

pub broken_from : (f g : Guidance) (start : Pos) (n k : ℕ) (a b : Account) (fault : LeadFault) → g ≡ f → n ≡ k → IsBroken g start n a b fault → IsBroken f start k a b fault
broken_from f g start n k a b fault guide_is asks_is h =
    subst (λ (x : Guidance). IsBroken x start k a b fault) guide_is (subst (λ (x : ℕ). IsBroken g start x a b fault) asks_is h)
