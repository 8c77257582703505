-- The game that `lead` writes of a plan that mates is won, and so is that which `conduct` writes of a strategy.
use Rattle.std.proofs.Common.{◌≡◌, ℕ, true, List, Option, Result, Ok, ap, subst, ◌∙◌}
use Rattle.krieg_cli.proofs.Common.{TextFault, Account, Sides, Guidance, Command, Lead, Conduct, mates_all, Leads, LeadsWhole, LivesBy, IsWonGame, MatesBy, LeadsToMate, ConductsToMate, World, WasRead, status, ComesTo, Runs, Ending, plan_guide_in, strategy_guide_in}
use Rattle.krieg_cli.proofs.WholeGames.{answers, text_read}

module _ {X : Type 0} (account : X → Account) (entry now : Sides X) where
  won : (asks number : ℕ) (g : Guidance) (answer : List ℕ) → Leads account asks number entry now g answer → mates_all g.dialect g.side g.list g.plan g.worst ≡ true → IsWonGame g asks number answer
  won asks number g answer h mates =
      let from = h.is_led.opponent.seats.changes in
      let wins = h.is_led.won mates in
      record {
        start = from.start;
        listed = from.listed;
        game = h.led.game;
        stop = h.led.stop;
        is_game = from.is_led.whole.is_game;
        is_session = h.is_session;
        stays = wins.stays;
        few = wins.few;
        mates = wins.mates;
      }

  module _ (command : ℕ → ℕ → Command) (guide_in : List ℕ → Result Guidance TextFault)
      (comes : (asks number : ℕ) (before after : World) (answer : List ℕ) → ComesTo (LivesBy account entry now) (command asks number) before after (Ok answer) →
      (text : List ℕ) × WasRead before.input after.input text × LeadsWhole account asks number entry now (guide_in text) (Ok answer)) where
    mates_by : (e : Ending) (asked : Option Command) (before after : World) (code : ℕ) → Runs (LivesBy account entry now) e asked before after → code ≡ status e → MatesBy command guide_in asked code before after
    mates_by e asked before after code runs is asks number g text words zero holds spells mates =
        let (answer, came, written, kept) = answers (LivesBy account entry now) e asked (command asks number) before after code runs is words zero in
        let (read, was, made) = comes asks number before after answer came in
        let same : guide_in read ≡ Ok g = ap guide_in (text_read before.input after.input text read holds was) ∙ spells in
        (answer, won asks number g answer (subst (λ r. LeadsWhole account asks number entry now r (Ok answer)) same made) mates, written)

  pub leads_to_mate : (e : Ending) (asked : Option Command) (before after : World) (code : ℕ) → Runs (LivesBy account entry now) e asked before after → code ≡ status e → LeadsToMate asked code before after
  leads_to_mate = mates_by Lead plan_guide_in (λ asks number before after answer came. came)

  pub conducts_to_mate : (e : Ending) (asked : Option Command) (before after : World) (code : ℕ) → Runs (LivesBy account entry now) e asked before after → code ≡ status e → ConductsToMate asked code before after
  conducts_to_mate = mates_by Conduct strategy_guide_in (λ asks number before after answer came. came)
