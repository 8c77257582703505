-- A run with players is a start.
use Rattle.std.proofs.Common.{◌≡◌, ℕ, List, [], ◌∷◌, Option, inl, refl, subst}
use Rattle.krieg_seats.specs.Accounts.{Account}
use Rattle.krieg_play.specs.Teams.{team}
use Rattle.krieg_play.specs.Played.{Sides, sides, seen}
use Rattle.krieg_args.specs.declared.command.Command.{Command}
use Rattle.krieg_args.specs.Files.{Files}
use Rattle.krieg_cli.specs.World.{Stream, World}
use Rattle.krieg_cli.specs.Top.{IsRun}
use Rattle.krieg_cli.proofs.Tables.{run_seen}
use Rattle.krieg_cli.specs.Start.{Made, both_at, one_at, StartsAt}

starts : {X : Type 0} {account : X → Account} {entry now : Sides X} {code : ℕ} {before after : World} {err err' : Stream} (players : Sides Account) (asked : Option Command) →
    seen account entry ≡ players → IsRun account entry now asked code before after err err' → StartsAt players asked code before after err err'
starts {account = account} {now = now} {code = code} {before = before} {after = after} {err = err} {err' = err'} players asked sit run =
    inl (seen account now, subst (λ (s : Sides Account). IsRun (λ a. a) s (seen account now) asked code before after err err') sit (run_seen run))

module _ {X : Type 0} {account : X → Account} {code : ℕ} {before after : World} {err err' : Stream} (asked : Option Command) where
  -- nobody sits
  pub starts_alone : (w wo b bo : List X) (now : Sides X) → w ≡ [] → wo ≡ [] → b ≡ [] → bo ≡ [] →
      IsRun account (sides (team w wo) (team b bo)) now asked code before after err err' → StartsAt (sides (team [] []) (team [] [])) asked code before after err err'
  starts_alone w wo b bo now w_is wo_is b_is bo_is run =
      let sit : seen account (sides (team w wo) (team b bo)) ≡ sides (team [] []) (team [] []) = rw (w_is, wo_is, b_is, bo_is) refl in
      starts (sides (team [] []) (team [] [])) asked sit run

  -- one player, on White's side
  pub starts_leading : (made : Made) (tries told : List ℕ) (opponent : X) (w wo b bo : List X) (now : Sides X) → w ≡ opponent ∷ [] → wo ≡ [] → b ≡ [] → bo ≡ [] → account opponent ≡ made tries told →
      IsRun account (sides (team w wo) (team b bo)) now asked code before after err err' → StartsAt (one_at made (tries, told)) asked code before after err err'
  starts_leading made tries told opponent w wo b bo now w_is wo_is b_is bo_is opponent_is run =
      let sit : seen account (sides (team w wo) (team b bo)) ≡ one_at made (tries, told) = rw (w_is, wo_is, b_is, bo_is, opponent_is) refl in
      starts (one_at made (tries, told)) asked sit run

  -- one player on each side
  pub starts_playing : (made : Made) (files : Files) (white black : X) (w wo b bo : List X) (now : Sides X) → w ≡ white ∷ [] → wo ≡ [] → b ≡ black ∷ [] → bo ≡ [] →
      account white ≡ made files.win files.wout → account black ≡ made files.bin files.bout →
      IsRun account (sides (team w wo) (team b bo)) now asked code before after err err' → StartsAt (both_at made files) asked code before after err err'
  starts_playing made files white black w wo b bo now w_is wo_is b_is bo_is white_is black_is run =
      let sit : seen account (sides (team w wo) (team b bo)) ≡ both_at made files = rw (w_is, wo_is, b_is, bo_is, white_is, black_is) refl in
      starts (both_at made files) asked sit run
