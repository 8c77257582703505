-- A game that was not played to its stop is a refusal, or has found no memory.
use Rattle.std.proofs.Common.{◌≡◌, ℕ, List, Result, Ok, Err, sym, subst}
use Rattle.krieg_outcome.proofs.Common.{Pos, TextFault, Account, Sides, Refuses, PlayFault, Vacant, Decides, of_play, PlaysFrom, PlaysWhole, Ending}
use Rattle.krieg_play.specs.declared.outcome.PlayFault.TheVariants.{Seat, NoMemory}

refused_from : {X V : Type 0} (view : V → List ℕ) (account : X → Account) (asks : ℕ) (before after : Sides X) (start : Pos) (fault : PlayFault) →
    Refuses account start asks before after fault → Decides view (Err (of_play fault)) (PlaysFrom account asks before after start)
refused_from view account asks before after start (Vacant who) h = h
refused_from view account asks before after start (Seat who) h = h
refused_from view account asks before after start NoMemory h = tt

pub refused : {X V : Type 0} (view : V → List ℕ) (account : X → Account) (asks : ℕ) (before after : Sides X) (r : Result Pos TextFault) (start : Pos) (fault : PlayFault) (e : Ending) →
    r ≡ Ok start → e ≡ of_play fault → Refuses account start asks before after fault → Decides view (Err e) (PlaysWhole account asks before after r)
refused view account asks before after r start fault e r_is e_is h =
    subst (λ (x : Result Pos TextFault). Decides view (Err e) (PlaysWhole account asks before after x)) (sym r_is)
    (subst (λ (x : Ending). Decides view (Err x) (PlaysFrom account asks before after start)) (sym e_is) (refused_from view account asks before after start fault h))
