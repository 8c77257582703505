-- What one turn after another makes of a game that a plan leads, and how the game stops.
use Rattle.std.proofs.Common.{◌≡◌, ◌<◌, true, false, sym, ap, subst, ◌∙◌, arith, Result, Ok, Err, Option, Some, None}
use Rattle.krieg_robot.proofs.Common.{Side, is_ended, GameState, Ended, Left, AsksUsed, Account, Follower, AfterPass, Passes, LeadsOn, LeadFault}

-- ---- from turn to turn, until it stops

pub passes_then : (p : Result (Option Side) LeadFault) (a b c : Account) (s t u : Follower) (game game' game'' : GameState) → p ≡ Ok None → Passes (Ok None) a b s t game game' → Passes p b c t u game' game'' → Passes (Ok None) a c s u game game''
passes_then p a b c s t u game game' game'' p_is first second f start k entry h =
    subst (λ (x : Result (Option Side) LeadFault). AfterPass x f start k entry c u game'') p_is (second f start k entry (first f start k entry h))

pub stops_ended : (a b : Account) (s t : Follower) (game game' : GameState) → is_ended game'.position ≡ true → Passes (Ok None) a b s t game game' → LeadsOn (Ok Ended) a b s game game'
stops_ended a b s t game game' ended passes f start k entry h =
    record { whole = (passes f start k entry h).whole; stops = ended }

pub stops_used : (a b : Account) (s t : Follower) (game game' : GameState) → is_ended game'.position ≡ false → game'.spare ≡ 0 → Passes (Ok None) a b s t game game' → LeadsOn (Ok AsksUsed) a b s game game'
stops_used a b s t game game' goes none passes f start k entry h =
    let u = passes f start k entry h in
    record { whole = u.whole; stops = (goes, omega (arith, none, u.whole.is_game.places)) }

pub stops_left : (who : Side) (p : Result (Option Side) LeadFault) (a b c : Account) (s t u : Follower) (game game' game'' : GameState) → is_ended game'.position ≡ false → 0 < game'.spare → p ≡ Ok (Some who) → game'' ≡ game' →
    Passes (Ok None) a b s t game game' → Passes p b c t u game' game'' → LeadsOn (Ok (Left who)) a c s game game''
stops_left who p a b c s t u game game' game'' goes more p_is same first second f start k entry h =
    let l = subst (λ (x : Result (Option Side) LeadFault). AfterPass x f start k entry c u game'') p_is (second f start k entry (first f start k entry h)) in
    let left : 0 < game''.spare = subst (λ (x : GameState). 0 < x.spare) (sym same) more in
    record { whole = l.whole; stops = (ap (λ (x : GameState). is_ended x.position) same ∙ goes, omega (arith, left, l.whole.is_game.places), l.on_turn, l.no_try) }

pub stops_fault : (fault : LeadFault) (p : Result (Option Side) LeadFault) (a b c : Account) (s t u : Follower) (game game' game'' : GameState) → p ≡ Err fault →
    Passes (Ok None) a b s t game game' → Passes p b c t u game' game'' → LeadsOn (Err fault) a c s game game''
stops_fault fault p a b c s t u game game' game'' p_is first second f start k entry h =
    subst (λ (x : Result (Option Side) LeadFault). AfterPass x f start k entry c u game'') p_is (second f start k entry (first f start k entry h))
