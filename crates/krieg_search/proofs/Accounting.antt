-- What an account comes to: at most what is fresh, since no two of its results are of one pair and all pairs are reached; and
-- where no try was cut at least the floor, since its results answer.
use Rattle.std.proofs.Common.{◌≡◌, ℕ, ◌+◌, ◌≤◌, Bool, false, List, refl, subst, arith}
use Rattle.krieg_search.proofs.Common.{Pos, Side, Dialect, tries, begins, once, made, price, reach_of, fresh, floor_price, pairs, chess, outset, IsAccount, IsBetween, AccountIsBetween}
use Rattle.krieg_costs.proofs.Pairs.{in_once}
use Rattle.krieg_costs.proofs.Totals.{total_up_to, total_within}
use Rattle.krieg_accounts.proofs.Floors.{floor_is_charged}
use Rattle.krieg_game.proofs.ChessLaws.{chess_is_game, outset_is_lawful}

-- whether tries were cut or not
pub at_most_fresh : (d : Dialect) (cut : Bool) (who : Side) (S : List Pos) (n had has : ℕ) → IsAccount d who S n cut had has → had ≤ has + fresh (chess d) (outset d who) n S
at_most_fresh d cut who S n had has a =
    let G = chess d in
    let R = reach_of G (outset d who) n S in
    let g = total_within (floor_price G) (λ q. price G q.0) (pairs a.results) (once G R) a.once (λ q i. in_once G (chess_is_game d) R q (a.reached q i)) (λ q. total_up_to (made G q.0) (begins G q.1 q.0) (tries G q.0)) in
    let e = a.at_most in
    omega arith

pub account_is_between : (d : Dialect) (who : Side) → AccountIsBetween d who
account_is_between d who S n had has a =
    let f = floor_is_charged (chess d) (chess_is_game d) (outset d who) (outset_is_lawful d who) n S a.results a.sound a.answer in
    let e = a.exact refl in
    record { at_least = omega arith; at_most = at_most_fresh d false who S n had has a }

-- by the units that were there
pub taken_between : (d : Dialect) (who : Side) (S : List Pos) (n start had has : ℕ) → start ≡ had → IsAccount d who S n false start has → IsBetween d who S n had has
taken_between d who S n start had has same a = subst (λ (u : ℕ). IsBetween d who S n u has) same (account_is_between d who S n start has a)
