-- What the opponent did where a game is given up.
use Rattle.std.proofs.Common.{◌≡◌, ℕ, ◌+◌, ◌≤◌, List, [], ◌++◌, ap, subst, ◌∙◌, append_assoc, arith}
use Rattle.std.proofs.lemmas.List.{append-nil}
use Rattle.krieg_robot.proofs.Common.{Rose, Move, Line, Account, Serves, Breaks, broken_counts, fault_counts, LeadFault, Seat, NoMemory}
use Rattle.krieg_play.specs.Teams.{Stays}
use Rattle.krieg_play.proofs.Serving.{serves_more}

-- a call that met a fault, and asked him so often in vain
pub record IsShort (fault : LeadFault) (told due : List Line) (vain : ℕ) (before now : Account) : Type 0 where
  pub serves : Serves [] told vain before now
  pub counts : fault_counts fault before now
  pub leaves : now.leaves ≡ before.leaves
  pub few : vain ≤ 1

pub counts_now : (fault : LeadFault) (v vain : ℕ) (a b c : Account) → Stays v a b → vain ≤ 1 → fault_counts fault b c → c.leaves ≡ b.leaves → broken_counts fault (v + vain) a c
counts_now Seat v vain a b c h few counts leaves = (subst (λ (n : ℕ). Rose n c.faults) h.0 counts, leaves ∙ h.1, omega (arith, h.2, few))
counts_now NoMemory v vain a b c h few counts leaves = (omega (arith, h.0, counts), leaves ∙ h.1, omega (arith, h.2, few))

-- the same since any state, in which he had heard the known lines, and since which he heard these
abbrev pub breaks_by : {fault : LeadFault} {told due : List Line} {vain : ℕ} {before now : Account} (tries : List Move) (known since lines : List Line) (v : ℕ) (first : Account) →
    IsShort fault told due vain before now → Serves tries since v first before → Stays v first before → known ++ (since ++ (told ++ due)) ≡ lines → Breaks fault tries known lines first now
breaks_by {fault = fault} {told = told} {due = due} {vain = vain} {before = before} {now = now} tries known since lines v first short serves stays split = record {
  told = since ++ told;
  due = due;
  front = ap (λ (ls : List Line). known ++ ls) (append_assoc since told due) ∙ split;
  vain = v + vain;
  serves = subst (λ (ms : List Move). Serves ms (since ++ told) (v + vain) first now) (append-nil tries) (serves_more tries [] since told v vain first before now serves short.serves);
  counts = counts_now fault v vain first before now stays short.few short.counts short.leaves;
}
