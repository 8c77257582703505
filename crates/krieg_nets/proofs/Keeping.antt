-- What is kept stays right when a row is begun.
use Rattle.std.proofs.Common.{◌≡◌, ℕ, zero, suc, Bool, true, false, List, [], ◌∷◌, ◌++◌, Option, Some, None, sym, subst, Vec}
use Rattle.std.specs.Prelude.{slice_get, if◌then◌else◌}
use Rattle.std.specs.declared.alloc.Global.{Global}
use Rattle.std.specs.List.{list_any}
use Rattle.indexmap.specs.IndexSet.{insert_key}
use Rattle.krieg_nets.specs.Nets.{AreKept}
use Rattle.krieg_nets.specs.declared.kept.Net.{Net}
use Rattle.krieg_nets.specs.declared.others.Others.{Others}

-- an element of a list stays where it is when more are put behind it
append_stays : {X : Type 0} (xs ys : List X) (i : ℕ) (x : X) → slice_get xs i ≡ Some x → slice_get (xs ++ ys) i ≡ Some x
append_stays [] ys i x e = absurd (let k : ◌≡◌ {A = Option _} None (Some x) = e in cc)
append_stays (z ∷ xs) ys zero x e = e
append_stays (z ∷ xs) ys (suc i) x e = append_stays xs ys i x e

pub row_begun : (eq : Others → Others → Bool) (rows new : List Others) (levels : List (Vec (Option Net) Global)) (o : Others) → new ≡ insert_key eq rows o → AreKept rows levels → AreKept new levels
row_begun eq rows new levels o e are = subst (λ rs. AreKept rs levels) (sym e) (go (list_any (eq o) rows))
  where
    go : (b : Bool) → AreKept (if b then rows else rows ++ o ∷ []) levels
    go true = are
    go false = λ moves row level net l n.
        let k = are moves row level net l n in
        record { others = k.others; stand = append_stays rows (o ∷ []) row k.others k.stand; right = k.right }
