-- Pieces that are written one after another: a write that fails leaves a front part of all of them.
use Rattle.std.proofs.Common.{◌≡◌, ℕ, zero, suc, ◌<◌, List, [], ◌∷◌, ◌++◌, length, take, refl, sym, ap, ◌∙◌, subst, append_assoc, arith}
use Rattle.std.proofs.Math.ListN.{get_or}
use Rattle.std.specs.Prelude.{Option, Result, Ok, Err, OnErr}
use Rattle.std.specs.List.{flat_map}
use Rattle.std.specs.Io.KnownBytes.{Appends}
use Rattle.krieg_cli.proofs.Common.{AppendsPrefix}
use Rattle.krieg_ports.proofs.ToldBytes.{AppendsPrefix_more, AppendsPrefix_then}

pub on_err : {A E P : Type 0} (r : Result A E) → P → OnErr r P
on_err (Ok x) p = tt
on_err (Err e) p = p

split_at : {X : Type 0} (f : X → List ℕ) (xs : List X) (i : ℕ) (d : X) → i < length xs →
    (rest : List ℕ) × (flat_map f xs ≡ flat_map f (take i xs) ++ (f (get_or xs i d) ++ rest))
split_at f [] i d h = absurd (omega arith)
split_at f (x ∷ xs) zero d h = (flat_map f xs, refl)
split_at f (x ∷ xs) (suc i) d h =
    let (rest, is) = split_at f xs i d (omega arith) in
    (rest, ap (λ t. f x ++ t) is ∙ sym (append_assoc (f x) (flat_map f (take i xs)) (f (get_or xs i d) ++ rest)))

pub fails_within : {X : Type 0} (first middle last : Option (List ℕ)) (f : X → List ℕ) (xs : List X) (i : ℕ) (d : X) → i < length xs →
    Appends first middle (flat_map f (take i xs)) → AppendsPrefix middle last (f (get_or xs i d)) → AppendsPrefix first last (flat_map f xs)
fails_within first middle last f xs i d h before part =
    let (rest, is) = split_at f xs i d h in
    subst (AppendsPrefix first last) (sym is)
    (AppendsPrefix_then first middle last (flat_map f (take i xs)) (f (get_or xs i d) ++ rest) before
    (AppendsPrefix_more middle last (f (get_or xs i d)) rest part))
