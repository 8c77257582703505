use Rattle.std.proofs.Common.{◌≡◌, drop}
use Rattle.std.specs.Prelude.{fold, bit_or, bit_xor}
use Rattle.krieg_pack.proofs.Common.{packed}
use Rattle.krieg_pack.specs.OneMan.{men_of, place_of, places_over}
use Rattle.krieg_pack.proofs.one_man.places_over.Given as goal

abbrev pub invariant-loop-m : goal.invariant-loop-m
invariant-loop-m l = fold (λ places p. bit_or places (place_of (bit_xor l.squares (men_of (packed p))))) l.places (drop l.m-index l.members) ≡ places_over l.squares l.members
