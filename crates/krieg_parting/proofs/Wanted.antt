-- What is wanted stays wanted before it.
use Rattle.std.proofs.Common.{◌≡◌, Bool, true, false, not, ◌||◌, refl, ap, sym, ◌∙◌}
use Rattle.std.proofs.lemmas.Bool.{both_ways}
use Rattle.krieg_parting.proofs.Common.{is_wanted}

-- what is wanted after one member more was wanted before it
pub wanted_before : (always old new more : Bool) → new ≡ (old || more) → is_wanted always new ≡ true → is_wanted always old ≡ true
wanted_before true old new more is e = refl
wanted_before false false new more is e = refl
wanted_before false true new more is e = absurd (both_ways false refl (ap not (sym is) ∙ e))
