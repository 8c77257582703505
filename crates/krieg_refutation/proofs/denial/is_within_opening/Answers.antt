use Rattle.std.proofs.Common.{◌≡◌, not, ◌&&◌, List, [], ◌∷◌, None, Some, inl, refl, sym, ap, ◌∙◌}
use Rattle.std.specs.List.{list_all, slice_get}
use Rattle.krieg_refutation.proofs.Common.{Pos, opening, told, opens_with, within_opening}
use Rattle.krieg_theory.specs.Sets.{In}
use Rattle.krieg_refutation.proofs.ClaimTests.{nil_by}
use Rattle.krieg_refutation.proofs.OpeningSets.{none_within, some_within}
use Rattle.krieg_refutation.proofs.denial.is_within_opening.Goals as goal

no_first : (X : List Pos) → None ≡ slice_get X 0 → X ≡ []
no_first [] e = refl
no_first (x ∷ X) e = absurd cc

first_in : (x : Pos) (X : List Pos) → Some x ≡ slice_get X 0 → In x X
first_in x [] e = absurd cc
first_in x (y ∷ X) e = let h : x ≡ y = cc in inl (sym h)

pub returns-in-None : goal.returns-in-None
returns-in-None c = λ who S s own.
    let none = no_first c.args.set.now (c.in-None.ensures.value ∙ ap (λ X. slice_get X 0) c.members.ensures.value) in
    ap not (nil_by c.is_empty.result c.args.listed.now c.is_empty.ensures.0 c.is_empty.ensures.1) ∙ none_within c.args.d who S c.args.listed.now s own ∙ ap (within_opening c.args.d who S) (sym none)

pub returns-then-is_within : goal.returns-then-is_within
returns-then-is_within c = λ who S s own.
    let d = c.args.d in
    let X = c.args.set.now in
    let x = c.in-Some.first.now in
    let first = first_in x X (c.in-Some.ensures.value ∙ ap (λ X. slice_get X 0) c.members.ensures.value) in
    let within = sym c.if-is_within.true ∙ c.is_within.ensures in
    c.all_open_with.ensures ∙ (λ i. list_all (opens_with d (c.told_first-words.ensures i)) (c.members-then-is_within.ensures.value i)) ∙ ap (λ b. b && list_all (opens_with d (told d (opening x))) X) within
    ∙ some_within d who S c.args.listed.now s own x X first

pub returns-else-is_within : goal.returns-else-is_within
returns-else-is_within c = λ who S s own.
    let d = c.args.d in
    let X = c.args.set.now in
    let x = c.in-Some.first.now in
    let first = first_in x X (c.in-Some.ensures.value ∙ ap (λ X. slice_get X 0) c.members.ensures.value) in
    let within = sym c.if-is_within.false ∙ c.is_within.ensures in
    c.if-is_within.false ∙ ap (λ b. b && list_all (opens_with d (told d (opening x))) X) within ∙ some_within d who S c.args.listed.now s own x X first
