-- The order of words is total, and tells words apart.
use Rattle.std.proofs.Common.{◌≡◌, ℕ, [], ◌∷◌, sym, ap, ◌∙◌}
use Rattle.std.specs.Ordering.{is_eq}
use Rattle.std.specs.Cmp.{IsTotalOrder}
use Rattle.std.specs.Cmp.Lexicographic.{on_texts}
use Rattle.std.specs.declared.cmp.Ordering.TheVariants.{Equal}
use Rattle.std.proofs.lemmas.Slice.Eq.{bytes_eq-Decides}
use Rattle.std.proofs.lemmas.Map.Text.{is_eq-slice_cmp}
use Rattle.std.proofs.lemmas.Cmp.{tied_itself}
use Rattle.krieg_words.proofs.Common.{Kinds, bits_of, End, Took, Said, end_rank, took_rank, took_square, ranks, words_cmp, end_at, took_at, kinds_at}
use Rattle.krieg_words.proofs.WordNumbers.{end_back, took_back, kinds_back}

-- the order is total: antisymmetric, transitive, and words that compare equal compare alike with all others
pub words_cmp_total : IsTotalOrder words_cmp
unfolding words_cmp
words_cmp_total = on_texts ranks

-- kinds with one number are the same
pub bits_of_same : (a b : Kinds) → bits_of a ≡ bits_of b → a ≡ b
bits_of_same a b h = sym (kinds_back a.knight a.short a.long a.rank a.file) ∙ ap kinds_at h ∙ kinds_back b.knight b.short b.long b.rank b.file

pub end_same : (a b : End) → end_rank a ≡ end_rank b → a ≡ b
end_same a b h = sym (end_back a) ∙ ap end_at h ∙ end_back b

pub took_same : (a b : Took) → took_rank a ≡ took_rank b → took_square a ≡ took_square b → a ≡ b
took_same a b h k = sym (took_back a) ∙ (λ i. took_at (h i) (k i)) ∙ took_back b

five_same : (a b c d e a' b' c' d' e' : ℕ) → a ∷ b ∷ c ∷ d ∷ e ∷ [] ≡ a' ∷ b' ∷ c' ∷ d' ∷ e' ∷ [] → (a ≡ a') × (b ≡ b') × (c ≡ c') × (d ≡ d') × (e ≡ e')
five_same a b c d e a' b' c' d' e' h = (cc, cc, cc, cc, cc)

pub ranks_same : (a b : Said) → ranks a ≡ ranks b → a ≡ b
ranks_same a b h =
    let r = five_same _ _ _ _ _ _ _ _ _ _ h in
    let e = end_same a.end b.end r.0 in
    let t = took_same a.took b.took r.1 r.2 in
    let k = bits_of_same a.checks b.checks r.3 in
    λ i. record { end = e i; took = t i; checks = k i; tries = r.4 i }

-- words that compare equal are the same
pub words_cmp_equal : (a b : Said) → words_cmp a b ≡ Equal → a ≡ b
unfolding words_cmp
words_cmp_equal a b h = ranks_same a b ((bytes_eq-Decides (ranks a) (ranks b)).0 (sym (is_eq-slice_cmp (ranks a) (ranks b)) ∙ ap is_eq h))

pub words_cmp_self : (a : Said) → words_cmp a a ≡ Equal
words_cmp_self a = tied_itself words_cmp_total a
