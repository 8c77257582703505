-- The text of words as it is written: part by part, each after a separator where another part stands before.
use Rattle.std.proofs.Common.{◌≡◌, ℕ, ◌+◌, ◌<◌, Bool, true, false, ◌||◌, cond, List, [], ◌∷◌, ◌++◌, length, get_or, drop, map, refl, sym, ap, ◌∙◌, append_assoc}
use Rattle.std.specs.Prelude.{codes}
use Rattle.std.proofs.lemmas.List.{append-nil, drop_more}
use Rattle.krieg_wordtext.proofs.Common.{Kinds, End, Took, Piece, Dialect, MenTold, dialect_rules, Part, text_if, texts, joined_by, piece, took_text, is_capture, checks_text, is_check, tries_text, are_tries, end_text, has_ended, words_parts, spelled, words_text}
use Rattle.krieg_words.specs.declared.words.Took.TheVariants.{Nothing, Pawn}

-- texts, each after a separator
abbrev following : List ℕ → List (List ℕ) → List ℕ
following separator [] = []
following separator (t ∷ ts) = separator ++ (t ++ following separator ts)

joined_first : (separator t : List ℕ) (ts : List (List ℕ)) → joined_by separator (t ∷ ts) ≡ t ++ following separator ts
joined_first separator t [] = sym (append-nil t)
joined_first separator t (u ∷ ts) = ap (λ (x : List ℕ). t ++ (separator ++ x)) (joined_first separator u ts)

-- parts, each as a piece after an old text
abbrev pub put_parts : List ℕ → List ℕ → Bool → List Part → List ℕ
put_parts separator old before [] = old
put_parts separator old before (p ∷ ps) = put_parts separator (old ++ piece separator before p.0 p.1) (before || p.0) ps

-- whether a part is there
abbrev is_any : Bool → List Part → Bool
is_any before [] = before
is_any before (p ∷ ps) = is_any (before || p.0) ps

more_put : (separator old : List ℕ) (ps : List Part) → put_parts separator old true ps ≡ old ++ following separator (texts ps)
more_put separator old [] = sym (append-nil old)
more_put separator old (p ∷ ps) = more_put separator (old ++ piece separator true p.0 p.1) ps ∙ by_test p.0
  where
    by_test : (t : Bool) → (old ++ piece separator true t p.1) ++ following separator (texts ps) ≡ old ++ following separator (text_if t p.1 ++ texts ps)
    by_test true = simp append_assoc refl
    by_test false = ap (λ (x : List ℕ). x ++ following separator (texts ps)) (append-nil old)

pub all_put : (separator old : List ℕ) (ps : List Part) → put_parts separator old false ps ≡ old ++ joined_by separator (texts ps)
all_put separator old [] = sym (append-nil old)
all_put separator old (p ∷ ps) = by_test p.0 (all_put separator (old ++ []) ps)
  where
    by_test : (t : Bool) → put_parts separator (old ++ []) false ps ≡ (old ++ []) ++ joined_by separator (texts ps) →
        put_parts separator (old ++ piece separator false t p.1) t ps ≡ old ++ joined_by separator (text_if t p.1 ++ texts ps)
    by_test true rest =
        more_put separator (old ++ p.1) ps ∙ append_assoc old p.1 (following separator (texts ps))
        ∙ ap (λ (x : List ℕ). old ++ x) (sym (joined_first separator p.1 (texts ps)))
    by_test false rest = rest ∙ ap (λ (x : List ℕ). x ++ joined_by separator (texts ps)) (append-nil old)

any_more : (ps : List Part) → is_any true ps ≡ true
any_more [] = refl
any_more (p ∷ ps) = any_more ps

-- silence stands where no part is there
or_silent : (ps : List Part) → joined_by (codes ", ") (texts ps) ++ cond (is_any false ps) [] (codes "silent") ≡ spelled (texts ps)
or_silent [] = refl
or_silent (p ∷ ps) = by_test p.0 (or_silent ps)
  where
    by_test : (t : Bool) → joined_by (codes ", ") (texts ps) ++ cond (is_any false ps) [] (codes "silent") ≡ spelled (texts ps) →
        joined_by (codes ", ") (text_if t p.1 ++ texts ps) ++ cond (is_any t ps) [] (codes "silent") ≡ spelled (text_if t p.1 ++ texts ps)
    by_test true rest = rw any_more (append-nil (joined_by (codes ", ") (p.1 ∷ texts ps)))
    by_test false rest = rest

-- one part more of those that a list shows
pub one_put : {A : Type 0} (view : A → Part) (separator old new : List ℕ) (before after : Bool) (ps : List A) (i : ℕ) (d : A) → i < length ps →
    new ≡ old ++ piece separator before (view (get_or ps i d)).0 (view (get_or ps i d)).1 → after ≡ (before || (view (get_or ps i d)).0) →
    put_parts separator new after (map view (drop (i + 1) ps)) ≡ put_parts separator old before (map view (drop i ps))
one_put view separator old new before after ps i d lt new_is after_is =
    (λ j. put_parts separator (new_is j) (after_is j) (map view (drop (i + 1) ps)))
    ∙ sym (ap (λ qs. put_parts separator old before (map view qs)) (drop_more ps i d lt))

first_took : (men : MenTold) (t : Took) → took_text men t ≡ piece (codes ", ") false (is_capture t) (took_text men t)
first_took men Nothing = refl
first_took men (Pawn s) = refl
first_took men (Piece s) = refl

-- the parts of words after an old text
pub words_after : (old : List ℕ) (d : Dialect) (took : Took) (k : Kinds) (tries : ℕ) (end : End) (b1 b2 b3 b4 : Bool) →
    b1 ≡ is_capture took → b2 ≡ (b1 || is_check k) → b3 ≡ (b2 || are_tries (dialect_rules d).tries tries) → b4 ≡ (b3 || has_ended end) →
    ((((old ++ took_text (dialect_rules d).men took)
    ++ piece (codes ", ") b1 (is_check k) (checks_text (dialect_rules d).checks k))
    ++ piece (codes ", ") b2 (are_tries (dialect_rules d).tries tries) (tries_text (dialect_rules d).tries tries))
    ++ piece (codes ", ") b3 (has_ended end) (end_text end))
    ++ cond b4 [] (codes "silent")
    ≡ old ++ words_text d (record { end = end; took = took; checks = k; tries = tries })
unfolding words_text
words_after old d took k tries end b1 b2 b3 b4 h1 h2 h3 h4 =
    let ps = words_parts d (record { end = end; took = took; checks = k; tries = tries }) in
    rw (h4, h3, h2, h1) (
    ap (λ (t : List ℕ). put_parts (codes ", ") (old ++ t) (is_capture took) (tail ps) ++ cond (is_any false ps) [] (codes "silent")) (first_took (dialect_rules d).men took)
    ∙ ap (λ (t : List ℕ). t ++ cond (is_any false ps) [] (codes "silent")) (all_put (codes ", ") old ps)
    ∙ append_assoc old (joined_by (codes ", ") (texts ps)) (cond (is_any false ps) [] (codes "silent"))
    ∙ ap (λ (t : List ℕ). old ++ t) (or_silent ps)
    )
  where
    tail : List Part → List Part
    tail [] = []
    tail (p ∷ qs) = qs
