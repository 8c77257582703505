-- Which lines are those of edges and of roots.
use Rattle.std.proofs.Common.{◌≡◌, ℕ, ◌+◌, ◌-◌, ◌<◌, ◌≤◌, Bool, true, false, cond, not, eqb, List, [], ◌∷◌, ◌++◌, take, length, Option, Some, None, Result, Ok, Err, refl, sym, ap, subst, ◌∙◌, arith, append_assoc, length-append, eqb-true}
use Rattle.std.specs.Prelude.{codes, slice_index, ◌==◌, ◌&&◌, is_some}
use Rattle.std.specs.List.{list_all}
use Rattle.std.proofs.lemmas.Bool.{and_parts, and_from}
use Rattle.std.proofs.lemmas.List.{take_more, take_all}
use Rattle.krieg_planfile.proofs.Common.{TextKind, OutOfPlace, behind, cut, ◌>>=◌, joined, Said, IsSaid, words_text, words_in, Dialect, Key, RootKey, key_lt, root_lt, unspaced, words_at, both, key_across, key_in, or_syntax, any_on_form, follows, placed, on_form, on_line, IsToldKey, IsToldRoot, root_with, root_in, any_root_form, is_root_of, root_placed, root_form, root_line}
use Rattle.krieg_text.proofs.Formats.{IsForm, named_form}
use Rattle.krieg_text.proofs.NameLemmas.{behind_again, behind_spells, cut_again, cut_spells}
use Rattle.krieg_text.proofs.Takings.{steps}
use Rattle.krieg_wordtext.proofs.CleanWords.{words_no_slash}
use Rattle.krieg_wordtext.proofs.PartLaws.{Free}
use Rattle.krieg_wordtext.proofs.WordsLaws.{words_spell, words_again}

-- ---- the space before the slash

last_get : (text : List ℕ) (i : ℕ) → length text ≤ i + 1 → i < length text → text ≡ take i text ++ slice_index text i ∷ []
last_get text i past lt = sym (take_all (i + 1) text past) ∙ take_more text i 0 lt

unspaced_spells : (text front : List ℕ) → unspaced text ≡ Some front → text ≡ front ++ 32 ∷ []
unspaced_spells [] front e = absurd cc
unspaced_spells (b ∷ text) front e = go (slice_index (b ∷ text) (length (b ∷ text) - 1) == 32) refl e
  where
    i : ℕ
    i = length (b ∷ text) - 1

    go : (t : Bool) → (slice_index (b ∷ text) i == 32) ≡ t → cond t (Some (take i (b ∷ text))) None ≡ Some front → b ∷ text ≡ front ++ 32 ∷ []
    go false is h = absurd cc
    go true is h =
        let same : take i (b ∷ text) ≡ front = cc in
        let space : slice_index (b ∷ text) i ≡ 32 = omega (arith, eqb-true (slice_index (b ∷ text) i) 32 is) in
        last_get (b ∷ text) i (omega arith) (omega arith) ∙ ap (λ (x : ℕ). take i (b ∷ text) ++ x ∷ []) space ∙ ap (λ (x : List ℕ). x ++ 32 ∷ []) same

take_front : (f rest : List ℕ) → take (length f) (f ++ rest) ≡ f
take_front [] rest = refl
take_front (b ∷ f) rest = ap (λ (x : List ℕ). b ∷ x) (take_front f rest)

get_after : (f : List ℕ) (b : ℕ) → slice_index (f ++ b ∷ []) (length f) ≡ b
get_after [] b = refl
get_after (c ∷ f) b = get_after f b

unspaced_again : (f : List ℕ) → unspaced (f ++ 32 ∷ []) ≡ Some f
unspaced_again f =
    let i : length (f ++ 32 ∷ []) - 1 ≡ length f = omega (arith, length-append f (32 ∷ [])) in
    ap (λ (n : ℕ). cond (slice_index (f ++ 32 ∷ []) n == 32) (Some (take n (f ++ 32 ∷ []))) None) i
    ∙ ap (λ (n : ℕ). cond (n == 32) (Some (take (length f) (f ++ 32 ∷ []))) None) (get_after f 32)
    ∙ ap Some (take_front f (32 ∷ []))

-- ---- two words texts

abbrev pub IsAcross : Dialect → List ℕ → Key → Type 0
IsAcross d text key = (text ≡ words_text d key.0 ++ (codes " / " ++ words_text d key.1)) × IsToldKey d key

by_words : (d : Dialect) (text front back : List ℕ) (f b : Option (List ℕ)) (v w : Option Said) (key : Key) → text ≡ front ++ (47 ∷ back) → unspaced front ≡ f → behind (codes " ") back ≡ b →
    words_at d f ≡ v → words_at d b ≡ w → both v w ≡ Some key → IsAcross d text key
by_words d text front back None b v w key whole x y h k e = absurd (let n : None ≡ v = h in cc)
by_words d text front back (Some f) None v w key whole x y h k e = absurd (none_right v w k e)
  where
    none_right : (v w : Option Said) → None ≡ w → both v w ≡ Some key → ⊥
    none_right None w k e = cc
    none_right (Some v) None k e = cc
    none_right (Some v) (Some w) k e = cc
by_words d text front back (Some f) (Some b) None w key whole x y h k e = absurd cc
by_words d text front back (Some f) (Some b) (Some v) None key whole x y h k e = absurd cc
by_words d text front back (Some f) (Some b) (Some v) (Some w) key whole x y h k e =
    let p = words_spell d f v h in
    let q = words_spell d b w k in
    let same : (v, w) ≡ key = cc in
    subst (IsAcross d text) same (
      whole ∙ ap (λ (t : List ℕ). t ++ (47 ∷ back)) (unspaced_spells front f x) ∙ append_assoc f (32 ∷ []) (47 ∷ back)
          ∙ ap (λ (t : List ℕ). f ++ (32 ∷ (47 ∷ t))) (behind_spells (codes " ") back b y)
          ∙ ap (λ (t : List ℕ). t ++ (codes " / " ++ b)) p.2 ∙ ap (λ (t : List ℕ). words_text d v ++ (codes " / " ++ t)) q.2,
      ((p.0, p.1), (q.0, q.1)),
    )

by_back : (d : Dialect) (text front : List ℕ) (o : Option (List ℕ)) (key : Key) → (cut 47 text).0 ≡ front → (cut 47 text).1 ≡ o → key_across d front o ≡ Some key → IsAcross d text key
by_back d text front None key c r e = absurd cc
by_back d text front (Some back) key c r e =
    by_words d text front back (unspaced front) (behind (codes " ") back) (words_at d (unspaced front)) (words_at d (behind (codes " ") back)) key (cut_spells 47 text front back c r) refl refl refl refl e

pub key_spells : (d : Dialect) (text : List ℕ) (key : Key) → key_in d text ≡ Some key → IsAcross d text key
key_spells d text key e = by_back d text (cut 47 text).0 (cut 47 text).1 key refl refl e

free_append : (c : ℕ) (xs ys : List ℕ) → Free c xs → Free c ys → Free c (xs ++ ys)
free_append c [] ys h k = k
free_append c (x ∷ xs) ys h k =
    let p = and_parts (not (eqb x c)) (list_all (λ b. not (eqb b c)) xs) h in
    and_from (not (eqb x c)) (list_all (λ b. not (eqb b c)) (xs ++ ys)) p.0 (free_append c xs ys p.1 k)

pub key_again : (d : Dialect) (text : List ℕ) (key : Key) → IsAcross d text key → key_in d text ≡ Some key
key_again d text key s =
    let v = words_text d key.0 in
    let w = words_text d key.1 in
    let told = s.1 in
    ap (key_in d) (s.0 ∙ sym (append_assoc v (32 ∷ []) (47 ∷ (32 ∷ w))))
    ∙ ap (λ (x : List ℕ × Option (List ℕ)). key_across d x.0 x.1) (cut_again 47 (v ++ 32 ∷ []) (32 ∷ w) (free_append 47 v (32 ∷ []) (words_no_slash d key.0 told.0.0) refl))
    ∙ ap (λ (x : Option (List ℕ)). both (words_at d x) (words_at d (behind (codes " ") (32 ∷ w)))) (unspaced_again v)
    ∙ ap (λ (x : Option (List ℕ)). both (words_in d v) (words_at d x)) (behind_again (codes " ") w)
    ∙ ap (λ (x : Option Said). both x (words_in d w)) (words_again d key.0 told.0.0 told.0.1)
    ∙ ap (both (Some key.0)) (words_again d key.1 told.1.0 told.1.1)

-- ---- the line of an edge

or_some : {A : Type 0} (o : Option A) (x : A) → or_syntax o ≡ Ok x → o ≡ Some x
or_some None x e = absurd cc
or_some (Some y) x e = let same : y ≡ x = cc in ap Some same

across : (d : Dialect) → IsForm (λ text. or_syntax (key_in d text)) (IsAcross d)
across d = record { found = λ text key e. key_spells d text key (or_some (key_in d text) key e); only = λ text key s. ap or_syntax (key_again d text key s) }

abbrev pub SaysOn : Dialect → List ℕ → Key → Type 0
SaysOn d line key = (line ≡ joined (on_line d key)) × IsToldKey d key

pub any_on : (d : Dialect) → IsForm (any_on_form d) (SaysOn d)
unfolding any_on_form
any_on d =
    let n = named_form (codes "on ") (λ text. or_syntax (key_in d text)) (IsAcross d) (across d) in
    record {
      found = λ l key e. let b = n.found l key e in (b.is ∙ ap (λ (x : List ℕ). codes "on " ++ x) b.says.0, b.says.1);
      only = λ l key s. n.only l key (record { text = words_text d key.0 ++ (codes " / " ++ words_text d key.1); is = s.0; says = (refl, s.1) });
    }

-- ---- a key that follows the last one

pub placed_spells : {K : Type 0} (lt : K → K → Bool) (last : Option K) (r : Result K TextKind) (key : K) → (r >>= placed lt last) ≡ Ok key → (r ≡ Ok key) × (follows lt last key ≡ true)
placed_spells lt last (Err kind) key e = absurd cc
placed_spells {K = K} lt last (Ok k) key e = go (follows lt last k) refl e
  where
    go : (t : Bool) → follows lt last k ≡ t → ◌≡◌ {A = Result K TextKind} (cond t (Ok k) (Err OutOfPlace)) (Ok key) → (◌≡◌ {A = Result K TextKind} (Ok k) (Ok key)) × (follows lt last key ≡ true)
    go false f h = absurd cc
    go true f h = let same : k ≡ key = cc in (ap Ok same, subst (λ x. follows lt last x ≡ true) same f)

pub on_spells : (d : Dialect) (last : Option Key) (line : List ℕ) (key : Key) → on_form d last line ≡ Ok key → SaysOn d line key × (follows key_lt last key ≡ true)
on_spells d last line key e = let p = placed_spells key_lt last (any_on_form d line) key e in ((any_on d).found line key p.0, p.1)

pub on_again : (d : Dialect) (last : Option Key) (line : List ℕ) (key : Key) → SaysOn d line key → follows key_lt last key ≡ true → on_form d last line ≡ Ok key
on_again d last line key s after = ap (λ (r : Result Key TextKind). r >>= placed key_lt last) ((any_on d).only line key s) ∙ ap (λ (t : Bool). cond t (Ok key) (Err OutOfPlace)) after

-- ---- the line of a root

-- the text after `on `
abbrev pub root_text : Dialect → RootKey → List ℕ
root_text d (opens, None) = words_text d opens
root_text d (opens, Some heard) = words_text d opens ++ (codes " / " ++ words_text d heard)

line_of_text : (d : Dialect) (key : RootKey) → joined (root_line d key) ≡ codes "on " ++ root_text d key
line_of_text d (opens, None) = refl
line_of_text d (opens, Some heard) = refl

abbrev IsRootText : ℕ → Dialect → List ℕ → RootKey → Type 0
IsRootText version d text key = (text ≡ root_text d key) × IsToldRoot d key × (version ≡ 1 → key.1 ≡ None)

by_single : (version : ℕ) (d : Dialect) (text : List ℕ) (o : Option Said) (key : RootKey) → words_in d text ≡ o → root_with None o ≡ Some key → IsRootText version d text key
by_single version d text None key is e = absurd cc
by_single version d text (Some w) key is e =
    let s = words_spell d text w is in
    let same : (w, None) ≡ key = cc in
    subst (IsRootText version d text) same (s.2, (s.0, s.1), λ v. refl)

by_key : (version : ℕ) (d : Dialect) (text : List ℕ) (o : Option Key) (single : Option Said) (key : RootKey) → (version == 1) ≡ false → key_in d text ≡ o → words_in d text ≡ single → root_with o single ≡ Some key → IsRootText version d text key
by_key version d text None single key other is w e = by_single version d text single key w e
by_key version d text (Some k) single key other is w e =
    let s = key_spells d text k is in
    let same : (k.0, Some k.1) ≡ key = cc in
    subst (IsRootText version d text) same (s.0, s.1, λ v. let no : eqb 1 1 ≡ false = ap (λ (n : ℕ). eqb n 1) (sym v) ∙ other in absurd cc)

root_found : (version : ℕ) (d : Dialect) (text : List ℕ) (key : RootKey) → root_in version d text ≡ Some key → IsRootText version d text key
root_found version d text key e = go (version == 1) refl e
  where
    go : (t : Bool) → (version == 1) ≡ t → root_with (cond t None (key_in d text)) (words_in d text) ≡ Some key → IsRootText version d text key
    go true is h = by_single version d text (words_in d text) key refl h
    go false is h = by_key version d text (key_in d text) (words_in d text) key is refl refl h

-- a text without a slash is not cut
uncut : (c : ℕ) (text : List ℕ) → Free c text → cut c text ≡ (text, None)
uncut c [] h = refl
uncut c (b ∷ text) h = let p = and_parts (not (eqb b c)) (list_all (λ b. not (eqb b c)) text) h in go (eqb b c) refl p.0 (uncut c text p.1)
  where
    go : (t : Bool) → eqb b c ≡ t → not t ≡ true → cut c text ≡ (text, None) → ◌≡◌ {A = List ℕ × Option (List ℕ)} (cond t ([], Some text) (b ∷ (cut c text).0, (cut c text).1)) (b ∷ text, None)
    go true is n more = absurd cc
    go false is n more = ap (λ (x : List ℕ × Option (List ℕ)). (b ∷ x.0, x.1)) more

no_key : (d : Dialect) (w : Said) → IsSaid w → key_in d (words_text d w) ≡ None
no_key d w said = ap (λ (x : List ℕ × Option (List ℕ)). key_across d x.0 x.1) (uncut 47 (words_text d w) (words_no_slash d w said))

none_chosen : (t : Bool) (o : Option Key) → o ≡ None → cond t None o ≡ None
none_chosen true o is = refl
none_chosen false o is = is

root_only : (version : ℕ) (d : Dialect) (text : List ℕ) (key : RootKey) → IsRootText version d text key → root_in version d text ≡ Some key
root_only version d text (opens, None) s =
    ap (root_in version d) s.0
    ∙ ap (λ (o : Option Key). root_with o (words_in d (words_text d opens))) (none_chosen (version == 1) (key_in d (words_text d opens)) (no_key d opens s.1.0))
    ∙ ap (root_with None) (words_again d opens s.1.0 s.1.1)
root_only version d text (opens, Some heard) s = go (version == 1) refl
  where
    key : key_in d text ≡ Some (opens, heard)
    key = key_again d text (opens, heard) (s.0, s.1)

    go : (t : Bool) → (version == 1) ≡ t → root_with (cond t None (key_in d text)) (words_in d text) ≡ Some (opens, Some heard)
    go true is = let v : version ≡ 1 = eqb-true version 1 is in let no = s.2 v in absurd cc
    go false is = ap (λ (o : Option Key). root_with o (words_in d text)) key

roots : (version : ℕ) (d : Dialect) → IsForm (λ text. or_syntax (root_in version d text)) (IsRootText version d)
roots version d = record { found = λ text key e. root_found version d text key (or_some (root_in version d text) key e); only = λ text key s. ap or_syntax (root_only version d text key s) }

abbrev pub SaysRoot : ℕ → Dialect → List ℕ → RootKey → Type 0
SaysRoot version d line key = (line ≡ joined (root_line d key)) × IsToldRoot d key × (version ≡ 1 → key.1 ≡ None)

pub any_root : (version : ℕ) (d : Dialect) → IsForm (any_root_form version d) (SaysRoot version d)
unfolding any_root_form
any_root version d =
    let n = named_form (codes "on ") (λ text. or_syntax (root_in version d text)) (IsRootText version d) (roots version d) in
    record {
      found = λ l key e. let b = n.found l key e in (b.is ∙ ap (λ (x : List ℕ). codes "on " ++ x) b.says.0 ∙ sym (line_of_text d key), b.says.1, b.says.2);
      only = λ l key s. n.only l key (record { text = root_text d key; is = s.0 ∙ line_of_text d key; says = (refl, s.1, s.2) });
    }

pub root_spells : (version : ℕ) (waiting : Bool) (d : Dialect) (last : Option RootKey) (line : List ℕ) (key : RootKey) → root_form version waiting d last line ≡ Ok key →
    SaysRoot version d line key × (is_some key.1 ≡ waiting) × (follows root_lt last key ≡ true)
root_spells version waiting d last line key e =
    let s = steps (any_root_form version d line) (root_placed waiting last) key e in
    let p = go s.mid (is_root_of waiting s.mid && follows root_lt last s.mid) refl s.second in
    let both = and_parts (is_root_of waiting key) (follows root_lt last key) (subst (λ k. (is_root_of waiting k && follows root_lt last k) ≡ true) p.0 p.1) in
    ((any_root version d).found line key (s.first ∙ ap Ok p.0), of waiting key both.0, both.1)
  where
    go : (k : RootKey) (t : Bool) → (is_root_of waiting k && follows root_lt last k) ≡ t → ◌≡◌ {A = Result RootKey TextKind} (cond t (Ok k) (Err OutOfPlace)) (Ok key) → (k ≡ key) × ((is_root_of waiting k && follows root_lt last k) ≡ true)
    go k false f h = absurd cc
    go k true f h = (cc, f)

    of : (waiting : Bool) (k : RootKey) → is_root_of waiting k ≡ true → is_some k.1 ≡ waiting
    of true k h = h
    of false (opens, None) h = refl
    of false (opens, Some heard) h = absurd cc

pub root_again : (version : ℕ) (waiting : Bool) (d : Dialect) (last : Option RootKey) (line : List ℕ) (key : RootKey) → SaysRoot version d line key → is_some key.1 ≡ waiting → follows root_lt last key ≡ true →
    root_form version waiting d last line ≡ Ok key
root_again version waiting d last line key s right after =
    ap (λ (r : Result RootKey TextKind). r >>= root_placed waiting last) ((any_root version d).only line key s)
    ∙ ap (λ (t : Bool). cond t (Ok key) (Err OutOfPlace)) (and_from (is_root_of waiting key) (follows root_lt last key) (subst (λ w. is_root_of w key ≡ true) right (of key)) after)
  where
    of : (k : RootKey) → is_root_of (is_some k.1) k ≡ true
    of (opens, None) = refl
    of (opens, Some heard) = refl
