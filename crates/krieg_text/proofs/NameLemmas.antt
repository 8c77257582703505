-- Names and separators in a text.
use Rattle.std.proofs.Common.{◌≡◌, ℕ, zero, suc, ◌+◌, ◌-◌, ◌<◌, Bool, true, false, cond, eqb, List, [], ◌∷◌, ◌++◌, length, get_or, take, drop, Option, Some, None, is_some, refl, sym, ap, ◌∙◌, arith, add-one, not, eqb-true, eq-eqb}
use Rattle.std.proofs.lemmas.List.{take_all, take_rest, take_at, drop_at, take-append-drop}
use Rattle.std.proofs.lemmas.Slice.Eq.{bytes_eq-Decides}
use Rattle.std.proofs.lemmas.Option.{cond_some}
use Rattle.std.proofs.lemmas.Bool.{and_parts, not-true}
use Rattle.std.specs.Str.{bytes_eq}
use Rattle.std.specs.List.{list_all}
use Rattle.krieg_text.proofs.Common.{behind, cut}

cut_index : (c : ℕ) (bs : List ℕ) (i : ℕ) → i < length bs → eqb (get_or bs i 0) c ≡ true → ((k : ℕ) → k < i → eqb (get_or bs k 0) c ≡ false) → cut c bs ≡ (take i bs, Some (drop (suc i) bs))
cut_index c [] i lt at before = absurd (omega arith)
cut_index c (b ∷ bs) zero lt at before = rw at refl
cut_index c (b ∷ bs) (suc i) lt at before =
    let here : eqb b c ≡ false = before 0 (omega arith) in
    rw here (ap (λ (x : List ℕ × Option (List ℕ)). (b ∷ x.0, x.1)) (cut_index c bs i (omega arith) at (λ k h. before (suc k) (omega arith))))

pub cut_there : (c : ℕ) (bs : List ℕ) (i : ℕ) → i < length bs → eqb (get_or bs i 0) c ≡ true → ((k : ℕ) → k < i → eqb (get_or bs k 0) c ≡ false) → (take i bs, Some (take (length bs - (i + 1)) (drop (i + 1) bs))) ≡ cut c bs
cut_there c bs i lt at before = rw (take_rest, add-one) (sym (cut_index c bs i lt at before))

pub cut_none : (c : ℕ) (bs : List ℕ) → ((k : ℕ) → k < length bs → eqb (get_or bs k 0) c ≡ false) → cut c bs ≡ (bs, None)
cut_none c [] none = refl
cut_none c (b ∷ bs) none =
    let here : eqb b c ≡ false = none 0 (omega arith) in
    rw here (ap (λ (x : List ℕ × Option (List ℕ)). (b ∷ x.0, x.1)) (cut_none c bs (λ k h. none (suc k) (omega arith))))

pub ruleset cuts = (cut_there, cut_none)

-- the text begins with another byte, or with none, or with this one
pub byte_none : (b : ℕ) (text : List ℕ) → length text ≡ 0 → None ≡ behind (b ∷ []) text
unfolding behind
byte_none b [] e = refl
byte_none b (c ∷ text) e = absurd (omega (arith, e))

pub byte_other : (b : ℕ) (text : List ℕ) → eqb (get_or text 0 0) b ≡ false → None ≡ behind (b ∷ []) text
unfolding behind
byte_other b [] e = refl
byte_other b (c ∷ text) e = rw e refl

pub byte_there : (b : ℕ) (text : List ℕ) → 0 < length text → eqb (get_or text 0 0) b ≡ true → Some (drop 1 text) ≡ behind (b ∷ []) text
unfolding behind
byte_there b [] lt e = absurd (omega arith)
byte_there b (c ∷ text) lt e = rw e refl

pub ruleset bytes = (byte_none, byte_other, byte_there)

-- the text begins with the byte and goes on, or it does not
behind_one : (b c : ℕ) (name text : List ℕ) (t : Bool) → eqb c b ≡ t → behind (b ∷ name) (c ∷ text) ≡ cond t (behind name text) None
unfolding behind
behind_one b c name text true e = rw e refl
behind_one b c name text false e = rw e refl

pub behind_stops : (b : ℕ) (name text : List ℕ) → None ≡ behind (b ∷ []) text → behind (b ∷ name) text ≡ None
unfolding behind
behind_stops b name [] e = refl
behind_stops b name (c ∷ text) e = go (eqb c b) refl
  where
    go : (t : Bool) → eqb c b ≡ t → behind (b ∷ name) (c ∷ text) ≡ None
    go true h = absurd (let none : None ≡ Some text = e ∙ behind_one b c [] text true h in cc)
    go false h = behind_one b c name text false h

pub behind_goes : (b : ℕ) (name text rest : List ℕ) → Some rest ≡ behind (b ∷ []) text → behind (b ∷ name) text ≡ behind name rest
unfolding behind
behind_goes b name [] rest e = absurd (let none : Some rest ≡ None = e in cc)
behind_goes b name (c ∷ text) rest e =
    let p = cond_some (eqb c b) text rest (sym (behind_one b c [] text (eqb c b) refl) ∙ sym e) in
    behind_one b c name text true p.0 ∙ ap (behind name) p.1

-- the text is the name where it is as long and begins with it
pub name_there : (name text : List ℕ) → length text ≡ length name → is_some (behind name text) ≡ bytes_eq text name
unfolding behind
name_there name text e =
    rw (sym e, take_all (length text) text (omega arith)) (go (bytes_eq text name))
  where
    go : (t : Bool) → is_some (cond t (Some (drop (length text) text)) None) ≡ t
    go true = refl
    go false = refl

pub name_longer : (name text : List ℕ) → ¬ (length text ≡ length name) → false ≡ bytes_eq text name
name_longer name text other = go (bytes_eq text name) (bytes_eq-Decides text name).0
  where
    go : (t : Bool) → (t ≡ true → text ≡ name) → false ≡ t
    go true same = absurd (other (ap length (same refl)))
    go false same = refl

pub ruleset whole_names = (name_there, name_longer)

pub behind_again : (name rest : List ℕ) → behind name (name ++ rest) ≡ Some rest
unfolding behind
behind_again name rest =
    let front : take (length name) (name ++ rest) ≡ name = take_at name rest (length name) refl in
    let same : bytes_eq (take (length name) (name ++ rest)) name ≡ true = (bytes_eq-Decides (take (length name) (name ++ rest)) name).1 front in
    rw same (ap Some (drop_at name rest (length name) refl))

pub behind_spells : (name text rest : List ℕ) → behind name text ≡ Some rest → text ≡ name ++ rest
unfolding behind
behind_spells name text rest e =
    let p = cond_some (bytes_eq (take (length name) text) name) (drop (length name) text) rest e in
    let front : take (length name) text ≡ name = (bytes_eq-Decides (take (length name) text) name).0 p.0 in
    sym (take-append-drop (length name) text) ∙ ap (λ (x : List ℕ). x ++ drop (length name) text) front ∙ ap (λ (x : List ℕ). name ++ x) p.1

-- no byte of the part is the separator
pub cut_again : (c : ℕ) (part rest : List ℕ) → list_all (λ b. not (eqb b c)) part ≡ true → cut c (part ++ (c ∷ rest)) ≡ (part, Some rest)
cut_again c [] rest free = rw (eq-eqb c c refl) refl
cut_again c (b ∷ part) rest free =
    let p = and_parts (not (eqb b c)) (list_all (λ b. not (eqb b c)) part) free in
    let here : eqb b c ≡ false = not-true (eqb b c) p.0 in
    rw here (ap (λ (x : List ℕ × Option (List ℕ)). (b ∷ x.0, x.1)) (cut_again c part rest p.1))

abbrev cut_step : ℕ → Bool → List ℕ → List ℕ × Option (List ℕ) → List ℕ × Option (List ℕ)
cut_step b t text more = cond t ([], Some text) (b ∷ more.0, more.1)

cut_by : (c b : ℕ) (t : Bool) (text part rest : List ℕ) → eqb b c ≡ t → ((p : List ℕ) → (cut c text).0 ≡ p → (cut c text).1 ≡ Some rest → text ≡ p ++ (c ∷ rest)) →
    (cut_step b t text (cut c text)).0 ≡ part → (cut_step b t text (cut c text)).1 ≡ Some rest → b ∷ text ≡ part ++ (c ∷ rest)
cut_by c b true text part rest is more first second =
    let same : b ≡ c = eqb-true b c is in
    let left : text ≡ rest = cc in
    let none : part ≡ [] = sym first in
    ap (λ (x : ℕ). x ∷ text) same ∙ ap (λ (x : List ℕ). c ∷ x) left ∙ ap (λ (x : List ℕ). x ++ (c ∷ rest)) first
cut_by c b false text part rest is more first second =
    ap (λ (x : List ℕ). b ∷ x) (more (cut c text).0 refl second) ∙ ap (λ (x : List ℕ). x ++ (c ∷ rest)) first

pub cut_spells : (c : ℕ) (text part rest : List ℕ) → (cut c text).0 ≡ part → (cut c text).1 ≡ Some rest → text ≡ part ++ (c ∷ rest)
cut_spells c [] part rest first second = absurd cc
cut_spells c (b ∷ text) part rest first second = cut_by c b (eqb b c) text part rest refl (λ p. cut_spells c text p rest) first second
