-- Where a reader of lines stands, and the end of a text.
use Rattle.std.proofs.Common.{◌≡◌, ◌≢◌, inl, inr, ℕ, ◌+◌, List, [], ◌∷◌, ◌++◌, length, Result, Ok, Err, refl, sym, ap, subst, ◌∙◌, append_assoc, arith, length-append}
use Rattle.std.specs.Prelude.{IfOk}
use Rattle.krieg_text.proofs.Common.{TextFault, At, TextKind, Syntax, ◌>>=◌, Place, place, on, taken, next_line, line_at, ended, Passed, IsRefusedAt, GivesOn}
use Rattle.krieg_text.proofs.Locality.{ok_is}

pub ended_none : {A : Type 0} (value : A) (n : ℕ) (ls : List (List ℕ)) → ls ≡ [] → Ok value ≡ ended value n ls
ended_none value n [] is = refl
ended_none value n (l ∷ ls) is = absurd cc

pub ended_some : {A : Type 0} (value : A) (n : ℕ) (ls : List (List ℕ)) → ls ≢ [] → Err (At n Syntax) ≡ ended value n ls
ended_some value n [] other = absurd (other refl)
ended_some value n (l ∷ ls) other = refl

pub ruleset ends = (ended_none, ended_some)

-- ---- what was given

pub passed_none : (p : Place) → Passed p p
passed_none p = let number : p.number ≡ p.number + 0 = omega arith in record { given = []; is = refl; number = number }

pub passed_line : (p q : Place) (l : List ℕ) → line_at p ≡ Ok (l, q) → Passed p q
passed_line p q l e = go p.left e
  where
    go : (ls : List (List ℕ)) → next_line p.number ls ≡ Ok (l, q) → Passed (place p.number ls) q
    go [] h = absurd cc
    go (k ∷ ls) h =
        let same = ok_is {A = List ℕ × Place} (k, place (p.number + 1) ls) (l, q) h in
        record {
          given = k ∷ [];
          is = ap (λ (t : List ℕ × Place). k ∷ t.1.left) same;
          number = sym (ap (λ (t : List ℕ × Place). t.1.number) same);
        }

pub passed_then : (p q r : Place) → Passed p q → Passed q r → Passed p r
passed_then p q r a b = record {
  given = a.given ++ b.given;
  is = a.is ∙ ap (λ (t : List (List ℕ)). a.given ++ t) b.is ∙ sym (append_assoc a.given b.given r.left);
  number = omega (arith, a.number, b.number, length-append a.given b.given);
}

pub ruleset passed = (passed_none, passed_line, passed_then)

-- ---- where a refusal leaves the reader

-- a line was taken and then refused
pub refused_line : (p q : Place) (l : List ℕ) → line_at p ≡ Ok (l, q) → IsRefusedAt p.number q
refused_line p q l e = go p.left e
  where
    go : (ls : List (List ℕ)) → next_line p.number ls ≡ Ok (l, q) → IsRefusedAt p.number q
    go [] h = absurd cc
    go (k ∷ ls) h = inl (sym (ap (λ (t : List ℕ × Place). t.1.number) (ok_is {A = List ℕ × Place} (k, place (p.number + 1) ls) (l, q) h)))

-- no line was left
pub refused_none : (p : Place) (line : ℕ) (kind : TextKind) → line_at p ≡ Err (At line kind) → IsRefusedAt line p
refused_none p line kind e = go p.left refl e
  where
    go : (ls : List (List ℕ)) → p.left ≡ ls → next_line p.number ls ≡ Err (At line kind) → IsRefusedAt line p
    go [] is h = let m : p.number ≡ line = cc in inr (m, is)
    go (k ∷ ls) is h = absurd cc

-- ---- a line that was read by a form

-- what the form made of it, of a source that is own inside
pub form_gives : {A : Type 0} (reads : List ℕ → Result A TextKind) (own p q : Place) (l : List ℕ) (r : Result A TextKind) (answer : Result A TextFault) → own ≡ p → line_at p ≡ Ok (l, q) → r ≡ reads l → answer ≡ on own.number r →
    GivesOn (λ x. x) answer q (taken reads p)
form_gives {A = A} reads own p q l r answer same at is told = subst (λ a. GivesOn (λ x. x) a q (taken reads p)) (sym (told ∙ ap (λ (o : Place). on o.number r) same)) (go r is)
  where
    given : (t : Result A TextKind) → t ≡ reads l → taken reads p ≡ (on p.number t >>= λ x. Ok (x, q))
    given t e =
        ap (λ (t : Result (List ℕ × Place) TextFault). t >>= λ line. on p.number (reads line.0) >>= λ x. Ok (x, line.1)) at ∙ ap (λ (t : Result A TextKind). on p.number t >>= λ x. Ok (x, q)) (sym e)

    go : (t : Result A TextKind) → t ≡ reads l → GivesOn (λ x. x) (on p.number t) q (taken reads p)
    go (Ok x) e = given (Ok x) e
    go (Err kind) e = (given (Err kind) e, refused_line p q l at)

-- a value is what the form made of the line
pub form_made : {A : Type 0} (R : List ℕ → Result A TextKind → Type 0) (n : ℕ) (l : List ℕ) (r : Result A TextKind) (answer : Result A TextFault) → R l r → answer ≡ on n r → IfOk answer (λ x. (l : List ℕ) × R l (Ok x))
form_made R n l (Ok x) answer made told = subst (λ a. IfOk a (λ x. (l : List ℕ) × R l (Ok x))) (sym told) (l, made)
form_made R n l (Err kind) answer made told = subst (λ a. IfOk a (λ x. (l : List ℕ) × R l (Ok x))) (sym told) tt

pub line_fewer : (p q : Place) (l : List ℕ) → line_at p ≡ Ok (l, q) → length q.left + 1 ≡ length p.left
line_fewer p q l e = go p.left e
  where
    go : (ls : List (List ℕ)) → next_line p.number ls ≡ Ok (l, q) → length q.left + 1 ≡ length ls
    go [] h = absurd cc
    go (k ∷ ls) h = let same : place (p.number + 1) ls ≡ q = ap (λ (t : List ℕ × Place). t.1) (ok_is {A = List ℕ × Place} (k, place (p.number + 1) ls) (l, q) h) in omega (arith, ap (λ (t : Place). length t.left) same)

pub ruleset refused = (passed_none, passed_line, passed_then, refused_line, refused_none)

pub ruleset formed = (passed_none, passed_line, refused_none, line_fewer)
