-- Two readers, one after the other, and a value made of what both gave.
use Rattle.std.proofs.Common.{◌≡◌, ℕ, ◌+◌, List, [], ◌++◌, length, Result, Ok, refl, sym, ap, subst, ◌∙◌, append_assoc, arith, length-append}
use Rattle.krieg_format.proofs.Common.{TextFault, Always, ◌>>=◌, Place, place, LineReader, Language, Nothing, Any, ◌⨾◌}
use Rattle.krieg_text.proofs.Formats.{IsFormat}
use Rattle.krieg_text.proofs.Goings.{GoesBy, goes_by, bind_goes, then_goes, made_goes}
use Rattle.krieg_text.proofs.Grammars.{untold, pure_keeps, same_keeps}
use Rattle.krieg_text.proofs.Locality.{followed, local_bind, local_pure, ok_is}
use Rattle.krieg_text.proofs.Takings.{steps}

-- What is proved of a format: it reads exactly what the table says, and goes by the grammar.
pub record Lawful {A : Type 0} (r : LineReader A) (S : A → Language) (G : Language) : Type 0 where
  pub format : IsFormat r S
  pub goes : GoesBy r Always untold (λ u. G)

-- the same of a part that tells which lines may follow
pub record IsPart {A : Type 0} (r : LineReader A) (S G : A → Language) : Type 0 where
  pub format : IsFormat r S
  pub goes : GoesBy r Always (λ x. x) G

-- the second reader, and what is made of both values
abbrev pub joining : {A B C : Type 0} → (A → LineReader B) → (A → B → C) → A → LineReader C
joining f make x = followed (f x) (λ y p. Ok (make x y, p))

module _ {A B C : Type 0} (r : LineReader A) (f : A → LineReader B) (make : A → B → C) (S : A → Language) (T : A → B → Language) (U : C → Language)
    (to : (x : A) (y : B) (ls : List (List ℕ)) → (S x ⨾ T x y) ls → U (make x y) ls)
    (from : (z : C) (ls : List (List ℕ)) → U z ls → (x : A) × (y : B) × (make x y ≡ z) × (S x ⨾ T x y) ls) where
  pub bind_format : IsFormat r S → ((x : A) → IsFormat (f x) (T x)) → IsFormat (followed r (joining f make)) U
  bind_format is more = record {
    local = local_bind r (joining f make) is.local (λ x. local_bind (f x) (λ y p. Ok (make x y, p)) (more x).local (λ y. local_pure (make x y)));
    holds = λ n ls z q e. tt;
    found = λ n ls z q e.
        let s = steps (r (place n ls)) (λ x. joining f make x.0 x.1) (z, q) e in
        let t = steps (f s.mid.0 s.mid.1) (λ y. Ok (make s.mid.0 y.0, y.1)) (z, q) s.second in
        let same = ok_is {A = C × Place} (make s.mid.0 t.mid.0, t.mid.1) (z, q) t.second in
        let a = is.found n ls s.mid.0 s.mid.1 s.first in
        let b = (more s.mid.0).found s.mid.1.number s.mid.1.left t.mid.0 t.mid.1 t.first in
        record {
          used = a.used ++ b.used;
          is = a.is ∙ ap (λ (t : List (List ℕ)). a.used ++ t) b.is ∙ sym (append_assoc a.used b.used t.mid.1.left) ∙ ap (λ (w : C × Place). (a.used ++ b.used) ++ w.1.left) same;
          says = subst (λ w. U w (a.used ++ b.used)) (ap (λ (w : C × Place). w.0) same) (to s.mid.0 t.mid.0 (a.used ++ b.used) (record { front = a.used; back = b.used; is = refl; first = a.says; second = b.says }));
        };
    only = λ n used rest z k u.
        let w = from z used u in
        let s = w.3 in
        let one : used ++ rest ≡ s.front ++ (s.back ++ rest) = ap (λ (t : List (List ℕ)). t ++ rest) s.is ∙ append_assoc s.front s.back rest in
        let number : n + length s.front + length s.back ≡ n + length used = omega (arith, ap length s.is, length-append s.front s.back) in
        ap (λ (t : List (List ℕ)). followed r (joining f make) (place n t)) one
        ∙ ap (λ (t : Result (A × Place) TextFault). t >>= λ x. joining f make x.0 x.1) (is.only n s.front (s.back ++ rest) w.0 tt s.first)
        ∙ ap (λ (t : Result (B × Place) TextFault). ◌>>=◌ {B = C × Place} t (λ y. Ok (make w.0 y.0, y.1))) ((more w.0).only (n + length s.front) s.back rest w.1 tt s.second)
        ∙ ap (λ (k : ℕ). Ok (make w.0 w.1, place k rest)) number
        ∙ ap (λ (t : C). Ok (t, place (n + length used) rest)) w.2;
  }

  -- the lines after the first part rest on what it told
  pub bind_told : {G H : A → Language} → IsPart r S G → ((x : A) → Lawful (f x) (T x) (H x)) → Lawful (followed r (joining f make)) U (Any (λ (x : A). G x ⨾ H x))
  bind_told {G = G} {H = H} is more = record {
    format = bind_format is.format (λ x. (more x).format);
    goes = bind_goes r (joining f make) Always (λ x. x) G Always untold (λ x u. H x) is.goes
        (λ x k. made_goes (f x) (make x) Always untold (λ u. H x) Always untold (λ y h. tt) (λ y. refl) (more x).goes);
  }

  -- they are of one grammar
  pub bind_also : {G H : Language} → Lawful r S G → ((x : A) → Lawful (f x) (T x) H) → Lawful (followed r (joining f make)) U (G ⨾ H)
  bind_also {G = G} {H = H} is more = record {
    format = bind_format is.format (λ x. (more x).format);
    goes = then_goes r (joining f make) Always G Always untold (λ u. H) is.goes
        (λ x k. made_goes (f x) (make x) Always untold (λ u. H) Always untold (λ y h. tt) (λ y. refl) (more x).goes);
  }

-- another value of the same lines
pub made_law : {A B : Type 0} {G : Language} (r : LineReader A) (make : A → B) (take : B → A) (S : A → Language) → ((x : A) (ls : List (List ℕ)) → S x ls → take (make x) ≡ x) → ((y : B) → make (take y) ≡ y) → Lawful r S G →
    Lawful (followed r (λ x p. Ok (make x, p))) (λ y. S (take y)) G
made_law {A = A} {B = B} {G = G} r make take S back forth is = record {
  format = record {
    local = local_bind r (λ x p. Ok (make x, p)) is.format.local (λ x. local_pure (make x));
    holds = λ n ls y q e. tt;
    found = λ n ls y q e.
        let s = steps (r (place n ls)) (λ x. Ok (make x.0, x.1)) (y, q) e in
        let same = ok_is {A = B × Place} (make s.mid.0, s.mid.1) (y, q) s.second in
        let f = is.format.found n ls s.mid.0 s.mid.1 s.first in
        let part : s.mid.0 ≡ take y = sym (back s.mid.0 f.used f.says) ∙ ap (λ (t : B × Place). take t.0) same in
        record { used = f.used; is = f.is ∙ ap (λ (t : B × Place). f.used ++ t.1.left) same; says = subst (λ x. S x f.used) part f.says };
    only = λ n used rest y k s.
        ap (λ (t : Result (A × Place) TextFault). ◌>>=◌ {B = B × Place} t (λ x. Ok (make x.0, x.1))) (is.format.only n used rest (take y) tt s)
        ∙ ap (λ (z : B). Ok (z, place (n + length used) rest)) (forth y);
  };
  goes = made_goes r make Always untold (λ u. G) Always untold (λ x h. tt) (λ x. refl) is.goes;
}

-- no line
pub none_goes : {A : Type 0} (x : A) → GoesBy (λ p. Ok (x, p)) Always untold (λ u. Nothing)
none_goes x =
    goes_by (λ p. Ok (x, p)) Always Nothing
    (same_keeps (λ p. Ok (x, p)) Always untold (λ b ls. (tt ≡ b) × Nothing ls) untold (λ u. Nothing) (λ y ls s. s.1) (λ d ls s. (tt, (refl, s), λ y e. refl)) (pure_keeps x Always untold tt))

pub none_format : {A : Type 0} (x : A) (S : A → Language) → ((ls : List (List ℕ)) → ls ≡ [] → S x ls) → ((y : A) (ls : List (List ℕ)) → S y ls → (x ≡ y) × (ls ≡ [])) → IsFormat (λ p. Ok (x, p)) S
none_format {A = A} x S to from = record {
  local = local_pure x;
  holds = λ n ls y q e. tt;
  found = λ n ls y q e.
      let same = ok_is {A = A × Place} (x, place n ls) (y, q) e in
      record { used = []; is = ap (λ (t : A × Place). t.1.left) same; says = subst (λ (t : A × Place). S t.0 []) same (to [] refl) };
  only = λ n used rest y k s.
      let w = from y used s in
      let number : n ≡ n + 0 = omega arith in
      ap (λ (t : List (List ℕ)). Ok (x, place n (t ++ rest))) w.1 ∙ ap (λ (k : ℕ). Ok (x, place k rest)) number ∙ ap (λ (t : List (List ℕ)). Ok (x, place (n + length t) rest)) (sym w.1)
      ∙ ap (λ (t : A). Ok (t, place (n + length used) rest)) w.0;
}
