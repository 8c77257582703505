-- The laws of a format, by induction: it reads exactly what its table says, and its fault is the first bad line.
use Rattle.std.proofs.Common.{◌≡◌, ℕ, zero, suc, List, ◌∷◌, Result, Ok, Err, refl, sym, ap, subst, ◌∙◌}
use Rattle.krieg_format.proofs.Common.{TextFault, Always, IsReading, Language, ◌⨾◌, ◌>>=◌, Place, LineReader, taken, whole, Gives, Format, line, told, counted, also, made, times, repeated, read_then, reader, table}
use Rattle.krieg_text.proofs.Formats.{reading_as, whole_found, whole_only}
use Rattle.krieg_text.proofs.Locality.{followed}
use Rattle.krieg_format.proofs.Binds.{Lawful, IsPart, joining, bind_told, bind_also, made_law}
use Rattle.krieg_format.proofs.Judged.{IsLine, Sample, line_law, times_law}

-- what a format owes: the laws of its lines, and that what is made can be taken back
abbrev pub Owes : {A : Type 0} {G : Language} → Format A G → Type 0
Owes (line {A = A} {F = F} l) = IsLine l × Sample A F
Owes (told {A = A} {G = G} r f) = IsPart r.reader r.says G × ((x : A) → Owes (f x))
Owes (counted {A = A} {B = B} {G = G} of r f) = IsPart r.reader r.says G × ((x : A) → Owes (f x)) × ((x : A) (y : B) (ls : List (List ℕ)) → table (f x) y ls → of y ≡ x)
Owes (also {A = A} d f) = Owes d × ((x : A) → Owes (f x))
Owes (made {A = A} {B = B} make take d) = ((x : A) (ls : List (List ℕ)) → table d x ls → take (make x) ≡ x) × ((y : B) → make (take y) ≡ y) × Owes d
Owes (times {S = S} n item next s) = (t : S) → Owes (item t)

-- the reader, part by part
abbrev plain : {A : Type 0} {G : Language} → Format A G → LineReader A
plain (line l) = taken l.form
plain (told r f) = followed r.reader (joining (λ x. plain (f x)) (λ x y. (x, y)))
plain (counted of r f) = followed r.reader (joining (λ x. plain (f x)) (λ x y. y))
plain (also d f) = followed (plain d) (joining (λ x. plain (f x)) (λ x y. (x, y)))
plain (made make take d) = followed (plain d) (λ x p. Ok (make x, p))
plain (times n item next s) = repeated n (λ t. plain (item t)) next s

plain_law : {A : Type 0} {G : Language} (d : Format A G) → Owes d → Lawful (plain d) (table d) G
plain_law (line l) o = line_law l o.0 o.1
plain_law (told r f) o =
    bind_told r.reader (λ x. plain (f x)) (λ x y. (x, y)) r.says (λ x. table (f x)) (table (told r f)) (λ x y ls s. s) (λ z ls s. (z.0, z.1, refl, s)) o.0 (λ x. plain_law (f x) (o.1 x))
plain_law (counted of r f) o =
    bind_told r.reader (λ x. plain (f x)) (λ x y. y) r.says (λ x. table (f x)) (table (counted of r f)) (λ x y ls s. subst (λ t. (r.says t ⨾ table (f t) y) ls) (sym (o.2 x y s.back s.second)) s) (λ y ls s. (of y, y, refl, s)) o.0 (λ x. plain_law (f x) (o.1 x))
plain_law (also d f) o =
    bind_also (plain d) (λ x. plain (f x)) (λ x y. (x, y)) (table d) (λ x. table (f x)) (table (also d f)) (λ x y ls s. s) (λ z ls s. (z.0, z.1, refl, s)) (plain_law d o.0) (λ x. plain_law (f x) (o.1 x))
plain_law (made make take d) o = made_law (plain d) make take (table d) o.0 o.1 (plain_law d o.2)
plain_law (times n item next s) o = times_law n (λ t. plain (item t)) next (λ t. table (item t)) _ (λ t. plain_law (item t) (o t)) s

-- ---- the reader is the one part by part

module _ {X Y Z : Type 0} where
  bind_is : (t : Result X TextFault) (g : X → Result Y TextFault) (h : X → Result Z TextFault) (k : Z → Result Y TextFault) → ((x : X) → g x ≡ (h x >>= k)) → (t >>= g) ≡ ((t >>= h) >>= k)
  bind_is (Ok x) g h k e = e x
  bind_is (Err d) g h k e = refl

bind_same : {X Y : Type 0} (t : Result X TextFault) (g h : X → Result Y TextFault) → ((x : X) → g x ≡ h x) → (t >>= g) ≡ (t >>= h)
bind_same (Ok x) g h e = e x
bind_same (Err d) g h e = refl

bind_ok : {A : Type 0} (t : Result (A × Place) TextFault) → ◌>>=◌ {B = A × Place} t (λ x. Ok (x.0, x.1)) ≡ t
bind_ok (Ok x) = refl
bind_ok (Err d) = refl

repeated_is : {S A : Type 0} (n : ℕ) (g h : S → LineReader A) (next : S → A → S) → ((s : S) (p : Place) → g s p ≡ h s p) → (s : S) (p : Place) → repeated n g next s p ≡ repeated n h next s p
repeated_is zero g h next same s p = refl
repeated_is {S = S} {A = A} (suc n) g h next same s p =
    ap (λ (t : Result (A × Place) TextFault). t >>= λ x. repeated n g next (next s x.0) x.1 >>= λ xs. Ok (x.0 ∷ xs.0, xs.1)) (same s p)
    ∙ bind_same (h s p) _ _ (λ x. ap (λ (t : Result (List A × Place) TextFault). ◌>>=◌ {B = List A × Place} t (λ xs. Ok (x.0 ∷ xs.0, xs.1))) (repeated_is n g h next same (next s x.0) x.1))

read_is : {A : Type 0} {G : Language} (d : Format A G) → {C : Type 0} (k : A → LineReader C) (p : Place) → read_then d k p ≡ followed (plain d) k p
read_is (line l) k p = refl
read_is (told r f) k p = bind_is (r.reader p) _ _ _ (λ x. read_is (f x.0) (λ y. k (x.0, y)) x.1 ∙ bind_is (plain (f x.0) x.1) _ _ _ (λ y. refl))
read_is (counted of r f) k p = bind_is (r.reader p) _ _ _ (λ x. read_is (f x.0) k x.1 ∙ bind_is (plain (f x.0) x.1) _ _ _ (λ y. refl))
read_is (also d f) k p = read_is d (λ x. read_then (f x) (λ y. k (x, y))) p ∙ bind_is (plain d p) _ _ _ (λ x. read_is (f x.0) (λ y. k (x.0, y)) x.1 ∙ bind_is (plain (f x.0) x.1) _ _ _ (λ y. refl))
read_is (made make take d) k p = read_is d (λ x. k (make x)) p ∙ bind_is (plain d p) _ _ _ (λ x. refl)
read_is (times {A = A} n item next s) {C = C} k p =
    ap (λ (t : Result (List A × Place) TextFault). ◌>>=◌ {B = C × Place} t (λ x. k x.0 x.1))
    (repeated_is n _ _ next (λ t q. read_is (item t) (λ x o. Ok (x, o)) q ∙ bind_ok (plain (item t) q)) s p)

plain_is : {A : Type 0} {G : Language} (d : Format A G) (p : Place) → plain d p ≡ reader d p
plain_is d p = sym (bind_ok (plain d p)) ∙ sym (read_is d (λ x q. Ok (x, q)) p)

-- ---- the laws

pub law : {A : Type 0} {G : Language} (d : Format A G) → Owes d → Lawful (reader d) (table d) G
law {G = G} d o = subst (λ r. Lawful r (table d) G) (λ i p. plain_is d p i) (plain_law d o)

-- a reader's promise
pub format_reading : {X A : Type 0} {G : Language} (d : Format A G) → Owes d → (view : X → A) (answer : Result X TextFault) (ls : List (List ℕ)) → Gives view answer (whole (reader d) ls) → IsReading view (reader d) Always (table d) G ls answer
format_reading {G = G} d o view answer ls given =
    let l = law d o in
    reading_as view answer (reader d) Always (table d) Always G (λ ms x e. (whole_found (reader d) Always (table d) l.format ms x e).1) (whole_only (reader d) Always (table d) l.format) l.goes ls given

-- what is said is read
pub format_again : {A : Type 0} {G : Language} (d : Format A G) → Owes d → (ls : List (List ℕ)) (x : A) → table d x ls → whole (reader d) ls ≡ Ok x
format_again d o ls x s = whole_only (reader d) Always (table d) (law d o).format ls x tt s
