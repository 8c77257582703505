-- What a format writes says the value, so it is read again.
use Rattle.std.proofs.Common.{◌≡◌, ℕ, zero, suc, true, List, [], ◌∷◌, ◌++◌, map, Ok, refl, sym, ap, subst, ◌∙◌}
use Rattle.std.proofs.lemmas.List.{map-append}
use Rattle.krieg_format.proofs.Common.{lines, is_line, AreLines, Language, ◌⨾◌, whole, Pieces, put_lines, joined, Line, Format, line, told, counted, also, made, times, reader, Each, table, each_text, written, EachFits, Fits}
use Rattle.krieg_text.proofs.LineTexts.{lines_append, lines_again}
use Rattle.krieg_text.proofs.Writings.{put_lines_is}
use Rattle.krieg_format.proofs.Reading.{Owes, format_again}

-- lines that say it, none of which has a line feed
pub record Says (S : Language) (ls : List (List ℕ)) : Type 0 where
  pub says : S ls
  pub are : AreLines ls

-- what a line owes: what it writes of a value that it may write says it, and is a line
abbrev pub IsWritten : {A : Type 0} {F : List ℕ → Type 0} → Line A F → Type 0
IsWritten {A = A} l = (x : A) → l.fits x → l.says (joined (l.text x)) x × (is_line (joined (l.text x)) ≡ true)

-- what a format owes to write
abbrev pub OwesText : {A : Type 0} {G : Language} → Format A G → Type 0
OwesText (line l) = IsWritten l
OwesText (told {A = A} r f) = ((x : A) → r.fits x → Says (r.says x) (map joined (r.text x))) × ((x : A) → OwesText (f x))
OwesText (counted {A = A} of r f) = ((x : A) → r.fits x → Says (r.says x) (map joined (r.text x))) × ((x : A) → OwesText (f x))
OwesText (also {A = A} d f) = OwesText d × ((x : A) → OwesText (f x))
OwesText (made make take d) = OwesText d
OwesText (times {S = S} n item next s) = (t : S) → OwesText (item t)

both : (S T : Language) (a b : List Pieces) → Says S (map joined a) → Says T (map joined b) → Says (S ⨾ T) (map joined (a ++ b))
both S T a b p q =
    let all : map joined (a ++ b) ≡ map joined a ++ map joined b = map-append joined a b in
    record {
      says = record { front = map joined a; back = map joined b; is = all; first = p.says; second = q.says };
      are = subst AreLines (sym all) (lines_append (map joined a) (map joined b) p.are q.are);
    }

each_says : {S A : Type 0} (n : ℕ) (T : S → A → Language) (w : S → A → List Pieces) (fit : S → A → Type 0) (next : S → A → S) → ((s : S) (x : A) → fit s x → Says (T s x) (map joined (w s x))) →
    (s : S) (xs : List A) → EachFits n fit next s xs → Says (Each n T next s xs) (map joined (each_text w next s xs))
each_says zero T w fit next is s [] f = record { says = refl; are = tt }
each_says zero T w fit next is s (x ∷ xs) f = absurd f
each_says (suc n) T w fit next is s [] f = absurd f
each_says (suc n) T w fit next is s (x ∷ xs) f = both (T s x) (Each n T next (next s x) xs) (w s x) (each_text w next (next s x) xs) (is s x f.0) (each_says n T w fit next is (next s x) xs f.1)

pub written_says : {A : Type 0} {G : Language} (d : Format A G) → OwesText d → (x : A) → Fits d x → Says (table d x) (map joined (written d x))
written_says (line l) o x f = let w = o x f in record { says = record { line = joined (l.text x); is = refl; says = w.0 }; are = (w.1, tt) }
written_says (told r f) o x h = both (r.says x.0) (table (f x.0) x.1) (r.text x.0) (written (f x.0) x.1) (o.0 x.0 h.0) (written_says (f x.0) (o.1 x.0) x.1 h.1)
written_says (counted of r f) o y h = both (r.says (of y)) (table (f (of y)) y) (r.text (of y)) (written (f (of y)) y) (o.0 (of y) h.0) (written_says (f (of y)) (o.1 (of y)) y h.1)
written_says (also d f) o x h = both (table d x.0) (table (f x.0) x.1) (written d x.0) (written (f x.0) x.1) (written_says d o.0 x.0 h.0) (written_says (f x.0) (o.1 x.0) x.1 h.1)
written_says (made make take d) o y h = written_says d o (take y) h
written_says (times n item next s) o xs h = each_says n (λ t x. table (item t) x) (λ t x. written (item t) x) (λ t x. Fits (item t) x) next (λ t x f. written_says (item t) (o t) x f) s xs h

-- the text of a value says it
pub text_says : {A : Type 0} {G : Language} (d : Format A G) → OwesText d → (x : A) → Fits d x → table d x (lines (put_lines [] (written d x)))
text_says d o x f =
    let w = written_says d o x f in
    subst (table d x) (sym (ap lines (put_lines_is [] (written d x)) ∙ lines_again (map joined (written d x)) w.are)) w.says

-- and is read as it again
pub text_again : {A : Type 0} {G : Language} (d : Format A G) → Owes d → OwesText d → (x : A) → Fits d x → whole (reader d) (lines (put_lines [] (written d x))) ≡ Ok x
text_again d o w x f = format_again d o (lines (put_lines [] (written d x))) x (text_says d w x f)
