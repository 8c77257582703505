-- What the lines of a format say is a value that may be written.
use Rattle.std.proofs.Common.{ℕ, zero, suc, List, [], ◌∷◌}
use Rattle.krieg_format.proofs.Common.{Language, Line, Format, line, told, counted, also, made, times, Each, table, EachFits, Fits}

-- what a line owes
abbrev pub IsFitting : {A : Type 0} {F : List ℕ → Type 0} → Line A F → Type 0
IsFitting {A = A} l = (t : List ℕ) (x : A) → l.says t x → l.fits x

-- what a format owes: its lines and the parts that tell say what may be written
abbrev pub OwesFit : {A : Type 0} {G : Language} → Format A G → Type 0
OwesFit (line l) = IsFitting l
OwesFit (told {A = A} r f) = ((x : A) (ls : List (List ℕ)) → r.says x ls → r.fits x) × ((x : A) → OwesFit (f x))
OwesFit (counted {A = A} of r f) = ((x : A) (ls : List (List ℕ)) → r.says x ls → r.fits x) × ((x : A) → OwesFit (f x))
OwesFit (also {A = A} d f) = OwesFit d × ((x : A) → OwesFit (f x))
OwesFit (made make take d) = OwesFit d
OwesFit (times {S = S} n item next s) = (t : S) → OwesFit (item t)

each_fits : {S A : Type 0} (n : ℕ) (T : S → A → Language) (fit : S → A → Type 0) (next : S → A → S) → ((s : S) (x : A) (ls : List (List ℕ)) → T s x ls → fit s x) →
    (s : S) (xs : List A) (ls : List (List ℕ)) → Each n T next s xs ls → EachFits n fit next s xs
each_fits zero T fit next is s [] ls e = tt
each_fits zero T fit next is s (x ∷ xs) ls e = absurd e
each_fits (suc n) T fit next is s [] ls e = absurd e
each_fits (suc n) T fit next is s (x ∷ xs) ls e = (is s x e.front e.first, each_fits n T fit next is (next s x) xs e.back e.second)

pub said_fits : {A : Type 0} {G : Language} (d : Format A G) → OwesFit d → (x : A) (ls : List (List ℕ)) → table d x ls → Fits d x
said_fits (line l) o x ls s = o s.line x s.says
said_fits (told r f) o x ls s = (o.0 x.0 s.front s.first, said_fits (f x.0) (o.1 x.0) x.1 s.back s.second)
said_fits (counted of r f) o y ls s = (o.0 (of y) s.front s.first, said_fits (f (of y)) (o.1 (of y)) y s.back s.second)
said_fits (also d f) o x ls s = (said_fits d o.0 x.0 s.front s.first, said_fits (f x.0) (o.1 x.0) x.1 s.back s.second)
said_fits (made make take d) o y ls s = said_fits d o (take y) ls s
said_fits (times n item next t) o xs ls s = each_fits n (λ t x. table (item t) x) (λ t x. Fits (item t) x) next (λ t x ms e. said_fits (item t) (o t) x ms e) t xs ls s
