-- A file with what its player heard behind it: what is read is spelled so, what is spelled so is read, and a fault is the first bad line.
use Rattle.std.proofs.Common.{◌≡◌, ◌≢◌, inl, inr, ℕ, ◌+◌, true, List, [], ◌∷◌, ◌++◌, map, length, Option, Some, None, Result, Ok, Err, refl, sym, ap, subst, ◌∙◌, arith}
use Rattle.std.specs.Prelude.{IfOk, IfErr, is_some}
use Rattle.std.specs.List.{All}
use Rattle.std.proofs.lemmas.List.{append-nil}
use Rattle.std.proofs.lemmas.List.Elements.{All-nil, All-cons, All-head, All-tail}
use Rattle.krieg_planfile.proofs.Common.{TextFault, At, NoMemory, TextKind, Syntax, Always, ◌>>=◌, Place, place, LineReader, on, whole, Language, Gives, line_in, Dialect, Line, HeardState, heard_form, all_by, heard_by, heard_plan, SpellsHeard, SpellsLines, FirstBadHeard, IsHeardReading, or_syntax, PlanState, IsPlanFile, plan_at, SpellsPlan, PlanGrammar}
use Rattle.krieg_text.proofs.FirstBadLine.{first_bad}
use Rattle.krieg_text.proofs.Locality.{ok_is}
use Rattle.krieg_text.proofs.Goings.{GoesBy}
use Rattle.krieg_text.proofs.Grammars.{untold}
use Rattle.krieg_text.proofs.Takings.{Read, read_whole, whole_read}
use Rattle.krieg_planfile.proofs.PlanGrammars.{plan_goes}
use Rattle.krieg_planfile.proofs.PlanSpellings.{spelled_again, whole_plan}

-- ---- the lines behind the plan file

abbrev lines_at : Dialect → ℕ → List (List ℕ) → Result (List Line) TextFault
lines_at d n ls = all_by (heard_form d) n ls

-- what the first line and those after it give
abbrev with_first : ℕ → Option Line → Result (List Line) TextFault → Result (List Line) TextFault
with_first n x more = on n (or_syntax x) >>= λ x. more >>= λ xs. Ok (x ∷ xs)

lines_found : (d : Dialect) (n : ℕ) (ls : List (List ℕ)) (heard : List Line) → lines_at d n ls ≡ Ok heard → SpellsLines d heard ls
lines_found d n [] heard e = ap (map Some) (ok_is {A = List Line} [] heard e)
lines_found d n (l ∷ ls) heard e = by (line_in d l) refl (lines_at d (n + 1) ls) (λ xs k. lines_found d (n + 1) ls xs k) refl e
  where
    by : (x : Option Line) → line_in d l ≡ x → (more : Result (List Line) TextFault) → ((xs : List Line) → lines_at d (n + 1) ls ≡ Ok xs → SpellsLines d xs ls) → lines_at d (n + 1) ls ≡ more →
        with_first n x more ≡ Ok heard → SpellsLines d heard (l ∷ ls)
    by None is more rest k h = absurd cc
    by (Some x) is (Err f) rest k h = absurd cc
    by (Some x) is (Ok xs) rest k h = (λ i. is i ∷ rest xs k i) ∙ ap (map Some) (ok_is {A = List Line} (x ∷ xs) heard h)

lines_only : (d : Dialect) (n : ℕ) (ls : List (List ℕ)) (heard : List Line) → SpellsLines d heard ls → lines_at d n ls ≡ Ok heard
lines_only d n [] [] e = refl
lines_only d n [] (x ∷ xs) e = absurd cc
lines_only d n (l ∷ ls) [] e = absurd cc
lines_only d n (l ∷ ls) (x ∷ xs) e =
    let first : line_in d l ≡ Some x = cc in
    let rest : map (line_in d) ls ≡ map Some xs = cc in
    (λ i. with_first n (first i) (lines_only d (n + 1) ls xs rest i))

-- the first of these lines that is none of the dialect
record BadLine (d : Dialect) (n : ℕ) (ls : List (List ℕ)) (line : ℕ) (kind : TextKind) : Type 0 where
  heard : List (List ℕ)
  bad : List ℕ
  rest : List (List ℕ)
  is : ls ≡ heard ++ bad ∷ rest
  told : All (λ l. is_some (line_in d l) ≡ true) heard
  stops : line_in d bad ≡ None
  number : line ≡ n + length heard
  is_syntax : kind ≡ Syntax

abbrev BadAt : Dialect → ℕ → List (List ℕ) → TextFault → Type 0
BadAt d n ls NoMemory = ⊥
BadAt d n ls (At line kind) = BadLine d n ls line kind

later : (d : Dialect) (n : ℕ) (l : List ℕ) (ls : List (List ℕ)) (e : TextFault) → is_some (line_in d l) ≡ true → BadAt d (n + 1) ls e → BadAt d n (l ∷ ls) e
later d n l ls NoMemory told b = b
later d n l ls (At line kind) told b =
    record {
      heard = l ∷ b.heard;
      bad = b.bad;
      rest = b.rest;
      is = ap (λ (t : List (List ℕ)). l ∷ t) b.is;
      told = All-cons (λ l. is_some (line_in d l) ≡ true) l b.heard told b.told;
      stops = b.stops;
      number = omega (arith, b.number);
      is_syntax = b.is_syntax;
    }

lines_bad : (d : Dialect) (n : ℕ) (ls : List (List ℕ)) (e : TextFault) → lines_at d n ls ≡ Err e → BadAt d n ls e
lines_bad d n [] e h = absurd cc
lines_bad d n (l ∷ ls) e h = by (line_in d l) refl (lines_at d (n + 1) ls) (λ f k. lines_bad d (n + 1) ls f k) refl h
  where
    by : (x : Option Line) → line_in d l ≡ x → (more : Result (List Line) TextFault) → ((f : TextFault) → lines_at d (n + 1) ls ≡ Err f → BadAt d (n + 1) ls f) → lines_at d (n + 1) ls ≡ more →
        with_first n x more ≡ Err e → BadAt d n (l ∷ ls) e
    by None is more rest k h =
        let same : At n Syntax ≡ e = cc in
        subst (BadAt d n (l ∷ ls)) same (record { heard = []; bad = l; rest = ls; is = refl; told = All-nil (λ l. is_some (line_in d l) ≡ true); stops = is; number = omega arith; is_syntax = refl })
    by (Some x) is (Ok xs) rest k h = absurd cc
    by (Some x) is (Err f) rest k h =
        let same : f ≡ e = cc in
        later d n l ls e (ap is_some is) (subst (BadAt d (n + 1) ls) same (rest f k))

-- it is told, whatever follows it
lines_refused : (d : Dialect) (n : ℕ) (heard : List (List ℕ)) (bad : List ℕ) (other : List (List ℕ)) → All (λ l. is_some (line_in d l) ≡ true) heard → line_in d bad ≡ None →
    lines_at d n (heard ++ bad ∷ other) ≡ Err (At (n + length heard) Syntax)
lines_refused d n [] bad other told stops =
    let number : n ≡ n + length {A = List ℕ} [] = omega arith in
    ap (λ x. with_first n x (lines_at d (n + 1) other)) stops ∙ ap (λ (k : ℕ). Err (At k Syntax)) number
lines_refused d n (l ∷ ls) bad other told stops =
    let rest = lines_refused d (n + 1) ls bad other (All-tail (λ l. is_some (line_in d l) ≡ true) l ls told) stops in
    let number : n + 1 + length ls ≡ n + length (l ∷ ls) = omega arith in
    by (line_in d l) (All-head (λ l. is_some (line_in d l) ≡ true) l ls told) (rest ∙ ap (λ (k : ℕ). Err (At k Syntax)) number)
  where
    by : (x : Option Line) → is_some x ≡ true → lines_at d (n + 1) (ls ++ bad ∷ other) ≡ Err (At (n + length (l ∷ ls)) Syntax) → with_first n x (lines_at d (n + 1) (ls ++ bad ∷ other)) ≡ Err (At (n + length (l ∷ ls)) Syntax)
    by None some h = absurd cc
    by (Some x) some h = ap (λ t. with_first n (Some x) t) h

-- ---- the file before them

-- what is known of the reader of a file: it goes by the grammar, and reads what lines spell
pub record IsFile {A : Type 0} (read : LineReader A) (K : A → Type 0) (S : A → Language) (Grammar : Language) : Type 0 where
  pub goes : GoesBy read Always untold (λ u. Grammar)
  pub found : (ls : List (List ℕ)) (s : A) → whole read ls ≡ Ok s → S s ls × K s
  pub again : (ls : List (List ℕ)) (s : A) → K s → S s ls → whole read ls ≡ Ok s

module _ {A : Type 0} (read : LineReader A) (dialect : A → Dialect) (K : A → Type 0) (S : A → Language) (Grammar : Language) (is_file : IsFile read K S Grammar) where
  -- a file that is read from the first lines, whatever follows them
  record FileRead (ls : List (List ℕ)) (s : A) (q : Place) : Type 0 where
    front : List (List ℕ)
    is : ls ≡ front ++ q.left
    number : q.number ≡ 1 + length front
    spelled : S s front
    holds : K s
    again : (other : List (List ℕ)) → read (place 1 (front ++ other)) ≡ Ok (s, place q.number other)

  file_read : (ls : List (List ℕ)) (s : A) (q : Place) → read (place 1 ls) ≡ Ok (s, q) → FileRead ls s q
  file_read ls s q e =
      let a = is_file.goes.judges.local.goes 1 ls s q e in
      let alone : Read (read (place 1 a.used)) s [] = record { number = q.number; is = ap (λ (t : List (List ℕ)). read (place 1 t)) (sym (append-nil a.used)) ∙ a.again [] } in
      let (spelled, holds) = is_file.found a.used s (read_whole read a.used s alone) in
      record { front = a.used; is = a.is; number = a.number; spelled = spelled; holds = holds; again = a.again }

  -- ---- both

  abbrev with_file : Result (A × Place) TextFault → Result (HeardState A) TextFault
  with_file r = r >>= λ file. lines_at (dialect file.0) file.1.number file.1.left >>= λ heard. Ok (record { file = file.0; heard = heard })

  abbrev with_lines : A → Result (List Line) TextFault → Result (HeardState A) TextFault
  with_lines s r = r >>= λ heard. Ok (record { file = s; heard = heard })

  abbrev heard_of : List (List ℕ) → Result (HeardState A) TextFault
  heard_of ls = heard_by read dialect ls

  abbrev Spells : HeardState A → Language
  Spells s = SpellsHeard dialect S s

  abbrev Bad : List (List ℕ) → TextFault → Type 0
  Bad ls e = FirstBadHeard read dialect K S Grammar ls e

  all_found : (ls : List (List ℕ)) (s : HeardState A) → heard_of ls ≡ Ok s → Spells s ls × K s.file
  all_found ls s e = by (read (place 1 ls)) refl e
    where
      behind : (f : A) (q : Place) → FileRead ls f q → (more : Result (List Line) TextFault) → lines_at (dialect f) q.number q.left ≡ more → with_lines f more ≡ Ok s → Spells s ls × K s.file
      behind f q r (Err e) k h = absurd cc
      behind f q r (Ok heard) k h =
          subst (λ (t : HeardState A). Spells t ls × K t.file) (ok_is {A = HeardState A} (record { file = f; heard = heard }) s h)
          (record { front = r.front; back = q.left; is = r.is; first = r.spelled; second = lines_found (dialect f) q.number q.left heard k }, r.holds)

      by : (r : Result (A × Place) TextFault) → read (place 1 ls) ≡ r → with_file r ≡ Ok s → Spells s ls × K s.file
      by (Err e) is h = absurd cc
      by (Ok x) is h = behind x.0 x.1 (file_read ls x.0 x.1 is) (lines_at (dialect x.0) x.1.number x.1.left) refl h

  all_only : (ls : List (List ℕ)) (s : HeardState A) → K s.file → Spells s ls → heard_of ls ≡ Ok s
  all_only ls s holds spelled =
      let a = whole_read read spelled.front s.file (is_file.again spelled.front s.file holds spelled.first) in
      let r = file_read spelled.front s.file (place a.number []) a.is in
      let same : spelled.front ++ spelled.back ≡ r.front ++ spelled.back = ap (λ (t : List (List ℕ)). t ++ spelled.back) (r.is ∙ append-nil r.front) in
      ap (λ (t : List (List ℕ)). with_file (read (place 1 t))) (spelled.is ∙ same)
      ∙ ap with_file (r.again spelled.back)
      ∙ ap (with_lines s.file) (lines_only (dialect s.file) a.number spelled.back s.heard spelled.second)

  all_bad : (ls : List (List ℕ)) (e : TextFault) → heard_of ls ≡ Err e → Bad ls e
  all_bad ls e h = by (read (place 1 ls)) refl e h
    where
      in_file : (e : TextFault) → read (place 1 ls) ≡ Err e → Bad ls e
      in_file NoMemory is = first_bad read Always Grammar is_file.goes 1 ls NoMemory is
      in_file (At line kind) is = inl (first_bad read Always Grammar is_file.goes 1 ls (At line kind) is)

      at_line : (f : A) (q : Place) → FileRead ls f q → (e : TextFault) → BadAt (dialect f) q.number q.left e → Bad ls e
      at_line f q r NoMemory b = b
      at_line f q r (At line kind) b =
          let number : q.number + length b.heard ≡ line = sym b.number in
          inr (record {
            file = f;
            front = r.front;
            heard = b.heard;
            bad = b.bad;
            rest = b.rest;
            is = r.is ∙ ap (λ (t : List (List ℕ)). r.front ++ t) b.is;
            spelled = r.spelled;
            holds = r.holds;
            told = b.told;
            stops = b.stops;
            number = omega (arith, b.number, r.number);
            is_syntax = b.is_syntax;
            refused = λ other.
                ap with_file (r.again (b.heard ++ b.bad ∷ other))
                ∙ ap (with_lines f) (lines_refused (dialect f) q.number b.heard b.bad other b.told b.stops)
                ∙ (λ i. Err (At (number i) (sym b.is_syntax i)));
          })

      behind : (f : A) (q : Place) → FileRead ls f q → (more : Result (List Line) TextFault) → lines_at (dialect f) q.number q.left ≡ more → (e : TextFault) → with_lines f more ≡ Err e → Bad ls e
      behind f q r (Ok heard) k e h = absurd cc
      behind f q r (Err d) k e h = let same : d ≡ e = cc in subst (Bad ls) same (at_line f q r d (lines_bad (dialect f) q.number q.left d k))

      by : (r : Result (A × Place) TextFault) → read (place 1 ls) ≡ r → (e : TextFault) → with_file r ≡ Err e → Bad ls e
      by (Err d) is e h = let same : d ≡ e = cc in subst (Bad ls) same (in_file d is)
      by (Ok x) is e h = behind x.0 x.1 (file_read ls x.0 x.1 is) (lines_at (dialect x.0) x.1.number x.1.left) refl e h

  -- ---- what the code answered

  pub heard_reading : {X : Type 0} (view : X → HeardState A) (answer : Result X TextFault) (ls : List (List ℕ)) → Gives view answer (heard_of ls) → IsHeardReading read dialect K S Grammar view ls answer
  heard_reading {X = X} view answer ls given =
      record { first_bad = bad answer given; found = found answer given; only = λ s holds spelled. only answer given s (all_only ls s holds spelled) }
    where
      bad : (answer : Result X TextFault) → Gives view answer (heard_of ls) → IfErr answer (λ e. e ≢ NoMemory → Bad ls e)
      bad (Ok x) g = tt
      bad (Err NoMemory) g = λ no_memory. absurd (no_memory refl)
      bad (Err (At line kind)) g = λ no_memory. all_bad ls (At line kind) g

      found : (answer : Result X TextFault) → Gives view answer (heard_of ls) → IfOk answer (λ x. Spells (view x) ls × K (view x).file)
      found (Ok x) g = all_found ls (view x) g
      found (Err e) g = tt

      only : (answer : Result X TextFault) → Gives view answer (heard_of ls) → (s : HeardState A) → heard_of ls ≡ Ok s → Gives view answer (Ok s)
      only (Ok x) g s is = sym is ∙ g
      only (Err NoMemory) g s is = tt
      only (Err (At line kind)) g s is = sym is ∙ g

-- the same of a plan file
pub heard_plan_reading : {X : Type 0} (view : X → HeardState PlanState) (answer : Result X TextFault) (ls : List (List ℕ)) → Gives view answer (heard_plan ls) →
    IsHeardReading plan_at (λ s. s.dialect) IsPlanFile SpellsPlan PlanGrammar view ls answer
unfolding heard_plan
heard_plan_reading view answer ls given = heard_reading plan_at (λ s. s.dialect) IsPlanFile SpellsPlan PlanGrammar (record { goes = plan_goes; found = whole_plan; again = spelled_again }) view answer ls given
