-- Which lines spell a file and behind it what its player heard, and the first bad line of a text of both.
use Rattle.std.specs.Prelude.{◌≡◌, ◌≢◌, ◌⊎◌, ℕ, ◌+◌, true, List, ◌∷◌, ◌++◌, length, map, Some, None, is_some, Result, Ok, Err, IfOk, IfErr}
use Rattle.std.specs.List.{All}
use Rattle.krieg_text.specs.declared.fault.TextFault.{TextFault}
use Rattle.krieg_text.specs.declared.fault.TextFault.TheVariants.{At, NoMemory}
use Rattle.krieg_text.specs.declared.fault.TextKind.{TextKind}
use Rattle.krieg_text.specs.declared.fault.TextKind.TheVariants.{Syntax}
use Rattle.krieg_text.specs.FirstBad.{FirstBad}
use Rattle.krieg_text.specs.Languages.{Language, ◌⨾◌}
use Rattle.krieg_text.specs.Reading.{LineReader, place, Gives}
use Rattle.krieg_wordtext.specs.LineReading.{line_in}
use Rattle.krieg_words.specs.declared.dialects.Dialect.{Dialect}
use Rattle.krieg_wordtext.specs.declared.line.Line.{Line}
use Rattle.krieg_planfile.specs.HeardReading.{HeardState, heard_by}

-- a line of the dialect for each that was heard
abbrev pub SpellsLines : Dialect → List Line → Language
SpellsLines d heard ls = map (line_in d) ls ≡ map Some heard

-- the file, and then what its player heard
abbrev pub SpellsHeard : {A : Type 0} → (A → Dialect) → (A → Language) → HeardState A → Language
SpellsHeard dialect S s = S s.file ⨾ SpellsLines (dialect s.file) s.heard

module _ {A : Type 0} (read : LineReader A) (dialect : A → Dialect) (K : A → Type 0) (S : A → Language) (Grammar : Language) where
  -- The first lines spell a file, those behind it are of its dialect up to one that is not, and that one is told as a fault of
  -- syntax, whatever follows it.
  pub record IsBadBehind (ls : List (List ℕ)) (line : ℕ) (kind : TextKind) : Type 0 where
    pub file : A
    pub front : List (List ℕ)
    pub heard : List (List ℕ)
    pub bad : List ℕ
    pub rest : List (List ℕ)
    pub is : ls ≡ front ++ (heard ++ bad ∷ rest)
    pub spelled : S file front
    pub holds : K file
    pub told : All (λ l. is_some (line_in (dialect file) l) ≡ true) heard
    pub stops : line_in (dialect file) bad ≡ None
    pub number : line ≡ 1 + length front + length heard
    pub is_syntax : kind ≡ Syntax
    pub refused : (other : List (List ℕ)) → heard_by read dialect (front ++ (heard ++ bad ∷ other)) ≡ Err (At line kind)

  -- The fault of such a text is the first bad line of its file, which ends with the first `end` and which is not whole where no
  -- such line stands; or it is the first line behind the file that is none of its dialect.
  abbrev pub FirstBadHeard : List (List ℕ) → TextFault → Type 0
  FirstBadHeard ls NoMemory = ⊥
  FirstBadHeard ls (At line kind) = FirstBad (λ ls. read (place 1 ls)) Grammar 1 ls (At line kind) ⊎ IsBadBehind ls line kind

  -- What the reader of such texts promises, beside the value or the fault of the definition. K holds of the files that it reads.
  pub record IsHeardReading {X : Type 0} (view : X → HeardState A) (ls : List (List ℕ)) (answer : Result X TextFault) : Type 0 where
    -- a fault is the first bad line
    pub first_bad : IfErr answer (λ e. e ≢ NoMemory → FirstBadHeard ls e)
    -- what is read is said by the lines, and begins with a file
    pub found : IfOk answer (λ x. SpellsHeard dialect S (view x) ls × K (view x).file)
    -- what the lines say is read
    pub only : (s : HeardState A) → K s.file → SpellsHeard dialect S s ls → Gives view answer (Ok s)
