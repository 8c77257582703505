-- Texts that are written piece by piece and line by line.
use Rattle.std.specs.Prelude.{◌≡◌, ℕ, List, [], ◌∷◌, ◌++◌, Result, Ok, Err}

-- a line as the pieces that it is joined of
abbrev pub Pieces : Type 0
Pieces = List (List ℕ)

-- a line that is one piece
abbrev pub alone : List ℕ → Pieces
alone l = l ∷ []

-- the line that the pieces make
abbrev pub joined : Pieces → List ℕ
joined [] = []
joined (p ∷ []) = p
joined (p ∷ q ∷ ps) = p ++ joined (q ∷ ps)

-- a text with these pieces after it
abbrev pub put : List ℕ → Pieces → List ℕ
put old [] = old
put old (p ∷ ps) = put (old ++ p) ps

-- a text with these lines after it, each with its line feed
abbrev pub put_lines : List ℕ → List Pieces → List ℕ
put_lines old [] = old
put_lines old (l ∷ ls) = put_lines (put old l ++ (10 ∷ [])) ls

-- what stood there before, and what is written after it
pub record Written : Type 0 where
  pub before : List ℕ
  pub written : List ℕ

-- what is written where memory was found
abbrev pub Wrote : {E : Type 0} → Result (Unit {0}) E → List ℕ → List ℕ → Type 0
Wrote (Ok u) new text = new ≡ text
Wrote (Err e) new text = Unit {0}

-- A writer leaves what stood there before, and has written this where memory was found.
abbrev pub Puts : {E : Type 0} → Result (Unit {0}) E → Written → Written → List ℕ → Type 0
Puts r old new text = (new.before ≡ old.before) × Wrote r new.written text

-- it adds a text
abbrev pub PutsText : {E : Type 0} → Result (Unit {0}) E → Written → Written → List ℕ → Type 0
PutsText r old new text = Puts r old new (old.written ++ text)

-- it adds these pieces
abbrev pub PutsPieces : {E : Type 0} → Result (Unit {0}) E → Written → Written → Pieces → Type 0
PutsPieces r old new ps = Puts r old new (put old.written ps)

-- it adds these lines
abbrev pub PutsLines : {E : Type 0} → Result (Unit {0}) E → Written → Written → List Pieces → Type 0
PutsLines r old new ls = Puts r old new (put_lines old.written ls)

-- in a loop: the text from before it, with these lines after it
abbrev pub HasLines : Written → Written → List Pieces → Type 0
HasLines old new ls = (new.before ≡ old.before) × (new.written ≡ put_lines old.written ls)

-- all of it where memory was found, and else what stood there before
abbrev pub closed : {E : Type 0} → Result (Unit {0}) E → Written → List ℕ
closed (Ok u) w = w.before ++ w.written
closed (Err e) w = w.before

-- The text stands after the old content, or, where memory ran out, nothing of it does.
abbrev pub Appends : {E : Type 0} → Result (Unit {0}) E → List ℕ → List ℕ → List ℕ → Type 0
Appends (Ok u) old new text = new ≡ old ++ text
Appends (Err e) old new text = new ≡ old
