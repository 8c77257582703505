-- The lines of a text. A line feed is byte 10; a carriage return is a byte like others.
use Rattle.std.specs.Prelude.{◌≡◌, ◌≢◌, ◌⊎◌, true, Bool, not, ℕ, ◌==◌, List, [], ◌∷◌, ◌++◌, if◌then◌else◌}
use Rattle.std.specs.List.{flat_map, list_all}

-- the byte at the front of the first line
abbrev pub onto_line : ℕ → List (List ℕ) → List (List ℕ)
onto_line b [] = (b ∷ []) ∷ []
onto_line b (l ∷ ls) = (b ∷ l) ∷ ls

-- a text cut at each line feed; a last piece that is empty is no line, so the last line feed may be absent
abbrev pub lines : List ℕ → List (List ℕ)
lines [] = []
lines (b ∷ bs) = if b == 10 then ([] ∷ lines bs) else onto_line b (lines bs)

-- a line with its line feed
abbrev pub ended_line : List ℕ → List ℕ
ended_line l = l ++ (10 ∷ [])

-- the written text of these lines, with a line feed after every one
abbrev pub with_ends : List (List ℕ) → List ℕ
with_ends ls = flat_map ended_line ls

-- a line has no line feed
abbrev pub is_line : List ℕ → Bool
is_line l = list_all (λ b. not (b == 10)) l

-- none of them has a line feed in it
abbrev pub AreLines : List (List ℕ) → Type 0
AreLines [] = Unit {0}
AreLines (l ∷ ls) = (is_line l ≡ true) × AreLines ls

-- there is a last line, and it is not empty
abbrev pub EndsFull : List (List ℕ) → Type 0
EndsFull [] = ⊥
EndsFull (l ∷ []) = l ≢ []
EndsFull (l ∷ m ∷ ls) = EndsFull (m ∷ ls)

-- the text is these lines with their line feeds, but for the last line feed, which it may lack where the last line is not empty
abbrev pub EndsLines : List ℕ → List (List ℕ) → Type 0
EndsLines text ls = (text ≡ with_ends ls) ⊎ ((text ++ (10 ∷ []) ≡ with_ends ls) × EndsFull ls)
