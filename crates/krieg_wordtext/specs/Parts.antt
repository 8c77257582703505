-- A text of parts that are there or not, with a separator between two of them.
use Rattle.std.specs.Prelude.{ℕ, ◌≡◌, Bool, true, false, List, [], ◌∷◌, ◌++◌, Option, Some, None, is_none, unwrap_or, if◌then◌else◌}
use Rattle.krieg_text.specs.Names.{behind, cut}

-- whether a part is there, and its text
abbrev pub Part : Type 0
Part = Bool × List ℕ

-- the text as a part, where it is there
abbrev pub text_if : Bool → List ℕ → List (List ℕ)
text_if there text = if there then text ∷ [] else []

-- the texts of the parts that are there
abbrev pub texts : List Part → List (List ℕ)
texts [] = []
texts (p ∷ ps) = text_if p.0 p.1 ++ texts ps

-- texts one after another, with the separator between two of them
abbrev pub joined_by : List ℕ → List (List ℕ) → List ℕ
joined_by separator [] = []
joined_by separator (p ∷ []) = p
joined_by separator (p ∷ q ∷ ps) = p ++ (separator ++ joined_by separator (q ∷ ps))

-- Written part by part.

-- the separator, where another part stands before
abbrev pub separator_after : List ℕ → Bool → List ℕ
separator_after separator before = if before then separator else []

-- a part that is there or not, after a separator where another part stands before
abbrev pub piece : List ℕ → Bool → Bool → List ℕ → List ℕ
piece separator before there text = if there then separator_after separator before ++ text else []

-- Read part by part. The separator is a mark and a gap, and what is left is a text, or nothing after the last part.

-- the part at the front of what is left, up to the mark
abbrev pub front : ℕ → Option (List ℕ) → List ℕ
front mark None = []
front mark (Some text) = (cut mark text).0

-- without the gap that is due after a mark; where it is missing an empty text is left, which is no part
abbrev pub after_gap : List ℕ → Option (List ℕ) → Option (List ℕ)
after_gap gap None = None
after_gap gap (Some text) = Some (unwrap_or (behind gap text) [])

-- what is left after the part at the front, its mark and the gap
abbrev pub past : ℕ → List ℕ → Option (List ℕ) → Option (List ℕ)
past mark gap None = None
past mark gap (Some text) = after_gap gap (cut mark text).1

-- what is left where the part at the front was taken, and where it was not
abbrev pub left_by : ℕ → List ℕ → Bool → Option (List ℕ) → Option (List ℕ)
left_by mark gap true rest = past mark gap rest
left_by mark gap false rest = rest

-- what parts tell, where nothing is left after them
abbrev pub PartsReader : Type 0 → Type 0
PartsReader A = Option (List ℕ) → Option A

-- nothing is left
abbrev pub no_more : PartsReader (Unit {0})
no_more rest = if is_none rest then Some tt else None

-- both, where the second is there
abbrev pub with : {A B : Type 0} → A → Option B → Option (A × B)
with x None = None
with x (Some y) = Some (x, y)

-- A part of that form, and the parts after it. It is left where its form says that it is not there.
abbrev pub part_then : {A B : Type 0} → ℕ → List ℕ → (List ℕ → A) → (A → Bool) → PartsReader B → PartsReader (A × B)
part_then mark gap form there others rest = with (form (front mark rest)) (others (left_by mark gap (there (form (front mark rest))) rest))

-- what is left of a text of parts, and the mark that cuts it
pub record Left : Type 0 where
  pub mark : ℕ
  pub text : Option (List ℕ)

-- it is cut into the part at its front and what stands behind the mark
pub record IsCut (mark : ℕ) (text : Option (List ℕ)) (first : List ℕ) (more : Option (List ℕ)) : Type 0 where
  pub first_is : first ≡ front mark text
  pub more_is : (gap : List ℕ) → after_gap gap more ≡ past mark gap text
