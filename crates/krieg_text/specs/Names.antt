-- The words of a line.
use Rattle.std.specs.Prelude.{ℕ, ◌==◌, Bool, true, false, List, [], ◌∷◌, length, take, drop, Option, Some, None, if◌then◌else◌}
use Rattle.std.specs.Str.{bytes_eq}

-- what stands after the name, where the text begins with it
unfoldable pub behind : List ℕ → List ℕ → Option (List ℕ)
behind name text = if bytes_eq (take (length name) text) name then Some (drop (length name) text) else None

-- the text up to the first separator, and what stands after that one, where there is one
abbrev pub cut : ℕ → List ℕ → List ℕ × Option (List ℕ)
cut separator [] = ([], None)
cut separator (b ∷ text) = if b == separator then ([], Some text) else (b ∷ (cut separator text).0, (cut separator text).1)

-- a byte in front of a text that is cut, or that is cut at this byte if it is to be
abbrev pub onto_front : ℕ → Option (List ℕ × List ℕ) → List ℕ → Bool → Option (List ℕ × List ℕ)
onto_front b (Some x) text here = Some (b ∷ x.0, x.1)
onto_front b None text true = Some ([], text)
onto_front b None text false = None

-- the text up to the last separator, and what stands after that one, where there is one
unfoldable pub cut_last : ℕ → List ℕ → Option (List ℕ × List ℕ)
cut_last separator [] = None
cut_last separator (b ∷ text) = onto_front b (cut_last separator text) text (b == separator)
