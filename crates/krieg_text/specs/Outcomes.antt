-- What readers answer.
use Rattle.std.specs.Prelude.{◌≡◌, Option, Some, None, Result, Ok, Err}

-- A reader that knows one fault: the value that the definition gives, and the fault where it gives none.
abbrev pub Reads : {A E : Type 0} → Result A E → Option A → Type 0
Reads (Ok x) read = read ≡ Some x
Reads (Err e) read = read ≡ None

-- one step after another, up to the first fault
infixl 10 ◌>>=◌
abbrev pub ◌>>=◌ : {A B E : Type 0} → Result A E → (A → Result B E) → Result B E
(Ok x) >>= f = f x
(Err e) >>= f = Err e
