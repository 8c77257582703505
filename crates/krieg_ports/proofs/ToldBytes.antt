-- Bytes that are told over two calls in a row: what a sink got, and what a source gave.
use Rattle.std.proofs.Common.{◌≡◌, ℕ, ◌+◌, ◌-◌, List, ◌++◌, length, take, drop, sym, ap, ◌∙◌, arith, subst, append_assoc, append-nil, length-append, length-drop, take-add}
use Rattle.std.proofs.lemmas.List.{take_all}
use Rattle.std.proofs.lemmas.Grind.{common_steps}
use Rattle.std.specs.Prelude.{Option, Some, None, IfSome}
use Rattle.std.specs.Io.KnownBytes.{Appends, Consumes, Keeps, IsAtEnd}
use Rattle.krieg_ports.specs.Bytes.{AppendsPrefix, Gave}

-- ---- a sink

-- two texts one after the other
pub Appends_then : (first middle last : Option (List ℕ)) (s t : List ℕ) → Appends first middle s → Appends middle last t → Appends first last (s ++ t)
Appends_then None middle last s t one two = tt
Appends_then (Some x) None last s t one two = absurd one
Appends_then (Some x) (Some y) None s t one two = absurd two
Appends_then (Some x) (Some y) (Some z) s t one two = two ∙ rw one (append_assoc x s t)

-- a text, and then nothing
pub Appends_kept : (first middle last : Option (List ℕ)) (s : List ℕ) → Appends first middle s → Keeps middle last → Appends first last s
Appends_kept None middle last s one kept = tt
Appends_kept (Some x) None last s one kept = absurd one
Appends_kept (Some x) (Some y) None s one kept = absurd kept
Appends_kept (Some x) (Some y) (Some z) s one kept = kept ∙ one

-- the first i elements are a front part
pub AppendsPrefix_take : (old new : Option (List ℕ)) (i : ℕ) (s : List ℕ) → Appends old new (take i s) → AppendsPrefix old new s
AppendsPrefix_take old new i s got = (take i s, drop i s, grind (arith, common_steps), got)

-- a front part of a text is one of a longer text
pub AppendsPrefix_more : (old new : Option (List ℕ)) (s t : List ℕ) → AppendsPrefix old new s → AppendsPrefix old new (s ++ t)
AppendsPrefix_more old new s t (sent, rest, parts, got) =
    (sent, rest ++ t, ap (λ xs. xs ++ t) parts ∙ append_assoc sent rest t, got)

-- a text, and then a front part of another, are a front part of both together
pub AppendsPrefix_then : (first middle last : Option (List ℕ)) (s t : List ℕ) → Appends first middle s → AppendsPrefix middle last t → AppendsPrefix first last (s ++ t)
AppendsPrefix_then first middle last s t one (sent, rest, parts, two) =
    (s ++ sent, rest, ap (λ xs. s ++ xs) parts ∙ sym (append_assoc s sent rest), Appends_then first middle last s sent one two)

-- ---- a source

-- two pieces one after the other
pub Consumes_then : (first middle last : Option (List ℕ)) (s t : List ℕ) → Consumes first middle s → Consumes middle last t → Consumes first last (s ++ t)
Consumes_then None middle last s t one two = tt
Consumes_then (Some x) None last s t one two = absurd one
Consumes_then (Some x) (Some y) None s t one two = absurd two
Consumes_then (Some x) (Some y) (Some z) s t one two = one ∙ ap (λ xs. s ++ xs) two ∙ sym (append_assoc s t z)

-- what was read up to the end are all bytes that were left
pub Consumes_all : (old new : Option (List ℕ)) (s : List ℕ) → Consumes old new s → IsAtEnd new → IfSome old (λ bytes. bytes ≡ s)
Consumes_all None new s read end = tt
Consumes_all (Some x) None s read end = absurd read
Consumes_all (Some x) (Some y) s read end = read ∙ ap (λ xs. s ++ xs) end ∙ append-nil s

-- the bytes of two calls count together
pub Gave_then : (first middle last : Option (List ℕ)) (s t : List ℕ) (P : ℕ → Type 0) → Consumes first middle s → Consumes middle last t → P (length s + length t) → Gave first last P
Gave_then first middle last s t P one two count =
    (s ++ t, Consumes_then first middle last s t one two, subst P (sym (length-append s t)) count)

-- ---- a loop over the parts of a text

-- the first i elements, and then n more of the rest
pub take_more : (i n : ℕ) (xs : List ℕ) → take (i + n) xs ≡ take i xs ++ take n (take (length xs - i) (drop i xs))
take_more i n xs =
    let all : take (length xs - i) (drop i xs) ≡ drop i xs = take_all (length xs - i) (drop i xs) (omega (arith, length-drop i xs)) in
    rw all (take-add i n xs)
