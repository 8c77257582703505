-- Lines that are written with their line feeds are read again, and what is read is the text.
use Rattle.std.proofs.Common.{◌≡◌, inl, inr, ℕ, ◌<◌, ◌≤◌, Bool, true, false, not, cond, eqb, eqb-true, List, [], ◌∷◌, ◌++◌, refl, sym, subst, ap, ◌∙◌, append_assoc, arith}
use Rattle.std.proofs.lemmas.Bool.{ne_eqb, and_parts, and_from, not-true}
use Rattle.std.specs.List.{list_all}
use Rattle.std.proofs.lemmas.List.Folds.{list_all-append}
use Rattle.krieg_text.proofs.Common.{lines, onto_line, with_ends, is_line, AreLines, EndsFull, EndsLines}
use Rattle.krieg_text.proofs.Free.{Above}

-- a text of bytes that are all above the line feed is a line
pub line_above : (n : ℕ) (l : List ℕ) → 10 ≤ n → Above n l → is_line l ≡ true
line_above n [] le above = refl
line_above n (b ∷ l) le above =
    let h : n < b = above.0 in
    and_from _ _ (ap not (ne_eqb b 10 (λ e. absurd (omega arith)))) (line_above n l le above.1)

-- two lines one after the other
pub line_append : (a b : List ℕ) → is_line a ≡ true → is_line b ≡ true → is_line (a ++ b) ≡ true
line_append a b p q = list_all-append (λ c. not (eqb c 10)) a b ∙ and_from _ _ p q

pub lines_append : (a b : List (List ℕ)) → AreLines a → AreLines b → AreLines (a ++ b)
lines_append [] b p q = q
lines_append (l ∷ a) b p q = (p.0, lines_append a b p.1 q)

-- the first line ends at its line feed
pub lines_first : (l rest : List ℕ) → is_line l ≡ true → lines (l ++ (10 ∷ rest)) ≡ l ∷ lines rest
lines_first [] rest free = refl
lines_first (b ∷ l) rest free =
    let p = and_parts (not (eqb b 10)) (list_all (λ b. not (eqb b 10)) l) free in
    let here : eqb b 10 ≡ false = not-true (eqb b 10) p.0 in
    rw here (ap (onto_line b) (lines_first l rest p.1))

pub lines_again : (ls : List (List ℕ)) → AreLines ls → lines (with_ends ls) ≡ ls
lines_again [] free = refl
lines_again (l ∷ ls) free =
    ap lines (append_assoc l (10 ∷ []) (with_ends ls)) ∙ lines_first l (with_ends ls) free.0 ∙ ap (λ (t : List (List ℕ)). l ∷ t) (lines_again ls free.1)

pub lines_read : (text : List ℕ) (ls : List (List ℕ)) → AreLines ls → text ≡ with_ends ls → lines text ≡ ls
lines_read text ls free is = ap lines is ∙ lines_again ls free

onto_free : (b : ℕ) (ls : List (List ℕ)) → eqb b 10 ≡ false → AreLines ls → AreLines (onto_line b ls)
onto_free b [] here free = (and_from _ _ (ap not here) refl, tt)
onto_free b (l ∷ ls) here free = (and_from _ _ (ap not here) free.0, free.1)

-- no line has a line feed
pub lines_free : (bs : List ℕ) → AreLines (lines bs)
lines_free [] = tt
lines_free (b ∷ bs) = go (lines_free bs) (eqb b 10) refl
  where
    go : AreLines (lines bs) → (t : Bool) → eqb b 10 ≡ t → AreLines (cond t ([] ∷ lines bs) (onto_line b (lines bs)))
    go more true is = (refl, more)
    go more false is = onto_free b (lines bs) is more

full_more : (l : List ℕ) (ls : List (List ℕ)) → EndsFull ls → EndsFull (l ∷ ls)
full_more l [] full = absurd full
full_more l (m ∷ ls) full = full

full_longer : (b : ℕ) (l : List ℕ) (ls : List (List ℕ)) → EndsFull (l ∷ ls) → EndsFull ((b ∷ l) ∷ ls)
full_longer b l [] full = λ e. absurd cc
full_longer b l (m ∷ ls) full = full

ends_feed : (bs : List ℕ) (ls : List (List ℕ)) → EndsLines bs ls → EndsLines (10 ∷ bs) ([] ∷ ls)
ends_feed bs ls (inl e) = inl (ap (λ (t : List ℕ). 10 ∷ t) e)
ends_feed bs ls (inr e) = inr (ap (λ (t : List ℕ). 10 ∷ t) e.0, full_more [] ls e.1)

ends_byte : (b : ℕ) (bs : List ℕ) (ls : List (List ℕ)) → lines bs ≡ ls → EndsLines bs ls → EndsLines (b ∷ bs) (onto_line b ls)
ends_byte b [] [] is e = inr (refl, λ k. absurd cc)
ends_byte b (c ∷ bs) [] is (inl e) = absurd cc
ends_byte b (c ∷ bs) [] is (inr e) = absurd e.1
ends_byte b bs (l ∷ ls) is (inl e) = inl (ap (λ (t : List ℕ). b ∷ t) e)
ends_byte b bs (l ∷ ls) is (inr e) = inr (ap (λ (t : List ℕ). b ∷ t) e.0, full_longer b l ls e.1)

-- the lines with their line feeds are the text, but for a last line feed that the text may lack
pub lines_whole_text : (bs : List ℕ) → EndsLines bs (lines bs)
lines_whole_text [] = inl refl
lines_whole_text (b ∷ bs) = go (lines_whole_text bs) (eqb b 10) refl
  where
    go : EndsLines bs (lines bs) → (t : Bool) → eqb b 10 ≡ t → EndsLines (b ∷ bs) (cond t ([] ∷ lines bs) (onto_line b (lines bs)))
    go more true is = subst (λ x. EndsLines (x ∷ bs) ([] ∷ lines bs)) (sym (eqb-true b 10 is)) (ends_feed bs (lines bs) more)
    go more false is = ends_byte b bs (lines bs) refl more

pub ruleset again = (lines_read, lines_free, lines_whole_text)
