-- The written lines are those of the description.
use Rattle.std.proofs.Common.{◌≡◌, List, [], ◌∷◌, ◌++◌, map, length, Option, Some, None, refl, ap, ◌∙◌}
use Rattle.std.specs.Prelude.{codes, unwrap_or}
use Rattle.std.specs.List.{flat_map}
use Rattle.krieg_refutefile.proofs.Common.{Pos, Move, Pieces, alone, position_line, Dialect, Reason, each_text, written, ClaimState, RefutationState, none_yet, claim_format, refutation_format, Totals, with_claim, numbered, reason_line, claim_line, claim_lines, head_lines}

-- the text of an item rests on nothing before it
each_is : {S A : Type 0} (item : S → A → List Pieces) (f : A → List Pieces) (next : S → A → S) → ((s : S) (x : A) → item s x ≡ f x) → (s : S) (xs : List A) → each_text item next s xs ≡ flat_map f xs
each_is item f next same s [] = refl
each_is item f next same s (x ∷ xs) = ap (λ (t : List Pieces). t ++ each_text item next (next s x) xs) (same s x) ∙ ap (λ (t : List Pieces). f x ++ t) (each_is item f next same (next s x) xs)

-- nor does that of an item of one line
each_line : {S A : Type 0} (f : A → Pieces) (next : S → A → S) (s : S) (xs : List A) → each_text (λ t x. f x ∷ []) next s xs ≡ map f xs
each_line f next s [] = refl
each_line f next s (x ∷ xs) = ap (λ (t : List Pieces). f x ∷ t) (each_line f next (next s x) xs)

claim_are : (d : Dialect) (s : Totals) (c : ClaimState) → written (claim_format d s) c ≡ claim_lines d c
claim_are d s c =
    ap (λ (t : List Pieces). claim_line c.moves (length c.set) ∷ (t ++ (numbered (codes "tries ") (length c.reasons) ∷ each_text {S = Option Move} (λ t r. reason_line d r ∷ []) (λ last r. Some r.mv) None c.reasons))) (each_line position_line (λ (last : Option Pos) (p : Pos). Some p) None c.set)
    ∙ ap (λ (t : List Pieces). claim_line c.moves (length c.set) ∷ (map position_line c.set ++ (numbered (codes "tries ") (length c.reasons) ∷ t))) (each_line (reason_line d) (λ (last : Option Move) (r : Reason). Some r.mv) None c.reasons)

-- the lines of a refutation: what stands before the listed positions, these, the claims, and the end
abbrev pub refutation_lines : RefutationState → List Pieces
refutation_lines s =
    head_lines s.dialect s.side s.moves (length s.list) ++ (map position_line s.list ++ (numbered (codes "claims ") (length s.claims) ∷ (flat_map (claim_lines s.dialect) s.claims ++ (alone (codes "end") ∷ []))))

pub lines_are : (s : RefutationState) → written refutation_format s ≡ refutation_lines s
lines_are s =
    let d = s.dialect in
    let head = head_lines d s.side s.moves (length s.list) in
    let end : List Pieces = alone (codes "end") ∷ [] in
    ap (λ (t : List Pieces). head ++ (t ++ (numbered (codes "claims ") (length s.claims) ∷ (each_text (λ t c. written (claim_format d t) c) with_claim none_yet s.claims ++ end)))) (each_line position_line (λ (first : Option Pos) (p : Pos). Some (unwrap_or first p)) None s.list)
    ∙ ap (λ (t : List Pieces). head ++ (map position_line s.list ++ (numbered (codes "claims ") (length s.claims) ∷ (t ++ end))))
    (each_is (λ t c. written (claim_format d t) c) (claim_lines d) with_claim (claim_are d) none_yet s.claims)
