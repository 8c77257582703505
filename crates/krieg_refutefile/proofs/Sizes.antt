-- How long the text of a refutation may be: an input has room for it.
use Rattle.std.proofs.Common.{◌≡◌, ℕ, ◌+◌, ◌*◌, ◌<◌, ◌≤◌, ◌^◌, lit≤, List, [], ◌∷◌, ◌++◌, map, length, Ok, ap, arith, length-append}
use Rattle.std.specs.Prelude.{codes}
use Rattle.std.specs.List.{All, flat_map}
use Rattle.std.proofs.lemmas.List.Elements.{All-head, All-tail}
use Rattle.krieg_refutefile.proofs.Common.{Move, number_text, whole, Pieces, alone, joined, put_lines, position_line, move_text, words_text, Dialect, MOST_CLAIMS, MOST_CLAIMED, Reason, Why, Lives, Stale, Class, Refused, refutation_at, ClaimState, RefutationState, numbered, why_pieces, reason_line, claim_line, claim_lines, head_lines, refutation_text, text_bound, CitesBelow, IsToldWhy, IsToldReason, AreToldClaims, positions_in, reasons_in, CanBeWritten, MOST_MOVES, MOST_LISTED}
use Rattle.krieg_refutefile.proofs.RefutationLaws.{refutation_reading}
use Rattle.krieg_refutefile.proofs.Writables.{cites_any, spelled_can}
use Rattle.krieg_refutefile.proofs.WrittenLines.{refutation_lines, lines_are}
use Rattle.krieg_planfile.proofs.TextSizes.{append_short, words_short, number_short, move_short, size, size_append, text_size, positions_short, dialect_short, side_line_short}

-- ---- lines

place_short : (i : ℕ) → i < MOST_CLAIMS + 1 → length (number_text i) ≤ 5
place_short i few = number_short 5 i (omega arith) (omega (arith, few)) (omega (arith, few))

why_short : (d : Dialect) (m : Move) (y : Why) → IsToldWhy d y → CitesBelow (MOST_CLAIMS + 1) y → length (joined (move_text m ∷ why_pieces d y)) ≤ 159
why_short d m Lives told cites = append_short (move_text m) (codes " lives") 5 154 (move_short m) (lit≤ tt)
why_short d m Stale told cites = append_short (move_text m) (codes " stale") 5 154 (move_short m) (lit≤ tt)
why_short d m (Refused i) told cites =
    append_short (move_text m) (codes " refused " ++ number_text i) 5 154 (move_short m) (append_short (codes " refused ") (number_text i) 149 5 (lit≤ tt) (place_short i cites.1))
why_short d m (Class (own, reply) i) told cites =
    let n : List ℕ = codes " " ++ number_text i in
    let w : List ℕ = words_text d reply ++ n in
    let v : List ℕ = words_text d own ++ (codes " / " ++ w) in
    append_short (move_text m) (codes " class " ++ v) 5 154 (move_short m) (append_short (codes " class ") v 7 147 (lit≤ tt)
    (append_short (words_text d own) (codes " / " ++ w) 69 78 (words_short d own told.0.0.0) (append_short (codes " / ") w 3 75 (lit≤ tt)
    (append_short (words_text d reply) n 69 6 (words_short d reply told.1.0.0) (append_short (codes " ") (number_text i) 1 5 (lit≤ tt) (place_short i cites.1))))))

-- ---- texts of many lines

reasons_short : (d : Dialect) (own : ℕ) (rs : List Reason) → own ≤ MOST_CLAIMS + 1 → All (IsToldReason d own) rs → size (map (reason_line d) rs) ≤ 160 * length rs
reasons_short d own [] few told = omega arith
reasons_short d own (r ∷ rs) few told =
    let t = All-head (IsToldReason d own) r rs told in
    let one = why_short d r.mv r.why t.told (cites_any own r.why few t.cites) in
    let more = reasons_short d own rs few (All-tail (IsToldReason d own) r rs told) in
    omega (arith, one, more)

numbered_short : (name : List ℕ) (k n : ℕ) → 0 < k → n < 10 ^ k → n ≤ 200000 → length (joined (numbered name n)) ≤ length name + k
numbered_short name k n some few small = let digits = number_short k n some few small in omega (arith, digits, length-append name (number_text n))

sizes_short : (moves n : ℕ) → moves ≤ MOST_MOVES → n ≤ MOST_CLAIMED → length (joined (claim_line moves n)) ≤ 14
sizes_short moves n low few =
    append_short (codes "claim ") (number_text moves ++ (codes " " ++ number_text n)) 6 8 (lit≤ tt)
    (append_short (number_text moves) (codes " " ++ number_text n) 1 7 (number_short 1 moves (omega arith) (omega (arith, low)) (omega (arith, low)))
    (append_short (codes " ") (number_text n) 1 6 (lit≤ tt) (number_short 6 n (omega arith) (omega (arith, few)) few)))

claims_short : (d : Dialect) (own : ℕ) (cs : List ClaimState) → AreToldClaims d own cs → own + length cs ≤ MOST_CLAIMS + 1 → positions_in cs ≤ MOST_CLAIMED → reasons_in cs ≤ MOST_CLAIMED →
    size (flat_map (claim_lines d) cs) ≤ 28 * length cs + (83 * positions_in cs + 160 * reasons_in cs)
claims_short d own [] told few positions reasons = omega arith
claims_short d own (c ∷ cs) told few positions reasons =
    let head = sizes_short c.moves (length c.set) told.0.most_moves (omega (arith, positions)) in
    let set = positions_short c.set in
    let tries = numbered_short (codes "tries ") 6 (length c.reasons) (omega arith) (omega (arith, reasons)) (omega (arith, reasons)) in
    let rs = reasons_short d own c.reasons (omega (arith, few)) told.0.reasons in
    let more = claims_short d (own + 1) cs told.1 (omega (arith, few)) (omega (arith, positions)) (omega (arith, reasons)) in
    omega (arith, head, set, tries, rs, more, size_append (claim_lines d c) (flat_map (claim_lines d) cs), size_append (map position_line c.set) (numbered (codes "tries ") (length c.reasons) ∷ map (reason_line d) c.reasons))

head_short : (s : RefutationState) → CanBeWritten s → size (head_lines s.dialect s.side s.moves (length s.list)) ≤ 90
head_short s w =
    let version = numbered_short (codes "krieg refutation ") 1 1 (omega arith) (omega arith) (omega arith) in
    let dialect = dialect_short s.dialect in
    let side = side_line_short s.side in
    let moves = numbered_short (codes "moves ") 1 s.moves (omega arith) (omega (arith, w.most_moves)) (omega (arith, w.most_moves)) in
    let list = numbered_short (codes "list ") 6 (length s.list) (omega arith) (omega (arith, w.few_listed)) w.few_listed in
    omega (arith, version, dialect, side, moves, list)

-- the text of a refutation that can be written
pub text_short : (s : RefutationState) → CanBeWritten s → length (refutation_text s) < text_bound
unfolding refutation_text
text_short s w =
    let d = s.dialect in
    let end : List Pieces = alone (codes "end") ∷ [] in
    let claims : List Pieces = flat_map (claim_lines d) s.claims in
    let count : Pieces = numbered (codes "claims ") (length s.claims) in
    let text = text_size (refutation_lines s) in
    let same = ap (λ (ls : List Pieces). length (put_lines [] ls)) (lines_are s) in
    let head = head_short s w in
    let list = positions_short s.list in
    let counted = numbered_short (codes "claims ") 5 (length s.claims) (omega arith) (omega (arith, w.few_claims)) (omega (arith, w.few_claims)) in
    let all = claims_short d 1 s.claims w.told (omega (arith, w.few_claims)) w.few_positions w.few_reasons in
    let listed : length s.list ≤ MOST_LISTED = w.few_listed in
    let some : length s.claims ≤ MOST_CLAIMS = w.few_claims in
    let positions : positions_in s.claims ≤ MOST_CLAIMED = w.few_positions in
    let reasons : reasons_in s.claims ≤ MOST_CLAIMED = w.few_reasons in
    omega (
      arith,
      text,
      same,
      head,
      list,
      counted,
      all,
      listed,
      some,
      positions,
      reasons,
      size_append (head_lines s.dialect s.side s.moves (length s.list)) (map position_line s.list ++ (count ∷ (claims ++ end))),
      size_append (map position_line s.list) (count ∷ (claims ++ end)),
      size_append claims end,
    )

-- and of one that is read, as it is written again
pub read_short : (ls : List (List ℕ)) (s : RefutationState) → whole refutation_at ls ≡ Ok s → length (refutation_text s) < text_bound
read_short ls s read = text_short s (spelled_can s ls (refutation_reading (λ (x : RefutationState). x) (Ok s) ls read).found)
