-- Positions with the same numbers are the same, valid or not.
use Rattle.std.proofs.Common.{◌≡◌, ℕ, ◌+◌, true, List, [], ◌∷◌, ◌++◌, length, refl, sym, ap, ◌∙◌, arith, map, take, drop}
use Rattle.std.specs.Cmp.{Equal-is}
use Rattle.std.specs.declared.cmp.Ordering.TheVariants.{Equal}
use Rattle.std.proofs.lemmas.Map.Lookups.{exact_bytes}
use Rattle.std.proofs.lemmas.List.{take_at, drop_at, length-append}
use Rattle.krieg_board.specs.Pos.{Pos}
use Rattle.krieg_board.specs.Men.{bits_of}
use Rattle.krieg_pack.specs.Codes.{numbers, man_code, mark_code, side_code}
use Rattle.krieg_pack.specs.Decoding.{man_of, mark_of, side_of, rights_of}
use Rattle.krieg_pack.specs.Order.{position_cmp, position_eq}
use Rattle.krieg_pack.specs.CodesBack.{men_back, side_back, rights_back, mark_back}

-- lists that end in parts of one length are the same part by part
split_same : (xs ys us vs : List ℕ) → length us ≡ length vs → xs ++ us ≡ ys ++ vs → (xs ≡ ys) × (us ≡ vs)
split_same xs ys us vs l e =
    let total : length xs + length us ≡ length ys + length vs = sym (length-append xs us) ∙ ap length e ∙ length-append ys vs in
    let n : length ys ≡ length xs = omega arith in (
      sym (take_at xs us (length xs) refl) ∙ ap (take (length xs)) e ∙ take_at ys vs (length xs) n,
      sym (drop_at xs us (length xs) refl) ∙ ap (drop (length xs)) e ∙ drop_at ys vs (length xs) n,
    )

-- the order tells positions apart
pub same_position : (p q : Pos) → position_cmp p q ≡ Equal → p ≡ q
unfolding numbers
same_position p q h =
    let whole = exact_bytes (numbers p) (numbers q) h in
    let parts = split_same (map man_code p.board) (map man_code q.board) (bits_of p.rights ∷ mark_code p.mark ∷ side_code p.side ∷ []) (bits_of q.rights ∷ mark_code q.mark ∷ side_code q.side ∷ []) refl whole in
    let board = sym (men_back p.board) ∙ ap (map man_of) parts.0 ∙ men_back q.board in
    let er : bits_of p.rights ≡ bits_of q.rights = cc (parts.1) in
    let em : mark_code p.mark ≡ mark_code q.mark = cc (parts.1) in
    let es : side_code p.side ≡ side_code q.side = cc (parts.1) in
    let rights = sym (rights_back p.rights) ∙ ap rights_of er ∙ rights_back q.rights in
    let mark = sym (mark_back p.mark) ∙ ap mark_of em ∙ mark_back q.mark in
    let side = sym (side_back p.side) ∙ ap side_of es ∙ side_back q.side in
    λ i. record { board = board i; side = side i; rights = rights i; mark = mark i }

-- and so does the test of equality
pub equal_position : (p q : Pos) → position_eq p q ≡ true → p ≡ q
equal_position p q h = same_position p q ((Equal-is (position_cmp p q)).0 h)
