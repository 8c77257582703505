-- The positions after those of some moves of which just these words are told, one move more.
use Rattle.std.proofs.Common.{◌≡◌, ℕ, ◌+◌, ◌<◌, Bool, true, false, cond, List, [], ◌∷◌, ◌++◌, length, map, filter, take, get_or, Some, None, refl, sym, ap, ◌∙◌, append_assoc}
use Rattle.std.proofs.lemmas.List.{append-nil}
use Rattle.krieg_belief.proofs.Common.{Pos, Move, Dialect, Said, after, after_told, are_told}
use Rattle.krieg_belief.proofs.Adding.{mapped_more}

heard_one : (x : Pos) (m : Move) (xs ys : List Pos) (p next : Pos) (t : Bool) → cond t (Some x) None ≡ Some next → x ≡ after p m → ys ≡ xs ++ next ∷ [] →
    ys ≡ xs ++ map (after p) (cond t (m ∷ []) [])
heard_one x m xs ys p next true some is pushed = pushed ∙ ap (λ (q : Pos). xs ++ q ∷ []) (let same : x ≡ next = cc in sym same ∙ is)
heard_one x m xs ys p next false some is pushed = cc

heard_none : (x : Pos) (m : Move) (xs ys : List Pos) (p : Pos) (t : Bool) → cond t (Some x) None ≡ None → ys ≡ xs → ys ≡ xs ++ map (after p) (cond t (m ∷ []) [])
heard_none x m xs ys p true none same = cc
heard_none x m xs ys p false none same = same ∙ sym (append-nil xs)

-- with the move that is looked at: it is pushed, or nothing is
pub some_more : (d : Dialect) (w : Said) (p : Pos) (ms : List Move) (i : ℕ) (m : Move) (start xs ys : List Pos) (next : Pos) → i < length ms → m ≡ get_or ms i m →
    xs ≡ start ++ map (after p) (filter (are_told d w p) (take i ms)) → after_told d w p m ≡ Some next → ys ≡ xs ++ next ∷ [] →
    ys ≡ start ++ map (after p) (filter (are_told d w p) (take (i + 1) ms))
some_more d w p ms i m start xs ys next low at before some pushed =
    heard_one (after p m) m xs ys p next (are_told d w p m) some refl pushed
    ∙ ap (λ (zs : List Pos). zs ++ map (after p) (filter (are_told d w p) (m ∷ []))) before
    ∙ append_assoc start (map (after p) (filter (are_told d w p) (take i ms))) (map (after p) (filter (are_told d w p) (m ∷ [])))
    ∙ sym (ap (λ (zs : List Pos). start ++ zs) (mapped_more (are_told d w p) (after p) ms i m low at))

pub none_more : (d : Dialect) (w : Said) (p : Pos) (ms : List Move) (i : ℕ) (m : Move) (start xs ys : List Pos) → i < length ms → m ≡ get_or ms i m →
    xs ≡ start ++ map (after p) (filter (are_told d w p) (take i ms)) → after_told d w p m ≡ None → ys ≡ xs →
    ys ≡ start ++ map (after p) (filter (are_told d w p) (take (i + 1) ms))
none_more d w p ms i m start xs ys low at before none same =
    heard_none (after p m) m xs ys p (are_told d w p m) none same
    ∙ ap (λ (zs : List Pos). zs ++ map (after p) (filter (are_told d w p) (m ∷ []))) before
    ∙ append_assoc start (map (after p) (filter (are_told d w p) (take i ms))) (map (after p) (filter (are_told d w p) (m ∷ [])))
    ∙ sym (ap (λ (zs : List Pos). start ++ zs) (mapped_more (are_told d w p) (after p) ms i m low at))
