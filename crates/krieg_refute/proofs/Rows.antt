-- A try of a row of notes, where sets have come to the table, and what is claimed by a row.
use Rattle.std.proofs.Common.{◌≡◌, ℕ, ◌<◌, ◌-◌, false, true, List, ◌∷◌, length, map, get_or, Result, Ok, Err, Vec, sym, ap, subst, ◌∙◌, arith}
use Rattle.std.specs.declared.alloc.Global.{Global}
use Rattle.std.proofs.lemmas.List.{length-map, get_or-map}
use Rattle.krieg_refute.proofs.Common.{Pos, Move, Dialect, legal_in_some, add_all, WalksTries, chess, SetRows, set_at, IsMore, Question, Note, SearchStop, Spent, Large, NoMemory, IsBlock, IsRow, AddsSets, ClaimList, pairs_in, IsClaimList, Reasons}
use Rattle.krieg_accounts.proofs.TryWalk.{legal_at}
use Rattle.krieg_game.proofs.ChessLaws.{chess_is_game}
use Rattle.krieg_search.proofs.Adding.{adds_then}
use Rattle.krieg_search.proofs.Noted.{more_block}
use Rattle.krieg_refutation.specs.declared.refutation.Reason.{Reason as Reason'}
use Rattle.krieg_refute.proofs.Blocking.{same_pairs}
use Rattle.krieg_refute.proofs.Carrying.{AreTooMany}

abbrev pub moves_of : List Note → List Move
moves_of ns = map (λ (n : Note). n.mv) ns

-- the move of a note stands at its place among the moves
pub note_at : (ns : List Note) (k : ℕ) (n : Note) → k < length ns → n ≡ get_or ns k n → (k < length (moves_of ns)) × (n.mv ≡ get_or (moves_of ns) k n.mv)
note_at ns k n within at =
    let l = length-map ns (λ (n : Note). n.mv) in
    (omega arith, ap (λ (n : Note). n.mv) at ∙ sym (get_or-map (λ (n : Note). n.mv) ns k n n.mv within))

module _ (d : Dialect) where
  -- a try of a row, where sets have come to the table since
  module _ (T T' : SetRows) (a : Question) (ns : List Note) (r : IsRow d false T a ns) (k : ℕ) (n : Note) (within : k < length ns) (at : n ≡ get_or ns k n) (m : IsMore T T') where
    pub noted_legal : legal_in_some (chess d) (set_at T' a.set) n.mv ≡ true
    noted_legal =
        let p = note_at ns k n within at in
        subst (λ (B : List Pos). legal_in_some (chess d) B n.mv ≡ true) (sym (m.same a.set r.within))
        (legal_at (chess d) (chess_is_game d) (set_at T a.set) a.moves (moves_of ns) r.tries_part k n.mv p.0 p.1)

    pub noted_block : IsBlock d false T' (set_at T' a.set) a.moves n.mv n.block
    noted_block =
        subst (λ (B : List Pos). IsBlock d false T' B a.moves n.mv n.block) (sym (m.same a.set r.within))
        (more_block d false T T' (set_at T a.set) a.moves n.mv n.block m (subst (λ (x : Note). IsBlock d false T (set_at T a.set) a.moves x.mv x.block) (sym at) (r.blocks k n within)))

  -- reasons that are found behind a row of which only sets came
  pub reasons_behind : (r : Result (Vec Reason' Global) SearchStop) (B B' : List Pos) (j : ℕ) (ts ts' : List Move) (T0 T1 T2 : SetRows) (w0 w1 : ClaimList) → B' ≡ B → ts' ≡ ts → AddsSets T0 T1 → IsClaimList d T0 w0
      → Reasons d r B' j ts' T1 T2 w0 w1 → Reasons d r B j ts T0 T2 w0 w1
  reasons_behind r B B' j ts ts' T0 T1 T2 w0 w1 same are sets c h =
      go r (subst (λ (X : List Pos). Reasons d r X j ts T1 T2 w0 w1) same (subst (λ (us : List Move). Reasons d r B' j us T1 T2 w0 w1) are h))
    where
      from : pairs_in T1 w0.places.keys ≡ pairs_in T0 w0.places.keys
      from = same_pairs d T0 T1 w0.places.keys sets c.numbered

      go : (r : Result (Vec Reason' Global) SearchStop) → Reasons d r B j ts T1 T2 w0 w1 → Reasons d r B j ts T0 T2 w0 w1
      go (Ok rs) q = (adds_then T0 T1 T2 sets q.0, q.1, subst (λ (qs : List (List Pos × ℕ)). WalksTries (chess d) qs (pairs_in T2 w1.places.keys) B (j - 1) ts) from q.2, q.3)
      go (Err Spent) q = absurd q
      go (Err Large) q = subst (λ (qs : List (List Pos × ℕ)). AreTooMany d (add_all (chess d) qs (Rattle.std.proofs.Common.flat_map (Rattle.krieg_claims.specs.Walks.behind_try (chess d) (j - 1) B) ts))) from q
      go (Err NoMemory) q = tt
