-- What comes of a sheet by what comes of its possible positions.
use Rattle.std.proofs.Common.{◌≡◌, ℕ, Bool, false, List, Result, Ok, Err, subst}
use Rattle.krieg_outcome.proofs.Common.{Pos, Side, Dialect, SheetState, Decides, Leaves, OfPossible, IsGiven, OfSheet, Search, SearchKind, ByKind, Refusal, TooMany, NonePossible, NotThePlayersTurn, Ending}
use Rattle.krieg_outcome.specs.declared.commands.search.SearchKind.TheVariants as kind
use Rattle.krieg_outcome.specs.declared.ending.Ending.TheVariants as ending

-- a search refuses nothing that is refused before it
pub record IsLater (By : Search) : Type 0 where
  pub many : (d : Dialect) (who : Side) (S : List Pos) (n budget line : ℕ) → By d who S n budget (Err (TooMany line)) → ⊥
  pub none : (d : Dialect) (who : Side) (S : List Pos) (n budget : ℕ) → By d who S n budget (Err NonePossible) → ⊥
  pub turn : (d : Dialect) (who : Side) (S : List Pos) (n budget : ℕ) → By d who S n budget (Err NotThePlayersTurn) → ⊥

pub later : (kind : SearchKind) → IsLater (ByKind kind)
later kind.Solve = record { many = λ d who S n budget line h. h; none = λ d who S n budget h. h; turn = λ d who S n budget h. h }
later _ = record { many = λ d who S n budget line h. h; none = λ d who S n budget h. h; turn = λ d who S n budget h. h }

-- the positions that were given
pub given : (limit : ℕ) (s : SheetState) (rests : Bool) (S : List Pos) → OfPossible limit s rests IsGiven (Ok S) → Leaves limit s S × (rests ≡ false)
given limit s rests S (T, leaves, goes, same) = let e : T ≡ S = cc in (subst (Leaves limit s) e leaves, goes)

module _ (By : Search) (is_later : IsLater By) (n budget limit : ℕ) (s : SheetState) (rests : SheetState → Bool) (S : List Pos) (leaves : Leaves limit s S) (goes : rests s ≡ false) where
  refused_then : (r : Refusal) → By s.dialect s.side S n budget (Err r) → OfSheet By rests n budget limit s (Err r)
  refused_then (TooMany line) h = absurd (is_later.many s.dialect s.side S n budget line h)
  refused_then NonePossible h = absurd (is_later.none s.dialect s.side S n budget h)
  refused_then NotThePlayersTurn h = absurd (is_later.turn s.dialect s.side S n budget h)
  refused_then r h = (S, leaves, goes, h)

  answered : {X : Type 0} (view : X → List ℕ) (r : Result X Ending) → Decides view r (By s.dialect s.side S n budget) → Decides view r (OfSheet By rests n budget limit s)
  answered view (Ok x) h = (S, leaves, goes, h)
  answered view (Err (ending.Refused r)) h = refused_then r h
  answered view (Err ending.NoMemory) h = tt
  answered view (Err _) h = absurd h

  -- what a search makes of the positions that were given is what comes of the sheet
  pub asked : {X : Type 0} (view : X → List ℕ) (r : Result X Ending) (d : Dialect) (who : Side) → d ≡ s.dialect → who ≡ s.side → Decides view r (By d who S n budget) → Decides view r (OfSheet By rests n budget limit s)
  asked view r d who same own h =
      answered view r (subst (λ (w : Side). Decides view r (By s.dialect w S n budget)) own (subst (λ (e : Dialect). Decides view r (By e who S n budget)) same h))
