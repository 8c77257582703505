-- How a set of positions is kept: as a list, or by the one man in whose square its members differ; and what it feeds a hasher then.
use Rattle.std.specs.Prelude.{◌≡◌, Bool, List, [], ◌∷◌, ◌++◌, Option, Some, None, is_none, All, ⊤}
use Rattle.std.specs.Hash as fed
use Rattle.std.specs.Cmp.Lexicographic.{pointwise}
use Rattle.std.proofs.Common.{true, ap, subst}
use lib.Pointwise.{pointwise_decides}
use Rattle.krieg_board.specs.Pos.{Pos}
use Rattle.krieg_pack.specs.Members.{IsAscending}
use Rattle.krieg_pack.specs.Order.{position_eq}
use Rattle.krieg_pack.specs.OrderLaws.{position_equiv}
use Rattle.krieg_pack.specs.Packing.{IsPacked}
use Rattle.krieg_pack.specs.SameNumbers.{equal_position}
use Rattle.krieg_pack.specs.Hashing.{fed_by}
use Rattle.krieg_pack.specs.OneMan.{fields_of, members_of, one_man}
use Rattle.krieg_pack.specs.declared.kept.Form.{Form}
use Rattle.krieg_pack.specs.declared.kept.Form.TheVariants as form
use Rattle.krieg_pack.specs.declared.one_man.OneMan.{OneMan}

-- the set is kept as a list
abbrev pub is_listed : List Pos → Bool
is_listed ps = is_none (one_man ps)

-- its members, or what they have in common, with the places of the one man
abbrev pub fed_as : Option OneMan → List Pos → fed.HashWrites
fed_as None ps = fed.slice fed_by ps
fed_as (Some h) ps = fed.u64 h.ones ++ (fed.u64 h.twos ++ (fed.u64 h.fours ++ (fed.u64 h.eights ++ (fed.u64 h.places ++ (h.rights ∷ h.mark ∷ h.side ∷ h.man ∷ []) ∷ []))))

-- what a set feeds a hasher
unfoldable pub fed_kept : List Pos → fed.HashWrites
fed_kept ps = fed_as (one_man ps) ps

-- sets compare as the same just where they are
pub sets_decide : (ps qs : List Pos) → (pointwise position_eq ps qs ≡ true → ps ≡ qs) × (ps ≡ qs → pointwise position_eq ps qs ≡ true)
sets_decide = pointwise_decides (λ p q. (equal_position p q, λ e. subst (λ r. position_eq p r ≡ true) e (position_equiv.refl p)))

-- and feed a hasher alike then
pub kept_fed : fed.Alike (pointwise position_eq) fed_kept
kept_fed = record { fed = λ ps qs e. ap fed_kept ((sets_decide ps qs).0 e) }

-- the members of a set that is kept in a form
abbrev pub set_in : Form → List Pos
set_in (form.Listed b) = b
set_in (form.OneMan h) = members_of h

-- the form for a set: by one man, where it is found to be possible
abbrev pub form_for : Option OneMan → List Pos → Form
form_for None ps = form.Listed ps
form_for (Some h) ps = form.OneMan h

-- all members stand for valid positions
abbrev pub ArePacked : Form → Type 0
ArePacked (form.Listed b) = ⊤
ArePacked (form.OneMan h) = All IsPacked (fields_of h)

-- the members ascend, and the form is that for them
pub record IsKept (f : Form) : Type 0 where
  pub ascending : IsAscending (set_in f)
  pub packed : ArePacked f
  pub exact : f ≡ form_for (one_man (set_in f)) (set_in f)
