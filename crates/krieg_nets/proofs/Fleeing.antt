-- Squares of the king who is alone from which he gets away: by a capture, or to a square where he is not mated in time.
use Rattle.std.proofs.Common.{◌≡◌, ℕ, ◌-◌, ◌^◌, ◌<◌, Bool, true, false, not, ◌&&◌, ◌||◌, ◌⊎◌, inl, inr, refl, sym, ap, subst, ◌∙◌, bit_and, bit_or}
use Rattle.std.specs.Prelude.{None, is_some, slice_set, if◌then◌else◌}
use Rattle.std.proofs.lemmas.Bool.{and_parts, both_ways, not-true, or_cases}
use Rattle.std.proofs.lemmas.Nat.{or_lt}
use Rattle.krieg_board.specs.Attacks.{is_attacked}
use Rattle.krieg_board.specs.Board.{man_at}
use Rattle.krieg_board.specs.Men.{other}
use Rattle.krieg_board.specs.Sets.{has}
use Rattle.krieg_board.specs.Squares.{some_square}
use Rattle.krieg_board.specs.declared.men.Kind.TheVariants.{King}
use Rattle.krieg_board.specs.declared.men.Side.TheVariants.{White, Black}
use Rattle.krieg_board.proofs.SetLemmas.{has_and, has_not, has_or, has_zero}
use Rattle.krieg_board.proofs.SquareTests.{some_square_tells}
use Rattle.krieg_rays.specs.Rays.{goes}
use Rattle.krieg_rays.proofs.Symmetry.{king_turned}
use Rattle.krieg_moves.proofs.Boards.{man_at_set_same}
use Rattle.krieg_nets.specs.LoneKings.{with_king}
use Rattle.krieg_nets.specs.Nets.{Against, AreFled, AreNone, IsNet, against}
use Rattle.krieg_nets.specs.Others.{lone_of}
use Rattle.krieg_nets.specs.Seen.{leaves_none}
use Rattle.krieg_nets.specs.declared.men.Men.{Men}
use Rattle.krieg_nets.specs.declared.kept.Net.{Net}
use Rattle.krieg_nets.proofs.Failing.{are_officers, nobody_at}
use Rattle.krieg_nets.proofs.HisMoves.{flees_free, flees_there}

both_false : (a b : Bool) → not (a || b) ≡ true → (a ≡ false) × (b ≡ false)
both_false false false e = (refl, refl)
both_false false true e = cc
both_false true b e = cc

-- no square at all
pub none_fled : (men : Men) (moves : ℕ) → AreFled men.bits (lone_of men.others) moves 0
none_fled men moves k inside h empty valid = absurd (both_ways (has 0 k) (has_zero k) h)

-- more squares
pub also_fled : (men : Men) (moves one two : ℕ) → AreFled men.bits (lone_of men.others) moves one → AreFled men.bits (lone_of men.others) moves two → AreFled men.bits (lone_of men.others) moves (bit_or one two)
also_fled men moves one two f g k inside h empty valid = by_set (or_cases (has one k) (has two k) (sym (has_or one two k) ∙ h))
  where
    by_set : (has one k ≡ true) ⊎ (has two k ≡ true) → leaves_none moves (with_king men.bits (lone_of men.others) k (lone_of men.others)) ≡ true
    by_set (inl e) = f k inside e empty valid
    by_set (inr e) = g k inside e empty valid

-- he captures a man who is loose
pub caught_fled : (men rest : Men) (moves square set : ℕ) (net : Net) → square < 64 → is_attacked men.bits square (other (lone_of men.others)) ≡ false → rest.bits ≡ slice_set men.bits square None → rest.others.black ≡ men.others.black
    → IsNet (against rest) moves net → has net.none square ≡ true → ((k : ℕ) → k < 64 → has set k ≡ goes King White square k) → AreFled men.bits (lone_of men.others) moves set
caught_fled men rest moves square set net there loose board black right safe are k inside h empty valid =
    let left : against rest ≡ record { board = slice_set men.bits square None; lone = lone_of men.others } =
    λ i. record { board = board i; lone = if black i then Black else White } in
    let known = subst (λ (a : Against). IsNet a moves net) left right in
    flees_there men.bits (lone_of men.others) k square moves men.size inside there (are_officers men) empty valid
    (king_turned k square inside there ∙ sym (are k inside) ∙ h) loose
    (known.none square there safe (man_at_set_same men.bits square None (subst (λ n. square < n) (sym men.size) there)))

-- the squares where nobody stands, and which nobody attacks
module _ (men : Men) (occupied attacked : ℕ) (few : occupied < 2 ^ 64) (also : attacked < 2 ^ 64) (stand : (k : ℕ) → k < 64 → has occupied k ≡ is_some (man_at men.bits k))
    (hit : (k : ℕ) → k < 64 → has attacked k ≡ is_attacked men.bits k (other (lone_of men.others))) where
  abbrev free : ℕ
  free = 18446744073709551615 - bit_or occupied attacked

  is_free : (k : ℕ) → k < 64 → has free k ≡ true → (man_at men.bits k ≡ None) × (is_attacked men.bits k (other (lone_of men.others)) ≡ false)
  is_free k inside h =
      let (empty, safe) = both_false (has occupied k) (has attacked k)
      (sym (ap not (has_or occupied attacked k)) ∙ sym (has_not (bit_or occupied attacked) k (or_lt 64 occupied attacked few also) inside) ∙ h) in
      (nobody_at (man_at men.bits k) (sym (stand k inside) ∙ empty), sym (hit k inside) ∙ safe)

  -- he steps to one of them where he is not mated in time
  pub near_fled : (moves none set : ℕ) → AreNone men.bits (lone_of men.others) moves none → ((k : ℕ) → k < 64 → has set k ≡ some_square (λ f. has (bit_and none free) f && goes King White f k))
      → AreFled men.bits (lone_of men.others) moves set
  near_fled moves none set are each k inside h empty valid =
      let (to, there, both) = some_square_tells (λ f. has (bit_and none free) f && goes King White f k) (sym (each k inside) ∙ h) in
      let (member, step) = and_parts (has (bit_and none free) to) (goes King White to k) both in
      let (one, two) = and_parts (has none to) (has free to) (sym (has_and none free to) ∙ member) in
      let (nobody_there, safe) = is_free to there two in
      flees_free men.bits (lone_of men.others) k to moves men.size inside there (are_officers men) empty nobody_there valid
      (king_turned k to inside there ∙ step) safe (are to there one nobody_there)

-- fewer squares
pub none_among : (men : Men) (moves set more : ℕ) → AreNone men.bits (lone_of men.others) moves set → AreNone men.bits (lone_of men.others) moves (bit_and set more)
none_among men moves set more are k inside h = are k inside (and_parts (has set k) (has more k) (sym (has_and set more k) ∙ h)).0

-- men whom nobody defends
pub loose_safe : (men : Men) (some attacked others : ℕ) → attacked < 2 ^ 64 → ((k : ℕ) → k < 64 → has attacked k ≡ is_attacked men.bits k (other (lone_of men.others))) →
    (k : ℕ) → k < 64 → has (bit_and (bit_and some (18446744073709551615 - attacked)) others) k ≡ true → is_attacked men.bits k (other (lone_of men.others)) ≡ false
loose_safe men some attacked others few hit k inside h =
    let safe = 18446744073709551615 - attacked in
    let part = (and_parts (has (bit_and some safe) k) (has others k) (sym (has_and (bit_and some safe) others k) ∙ h)).0 in
    let member = (and_parts (has some k) (has safe k) (sym (has_and some safe k) ∙ part)).1 in
    sym (hit k inside) ∙ not-true (has attacked k) (sym (has_not attacked k few inside) ∙ member)
