-- What is read as a plan file is spelled so and is a plan file, and what spells one is read as it.
use Rattle.std.proofs.Common.{◌≡◌, ℕ, ◌+◌, ◌-◌, ◌≤◌, Bool, true, false, not, max, List, [], ◌∷◌, ◌++◌, map, length, Option, Some, None, Result, Ok, Err, refl, sym, ap, subst, ◌∙◌, arith, append_assoc}
use Rattle.std.specs.Prelude.{codes, is_some, IfOk}
use Rattle.std.specs.List.{All}
use Rattle.std.proofs.lemmas.Bool.{and_parts}
use Rattle.std.proofs.lemmas.List.{append-nil, map-append}
use Rattle.std.proofs.lemmas.List.Elements.{All-nil, All-cons}
use Rattle.krieg_planfile.proofs.Common.{same_hand, is_same_side, Pos, Side, TextFault, Turn, Always, IsReading, listing_at, has_turn, SpellList, SpellsListing, ◌>>=◌, Place, place, taken, whole, Gives, joined, Dialect, RootKey, root_lt, Try, size, depth, is_ordered_plan, is_ascending, are_ordered_roots, PlanTrees, plan_size, plan_depth, MOST_NODES, MOST_ON_PATH, branches_by, node_at, AreToldBranches, branches_lines, PlanState, waits, AreAlike, AreToldRoots, AreRootsOf, IsPlanFile, worst_form, roots_form, end_form, root_form, turn_in, heading_at, claim_at, plan_at, IsVersion, IsRootOf, SpellsPlan, PlanGrammar, root_line, roots_lines, worst_line, count_line, claim_lines}
use Rattle.krieg_text.proofs.Formats.{reading_as}
use Rattle.krieg_fen.proofs.Listings.{listing_spells, listing_reads}
use Rattle.krieg_fen.proofs.ListSpellings.{spelled_valid}
use Rattle.krieg_text.proofs.Locality.{ok_is}
use Rattle.krieg_text.proofs.Takings.{steps, taken_at, taken_again, Read, whole_read, read_whole}
use Rattle.krieg_planfile.proofs.BranchForms as branches
use Rattle.krieg_planfile.proofs.Edges.{branches_size, branches_depth}
use Rattle.krieg_planfile.proofs.Headings.{heading_format}
use Rattle.krieg_planfile.proofs.NodesAgain.{branches_again, node_again}
use Rattle.krieg_planfile.proofs.NodeSpellings.{AllFit}
use Rattle.krieg_planfile.proofs.PlanGrammars.{worst_is, worst_again, count_is, count_again, end_is, end_again, plan_goes}
use Rattle.krieg_planfile.proofs.PlanOrder.{ordered_roots, roots_read, roots_ascend}

-- ---- roots as a list of branches

size_of_roots : (rs : PlanTrees) → plan_size rs ≡ branches_size rs
size_of_roots [] = refl
size_of_roots (r ∷ rs) = ap (λ (n : ℕ). size r.1 + n) (size_of_roots rs)

depth_of_roots : (rs : PlanTrees) → plan_depth rs ≡ branches_depth rs
depth_of_roots [] = refl
depth_of_roots (r ∷ rs) = ap (λ (n : ℕ). max (depth r.1) n) (depth_of_roots rs)

-- each root has a node
roots_size : (rs : PlanTrees) → length rs ≤ branches_size rs
roots_size [] = omega arith
roots_size ((key, Try m o es) ∷ rs) = omega (arith, roots_size rs)

told_roots : (version : ℕ) (d : Dialect) (rs : PlanTrees) → AreToldBranches (IsRootOf version d) d rs → AreToldRoots d rs
told_roots version d [] told = tt
told_roots version d (r ∷ rs) told = (told.0.0, told.1, told_roots version d rs told.2)

fit_roots : (waiting : Bool) (rs : PlanTrees) → AllFit (λ (key : RootKey). is_some key.1 ≡ waiting) rs → AreRootsOf waiting rs
fit_roots waiting [] fit = tt
fit_roots waiting (r ∷ rs) fit = (fit.0, fit_roots waiting rs fit.1)

fit_back : (waiting : Bool) (rs : PlanTrees) → AreRootsOf waiting rs → AllFit (λ (key : RootKey). is_some key.1 ≡ waiting) rs
fit_back waiting [] fit = tt
fit_back waiting (r ∷ rs) fit = (fit.0, fit_back waiting rs fit.1)

not_some : {A : Type 0} (o : Option A) → is_some o ≡ false → o ≡ None
not_some None is = refl
not_some (Some x) is = absurd cc

-- in version 1 the player is to move, so no root has words of the opponent's move
told_back : (version : ℕ) (d : Dialect) (waiting : Bool) → (version ≡ 1 → waiting ≡ false) → (rs : PlanTrees) → AreToldRoots d rs → AreRootsOf waiting rs → AreToldBranches (IsRootOf version d) d rs
told_back version d waiting own [] told fit = tt
told_back version d waiting own (r ∷ rs) told fit = ((told.0, λ v. not_some r.0.1 (fit.0 ∙ own v)), told.1, told_back version d waiting own rs told.2 fit.1)

-- ---- the listed positions

alike_rest : (turn : Turn) (who : Side) (first : Pos) (ls : List (List ℕ)) (ps : List Pos) → SpellList turn who (Some first) ls ps → All (λ q. same_hand first q who ≡ true) ps
alike_rest turn who first [] [] s = All-nil (λ q. same_hand first q who ≡ true)
alike_rest turn who first [] (p ∷ ps) s = absurd s
alike_rest turn who first (l ∷ ls) [] s = absurd s
alike_rest turn who first (l ∷ ls) (p ∷ ps) s = All-cons (λ q. same_hand first q who ≡ true) p ps s.1 (alike_rest turn who first ls ps s.2)

alike_of : (turn : Turn) (who : Side) (ls : List (List ℕ)) (ps : List Pos) → SpellList turn who None ls ps → AreAlike who ps
alike_of turn who [] [] s = tt
alike_of turn who [] (p ∷ ps) s = absurd s
alike_of turn who (l ∷ ls) [] s = absurd s
alike_of turn who (l ∷ ls) (p ∷ ps) s = alike_rest turn who p ls ps s.2

own_turn : (version : ℕ) (who : Side) (ls : List (List ℕ)) (ps : List Pos) → SpellList (turn_in version) who None ls ps → version ≡ 1 → waits who ps ≡ false
own_turn version who [] [] s v = refl
own_turn version who [] (p ∷ ps) s v = absurd s
own_turn version who (l ∷ ls) [] s v = absurd s
own_turn version who (l ∷ ls) (p ∷ ps) s v =
    let own : is_same_side p.side who ≡ true = ap (λ (n : ℕ). has_turn (turn_in n) who p) (sym v) ∙ s.1 in
    ap not own

-- ---- the claim

record ClaimRead (version : ℕ) (d : Dialect) (who : Side) (list : List Pos) (ls : List (List ℕ)) (s : PlanState) (q : Place) : Type 0 where
  dialect : s.dialect ≡ d
  side : s.side ≡ who
  listed : s.list ≡ list
  is : ls ≡ map joined (claim_lines s) ++ q.left
  least_worst : 1 ≤ s.worst
  most_worst : s.worst ≤ MOST_ON_PATH
  some_roots : 1 ≤ length s.plan
  size : plan_size s.plan ≤ MOST_NODES
  depth : plan_depth s.plan ≤ MOST_ON_PATH
  told : AreToldRoots d s.plan
  roots : AreRootsOf (waits who list) s.plan
  ordered : is_ordered_plan s.plan ≡ true

claim_read : (version : ℕ) (d : Dialect) (who : Side) (list : List Pos) (p q : Place) (s : PlanState) → claim_at version d who list p ≡ Ok (s, q) → ClaimRead version d who list p.left s q
unfolding claim_at
claim_read version d who list p q s e =
    let waiting = waits who list in
    let w = steps (taken worst_form p) (λ (worst : ℕ × Place). taken roots_form worst.1 >>= λ count. branches_by (node_at MOST_ON_PATH d) (root_form version waiting d) count.0 None MOST_NODES count.1 >>= λ plan. taken end_form plan.1 >>= λ end. Ok (record { dialect = d; side = who; list = list; worst = worst.0; plan = plan.0.0 }, end.1)) (s, q) e in
    let c = steps (taken roots_form w.mid.1) (λ (count : ℕ × Place). branches_by (node_at MOST_ON_PATH d) (root_form version waiting d) count.0 None MOST_NODES count.1 >>= λ plan. taken end_form plan.1 >>= λ end. Ok (record { dialect = d; side = who; list = list; worst = w.mid.0; plan = plan.0.0 }, end.1)) (s, q) w.second in
    let r = steps (branches_by (node_at MOST_ON_PATH d) (root_form version waiting d) c.mid.0 None MOST_NODES c.mid.1) (λ (plan : (PlanTrees × ℕ) × Place). taken end_form plan.1 >>= λ end. Ok (record { dialect = d; side = who; list = list; worst = w.mid.0; plan = plan.0.0 }, end.1)) (s, q) c.second in
    let f = steps (taken end_form r.mid.1) (λ (end : Unit {0} × Place). Ok (record { dialect = d; side = who; list = list; worst = w.mid.0; plan = r.mid.0.0 }, end.1)) (s, q) r.second in
    let same = ok_is {A = PlanState × Place} (record { dialect = d; side = who; list = list; worst = w.mid.0; plan = r.mid.0.0 }, f.mid.1) (s, q) f.second in
    let rs = r.mid.0.0 in
    let wl = taken_at worst_form p w.mid.1 w.mid.0 w.first in
    let cl = taken_at roots_form w.mid.1 c.mid.1 c.mid.0 c.first in
    let el = taken_at end_form r.mid.1 f.mid.1 f.mid.0 f.first in
    let worst = worst_is wl.text w.mid.0 wl.is in
    let count = count_is cl.text c.mid.0 cl.is in
    let b = roots_read version waiting d c.mid.0 MOST_NODES c.mid.1 r.mid.1 rs r.mid.0.1 r.first in
    let number : c.mid.0 ≡ length rs = sym b.number in
    subst (λ (x : PlanState × Place). ClaimRead version d who list p.left x.0 x.1) same
    (record {
      dialect = refl;
      side = refl;
      listed = refl;
      is = wl.left ∙ ap (λ (t : List ℕ). t ∷ w.mid.1.left) worst.2
          ∙ ap (λ (t : List (List ℕ)). joined (worst_line w.mid.0) ∷ t)
          (cl.left ∙ ap (λ (t : List ℕ). t ∷ c.mid.1.left) (count.2 ∙ ap (λ (n : ℕ). joined (count_line n)) number)
          ∙ ap (λ (t : List (List ℕ)). joined (count_line (length rs)) ∷ t)
          (b.is
          ∙ ap (λ (t : List (List ℕ)). map joined (branches_lines (root_line d) d rs) ++ t) (el.left ∙ ap (λ (t : List ℕ). t ∷ f.mid.1.left) (end_is el.text f.mid.0 el.is))
          ∙ sym (append_assoc (map joined (branches_lines (root_line d) d rs)) (codes "end" ∷ []) f.mid.1.left)
          ∙ ap (λ (t : List (List ℕ)). t ++ f.mid.1.left) (sym (map-append joined (branches_lines (root_line d) d rs) ((codes "end" ∷ []) ∷ [])))));
      least_worst = worst.0;
      most_worst = worst.1;
      some_roots = omega (arith, count.0, number);
      size = omega (arith, b.count, size_of_roots rs);
      depth = subst (λ n. n ≤ MOST_ON_PATH) (sym (depth_of_roots rs)) b.deep;
      told = told_roots version d rs b.told;
      roots = fit_roots waiting rs b.fit;
      ordered = roots_ascend version waiting d c.mid.0 MOST_NODES c.mid.1 r.mid.1 rs r.mid.0.1 r.first;
    })

-- ---- what is read

record PlanRead (ls : List (List ℕ)) (s : PlanState) (q : Place) : Type 0 where
  used : List (List ℕ)
  is : ls ≡ used ++ q.left
  spelled : SpellsPlan s used
  file : IsPlanFile s

plan_read : (p q : Place) (s : PlanState) → plan_at p ≡ Ok (s, q) → PlanRead p.left s q
unfolding plan_at
plan_read p q s e =
    let h = steps (heading_at p) (λ (h : (ℕ × Dialect) × Place). listing_at (turn_in h.0.0) h.1 >>= λ x. claim_at h.0.0 h.0.1 x.0.0 x.0.1 x.1) (s, q) e in
    let x = steps (listing_at (turn_in h.mid.0.0) h.mid.1) (λ (x : (Side × List Pos) × Place). claim_at h.mid.0.0 h.mid.0.1 x.0.0 x.0.1 x.1) (s, q) h.second in
    let v = h.mid.0.0 in
    let d = h.mid.0.1 in
    let who = x.mid.0.0 in
    let list = x.mid.0.1 in
    let heading = heading_format.found p.number p.left h.mid.0 h.mid.1 h.first in
    let listed = listing_spells (turn_in v) h.mid.1 x.mid.1 x.mid.0 x.first in
    let c = claim_read v d who list x.mid.1 q s x.second in
    let positions = listed.spelled in
    let listing : SpellsListing (turn_in v) listed.lines s.side s.list = subst (λ (w : Side). SpellsListing (turn_in v) listed.lines w s.list) (sym c.side) (subst (λ (ps : List Pos). SpellsListing (turn_in v) listed.lines who ps) (sym c.listed) positions) in
    record {
      used = heading.used ++ (listed.lines ++ map joined (claim_lines s));
      is = heading.is ∙ ap (λ (t : List (List ℕ)). heading.used ++ t) (listed.left ∙ ap (λ (t : List (List ℕ)). listed.lines ++ t) c.is ∙ sym (append_assoc listed.lines (map joined (claim_lines s)) q.left))
          ∙ sym (append_assoc heading.used (listed.lines ++ map joined (claim_lines s)) q.left);
      spelled = (
        v,
        record {
          front = heading.used;
          back = listed.lines ++ map joined (claim_lines s);
          is = refl;
          first = subst (λ (x : Dialect). IsVersion v x heading.used) (sym c.dialect) heading.says;
          second = record { front = listed.lines; back = map joined (claim_lines s); is = refl; first = listing; second = refl };
        },
      );
      file = record {
        written = record {
          some_listed = listing.some;
          few_listed = listing.few;
          alike = alike_of (turn_in v) s.side listing.positions s.list listing.spelled;
          valid = spelled_valid listing.positions s.list (turn_in v) s.side None listing.spelled;
          least_worst = c.least_worst;
          most_worst = c.most_worst;
          some_roots = c.some_roots;
          size = c.size;
          depth = c.depth;
          told = subst (λ (x : Dialect). AreToldRoots x s.plan) (sym c.dialect) c.told;
          roots = subst (λ (w : Side). AreRootsOf (waits w s.list) s.plan) (sym c.side) (subst (λ (ps : List Pos). AreRootsOf (waits who ps) s.plan) (sym c.listed) c.roots);
        };
        ordered = c.ordered;
      };
    }

pub whole_plan : (ls : List (List ℕ)) (s : PlanState) → whole plan_at ls ≡ Ok s → SpellsPlan s ls × IsPlanFile s
whole_plan ls s e =
    let w = whole_read plan_at ls s e in
    let r = plan_read (place 1 ls) (place w.number []) s w.is in
    (subst (SpellsPlan s) (sym (append-nil r.used) ∙ sym r.is) r.spelled, r.file)

-- ---- what is spelled

claim_again : (version : ℕ) (s : PlanState) (n : ℕ) → (version ≡ 1 → waits s.side s.list ≡ false) → IsPlanFile s → Read (claim_at version s.dialect s.side s.list (place n (map joined (claim_lines s)))) s []
unfolding claim_at
claim_again version s n own file =
    let d = s.dialect in
    let rs = s.plan in
    let w = file.written in
    let waiting = waits s.side s.list in
    let tail : List (List ℕ) = codes "end" ∷ [] in
    let more : ℕ = MOST_NODES - branches_size rs in
    let small : branches_size rs ≤ MOST_NODES = subst (λ k. k ≤ MOST_NODES) (size_of_roots rs) w.size in
    let left : MOST_NODES ≡ more + branches_size rs = omega (arith, small) in
    let few : length rs ≤ MOST_NODES = omega (arith, small, roots_size rs) in
    let ordered = and_parts (is_ascending root_lt (map (λ r. r.0) rs)) (are_ordered_roots rs) file.ordered in
    let b = branches_again root_lt (root_line d) (IsRootOf version d) (λ (key : RootKey). is_some key.1 ≡ waiting) (root_form version waiting d) (branches.roots_form version waiting d) d MOST_ON_PATH (node_at MOST_ON_PATH d)
    (λ n m k rest t o h s. node_again MOST_ON_PATH d n m k rest t o h s) rs None more (n + 1 + 1) tail (told_back version d waiting own rs w.told w.roots) (fit_back waiting rs w.roots)
    (sym (ordered_roots rs) ∙ ordered.1) ordered.0 (subst (λ k. k ≤ MOST_ON_PATH) (depth_of_roots rs) w.depth) (omega (arith, small)) in
    let all : map joined (roots_lines d rs ++ ((codes "end" ∷ []) ∷ [])) ≡ map joined (roots_lines d rs) ++ tail = map-append joined (roots_lines d rs) ((codes "end" ∷ []) ∷ []) in
    record {
      number = b.number + 1;
      is = ap (λ (t : List (List ℕ)). claim_at version d s.side s.list (place n (joined (worst_line s.worst) ∷ joined (count_line (length rs)) ∷ t))) all
          ∙ ap (λ (r : Result (ℕ × Place) TextFault). r >>= λ worst. taken roots_form worst.1 >>= λ count. branches_by (node_at MOST_ON_PATH d) (root_form version waiting d) count.0 None MOST_NODES count.1 >>= λ plan. taken end_form plan.1 >>= λ end. Ok (record { dialect = d; side = s.side; list = s.list; worst = worst.0; plan = plan.0.0 }, end.1))
          (taken_again worst_form n (joined (worst_line s.worst)) (joined (count_line (length rs)) ∷ (map joined (roots_lines d rs) ++ tail)) s.worst (worst_again s.worst w.least_worst w.most_worst))
          ∙ ap (λ (r : Result (ℕ × Place) TextFault). r >>= λ count. branches_by (node_at MOST_ON_PATH d) (root_form version waiting d) count.0 None MOST_NODES count.1 >>= λ plan. taken end_form plan.1 >>= λ end. Ok (record { dialect = d; side = s.side; list = s.list; worst = s.worst; plan = plan.0.0 }, end.1))
          (taken_again roots_form (n + 1) (joined (count_line (length rs))) (map joined (roots_lines d rs) ++ tail) (length rs) (count_again (length rs) w.some_roots few))
          ∙ ap (λ (r : Result ((PlanTrees × ℕ) × Place) TextFault). r >>= λ plan. taken end_form plan.1 >>= λ end. Ok (record { dialect = d; side = s.side; list = s.list; worst = s.worst; plan = plan.0.0 }, end.1))
          (ap (λ (k : ℕ). branches_by (node_at MOST_ON_PATH d) (root_form version waiting d) (length rs) None k (place (n + 1 + 1) (map joined (roots_lines d rs) ++ tail))) left ∙ b.is)
          ∙ ap (λ (r : Result (Unit {0} × Place) TextFault). r >>= λ end. Ok (record { dialect = d; side = s.side; list = s.list; worst = s.worst; plan = rs }, end.1)) (taken_again end_form b.number (codes "end") [] tt end_again);
    }

all_again : (ls : List (List ℕ)) (s : PlanState) → IsPlanFile s → SpellsPlan s ls → Read (plan_at (place 1 ls)) s []
unfolding plan_at
all_again ls s file spelled =
    let v = spelled.0 in
    let a = spelled.1 in
    let b = a.second in
    let listing = b.first in
    let tail = map joined (claim_lines s) in
    let h = heading_format.only 1 a.front (b.front ++ tail) (v, s.dialect) tt a.first in
    let x = listing_reads (turn_in v) b.front s.side s.list (1 + length a.front) tail listing in
    let c = claim_again v s x.number (own_turn v s.side listing.positions s.list listing.spelled) file in
    record {
      number = c.number;
      is = ap (λ (t : List (List ℕ)). plan_at (place 1 t)) (a.is ∙ ap (λ (t : List (List ℕ)). a.front ++ t) (b.is ∙ ap (λ (t : List (List ℕ)). b.front ++ t) b.second))
          ∙ ap (λ (r : Result ((ℕ × Dialect) × Place) TextFault). r >>= λ h. listing_at (turn_in h.0.0) h.1 >>= λ x. claim_at h.0.0 h.0.1 x.0.0 x.0.1 x.1) h
          ∙ ap (λ (r : Result ((Side × List Pos) × Place) TextFault). r >>= λ x. claim_at v s.dialect x.0.0 x.0.1 x.1) x.is
          ∙ c.is;
    }

-- what spells a plan file is read as it
pub spelled_again : (ls : List (List ℕ)) (s : PlanState) → IsPlanFile s → SpellsPlan s ls → whole plan_at ls ≡ Ok s
spelled_again ls s file spelled = read_whole plan_at ls s (all_again ls s file spelled)

-- ---- what the code answered

pub plan_reading : {X : Type 0} (view : X → PlanState) (answer : Result X TextFault) (ls : List (List ℕ)) → Gives view answer (whole plan_at ls) → IsReading view plan_at IsPlanFile SpellsPlan PlanGrammar ls answer
plan_reading view answer ls given = reading_as view answer plan_at IsPlanFile SpellsPlan Always PlanGrammar (λ ls s e. (whole_plan ls s e).0) spelled_again plan_goes ls given

pub plan_file : {X : Type 0} (view : X → PlanState) (answer : Result X TextFault) (ls : List (List ℕ)) → Gives view answer (whole plan_at ls) → IfOk answer (λ x. IsPlanFile (view x))
plan_file view (Ok x) ls given = (whole_plan ls (view x) given).1
plan_file view (Err e) ls given = tt

pub ruleset reading = (plan_reading, plan_file)
