-- The reader of plan files goes by the grammar of plan files.
use Rattle.std.proofs.Common.{◌≡◌, inl, ℕ, ◌≤◌, Bool, true, false, cond, List, None, Result, Ok, Err, refl, ap, ◌∙◌, arith}
use Rattle.std.specs.Prelude.{codes, is_some}
use Rattle.std.specs.Str.{bytes_eq}
use Rattle.std.proofs.lemmas.Slice.Eq.{bytes_eq-Decides}
use Rattle.krieg_planfile.proofs.Common.{Pos, Side, TextKind, Syntax, Count, Has, Always, listing_at, One, ◌⨾◌, ListingGrammar, taken, joined, Dialect, RootKey, root_lt, branches_by, node_at, waits, worst_form, roots_form, end_form, root_form, turn_in, heading_at, claim_at, plan_at, IsVersion, IsRootOf, RootsGrammar, ClaimGrammar, PlanGrammar, root_line, worst_line, count_line, MOST_NODES, MOST_ON_PATH}
use Rattle.krieg_text.proofs.FormSpellings.{number_is, number_read}
use Rattle.krieg_text.proofs.Goings.{GoesBy, goes_by, goes_whole, bind_goes, then_goes, made_goes}
use Rattle.krieg_text.proofs.Grammars.{untold, HasForm, line_keeps}
use Rattle.krieg_fen.proofs.ListGrammars.{listing_keeps}
use Rattle.krieg_text.proofs.FormGrammars.{form_of, value_form}
use Rattle.krieg_planfile.proofs.BranchForms as branches
use Rattle.krieg_planfile.proofs.BranchForms.{some_said, is_some_said}
use Rattle.krieg_planfile.proofs.Headings.{heading_keeps}
use Rattle.krieg_planfile.proofs.NodeGrammars.{branches_go, node_goes}

-- ---- the lines of the claim

pub worst_is : (l : List ℕ) (n : ℕ) → worst_form l ≡ Ok n → (1 ≤ n) × (n ≤ MOST_ON_PATH) × (l ≡ joined (worst_line n))
unfolding worst_form
worst_is l n e = number_is Count (codes "worst ") 1 MOST_ON_PATH l n (omega arith) e

pub worst_again : (n : ℕ) → 1 ≤ n → n ≤ MOST_ON_PATH → worst_form (joined (worst_line n)) ≡ Ok n
unfolding worst_form
worst_again n low high = number_read Count (codes "worst ") 1 MOST_ON_PATH n (omega arith) low high

pub count_is : (l : List ℕ) (n : ℕ) → roots_form l ≡ Ok n → (1 ≤ n) × (n ≤ MOST_NODES) × (l ≡ joined (count_line n))
unfolding roots_form
count_is l n e = number_is Count (codes "roots ") 1 MOST_NODES l n (omega arith) e

pub count_again : (n : ℕ) → 1 ≤ n → n ≤ MOST_NODES → roots_form (joined (count_line n)) ≡ Ok n
unfolding roots_form
count_again n low high = number_read Count (codes "roots ") 1 MOST_NODES n (omega arith) low high

pub end_is : (l : List ℕ) (u : Unit {0}) → end_form l ≡ Ok u → l ≡ codes "end"
unfolding end_form
end_is l u e = go (bytes_eq l (codes "end")) (bytes_eq-Decides l (codes "end")).0 e
  where
    go : (t : Bool) → (t ≡ true → l ≡ codes "end") → ◌≡◌ {A = Result (Unit {0}) TextKind} (cond t (Ok tt) (Err Syntax)) (Ok u) → l ≡ codes "end"
    go true is h = is refl
    go false is h = absurd cc

pub end_again : end_form (codes "end") ≡ Ok tt
unfolding end_form
end_again = refl

end_has : HasForm end_form Always untold (λ u l. l ≡ codes "end")
end_has = record {
  holds = λ l x e. tt;
  said = λ l x e. end_is l x e;
  judged = λ l b f. inl (tt, refl, ap end_form f ∙ end_again);
  some = (codes "end", tt, end_again);
}

-- ---- the whole file

claim_goes : (version : ℕ) (d : Dialect) (who : Side) (list : List Pos) → GoesBy (claim_at version d who list) Always untold (λ u. ClaimGrammar version d)
unfolding claim_at
claim_goes version d who list =
    then_goes (taken worst_form) _ Always (One (Has worst_form)) Always untold _
    (goes_by (taken worst_form) Always (One (Has worst_form)) (line_keeps worst_form Always untold (λ u. Has worst_form) (form_of worst_form (joined (worst_line 1)) 1 (worst_again 1 (omega arith) (omega arith)))))
    (λ worst h. bind_goes (taken roots_form) _ Always (λ n. n) (λ n. One (λ l. roots_form l ≡ Ok n)) Always untold (λ n u. RootsGrammar version d n ⨾ One (λ l. l ≡ codes "end"))
    (goes_whole (taken roots_form) (λ n. One (λ l. roots_form l ≡ Ok n)) (line_keeps roots_form Always (λ n. n) (λ n l. roots_form l ≡ Ok n) (value_form roots_form (joined (count_line 1)) 1 (count_again 1 (omega arith) (omega arith)))))
    (λ n k. then_goes (branches_by (node_at MOST_ON_PATH d) (root_form version (waits who list) d) n None MOST_NODES) _ Always (RootsGrammar version d n) Always untold (λ u. One (λ l. l ≡ codes "end"))
    (branches_go root_lt (root_line d) (IsRootOf version d) (λ (key : RootKey). is_some key.1 ≡ waits who list) (root_form version (waits who list) d) (branches.roots_form version (waits who list) d) ((some_said, None), (is_some_said d, λ v. refl)) d
    (node_at MOST_ON_PATH d) (λ left. node_goes MOST_ON_PATH d left) n None MOST_NODES)
    (λ plan i. made_goes (taken end_form) (λ u. record { dialect = d; side = who; list = list; worst = worst; plan = plan.0 }) Always untold (λ u. One (λ l. l ≡ codes "end")) Always untold (λ x h. tt) (λ x. refl)
    (goes_by (taken end_form) Always (One (λ l. l ≡ codes "end")) (line_keeps end_form Always untold (λ u l. l ≡ codes "end") end_has)))))

pub plan_goes : GoesBy plan_at Always untold (λ u. PlanGrammar)
unfolding plan_at
plan_goes =
    bind_goes heading_at _ Always (λ (h : ℕ × Dialect). h) (λ (h : ℕ × Dialect). IsVersion h.0 h.1) Always untold (λ (h : ℕ × Dialect) u. ListingGrammar ⨾ ClaimGrammar h.0 h.1)
    (goes_whole heading_at (λ (h : ℕ × Dialect). IsVersion h.0 h.1) heading_keeps)
    (λ h k. then_goes (listing_at (turn_in h.0)) (λ x p. claim_at h.0 h.1 x.0 x.1 p) Always ListingGrammar Always untold (λ u. ClaimGrammar h.0 h.1)
    (goes_by (listing_at (turn_in h.0)) Always ListingGrammar (listing_keeps (turn_in h.0)))
    (λ x i. claim_goes h.0 h.1 x.0 x.1))
