-- The tries of a set, one after another: what holds once some of them have failed, and what it is worth at the end.
use Rattle.std.proofs.Common.{Bool, ◌≡◌, ℕ, suc, ◌+◌, ◌≤◌, ◌<◌, true, false, ◌⊎◌, inl, inr, List, length, take, get_or, find, Option, Some, None, refl, sym, ap, subst, ◌∙◌, arith}
use Rattle.std.specs.Prelude.{IfSome}
use Rattle.krieg_accounts.proofs.Common.{In, is_nil, Game, IsGame, refused, legal_in_some, tries, keys, class, begins, first_try, total, up_to, made, price, block_pair, floor_price, Table, StoredLost, StoredWon, IsBacked, LostBelow, AnswersTry}
use Rattle.krieg_costs.proofs.Costs.{legal_try, try_legal}
use Rattle.krieg_accounts.proofs.Stretches.{Kept, lost_kept}
use Rattle.krieg_accounts.proofs.TryOrder.{find_here, find_none, up_to_here, up_to_none, get_in, take_more, total_more, total_take, in_all, first_is, earlier_tried}

module _ (G : Game) (L : IsGame G) where
  -- the first k of the tries begin no node that wins, and the pairs of their blocks are stored as lost
  abbrev pub FailedTo : (cut : Bool) → Table G → List G.Position → ℕ → List G.Move → ℕ → Type 0
  FailedTo cut T B j ts k = (t : G.Move) → In t (take k ts) → (begins G j B t ≡ false) × (cut ≡ false → IfSome (block_pair G j B t) (λ q. StoredLost G T q))

  module _ (B : List G.Position) (j : ℕ) (ts : List G.Move) (are : ts ≡ tries G B) where
    pub legal_at : (k : ℕ) (x : G.Move) → k < length ts → x ≡ get_or ts k x → legal_in_some G B x ≡ true
    legal_at k x l e = subst (λ (y : G.Move). legal_in_some G B y ≡ true) (sym e) (try_legal G L B (get_or ts k x) (subst (In (get_or ts k x)) are (get_in ts k x l)))

    -- the next one is the first that wins, or there is none
    pub first_here : (cut : Bool) → (T : Table G) (k : ℕ) (x : G.Move) → k < length ts → x ≡ get_or ts k x → FailedTo cut T B j ts k → begins G j B x ≡ true → ◌≡◌ {A = Option G.Move} (Some x) (first_try G j B)
    first_here cut T k x l e w b =
        ap Some e ∙ sym (find_here (begins G j B) ts k x l (λ y i. (w y i).0) (subst (λ (y : G.Move). begins G j B y ≡ true) e b))
        ∙ ap (find (begins G j B)) are ∙ first_is G L j B

    pub first_none : (cut : Bool) → (T : Table G) (k : ℕ) → length ts ≤ k → FailedTo cut T B j ts k → ◌≡◌ {A = Option G.Move} None (first_try G j B)
    first_none cut T k l w = sym (find_none (begins G j B) ts k l (λ y i. (w y i).0)) ∙ ap (find (begins G j B)) are ∙ first_is G L j B

    -- what was split is what the pair is charged
    pub price_here : (cut : Bool) → (T : Table G) (k : ℕ) (x : G.Move) → k < length ts → x ≡ get_or ts k x → FailedTo cut T B j ts k → begins G j B x ≡ true → total (made G B) (take k ts) + made G B x ≡ floor_price G (B, j)
    price_here cut T k x l e w b =
        ap (λ (y : G.Move). total (made G B) (take k ts) + made G B y) e
        ∙ sym (up_to_here (begins G j B) (made G B) ts k x l (λ y i. (w y i).0) (subst (λ (y : G.Move). begins G j B y ≡ true) e b))
        ∙ ap (λ (xs : List G.Move). total (made G B) (up_to (begins G j B) xs)) are

    pub price_none : (cut : Bool) → (T : Table G) (k : ℕ) → length ts ≤ k → FailedTo cut T B j ts k → total (made G B) (take k ts) ≡ floor_price G (B, j)
    price_none cut T k l w =
        sym (up_to_none (begins G j B) (made G B) ts k l (λ y i. (w y i).0)) ∙ ap (λ (xs : List G.Move). total (made G B) (up_to (begins G j B) xs)) are

    -- and with the next one it is at most the price of the set
    pub price_within : (k : ℕ) (x : G.Move) → k < length ts → x ≡ get_or ts k x → total (made G B) (take k ts) + made G B x ≤ price G B
    price_within k x l e =
        let a = total_more (made G B) ts k x l in
        let b = total_take (made G B) ts (suc k) in
        let c : made G B x ≡ made G B (get_or ts k x) = ap (made G B) e in
        let f : total (made G B) ts ≡ price G B = ap (total (made G B)) are in
        omega arith

    pub price_more : (k : ℕ) (x : G.Move) → k < length ts → x ≡ get_or ts k x → total (made G B) (take k ts) + made G B x ≡ total (made G B) (take (k + 1) ts)
    price_more k x l e =
        let a = total_more (made G B) ts k x l in
        let c : made G B x ≡ made G B (get_or ts k x) = ap (made G B) e in
        let n : take (k + 1) ts ≡ take (suc k) ts = ap (λ (m : ℕ). take m ts) (let m : k + 1 ≡ suc k = omega arith in m) in
        let f = ap (total (made G B)) n in
        omega arith

    -- the next one fails too
    pub failed_more : (cut : Bool) → (T T' : Table G) (k : ℕ) (x : G.Move) → k < length ts → x ≡ get_or ts k x → Kept G T T' → FailedTo cut T B j ts k → begins G j B x ≡ false → AnswersTry G cut T' B j x false → FailedTo cut T' B j ts (k + 1)
    failed_more cut T T' k x l e kept w b s t i = go (take_more ts k x t l (subst (λ (n : ℕ). In t (take n ts)) (let m : k + 1 ≡ suc k = omega arith in m) i))
      where
        go : In t (take k ts) ⊎ (get_or ts k x ≡ t) → (begins G j B t ≡ false) × (cut ≡ false → IfSome (block_pair G j B t) (λ q. StoredLost G T' q))
        go (inl a) = ((w t a).0, λ c. lost_kept G T T' (block_pair G j B t) kept ((w t a).1 c))
        go (inr a) = subst (λ (y : G.Move). (begins G j B y ≡ false) × (cut ≡ false → IfSome (block_pair G j B y) (λ q. StoredLost G T' q))) (e ∙ a) (b, λ c. s.blocked c refl)

    -- the result is backed, where the next one wins
    pub backed_here : (cut : Bool) → (T T' : Table G) (k : ℕ) (x : G.Move) → 0 < j → k < length ts → x ≡ get_or ts k x → Kept G T T' → LostBelow G T' B j → FailedTo cut T B j ts k → AnswersTry G cut T' B j x true → IsBacked G cut T' B j (Some x)
    backed_here cut T T' k x pos l e kept low w s = record {
      some = pos;
      below = low;
      earlier = λ c t a b. lost_kept G T T' (block_pair G j B t) kept ((w t (before t a b)).1 c);
      classes = λ m f key i. (let g : x ≡ m = cc in subst (λ (y : G.Move). In key (keys G B y) → StoredWon G T' (class G B y key)) g (s.classes refl key) i);
      refused_part = λ m f. (let g : x ≡ m = cc in subst (λ (y : G.Move). is_nil (refused G B y) ≡ false → StoredWon G T' (refused G B y)) g (s.refused_part refl));
    }
      where
        before : (t : G.Move) → legal_in_some G B t ≡ true → G.move_lt t x ≡ true → In t (take k ts)
        before t a b =
            let r = earlier_tried G L B k x t (subst (λ (xs : List G.Move). k < length xs) are l) a (subst (λ (xs : List G.Move). G.move_lt t (get_or xs k x) ≡ true) are (subst (λ (y : G.Move). G.move_lt t y ≡ true) e b)) in
            subst (λ (xs : List G.Move). In t (take k xs)) (sym are) r

    -- and where none is left
    pub backed_none : (cut : Bool) → (T : Table G) (k : ℕ) → 0 < j → length ts ≤ k → LostBelow G T B j → FailedTo cut T B j ts k → IsBacked G cut T B j None
    backed_none cut T k pos l low w = record {
      some = pos;
      below = low;
      earlier = λ c t a b. (w t (in_all ts k t l (subst (In t) (sym are) (legal_try G L B t a)))).1 c;
      classes = λ m f. absurd (cc);
      refused_part = λ m f. absurd (cc);
    }
