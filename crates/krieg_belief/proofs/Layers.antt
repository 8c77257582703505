-- The least games of each layer.
use Rattle.std.proofs.Common.{◌≡◌, ℕ, ◌+◌, Bool, true, false, not, cond, List, [], ◌∷◌, ◌++◌, length, filter, map, flat_map, ◌⊎◌, inl, inr, refl, sym, ap, subst, ◌∙◌, arith, length-append}
use Rattle.std.specs.Cmp.Lexicographic.{slice_cmp}
use Rattle.std.specs.Ordering.{is_lt, ordering_then}
use Rattle.std.specs.declared.cmp.Ordering.TheVariants.{Equal}
use Rattle.std.proofs.lemmas.Bool.{both_ways, not-true}
use Rattle.krieg_belief.proofs.Common.{is_same_side, move_cmp, move_lt, Pos, Side, Move, after, moves, are_told, Dialect, Line, Opens, Heard, In, Ascending, position_cmp, position_eq, Tale, tale_cmp, tale_lt, after_reply, standing, tales_after, firsts, tell, equal_position}
use Rattle.krieg_wordtext.specs.declared.line.Line.TheVariants.{Illegal, Done, Early, Over}
use Rattle.krieg_theory.proofs.Lists.{in_filter, filter_in, map_in, flat_in}
use Rattle.krieg_belief.proofs.Facts.{kept_up, move_itself, position_itself, legal_up, place_same}
use Rattle.krieg_belief.proofs.Orders.{appended, itself, then_assoc, less}

-- of each position the first game in an ascending list is the least
pub firsts_least : (xs : List Tale) → Ascending tale_lt xs → (y : Tale) → In y xs → (z : Tale) × In z (firsts xs) × (z.stands ≡ y.stands) × ((z ≡ y) ⊎ (tale_lt z y ≡ true))
firsts_least [] up y i = absurd i
firsts_least (x ∷ xs) up y (inl e) = (x, inl refl, ap (λ (t : Tale). t.stands) e, inl e)
firsts_least (x ∷ xs) up y (inr i) = by_place (firsts_least xs up.1 y i)
  where
    by_place : (z : Tale) × In z (firsts xs) × (z.stands ≡ y.stands) × ((z ≡ y) ⊎ (tale_lt z y ≡ true)) →
        (z : Tale) × In z (firsts (x ∷ xs)) × (z.stands ≡ y.stands) × ((z ≡ y) ⊎ (tale_lt z y ≡ true))
    by_place r = go (position_eq r.0.stands x.stands) refl
      where
        go : (b : Bool) → position_eq r.0.stands x.stands ≡ b → (z : Tale) × In z (firsts (x ∷ xs)) × (z.stands ≡ y.stands) × ((z ≡ y) ⊎ (tale_lt z y ≡ true))
        go true e = (x, inl refl, sym (equal_position r.0.stands x.stands e) ∙ r.2, inr (up.0 y i))
        go false e = (r.0, inr (in_filter (λ (t : Tale). not (position_eq t.stands x.stands)) (firsts xs) r.0 r.1 (ap not e)), r.2, r.3)

pub firsts_in : (xs : List Tale) (z : Tale) → In z (firsts xs) → In z xs
firsts_in [] z i = i
firsts_in (x ∷ xs) z (inl e) = inl e
firsts_in (x ∷ xs) z (inr i) = inr (firsts_in xs z (filter_in (λ (t : Tale). not (position_eq t.stands x.stands)) (firsts xs) z i).0)

filter_up : (f : Tale → Bool) (xs : List Tale) → Ascending tale_lt xs → Ascending tale_lt (filter f xs)
filter_up f [] up = up
filter_up f (x ∷ xs) up = go (f x) (filter_up f xs up.1)
  where
    go : (b : Bool) → Ascending tale_lt (filter f xs) → Ascending tale_lt (cond b (x ∷ filter f xs) (filter f xs))
    go true rest = ((λ y i. up.0 y (filter_in f xs y i).0), rest)
    go false rest = rest

pub firsts_up : (xs : List Tale) → Ascending tale_lt xs → Ascending tale_lt (firsts xs)
firsts_up [] up = up
firsts_up (x ∷ xs) up =
    let rest = filter_up (λ (t : Tale). not (position_eq t.stands x.stands)) (firsts xs) (firsts_up xs up.1) in
    ((λ y i. up.0 y (firsts_in xs y (filter_in (λ (t : Tale). not (position_eq t.stands x.stands)) (firsts xs) y i).0)), rest)

append_up : (xs ys : List Tale) → Ascending tale_lt xs → Ascending tale_lt ys → ((x y : Tale) → In x xs → In y ys → tale_lt x y ≡ true) → Ascending tale_lt (xs ++ ys)
append_up [] ys a b c = b
append_up (x ∷ xs) ys a b c = ((λ y i. by_part y (parts xs y i)), append_up xs ys a.1 b (λ x' y i j. c x' y (inr i) j))
  where
    parts : (zs : List Tale) (y : Tale) → In y (zs ++ ys) → In y zs ⊎ In y ys
    parts [] y i = inr i
    parts (z ∷ zs) y (inl e) = inl (inl e)
    parts (z ∷ zs) y (inr i) = elim (parts zs y i) [ inl j ↦ inl (inr j) | inr j ↦ inr j ]

    by_part : (y : Tale) → In y xs ⊎ In y ys → tale_lt x y ≡ true
    by_part y (inl i) = a.0 y i
    by_part y (inr j) = c x y (inl refl) j

not_here : {X : Type 0} (b : Bool) (zs : List X) (a : X) → In a (cond b [] zs) → In a zs
not_here true zs a i = absurd i
not_here false zs a i = i

-- a layer: its games ascend, and have so many moves of the opponent
pub record IsLayer (n : ℕ) (xs : List Tale) : Type 0 where
  pub up : Ascending tale_lt xs
  pub alike : (x : Tale) → In x xs → length x.replies ≡ n

-- how many moves of the opponent a line adds
abbrev pub adds : Line → ℕ
adds (Heard w) = 1
adds _ = 0

module _ (d : Dialect) (who : Side) where
  -- two games with one more move each, where the first stood before the second
  before_more : (x y : Tale) (r q : Move) → length x.replies ≡ length y.replies → tale_lt x y ≡ true → tale_lt (after_reply x r) (after_reply y q) ≡ true
  before_more x y r q e h =
      ap is_lt (ap (ordering_then (position_cmp x.start y.start)) (appended move_cmp x.replies y.replies (r ∷ []) (q ∷ []) e)
      ∙ (then_assoc (position_cmp x.start y.start) (slice_cmp move_cmp x.replies y.replies) (slice_cmp move_cmp (r ∷ []) (q ∷ []))
      ∙ ap (λ (o : _). ordering_then o (slice_cmp move_cmp (r ∷ []) (q ∷ []))) (less (tale_cmp x y) h)))

  -- and one game with two moves, of which the first stands before the second
  more_before : (x : Tale) (r q : Move) → move_lt r q ≡ true → tale_lt (after_reply x r) (after_reply x q) ≡ true
  more_before x r q h =
      ap is_lt (ap (λ (o : _). ordering_then o (slice_cmp move_cmp (x.replies ++ r ∷ []) (x.replies ++ q ∷ []))) (position_itself x.start)
      ∙ (appended move_cmp x.replies x.replies (r ∷ []) (q ∷ []) refl
      ∙ (ap (λ (o : _). ordering_then o (slice_cmp move_cmp (r ∷ []) (q ∷ []))) (itself move_cmp move_itself x.replies)
      ∙ ap (λ (o : _). ordering_then o Equal) (less (move_cmp r q) h))))

  replies_up : (x : Tale) (ms : List Move) → Ascending move_lt ms → Ascending tale_lt (map (after_reply x) ms)
  replies_up x [] up = up
  replies_up x (m ∷ ms) up =
      ((λ y i. let r = map_in (after_reply x) ms y i in subst (λ (t : Tale). tale_lt (after_reply x m) t ≡ true) r.2 (more_before x m r.0 (up.0 r.0 r.1))), replies_up x ms up.1)

  one_up : (x : Tale) (b : Bool) (q : Pos) → Ascending tale_lt (map (standing x) (cond b (q ∷ []) []))
  one_up x true q = ((λ y i. absurd i), tt)
  one_up x false q = tt

  own_up : (l : Line) (x : Tale) → Ascending tale_lt (tales_after d who l x)
  own_up (Opens w) x = one_up x _ x.stands
  own_up (Illegal m) x = one_up x _ x.stands
  own_up (Done m w) x = one_up x _ (after x.stands m)
  own_up (Heard w) x = go (is_same_side x.stands.side who)
    where
      go : (b : Bool) → Ascending tale_lt (cond b [] (map (after_reply x) (filter (are_told d w x.stands) (moves x.stands))))
      go true = tt
      go false = replies_up x _ (kept_up (are_told d w x.stands) (moves x.stands) (legal_up x.stands))
  own_up (Early m) x = one_up x _ x.stands
  own_up (Over m) x = one_up x _ x.stands

  -- what comes after a game: it has the game's start, and its moves with those that the line adds
  pub record IsAfter (l : Line) (x a : Tale) : Type 0 where
    pub long : length a.replies ≡ length x.replies + adds l
    pub before : (y b : Tale) → length x.replies ≡ length y.replies → tale_lt x y ≡ true → In b (tales_after d who l y) → tale_lt a b ≡ true

  standing_before : (x y a b : Tale) (ps qs : List Pos) → In a (map (standing x) ps) → In b (map (standing y) qs) → tale_lt x y ≡ true → tale_lt a b ≡ true
  standing_before x y a b ps qs i j h =
      let r = map_in (standing x) ps a i in
      let s = map_in (standing y) qs b j in
      subst (λ (t : Tale). tale_lt t b ≡ true) r.2 (subst (λ (t : Tale). tale_lt (standing x r.0) t ≡ true) s.2 h)

  standing_long : (x a : Tale) (ps : List Pos) → In a (map (standing x) ps) → length a.replies ≡ length x.replies + 0
  standing_long x a ps i = let r = map_in (standing x) ps a i in let e : length a.replies ≡ length x.replies = ap (λ (t : Tale). length t.replies) (sym r.2) in omega arith

  comes_after : (l : Line) (x a : Tale) → In a (tales_after d who l x) → IsAfter l x a
  comes_after (Opens w) x a i = record { long = standing_long x a _ i; before = λ y b e h j. standing_before x y a b _ _ i j h }
  comes_after (Illegal m) x a i = record { long = standing_long x a _ i; before = λ y b e h j. standing_before x y a b _ _ i j h }
  comes_after (Done m w) x a i = record { long = standing_long x a _ i; before = λ y b e h j. standing_before x y a b _ _ i j h }
  comes_after (Early m) x a i = record { long = standing_long x a _ i; before = λ y b e h j. standing_before x y a b _ _ i j h }
  comes_after (Over m) x a i = record { long = standing_long x a _ i; before = λ y b e h j. standing_before x y a b _ _ i j h }
  comes_after (Heard w) x a i =
      let r = map_in (after_reply x) (filter (are_told d w x.stands) (moves x.stands)) a (not_here (is_same_side x.stands.side who) _ a i) in
      let e : length a.replies ≡ length (x.replies ++ r.0 ∷ []) = ap (λ (t : Tale). length t.replies) (sym r.2) in
      record {
        long = omega (arith, e, length-append x.replies (r.0 ∷ []));
        before = λ y b f h j.
            let s = map_in (after_reply y) (filter (are_told d w y.stands) (moves y.stands)) b (not_here (is_same_side y.stands.side who) _ b j) in
            subst (λ (t : Tale). tale_lt t b ≡ true) r.2 (subst (λ (t : Tale). tale_lt (after_reply x r.0) t ≡ true) s.2 (before_more x y r.0 s.0 f h));
      }

  -- the candidates of a layer ascend
  pub all_up : (l : Line) (n : ℕ) (xs : List Tale) → IsLayer n xs → Ascending tale_lt (flat_map (tales_after d who l) xs)
  all_up l n [] h = tt
  all_up l n (x ∷ xs) h =
      append_up (tales_after d who l x) (flat_map (tales_after d who l) xs) (own_up l x)
      (all_up l n xs (record { up = h.up.1; alike = λ y i. h.alike y (inr i) }))
      (λ a b i j.
      let f = flat_in (tales_after d who l) xs b j in
      (comes_after l x a i).before f.0 b (h.alike x (inl refl) ∙ sym (h.alike f.0 (inr f.1))) (h.up.0 f.0 f.1) f.2)

  pub all_long : (l : Line) (n : ℕ) (xs : List Tale) → IsLayer n xs → (a : Tale) → In a (flat_map (tales_after d who l) xs) → length a.replies ≡ n + adds l
  all_long l n xs h a i =
      let f = flat_in (tales_after d who l) xs a i in
      let e = (comes_after l f.0 a f.2).long in
      omega (arith, e, h.alike f.0 f.1)

  pub next_layer : (l : Line) (n : ℕ) (xs : List Tale) → IsLayer n xs → IsLayer (n + adds l) (tell d who l xs)
  next_layer l n xs h = record {
    up = firsts_up (flat_map (tales_after d who l) xs) (all_up l n xs h);
    alike = λ a i. all_long l n xs h a (firsts_in (flat_map (tales_after d who l) xs) a i);
  }

-- of each position there is one game
pub firsts_once : (xs : List Tale) (a b : Tale) → In a (firsts xs) → In b (firsts xs) → a.stands ≡ b.stands → a ≡ b
firsts_once [] a b i j e = absurd i
firsts_once (x ∷ xs) a b (inl i) (inl j) e = sym i ∙ j
firsts_once (x ∷ xs) a b (inl i) (inr j) e =
    let r = filter_in (λ (t : Tale). not (position_eq t.stands x.stands)) (firsts xs) b j in
    absurd (both_ways _ (not-true _ r.1) (place_same b.stands x.stands (sym e ∙ ap (λ (t : Tale). t.stands) (sym i))))
firsts_once (x ∷ xs) a b (inr i) (inl j) e =
    let r = filter_in (λ (t : Tale). not (position_eq t.stands x.stands)) (firsts xs) a i in
    absurd (both_ways _ (not-true _ r.1) (place_same a.stands x.stands (e ∙ ap (λ (t : Tale). t.stands) (sym j))))
firsts_once (x ∷ xs) a b (inr i) (inr j) e =
    firsts_once xs a b (filter_in (λ (t : Tale). not (position_eq t.stands x.stands)) (firsts xs) a i).0 (filter_in (λ (t : Tale). not (position_eq t.stands x.stands)) (firsts xs) b j).0 e
