-- Each hidden game leads to a tale of the last layer that is not after it, and each tale of that layer comes of one.
use Rattle.std.proofs.Common.{◌≡◌, ℕ, ◌+◌, Bool, true, false, not, cond, List, [], ◌∷◌, ◌++◌, length, filter, map, flat_map, ◌⊎◌, inl, inr, refl, sym, ap, subst, ◌∙◌, append_assoc}
use Rattle.std.specs.Cmp.Lexicographic.{slice_cmp}
use Rattle.std.specs.Ordering.{ordering_then}
use Rattle.std.specs.declared.cmp.Ordering.TheVariants.{Equal}
use Rattle.std.proofs.lemmas.Bool.{and_from, and_parts, not-true, cond-false}
use Rattle.std.proofs.lemmas.List.{append-nil}
use Rattle.krieg_belief.proofs.Common.{is_same_side, move_cmp, Pos, Side, Move, after, moves, are_told, Dialect, Line, Opens, Heard, Gives, In, Tale, tale_cmp, tale_lt, after_reply, standing, tales_after, tell, tell_all}
use Rattle.krieg_wordtext.specs.declared.line.Line.TheVariants.{Illegal, Done, Early, Over}
use Rattle.krieg_theory.proofs.Lists.{in_filter, filter_in, in_map, map_in, in_flat, flat_in}
use Rattle.krieg_belief.proofs.HiddenGames.{cond_in, in_cond, words_same, same_words, IsEntry, AreEntries}
use Rattle.krieg_moves.proofs.Listed.{legal_listed, listed_legal}
use Rattle.krieg_pack.proofs.Membership.{contains_in, in_contains}
use Rattle.krieg_belief.proofs.Facts.{move_itself, position_itself}
use Rattle.krieg_belief.proofs.Orders.{and_moves, Le, le_trans, le_more, lt_le, itself}
use Rattle.krieg_belief.proofs.Layers.{IsLayer, next_layer, adds, all_up, all_long, firsts_least, firsts_in}

module _ (d : Dialect) (who : Side) where
  self : (x : Tale) → tale_cmp x x ≡ Equal
  self x = ap (λ (o : _). ordering_then o (slice_cmp move_cmp x.replies x.replies)) (position_itself x.start) ∙ itself move_cmp move_itself x.replies

  -- a game that is told of after these entries: it stands there, and is not after the other
  pub record Told (ls : List Line) (xs : List Tale) (q : Pos) (bound : Tale) : Type 0 where
    pub tale : Tale
    pub there : In tale (tell_all d who ls xs)
    pub stands : tale.stands ≡ q
    pub least : Le tale bound

  abbrev Tells : List Line → Type 0
  Tells ls = (n : ℕ) (xs : List Tale) → IsLayer n xs → (x : Tale) → In x xs → (rs : List Move) (q : Pos) → Gives d x.stands ls who rs q → Told ls xs q (and_moves x rs)

  -- a candidate, and what comes after it
  by_first : (l : Line) (ls : List Line) → Tells ls → (n : ℕ) (xs : List Tale) → IsLayer n xs → (c : Tale) → In c (flat_map (tales_after d who l) xs) → (rs : List Move) (q : Pos) → Gives d c.stands ls who rs q →
      Told (l ∷ ls) xs q (and_moves c rs)
  by_first l ls later n xs h c i rs q g =
      let z = firsts_least (flat_map (tales_after d who l) xs) (all_up d who l n xs h) c i in
      let next = next_layer d who l n xs h in
      let t = later (n + adds l) (tell d who l xs) next z.0 z.1 rs q (subst (λ (p : Pos). Gives d p ls who rs q) (sym z.2) g) in
      let long : length z.0.replies ≡ length c.replies = next.alike z.0 z.1 ∙ sym (all_long d who l n xs h c i) in
      record {
        tale = t.tale;
        there = t.there;
        stands = t.stands;
        least = le_trans t.tale (and_moves z.0 rs) (and_moves c rs) t.least (le_more z.0 c rs long (not_after z.0 c z.3));
      }
    where
      not_after : (a b : Tale) → (a ≡ b) ⊎ (tale_lt a b ≡ true) → Le a b
      not_after a b (inl e) = inr (ap (λ (t : Tale). tale_cmp t b) e ∙ self b)
      not_after a b (inr e) = lt_le a b e

  -- every hidden game leads to a position whose game in the layer is not after it
  pub tell_has : (ls : List Line) → Tells ls
  tell_has [] n xs h x i rs q g = record {
    tale = x;
    there = i;
    stands = sym g.1;
    least = inr (ap (λ (ms : List Move). tale_cmp x (and_moves x ms)) g.0 ∙ (ap (λ (ms : List Move). tale_cmp x (record { stands = x.stands; start = x.start; replies = ms })) (append-nil x.replies) ∙ self x));
  }
  tell_has (Opens w ∷ ls) n xs h x i rs q g = absurd g
  tell_has (Illegal m ∷ ls) n xs h x i rs q g =
      let c = in_flat (tales_after d who (Illegal m)) xs x (standing x x.stands) i (in_map (standing x) _ x.stands (cond_in _ x.stands (and_from _ _ (ap not g.0) (and_from _ _ g.1 (ap not g.2))))) in
      let t = by_first (Illegal m) ls (tell_has ls) n xs h (standing x x.stands) c rs q g.3 in
      record { tale = t.tale; there = t.there; stands = t.stands; least = t.least }
  tell_has (Done m w ∷ ls) n xs h x i rs q g =
      let c = in_flat (tales_after d who (Done m w)) xs x (standing x (after x.stands m)) i (in_map (standing x) _ (after x.stands m) (cond_in _ (after x.stands m) (and_from _ _ g.0 (and_from _ _ g.1 (words_same _ _ g.2))))) in
      let t = by_first (Done m w) ls (tell_has ls) n xs h (standing x (after x.stands m)) c rs q g.3 in
      record { tale = t.tale; there = t.there; stands = t.stands; least = t.least }
  tell_has (Early m ∷ ls) n xs h x i rs q g =
      let c = in_flat (tales_after d who (Early m)) xs x (standing x x.stands) i (in_map (standing x) _ x.stands (cond_in _ x.stands (and_from _ _ (ap not g.0) (ap not g.1)))) in
      let t = by_first (Early m) ls (tell_has ls) n xs h (standing x x.stands) c rs q g.2 in
      record { tale = t.tale; there = t.there; stands = t.stands; least = t.least }
  tell_has (Over m ∷ ls) n xs h x i rs q g =
      let c = in_flat (tales_after d who (Over m)) xs x (standing x x.stands) i (in_map (standing x) _ x.stands (cond_in _ x.stands g.0)) in
      let t = by_first (Over m) ls (tell_has ls) n xs h (standing x x.stands) c rs q g.1 in
      record { tale = t.tale; there = t.there; stands = t.stands; least = t.least }
  tell_has (Heard w ∷ ls) n xs h x i [] q g = absurd g
  tell_has (Heard w ∷ ls) n xs h x i (r ∷ rs) q g =
      let ms = filter (are_told d w x.stands) (moves x.stands) in
      let there = in_map (after_reply x) ms r (in_filter (are_told d w x.stands) (moves x.stands) r (contains_in r (moves x.stands) (legal_listed x.stands r g.1)) (words_same _ _ g.2)) in
      let c = in_flat (tales_after d who (Heard w)) xs x (after_reply x r) i (subst (In (after_reply x r)) (sym (cond-false (is_same_side x.stands.side who) _ _ g.0)) there) in
      let t = by_first (Heard w) ls (tell_has ls) n xs h (after_reply x r) c rs q g.3 in
      record {
        tale = t.tale;
        there = t.there;
        stands = t.stands;
        least = subst (λ (ns : List Move). Le t.tale (record { stands = x.stands; start = x.start; replies = ns })) (append_assoc x.replies (r ∷ []) rs) t.least;
      }

  -- a hidden game that leads from a game of the layer to this one
  pub record Comes (ls : List Line) (xs : List Tale) (y : Tale) : Type 0 where
    pub from : Tale
    pub listed : In from xs
    pub rs : List Move
    pub gives : Gives d from.stands ls who rs y.stands
    pub start_is : y.start ≡ from.start
    pub replies_is : y.replies ≡ from.replies ++ rs

  -- by a line that is no move of the opponent
  by_line : (l : Line) (ls : List Line) (xs : List Tale) (y x z : Tale) (p : Pos) (rs : List Move) → In x xs → standing x p ≡ z → z.start ≡ y.start → y.replies ≡ z.replies ++ rs → Gives d x.stands (l ∷ ls) who rs y.stands →
      Comes (l ∷ ls) xs y
  by_line l ls xs y x z p rs i e s r g = record {
    from = x;
    listed = i;
    rs = rs;
    gives = g;
    start_is = sym s ∙ ap (λ (t : Tale). t.start) (sym e);
    replies_is = r ∙ ap (λ (t : Tale). t.replies ++ rs) (sym e);
  }

  -- every game of a layer comes of a hidden game
  pub has_tell : (ls : List Line) (xs : List Tale) (y : Tale) → AreEntries ls → In y (tell_all d who ls xs) → Comes ls xs y
  has_tell [] xs y k i = record { from = y; listed = i; rs = []; gives = (refl, refl); start_is = refl; replies_is = sym (append-nil y.replies) }
  has_tell (l ∷ ls) xs y k i =
      let later = has_tell ls (tell d who l xs) y k.1 i in
      let f = flat_in (tales_after d who l) xs later.from (firsts_in (flat_map (tales_after d who l) xs) later.from later.listed) in
      back l k.0 later f.0 f.1 f.2
    where
      back : (l : Line) → IsEntry l → (later : Comes ls (tell d who l xs) y) → (x : Tale) → In x xs → In later.from (tales_after d who l x) → Comes (l ∷ ls) xs y
      back (Opens w) k later x i j = absurd k
      back (Illegal m) k later x i j =
          let r = map_in (standing x) _ later.from j in
          let c = in_cond _ x.stands r.0 r.1 in
          let a = and_parts _ _ c.0 in
          let b = and_parts _ _ a.1 in
          let here : x.stands ≡ later.from.stands = c.1 ∙ ap (λ (t : Tale). t.stands) r.2 in
          by_line (Illegal m) ls xs y x later.from r.0 later.rs i r.2 (sym later.start_is) later.replies_is
          (not-true _ a.0, b.0, not-true _ b.1, subst (λ (p : Pos). Gives d p ls who later.rs y.stands) (sym here) later.gives)
      back (Done m w) k later x i j =
          let r = map_in (standing x) _ later.from j in
          let c = in_cond _ (after x.stands m) r.0 r.1 in
          let a = and_parts _ _ c.0 in
          let b = and_parts _ _ a.1 in
          let here : after x.stands m ≡ later.from.stands = c.1 ∙ ap (λ (t : Tale). t.stands) r.2 in
          by_line (Done m w) ls xs y x later.from r.0 later.rs i r.2 (sym later.start_is) later.replies_is
          (a.0, b.0, same_words _ _ b.1, subst (λ (p : Pos). Gives d p ls who later.rs y.stands) (sym here) later.gives)
      back (Early m) k later x i j =
          let r = map_in (standing x) _ later.from j in
          let c = in_cond _ x.stands r.0 r.1 in
          let a = and_parts _ _ c.0 in
          let here : x.stands ≡ later.from.stands = c.1 ∙ ap (λ (t : Tale). t.stands) r.2 in
          by_line (Early m) ls xs y x later.from r.0 later.rs i r.2 (sym later.start_is) later.replies_is
          (not-true _ a.0, not-true _ a.1, subst (λ (p : Pos). Gives d p ls who later.rs y.stands) (sym here) later.gives)
      back (Over m) k later x i j =
          let r = map_in (standing x) _ later.from j in
          let c = in_cond _ x.stands r.0 r.1 in
          let here : x.stands ≡ later.from.stands = c.1 ∙ ap (λ (t : Tale). t.stands) r.2 in
          by_line (Over m) ls xs y x later.from r.0 later.rs i r.2 (sym later.start_is) later.replies_is
          (c.0, subst (λ (p : Pos). Gives d p ls who later.rs y.stands) (sym here) later.gives)
      back (Heard w) k later x i j = heard (is_same_side x.stands.side who) refl j
        where
          heard : (b : Bool) → is_same_side x.stands.side who ≡ b → In later.from (cond b [] (map (after_reply x) (filter (are_told d w x.stands) (moves x.stands)))) → Comes (Heard w ∷ ls) xs y
          heard true e j = absurd j
          heard false e j =
              let r = map_in (after_reply x) _ later.from j in
              let f = filter_in (are_told d w x.stands) (moves x.stands) r.0 r.1 in
              let here : after x.stands r.0 ≡ later.from.stands = ap (λ (t : Tale). t.stands) r.2 in
              record {
                from = x;
                listed = i;
                rs = r.0 ∷ later.rs;
                gives = (e, listed_legal x.stands r.0 (in_contains r.0 (moves x.stands) f.0), same_words _ _ f.1, subst (λ (p : Pos). Gives d p ls who later.rs y.stands) (sym here) later.gives);
                start_is = later.start_is ∙ ap (λ (t : Tale). t.start) (sym r.2);
                replies_is = later.replies_is ∙ (ap (λ (t : Tale). t.replies ++ later.rs) (sym r.2) ∙ append_assoc x.replies (r.0 ∷ []) later.rs);
              }
