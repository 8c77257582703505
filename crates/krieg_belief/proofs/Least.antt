-- The games of the last layer are the least that explain where they stand.
use Rattle.std.proofs.Common.{◌≡◌, true, List, [], ◌∷◌, ◌++◌, map, ◌⊎◌, inl, inr, refl, sym, ap, subst, ◌∙◌}
use Rattle.std.specs.List.{Contains, All}
use Rattle.std.proofs.lemmas.List.Elements.{All-cons, All-nil}
use Rattle.std.specs.Ordering.{is_lt, is_le, ordering_then}
use Rattle.std.specs.Cmp.Lexicographic.{slice_cmp}
use Rattle.std.specs.declared.cmp.Ordering.{Ordering}
use Rattle.std.specs.declared.cmp.Ordering.TheVariants.{Less, Equal, Greater}
use Rattle.krieg_belief.proofs.Common.{move_cmp, Pos, Side, Move, opening, told, told_line, Dialect, Line, Opens, judge, last, lines_for, SheetState, Gives, OpensWith, IsConsistent, IsPossible, In, Ascending, position_cmp, IsAscending, ShownState, last_of, Explains, IsLeast, AreShown, their_moves, shown_cmp, Tale, stands_of, begun, tale_cmp, tale_lt, tell, tell_all, events_by, shown_of}
use Rattle.krieg_theory.proofs.Lists.{in_map, map_in}
use Rattle.krieg_belief.proofs.HiddenGames.{AreEntries}
use Rattle.krieg_belief.proofs.Starts.{AreStarts}
use Rattle.krieg_belief.proofs.Orders.{Le, and_moves, then_equal}
use Rattle.krieg_belief.proofs.Layers.{IsLayer, firsts_once}
use Rattle.krieg_belief.proofs.Told.{Comes, tell_has, has_tell}
use Rattle.krieg_moves.proofs.Turns.{legal_goes}
use Rattle.krieg_belief.proofs.TriedGames.{IsGame, game_gives, gives_game}

-- of each position there is one game
abbrev Once : List Tale → Type 0
Once xs = (a b : Tale) → In a xs → In b xs → a.stands ≡ b.stands → a ≡ b

once : (d : Dialect) (who : Side) (ls : List Line) (xs : List Tale) → Once xs → Once (tell_all d who ls xs)
once d who [] xs h = h
once d who (l ∷ ls) xs h = once d who ls (tell d who l xs) (λ a b i j e. firsts_once _ a b i j e)

begun_once : (ps : List Pos) → Once (map begun ps)
begun_once ps a b i j e =
    let r = map_in begun ps a i in
    let s = map_in begun ps b j in
    sym r.2 ∙ (ap begun (ap (λ (t : Tale). t.stands) r.2 ∙ (e ∙ ap (λ (t : Tale). t.stands) (sym s.2))) ∙ s.2)

begun_up : (ps : List Pos) → IsAscending ps → Ascending tale_lt (map begun ps)
begun_up [] up = up
begun_up (p ∷ ps) up =
    ((λ y i. let r = map_in begun ps y i in subst (λ (t : Tale). tale_lt (begun p) t ≡ true) r.2 (ap is_lt (then_equal (position_cmp p r.0)) ∙ up.0 r.0 r.1)), begun_up ps up.1)

begun_layer : (ps : List Pos) → IsAscending ps → IsLayer 0 (map begun ps)
begun_layer ps up = record { up = begun_up ps up; alike = λ x i. let r = map_in begun ps x i in ap (λ (t : Tale). Rattle.std.proofs.Common.length t.replies) (sym r.2) }

not_greater : (o : Ordering) → (o ≡ Less) ⊎ (o ≡ Equal) → is_le o ≡ true
not_greater Less h = refl
not_greater Equal h = refl
not_greater Greater (inl h) = absurd cc
not_greater Greater (inr h) = absurd cc

-- what the player hears of a game that explains a position is what the sheet says
pub entries_heard : (s : SheetState) (z : ShownState) → Explains s z → map (told_line s.dialect) (lines_for s.side (judge z.start z.events)) ≡ s.entries
entries_heard s z e = rest (Opens (told s.dialect (opening z.start))) _ _ e.hears
  where
    rest : (l : Line) (ls ms : List Line) → l ∷ ls ≡ l ∷ ms → ls ≡ ms
    rest l ls ms h = cc

module _ (s : SheetState) (ps : List Pos) (starts : AreStarts s ps) (entries : AreEntries s.entries) where
  abbrev layer : List Tale
  layer = tell_all s.dialect s.side s.entries (map begun ps)

  pub least_shown : (y : Tale) → In y layer → IsLeast s (shown_of s y)
  least_shown y i = record { explains = explains; least = least }
    where
      comes : Comes s.dialect s.side s.entries (map begun ps) y
      comes = has_tell s.dialect s.side s.entries (map begun ps) y entries i

      start : (p : Pos) × In p ps × (begun p ≡ comes.from)
      start = map_in begun ps comes.from comes.listed

      start_is : y.start ≡ start.0
      start_is = comes.start_is ∙ ap (λ (t : Tale). t.start) (sym start.2)

      moves_are : y.replies ≡ comes.rs
      moves_are = comes.replies_is ∙ ap (λ (t : Tale). t.replies ++ comes.rs) (sym start.2)

      gives : Gives s.dialect y.start s.entries s.side y.replies y.stands
      gives =
          subst (λ (p : Pos). Gives s.dialect p s.entries s.side y.replies y.stands) (ap (λ (t : Tale). t.stands) (sym start.2) ∙ sym start_is)
          (subst (λ (rs : List Move). Gives s.dialect comes.from.stands s.entries s.side rs y.stands) (sym moves_are) comes.gives)

      game : IsGame s.dialect s.side y.start s.entries y.replies y.stands (events_by s.side s.entries y.replies)
      game = gives_game s.dialect s.side s.entries y.start y.replies y.stands legal_goes gives

      explains : Explains s (shown_of s y)
      explains = record {
        is_listed = subst (Contains s.list) (sym start_is) (starts.listed start.0 start.1);
        opens = subst (OpensWith s.dialect s.opens) (sym start_is) (starts.opens start.0 start.1);
        hears = ap (λ (ls : List Line). Opens (told s.dialect (opening y.start)) ∷ ls) game.hears;
        all_done = game.shown;
        ends = sym game.ends;
      }

      least : (z : ShownState) → Explains s z → z.last ≡ y.stands → is_le (shown_cmp s.side (shown_of s y) z) ≡ true
      least z e same =
          let zs : List Move = their_moves s.side z in
          let given : Gives s.dialect z.start s.entries s.side zs y.stands =
          subst (λ (q : Pos). Gives s.dialect z.start s.entries s.side zs q) (sym e.ends ∙ same)
          (subst (λ (ls : List Line). Gives s.dialect z.start ls s.side zs (last z.start z.events)) (entries_heard s z e) (game_gives s.dialect s.side z.start z.events e.all_done)) in
          let t = tell_has s.dialect s.side s.entries 0 (map begun ps) (begun_layer ps starts.ascending) (begun z.start)
          (in_map begun ps z.start (starts.all z.start e.is_listed e.opens)) zs y.stands given in
          let one : t.tale ≡ y = once s.dialect s.side s.entries (map begun ps) (begun_once ps) t.tale y t.there i t.stands in
          let le : Le y (and_moves (begun z.start) zs) = subst (λ (x : Tale). Le x (and_moves (begun z.start) zs)) one t.least in
          ap (λ (rs : List Move). is_le (ordering_then (position_cmp y.start z.start) (slice_cmp move_cmp rs zs))) game.replies ∙ not_greater (tale_cmp y (and_moves (begun z.start) zs)) le

  -- every position that is possible has a game in the layer
  pub possible_stands : (q : Pos) → IsConsistent s q → (y : Tale) × In y layer × (y.stands ≡ q)
  possible_stands q c =
      let t = tell_has s.dialect s.side s.entries 0 (map begun ps) (begun_layer ps starts.ascending) (begun c.start)
      (in_map begun ps c.start (starts.all c.start c.is_listed c.opens)) c.replies q c.gives in
      (t.tale, t.there, t.stands)

  lasts : (ys : List Tale) → map last_of (map (shown_of s) ys) ≡ map stands_of ys
  lasts [] = refl
  lasts (y ∷ ys) = ap (λ (qs : List Pos). y.stands ∷ qs) (lasts ys)

  all_least : (ys : List Tale) → ((y : Tale) → In y ys → In y layer) → All (IsLeast s) (map (shown_of s) ys)
  all_least [] h = All-nil (IsLeast s)
  all_least (y ∷ ys) h = All-cons (IsLeast s) (shown_of s y) (map (shown_of s) ys) (least_shown y (h y (inl refl))) (all_least ys (λ z i. h z (inr i)))

  -- games of the layer that stand in the possible positions, in their order, are the answer
  pub are_shown : (qs : List Pos) (ys : List Tale) → IsPossible s qs → map stands_of ys ≡ qs → ((y : Tale) → In y ys → In y layer) → AreShown s (map (shown_of s) ys)
  are_shown qs ys possible stand there = record { possible = subst (IsPossible s) (sym (lasts ys ∙ stand)) possible; least = all_least ys there }
