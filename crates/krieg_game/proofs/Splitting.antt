-- What a class has, in the words of chess.
use Rattle.std.proofs.Common.{Bool, true, false, not, cond, List, [], ◌∷◌, filter, sym, ap, ◌∙◌}
use Rattle.krieg_game.proofs.Common.{Pos, Move, after, is_legal, IsAscending, moves, Said, words, Dialect, ComesBy, chess, outcome, outcomes, ComesAbout, ClassesComeAbout, RefusedAscends}
use Rattle.krieg_theory.proofs.Lists.{in_map, map_in, filter_in}
use Rattle.krieg_theory.proofs.Theorems.{classes_are_split}
use Rattle.krieg_game.proofs.ChessLaws.{chess_is_game}

filter_up : (f : Pos → Bool) (ps : List Pos) → IsAscending ps → IsAscending (filter f ps)
filter_up f [] up = tt
filter_up f (p ∷ ps) up = go (f p) (filter_up f ps up.1)
  where
    go : (b : Bool) → IsAscending (filter f ps) → IsAscending (cond b (p ∷ filter f ps) (filter f ps))
    go true rest = (λ q i. up.0 q (filter_in f ps q i).0, rest)
    go false rest = rest

module _ (d : Dialect) where
  pub refused_ascends : RefusedAscends d
  refused_ascends B t up = filter_up (λ p. not (is_legal p t)) B up

  comes_about : (B : List Pos) (t : Move) (own reply : Said) (q : Pos) → ComesBy (chess d) B t (own, reply) q → ComesAbout d B t own reply q
  unfolding outcomes
  comes_about B t own reply q c =
      let r = map_in (outcome d (words c.from t) (after c.from t)) (moves (after c.from t)) c.out c.reply in
      record {
        from = c.from;
        member = c.member;
        legal = c.legal;
        replied = r.0;
        listed = r.1;
        own_told = ap (λ k. k.0) (sym c.key_is) ∙ ap (λ o. o.0.0) (sym r.2);
        reply_told = ap (λ k. k.1) (sym c.key_is) ∙ ap (λ o. o.0.1) (sym r.2);
        to = sym c.to ∙ ap (λ o. o.1) (sym r.2);
      }

  comes_by : (B : List Pos) (t : Move) (own reply : Said) (q : Pos) → ComesAbout d B t own reply q → ComesBy (chess d) B t (own, reply) q
  unfolding outcomes
  comes_by B t own reply q c = record {
    from = c.from;
    member = c.member;
    legal = c.legal;
    out = outcome d (words c.from t) (after c.from t) c.replied;
    reply = in_map (outcome d (words c.from t) (after c.from t)) (moves (after c.from t)) c.replied c.listed;
    key_is = λ i. (sym c.own_told i, sym c.reply_told i);
    to = sym c.to;
  }

  pub classes_come_about : ClassesComeAbout d
  classes_come_about B t own reply =
      let s = classes_are_split (chess d) (chess_is_game d) B t (own, reply) in
      record {
        ascending = s.0;
        exact = λ q. (λ i. comes_about B t own reply q ((s.1 q).0 i), λ c. (s.1 q).1 (comes_by B t own reply q c));
        occurs = s.2;
      }
