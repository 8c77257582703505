-- Games that are kept by numbers: links that come leave the games before as they are.
use Rattle.std.proofs.Common.{◌≡◌, ℕ, zero, suc, ◌+◌, ◌<◌, ◌≤◌, List, [], ◌∷◌, ◌++◌, map, length, get_or, Some, refl, sym, ap, subst, ◌∙◌, arith, reverse}
use Rattle.std.specs.Prelude.{slice_get}
use Rattle.std.proofs.lemmas.List.{append_assoc, length-map, get_or_append_left, length_push, get_or_push, reverse-append}
use Rattle.std.proofs.lemmas.List.Elements.{All-head, All-tail, All-cons, All-nil}
use Rattle.krieg_belief.proofs.Common.{Pos, Move, Tale, begun, standing, Entries, nowhere, game_of, longer, numbered_tale, kept, tale_of, tales_of, Grounded, Numbered, Link}

pub kept_append : (gs : List Tale) (ls ms : List Link) → kept gs (ls ++ ms) ≡ kept (kept gs ls) ms
kept_append gs [] ms = refl
kept_append gs (l ∷ ls) ms = kept_append (gs ++ game_of gs l ∷ []) ls ms

pub kept_length : (gs : List Tale) (ls : List Link) → length (kept gs ls) ≡ length gs + length ls
kept_length gs [] = omega arith
kept_length gs (l ∷ ls) =
    let h = kept_length (gs ++ game_of gs l ∷ []) ls in
    let k = length_push gs (game_of gs l) in
    omega (arith, h, k)

pub kept_stays : (gs : List Tale) (ls : List Link) (i : ℕ) → i < length gs → get_or (kept gs ls) i nowhere ≡ get_or gs i nowhere
kept_stays gs [] i h = refl
kept_stays gs (l ∷ ls) i h =
    let k = length_push gs (game_of gs l) in
    kept_stays (gs ++ game_of gs l ∷ []) ls i (omega (arith, h, k)) ∙ get_or_append_left gs (game_of gs l ∷ []) nowhere i h

pub grounded_more : (n : ℕ) (ls : List Link) (l : Link) → Grounded n ls → l.before < n + length ls → Grounded n (ls ++ l ∷ [])
grounded_more n [] l g h = (omega (arith, h), tt)
grounded_more n (k ∷ ls) l g h = (g.0, grounded_more (suc n) ls l g.1 (omega (arith, h)))

pub numbered_up : (m n : ℕ) (es : Entries) → m ≤ n → Numbered m es → Numbered n es
numbered_up m n [] le h = All-nil (λ (e : Pos × ℕ). e.1 < n)
numbered_up m n (e ∷ es) le h =
    let a : e.1 < m = All-head (λ (e : Pos × ℕ). e.1 < m) e es h in
    All-cons (λ (e : Pos × ℕ). e.1 < n) e es (omega (arith, a, le)) (numbered_up m n es le (All-tail (λ (e : Pos × ℕ). e.1 < m) e es h))

pub numbered_push : (n : ℕ) (es : Entries) (q : Pos) (k : ℕ) → k < n → Numbered n es → Numbered n (es ++ (q, k) ∷ [])
numbered_push n [] q k lt h = All-cons (λ (e : Pos × ℕ). e.1 < n) (q, k) [] lt (All-nil (λ (e : Pos × ℕ). e.1 < n))
numbered_push n (e ∷ es) q k lt h =
    All-cons (λ (e : Pos × ℕ). e.1 < n) e (es ++ (q, k) ∷ []) (All-head (λ (e : Pos × ℕ). e.1 < n) e es h) (numbered_push n es q k lt (All-tail (λ (e : Pos × ℕ). e.1 < n) e es h))

-- an entry by its place
pub numbered_at : (n : ℕ) (es : Entries) (i : ℕ) (e : Pos × ℕ) → Numbered n es → slice_get es i ≡ Some e → e.1 < n
numbered_at n [] i e h at = absurd cc
numbered_at n (y ∷ es) zero e h at = let s : y ≡ e = cc in subst (λ (z : Pos × ℕ). z.1 < n) s (All-head (λ (z : Pos × ℕ). z.1 < n) y es h)
numbered_at n (y ∷ es) (suc i) e h at = numbered_at n es i e (All-tail (λ (z : Pos × ℕ). z.1 < n) y es h) at

pub grounded_at : (n : ℕ) (ls : List Link) (j : ℕ) (l : Link) → Grounded n ls → j < length ls → l ≡ get_or ls j l → l.before < n + j
grounded_at n [] j l g h is = absurd (let k : j < 0 = h in omega (arith, k))
grounded_at n (k ∷ ls) zero l g h is = let a : k.before < n = g.0 in let e = ap (λ (x : Link). x.before) is in omega (arith, a, e)
grounded_at n (k ∷ ls) (suc j) l g h is = let a = grounded_at (suc n) ls j l g.1 (omega (arith, h)) is in omega (arith, a)

module _ (ps : List Pos) where
  abbrev games : List Link → List Tale
  games ls = kept (map begun ps) ls

  pub games_length : (ls : List Link) → length (games ls) ≡ length ps + length ls
  games_length ls = kept_length (map begun ps) ls ∙ ap (λ (n : ℕ). n + length ls) (length-map ps begun)

  pub tale_stays : (ls ms : List Link) (e : Pos × ℕ) → e.1 < length ps + length ls → tale_of (games (ls ++ ms)) e ≡ tale_of (games ls) e
  tale_stays ls ms e h =
      let k = games_length ls in
      ap (λ (t : Tale). standing t e.0) (ap (λ (gs : List Tale). get_or gs e.1 nowhere) (kept_append (map begun ps) ls ms) ∙ kept_stays (games ls) ms e.1 (omega (arith, h, k)))

  pub tales_stay : (ls ms : List Link) (es : Entries) → Numbered (length ps + length ls) es → tales_of ps (ls ++ ms) es ≡ tales_of ps ls es
  tales_stay ls ms [] h = refl
  tales_stay ls ms (e ∷ es) h =
      ap (λ (t : Tale). t ∷ tales_of ps (ls ++ ms) es) (tale_stays ls ms e (All-head (λ (e : Pos × ℕ). e.1 < length ps + length ls) e es h))
      ∙ ap (λ (ts : List Tale). tale_of (games ls) e ∷ ts) (tales_stay ls ms es (All-tail (λ (e : Pos × ℕ). e.1 < length ps + length ls) e es h))

-- the game with the number of a link is the one before it with the link's reply
pub linked : (gs : List Tale) (ls : List Link) (j : ℕ) (l : Link) → Grounded (length gs) ls → j < length ls → l ≡ get_or ls j l → get_or (kept gs ls) (length gs + j) nowhere ≡ game_of (kept gs ls) l
linked gs [] j l g h is = absurd (let k : j < 0 = h in omega (arith, k))
linked gs (k ∷ ls) zero l g h is =
    let long = length_push gs (game_of gs k) in
    ap (λ (n : ℕ). get_or (kept gs (k ∷ ls)) n nowhere) (let e : length gs + 0 ≡ length gs = omega arith in e)
    ∙ (kept_stays (gs ++ game_of gs k ∷ []) ls (length gs) (omega (arith, long))
    ∙ (get_or_push gs (game_of gs k) nowhere (length gs) refl
    ∙ (ap (λ (t : Tale). longer t k.reply) (sym (kept_stays gs (k ∷ ls) k.before g.0)) ∙ ap (game_of (kept gs (k ∷ ls))) (sym is))))
linked gs (k ∷ ls) (suc j) l g h is =
    let long = length_push gs (game_of gs k) in
    ap (λ (n : ℕ). get_or (kept gs (k ∷ ls)) n nowhere) (let e : length gs + suc j ≡ length (gs ++ game_of gs k ∷ []) + j = omega (arith, long) in e)
    ∙ linked (gs ++ game_of gs k ∷ []) ls j l (subst (λ (n : ℕ). Grounded n ls) (let e : suc (length gs) ≡ length (gs ++ game_of gs k ∷ []) = omega (arith, long) in e) g.1) (omega (arith, h)) is

-- the game with the number of a start begins there
pub begins : (ps : List Pos) (ls : List Link) (n : ℕ) (p : Pos) → slice_get ps n ≡ Some p → numbered_tale ps ls n ≡ begun p
begins ps ls n p at = kept_stays (map begun ps) ls n (within ps n at) ∙ begun_at ps n at
  where
    within : (qs : List Pos) (i : ℕ) → slice_get qs i ≡ Some p → i < length (map begun qs)
    within [] i at = absurd cc
    within (q ∷ qs) zero at = omega arith
    within (q ∷ qs) (suc i) at = let r = within qs i at in omega (arith, r)

    begun_at : (qs : List Pos) (i : ℕ) → slice_get qs i ≡ Some p → get_or (map begun qs) i nowhere ≡ begun p
    begun_at [] i at = absurd cc
    begun_at (q ∷ qs) zero at = let e : q ≡ p = cc in ap begun e
    begun_at (q ∷ qs) (suc i) at = begun_at qs i at

-- what is read of a game backwards: the game before is known, and the moves from there on, of which the last was read first
pub record IsTraced (ps : List Pos) (ls : List Link) (number at : ℕ) (replies : List Move) : Type 0 where
  pub start : (numbered_tale ps ls number).start ≡ (numbered_tale ps ls at).start
  pub moves : (numbered_tale ps ls number).replies ≡ (numbered_tale ps ls at).replies ++ reverse replies

pub traced_more : (ps : List Pos) (ls : List Link) (number at place : ℕ) (l : Link) (replies replies' : List Move) → Grounded (length ps) ls → place < length ls → l ≡ get_or ls place l → at ≡ length ps + place →
    replies' ≡ replies ++ l.reply ∷ [] → IsTraced ps ls number at replies → IsTraced ps ls number l.before replies'
traced_more ps ls number at place l replies replies' g h is there more t = record {
  start = t.start ∙ ap (λ (x : Tale). x.start) game;
  moves = t.moves ∙ (ap (λ (x : Tale). x.replies ++ reverse replies) game
      ∙ (append_assoc (numbered_tale ps ls l.before).replies (l.reply ∷ []) (reverse replies)
      ∙ ap (λ (ms : List Move). (numbered_tale ps ls l.before).replies ++ ms) (sym (ap reverse more ∙ reverse-append replies (l.reply ∷ [])))));
}
  where
    size : length (map begun ps) ≡ length ps
    size = length-map ps begun

    game : numbered_tale ps ls at ≡ longer (numbered_tale ps ls l.before) l.reply
    game =
        ap (λ (n : ℕ). get_or (kept (map begun ps) ls) n nowhere) (let e : at ≡ length (map begun ps) + place = omega (arith, there, size) in e)
        ∙ linked (map begun ps) ls place l (subst (λ (n : ℕ). Grounded n ls) (sym size) g) h is

pub traced_start : (ps : List Pos) (ls : List Link) (number at : ℕ) (replies : List Move) (p : Pos) → slice_get ps at ≡ Some p → IsTraced ps ls number at replies → p ≡ (numbered_tale ps ls number).start
traced_start ps ls number at replies p is t = sym (t.start ∙ ap (λ (x : Tale). x.start) (begins ps ls at p is))

pub traced_moves : (ps : List Pos) (ls : List Link) (number at : ℕ) (replies : List Move) (p : Pos) → slice_get ps at ≡ Some p → IsTraced ps ls number at replies → reverse replies ≡ (numbered_tale ps ls number).replies
traced_moves ps ls number at replies p is t = sym (t.moves ∙ ap (λ (x : Tale). x.replies ++ reverse replies) (begins ps ls at p is))
