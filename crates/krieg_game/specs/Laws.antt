-- What the game says in the words of chess: each a statement that a function of this crate has as its contract.
use Rattle.std.specs.Prelude.{◌≡◌, ◌↔◌, ℕ, suc, Bool, true, false, not, ◌&&◌, ◌||◌, List, length}
use Rattle.std.specs.Cmp.{IsTotalOrder}
use Rattle.std.specs.List.{list_all}
use Rattle.std.specs.declared.cmp.Ordering.{Ordering}
use Rattle.std.specs.declared.cmp.Ordering.TheVariants.{Equal}
use Rattle.krieg_board.specs.Pos.{Pos}
use Rattle.krieg_board.specs.declared.men.Move.{Move}
use Rattle.krieg_moves.specs.Legal.{is_legal}
use Rattle.krieg_moves.specs.After.{after}
use Rattle.krieg_moves.specs.Moves.{moves, is_ended, is_mate}
use Rattle.krieg_words.specs.Words.{Said}
use Rattle.krieg_words.specs.WordsOfMoves.{words}
use Rattle.krieg_words.specs.ToldWords.{told}
use Rattle.krieg_words.specs.declared.dialects.Dialect.{Dialect}
use Rattle.krieg_pack.specs.Members.{IsAscending}
use Rattle.krieg_theory.specs.Sets.{In, is_nil}
use Rattle.krieg_theory.specs.Tree.{Tree, Try, Maybe, Edges, first_edge}
use Rattle.krieg_theory.specs.Wins.{wins, wins_other}
use Rattle.krieg_theory.specs.Split.{refused, keys, class, mates_at}
use Rattle.krieg_game.specs.Keys.{Key, key_lt}
use Rattle.krieg_game.specs.Chess.{chess, outcomes}

-- a comparison is a total order, and tells any two that differ apart
pub record IsStrict {X : Type 0} (cmp : X → X → Ordering) : Type 0 where
  pub total : IsTotalOrder cmp
  pub apart : (a b : X) → cmp a b ≡ Equal → a ≡ b

module _ (d : Dialect) where
  -- what is told of a legal try and of a reply to it
  abbrev pub told_of : Pos → Move → Move → Key
  told_of p t r = (told d (words p t), told d (words (after p t) r))

  -- the node at the first edge for it is there, and wins the position after the reply
  abbrev pub is_answered : Edges Move Key → Pos → Move → ℕ → Move → Bool
  is_answered es p t k r = wins_other (chess d) (first_edge key_lt es (told_of p t r)) (after (after p t) r) k

  -- nothing is won within no move
  abbrev pub NothingWinsInNone : Type 0
  NothingWinsInNone = (n : Tree Move Key) (p : Pos) → wins (chess d) n p 0 ≡ false

  -- an illegal try is won by the node for it, within the same number
  abbrev pub IllegalTryGoesOn : Type 0
  IllegalTryGoesOn = (t : Move) (other : Maybe Move Key) (es : Edges Move Key) (p : Pos) (k : ℕ) → is_legal p t ≡ false →
      wins (chess d) (Try t other es) p (suc k) ≡ wins_other (chess d) other p (suc k)

  -- a legal try wins where it mates, or where the game goes on and every reply is answered within one move less
  abbrev pub LegalTryWins : Type 0
  LegalTryWins = (t : Move) (other : Maybe Move Key) (es : Edges Move Key) (p : Pos) (k : ℕ) → is_legal p t ≡ true →
      wins (chess d) (Try t other es) p (suc k) ≡ (is_mate (after p t) || (not (is_ended (after p t)) && list_all (is_answered es p t k) (moves (after p t))))

  -- to mate at once is to leave a mate
  abbrev pub MatesAtOnce : Type 0
  MatesAtOnce = (p : Pos) (t : Move) → mates_at (chess d) p t ≡ (is_legal p t && is_mate (after p t))

  -- q comes about by a member, the legal try and a reply, of which that is told
  pub record ComesAbout (B : List Pos) (t : Move) (own reply : Said) (q : Pos) : Type 0 where
    pub from : Pos
    pub member : In from B
    pub legal : is_legal from t ≡ true
    pub replied : Move
    pub listed : In replied (moves (after from t))
    pub own_told : own ≡ told d (words from t)
    pub reply_told : reply ≡ told d (words (after from t) replied)
    pub to : q ≡ after (after from t) replied

  -- a class has just the positions that come about so, ascending; and a key occurs where its class is not empty
  pub record ClassIs (B : List Pos) (t : Move) (own reply : Said) : Type 0 where
    pub ascending : IsAscending (class (chess d) B t (own, reply))
    pub exact : (q : Pos) → In q (class (chess d) B t (own, reply)) ↔ ComesAbout B t own reply q
    pub occurs : In (own, reply) (keys (chess d) B t) ↔ (is_nil (class (chess d) B t (own, reply)) ≡ false)

  -- each class holds just the positions that come about with its words
  abbrev pub ClassesComeAbout : Type 0
  ClassesComeAbout = (B : List Pos) (t : Move) (own reply : Said) → ClassIs B t own reply

  -- the members that refuse a try are a set as the members are
  abbrev pub RefusedAscends : Type 0
  RefusedAscends = (B : List Pos) (t : Move) → IsAscending B → IsAscending (refused (chess d) B t)

  -- there is one outcome for each reply
  abbrev pub OutcomesAreReplies : Type 0
  OutcomesAreReplies = (p : Pos) (t : Move) → length (outcomes d p t) ≡ length (moves (after p t))
