-- What comes of a try: a key, and the position after the reply. Their order is by the key, then by the position.
use Rattle.std.specs.Ordering.{on, then_cmp}
use Rattle.std.specs.declared.cmp.Ordering.{Ordering}
use Rattle.krieg_board.specs.Pos.{Pos}
use Rattle.krieg_pack.specs.Order.{position_cmp}
use Rattle.krieg_game.specs.Keys.{Key, key_cmp}

-- a position with the words that led to it
abbrev pub KeyedPosition : Type 0
KeyedPosition = Key × Pos

-- by the words, and then by the position
abbrev pub outcome_cmp : KeyedPosition → KeyedPosition → Ordering
outcome_cmp = then_cmp (on (λ (o : KeyedPosition). o.0) key_cmp) (on (λ (o : KeyedPosition). o.1) position_cmp)
