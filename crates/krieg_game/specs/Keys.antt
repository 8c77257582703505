-- What a player hears between two own turns, and before the first one.
use Rattle.std.specs.Prelude.{Bool, Option, Some, None}
use Rattle.std.specs.Ordering.{is_lt, then_cmp, on}
use Rattle.std.specs.declared.cmp.Ordering.{Ordering}
use Rattle.std.specs.declared.cmp.Ordering.TheVariants.{Less, Equal, Greater}
use Rattle.krieg_words.specs.Words.{Said, words_cmp}

-- the words of the own move, and those of the reply
abbrev pub Key : Type 0
Key = Said × Said

-- the opening words, and those of the opponent's first move where he is to move first
abbrev pub RootKey : Type 0
RootKey = Said × Option Said

-- by the own move's words, then by the reply's
abbrev pub key_cmp : Key → Key → Ordering
key_cmp = then_cmp (on (λ (k : Key). k.0) words_cmp) (on (λ (k : Key). k.1) words_cmp)

-- the key stands before the other
abbrev pub key_lt : Key → Key → Bool
key_lt a b = is_lt (key_cmp a b)

-- nothing stands before something
abbrev pub heard_cmp : Option Said → Option Said → Ordering
heard_cmp None None = Equal
heard_cmp None (Some w) = Less
heard_cmp (Some v) None = Greater
heard_cmp (Some v) (Some w) = words_cmp v w

-- by the opening words, then by those of the first move
abbrev pub root_cmp : RootKey → RootKey → Ordering
root_cmp = then_cmp (on (λ (k : RootKey). k.0) words_cmp) (on (λ (k : RootKey). k.1) heard_cmp)

-- the key of a root stands before the other
abbrev pub root_lt : RootKey → RootKey → Bool
root_lt a b = is_lt (root_cmp a b)
