-- Keys as numbers, which are ordered as they are.
use Rattle.std.specs.Prelude.{ℕ, ◌+◌, ◌*◌, ◌/◌, ◌%◌}
use Rattle.krieg_words.specs.Words.{IsSaid}
use Rattle.krieg_game.specs.Keys.{Key}
use Rattle.krieg_words.specs.declared.word_numbers.TheConstants.{WORDS_LIMIT}
use Rattle.krieg_words.specs.WordNumbers.{words_number, words_at}

-- the own words stand above the reply's
unfoldable pub key_number : Key → ℕ
key_number k = words_number k.0 * WORDS_LIMIT + words_number k.1

-- the key of a number
unfoldable pub key_at : ℕ → Key
key_at n = (words_at (n / WORDS_LIMIT), words_at (n % WORDS_LIMIT))

-- both words can be said
abbrev pub AreSaid : Key → Type 0
AreSaid k = IsSaid k.0 × IsSaid k.1
