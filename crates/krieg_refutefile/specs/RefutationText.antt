-- The one written form of a refutation, read off its description.
use Rattle.std.specs.Prelude.{ℕ, List, []}
use Rattle.krieg_text.specs.Writing.{put_lines}
use Rattle.krieg_format.specs.Written.{written}
use Rattle.krieg_refutefile.specs.Refutations.{RefutationState}
use Rattle.krieg_refutefile.specs.RefutationFormat.{refutation_format}

-- a line feed stands after every line
unfoldable pub refutation_text : RefutationState → List ℕ
refutation_text s = put_lines [] (written refutation_format s)

-- the text of a refutation that can be written has fewer bytes
abbrev pub text_bound : ℕ
text_bound = 66000000
