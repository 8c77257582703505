use Rattle.krieg_split.proofs.PackedHeards.{made}
use Rattle.krieg_split.proofs.packed_key.PackedKey.new.Goals as goal

pub invariant_of-result : goal.invariant_of-result
invariant_of-result c =
    (made c.args.own.now c.args.reply.now c.words_number.result c.words_number-2.result c.words_number.ensures.value c.words_number-2.ensures.value c.words_number.ensures.said c.words_number-2.ensures.said).0

pub returns : goal.returns
returns c =
    (made c.args.own.now c.args.reply.now c.words_number.result c.words_number-2.result c.words_number.ensures.value c.words_number-2.ensures.value c.words_number.ensures.said c.words_number-2.ensures.said).1
