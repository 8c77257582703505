use Rattle.std.proofs.Common.{◌∷◌, [], refl, sym, ap, ◌∙◌, map}
use Rattle.std.proofs.lemmas.List.{drop_all}
use Rattle.std.specs.Prelude.{codes}
use Rattle.krieg_wordtext.proofs.WordsWritten.{put_parts, one_put, all_put}
use Rattle.krieg_wordtext.proofs.words_text.put_names.Goals as goal

pub loop-there-init : goal.loop-there-init
loop-there-init c =
    let k = c.args.kinds in
    record {
      before = refl;
      written = all_put (codes "+") c.args.text.now.written ((k.file, codes "file") ∷ (k.rank, codes "rank") ∷ (k.long, codes "long") ∷ (k.short, codes "short") ∷ (k.knight, codes "knight") ∷ []);
    }

pub loop-there-preserved : goal.loop-there-preserved
loop-there-preserved c = record {
  before = c.in_ok-put_piece.ensures.0 ∙ c.loop-there.invariant.before;
  written = one_put (λ p. (p.0, p.1.now)) (codes "+") c.loop-there.text.written c.put_piece.new.text.written c.loop-there.before c.either-before.result _ c.loop-there.there-index _ c.loop-there-test.true c.in_ok-put_piece.ensures.1 c.either-before.ensures
      ∙ c.loop-there.invariant.written;
}

pub returns : goal.returns
returns c =
    (c.loop-there.invariant.before, ap (λ qs. put_parts (codes "+") c.loop-there.text.written c.loop-there.before (map (λ p. (p.0, p.1.now)) qs)) (sym (drop_all c.loop-there.there-index _ c.loop-there-test.false)) ∙ c.loop-there.invariant.written)
