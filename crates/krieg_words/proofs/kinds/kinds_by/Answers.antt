use Rattle.std.proofs.Common.{◌≡◌, ◌∙◌, ◌&&◌, ℕ, ◌<◌, ◌^◌, refl, true, false}
use Rattle.krieg_words.proofs.Common.{other, Pos, attacks, man_at, is_of, is_man, is_kind, has, IsValid, Knight, King, CheckKind, File, Rank, Long, Short, Leap, kinds, is_checked}
use Rattle.krieg_rays.proofs.Kings.{one_king_on}
use Rattle.krieg_words.proofs.Givers.{Attack, not_checked, leap_checked, file_checked, rank_checked, long_checked, short_checked}
use Rattle.krieg_words.proofs.kinds.kinds_by.Goals as goal

attack : (p : Pos) (king givers : ℕ) → IsValid p → givers < 2 ^ 64 → king < 64 → is_man p.side King (man_at p.board king) ≡ true →
    ((k : ℕ) → k < 64 → has givers k ≡ (is_of (other p.side) (man_at p.board k) && attacks p.board k king)) → Attack p.board p.side king givers
attack p king givers valid small below is gives = record {
  one = one_king_on p.board p p.side valid refl;
  below = below;
  king = is;
  small = small;
  gives = gives;
}

pub returns-then-givers-eq0 : goal.returns-then-givers-eq0
unfolding kinds
returns-then-givers-eq0 c =
    let p = c.args.p.now in
    let a = attack p c.args.king c.args.givers c.know_valid.ensures c.ranges.givers.fits c.requires.square c.requires.king c.requires.givers in
    let told : (which : CheckKind) → false ≡ is_checked p.board p.side which = λ which. not_checked p.board p.side which c.args.king c.args.givers a c.if-givers-eq0.true in
    λ i. record { knight = told Leap i; short = told Short i; long = told Long i; rank = told Rank i; file = told File i }

pub returns : goal.returns
unfolding kinds
returns c =
    let p = c.args.p.now in
    let king = c.args.king in
    let givers = c.args.givers in
    let knights = c.sets.result.now.knights in
    let a = attack p king givers c.know_valid.ensures c.ranges.givers.fits c.requires.square c.requires.king c.requires.givers in
    let leapers : (k : ℕ) → k < 64 → has knights k ≡ is_kind Knight (man_at p.board k) = λ k h. c.sets.ensures.knights k h ∙ (λ i. is_kind Knight (man_at (c.bits.ensures.value i) k)) in
    λ i. record {
      knight = leap_checked p.board p.side king givers knights a leapers i;
      short = short_checked p.board p.side king givers knights c.diagonals_through-diagonals.result.1 a leapers c.diagonals_through-diagonals.ensures.short i;
      long = long_checked p.board p.side king givers knights c.diagonals_through-diagonals.result.0 a leapers c.diagonals_through-diagonals.ensures.long i;
      rank = rank_checked p.board p.side king givers knights c.rank_through.result a leapers c.rank_through.ensures i;
      file = file_checked p.board p.side king givers knights c.file_through.result a leapers c.file_through.ensures i;
    }
