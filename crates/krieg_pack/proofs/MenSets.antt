-- The sets of the men, from the sets that have the bits of their codes.
use Rattle.std.proofs.Common.{◌≡◌, ℕ, ◌-◌, ◌^◌, ◌<◌, ◌&&◌, ◌||◌, ap, ◌∙◌, bit_and, bit_or, length}
use Rattle.std.specs.Int.RustNames.{bit_xor}
use Rattle.std.proofs.lemmas.Nat.{or_lt, xor_lt}
use Rattle.krieg_pack.proofs.Common.{has, Board, man_at, AreExact, Show, board_of, Sets, man_code, Inside}
use Rattle.krieg_board.proofs.SetLemmas.{differ}
use Rattle.krieg_board.proofs.Writing.{Small, shown, shown_board}
use Rattle.krieg_pack.proofs.CodeBits.{Row, same_row, and_is, or_is, xor_is, without_is, and_small}
use Rattle.krieg_pack.proofs.Unpacking.{Coded, Narrow}

-- each side's men, and the men of each kind
abbrev pub men_sets : Inside → Sets
men_sets k =
    let without = λ (a b : ℕ). bit_and a (18446744073709551615 - b) in
    let black = bit_or k.eights (bit_and (bit_and k.ones k.twos) k.fours) in
    let two_or_four = bit_xor k.twos k.fours in
    let two_or_eight = bit_xor k.twos k.eights in
    record {
      white = without (bit_or (bit_or k.ones k.twos) k.fours) black;
      black = black;
      pawns = without (without k.ones two_or_four) k.eights;
      knights = without (without two_or_eight k.fours) k.ones;
      bishops = bit_and (without two_or_eight k.fours) k.ones;
      rooks = without (without two_or_four two_or_eight) k.ones;
      queens = bit_and (without two_or_four two_or_eight) k.ones;
      kings = without (bit_and two_or_eight k.fours) k.ones;
    }

module _ (k : Inside) (b : Board) (c : Coded k b) (n : Narrow k) where
  black_small : bit_or k.eights (bit_and (bit_and k.ones k.twos) k.fours) < 2 ^ 64
  black_small = or_lt 64 k.eights _ n.eights (and_small _ k.fours (and_small k.ones k.twos n.ones))

  four_small : bit_xor k.twos k.fours < 2 ^ 64
  four_small = xor_lt 64 k.twos k.fours n.twos n.fours

  eight_small : bit_xor k.twos k.eights < 2 ^ 64
  eight_small = xor_lt 64 k.twos k.eights n.twos n.eights

  two_or_four : (s : ℕ) → s < 64 → has (bit_xor k.twos k.fours) s ≡ differ (has (man_code (man_at b s)) 1) (has (man_code (man_at b s)) 2)
  two_or_four s h = xor_is k.twos k.fours s _ _ (c.twos s h) (c.fours s h)

  two_or_eight : (s : ℕ) → s < 64 → has (bit_xor k.twos k.eights) s ≡ differ (has (man_code (man_at b s)) 1) (has (man_code (man_at b s)) 3)
  two_or_eight s h = xor_is k.twos k.eights s _ _ (c.twos s h) (c.eights s h)

  is_black : (s : ℕ) → s < 64 → has (bit_or k.eights (bit_and (bit_and k.ones k.twos) k.fours)) s
      ≡ (has (man_code (man_at b s)) 3 || (has (man_code (man_at b s)) 0 && has (man_code (man_at b s)) 1) && has (man_code (man_at b s)) 2)
  is_black s h = or_is k.eights _ s _ _ (c.eights s h) (and_is _ k.fours s _ _ (and_is k.ones k.twos s _ _ (c.ones s h) (c.twos s h)) (c.fours s h))

  men_shown : Show (men_sets k) b
  men_shown = record {
    white = λ s h. without_is _ _ s _ _ black_small h (or_is _ k.fours s _ _ (or_is k.ones k.twos s _ _ (c.ones s h) (c.twos s h)) (c.fours s h)) (is_black s h) ∙ ap (λ (r : Row). r.white) (same_row (man_at b s));
    black = λ s h. is_black s h ∙ ap (λ (r : Row). r.black) (same_row (man_at b s));
    pawns = λ s h. without_is _ k.eights s _ _ n.eights h (without_is k.ones _ s _ _ four_small h (c.ones s h) (two_or_four s h)) (c.eights s h) ∙ ap (λ (r : Row). r.pawns) (same_row (man_at b s));
    knights = λ s h. without_is _ k.ones s _ _ n.ones h (without_is _ k.fours s _ _ n.fours h (two_or_eight s h) (c.fours s h)) (c.ones s h) ∙ ap (λ (r : Row). r.knights) (same_row (man_at b s));
    bishops = λ s h. and_is _ k.ones s _ _ (without_is _ k.fours s _ _ n.fours h (two_or_eight s h) (c.fours s h)) (c.ones s h) ∙ ap (λ (r : Row). r.bishops) (same_row (man_at b s));
    rooks = λ s h. without_is _ k.ones s _ _ n.ones h (without_is _ _ s _ _ eight_small h (two_or_four s h) (two_or_eight s h)) (c.ones s h) ∙ ap (λ (r : Row). r.rooks) (same_row (man_at b s));
    queens = λ s h. and_is _ k.ones s _ _ (without_is _ _ s _ _ eight_small h (two_or_four s h) (two_or_eight s h)) (c.ones s h) ∙ ap (λ (r : Row). r.queens) (same_row (man_at b s));
    kings = λ s h. without_is _ k.ones s _ _ n.ones h (and_is _ k.fours s _ _ (two_or_eight s h) (c.fours s h)) (c.ones s h) ∙ ap (λ (r : Row). r.kings) (same_row (man_at b s));
  }

  men_small : Small (men_sets k)
  men_small = record {
    white = and_small _ _ (or_lt 64 _ k.fours (or_lt 64 k.ones k.twos n.ones n.twos) n.fours);
    black = black_small;
    pawns = and_small _ _ (and_small _ _ n.ones);
    knights = and_small _ _ (and_small _ _ eight_small);
    bishops = and_small _ _ (and_small _ _ eight_small);
    rooks = and_small _ _ (and_small _ _ four_small);
    queens = and_small _ _ (and_small _ _ four_small);
    kings = and_small _ _ (and_small _ _ eight_small);
  }

  pub men_exact : length b ≡ 64 → AreExact (men_sets k)
  men_exact l = shown (men_sets k) b men_shown men_small l

  pub men_board : length b ≡ 64 → board_of (men_sets k) ≡ b
  men_board l = shown_board (men_sets k) b men_shown l
