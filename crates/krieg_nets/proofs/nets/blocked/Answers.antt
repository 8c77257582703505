use Rattle.std.proofs.Common.{◌≡◌, ◌&&◌, ◌||◌, ◌∙◌, sym, ap, refl}
use Rattle.krieg_board.specs.Attacks.{is_between}
use Rattle.krieg_board.specs.Men.{is_same_kind}
use Rattle.krieg_board.specs.Sets.{has}
use Rattle.krieg_board.specs.declared.men.Kind.{Kind}
use Rattle.krieg_board.specs.contracts.men.KindPartialEq.TheImpl as derived_eq
use Rattle.krieg_board.specs.declared.men.Kind.TheVariants.{King, Pawn, Knight, Bishop, Rook, Queen}
use Rattle.krieg_board.specs.declared.men.Side.TheVariants.{White}
use Rattle.krieg_board.proofs.SetLemmas.{has_or, has_zero}
use Rattle.krieg_rays.specs.Rays.{goes}
use Rattle.krieg_nets.proofs.nets.blocked.Goals.{then-eq, else-eq}
use Rattle.krieg_nets.proofs.nets.blocked.Goals as goal

-- the code's test of a king is the word's
king_is : (k : Kind) → (derived_eq.ghosts).eq k King ≡ is_same_kind k King
king_is Pawn = refl
king_is Knight = refl
king_is Bishop = refl
king_is Rook = refl
king_is Queen = refl
king_is King = refl

pub returns : goal.returns
returns c = λ k h.
    let same : c.eq.result ≡ is_same_kind c.args.man.kind King = c.eq.ensures ∙ king_is c.args.man.kind in
    has_or c.between_at.result c.if-eq.near k
    ∙ ap (λ x. x || has c.if-eq.near k) (c.between_at.ensures k h)
    ∙ ap (λ x. is_between c.args.from c.args.to k || x) (elim c.if-eq.branch [
      | then-eq w ↦ ap (λ n. has n k) w.near-is ∙ w.king_attacks-near.ensures k h ∙ ap (λ x. x && goes King White c.args.to k) (sym w.if-eq.true ∙ same)
      | else-eq w ↦ ap (λ n. has n k) w.near-is ∙ has_zero k ∙ ap (λ x. x && goes King White c.args.to k) (sym w.if-eq.false ∙ same)
    ])
