-- What becomes of the account of a seat, from one call to the next.
use Rattle.std.proofs.Common.{◌≡◌, ℕ, zero, suc, ◌+◌, List, [], ◌∷◌, ◌++◌, length, length-append, refl, sym, ap, ◌∙◌, append_assoc, Ok, arith}
use Rattle.std.proofs.lemmas.List.{append-nil}
use Rattle.krieg_play.proofs.Common.{one_more, many_more, Move, Line, Account, Asked, Try, Serves}

-- nothing
pub serves_none : (a : Account) → Serves [] [] 0 a a
serves_none a = record { asks = refl; said = sym (append-nil a.said); heard = sym (append-nil a.heard) }

-- it heard lines
pub only_hears : (a b : Account) (lines : List Line) → b.asks ≡ a.asks → b.said ≡ a.said → b.heard ≡ a.heard ++ lines → Serves [] lines 0 a b
only_hears a b lines asks said heard = record { asks = asks; said = said ∙ sym (append-nil a.said); heard = heard }

-- it was asked, and tried a move
pub tries_move : (m : Move) (a b : Account) → Asked (Ok (Try m)) a b → Serves (m ∷ []) [] 0 a b
tries_move m a b h = record { asks = ap (λ (x : Account). x.asks) h; said = ap (λ (x : Account). x.said) h; heard = ap (λ (x : Account). x.heard) h ∙ sym (append-nil a.heard) }

-- it was asked in vain
pub asked_in_vain : (a b : Account) → b.asks ≡ one_more a.asks → b.said ≡ a.said → b.heard ≡ a.heard → Serves [] [] 1 a b
asked_in_vain a b asks said heard = record { asks = asks; said = said ∙ sym (append-nil a.said); heard = heard ∙ sym (append-nil a.heard) }

-- counts go on
many_more_again : (m n count : ℕ) → many_more m (many_more n count) ≡ many_more (m + n) count
many_more_again zero n count = let none : n ≡ 0 + n = omega arith in ap (λ (k : ℕ). many_more k count) none
many_more_again (suc m) n count =
    let one : suc (m + n) ≡ suc m + n = omega arith in
    ap one_more (many_more_again m n count) ∙ ap (λ (k : ℕ). many_more k count) one

-- one after another
pub serves_more : (moves moves' : List Move) (lines lines' : List Line) (vain vain' : ℕ) (a b c : Account) → Serves moves lines vain a b → Serves moves' lines' vain' b c →
    Serves (moves ++ moves') (lines ++ lines') (vain + vain') a c
serves_more moves moves' lines lines' vain vain' a b c h k = record {
  asks = k.asks ∙ (ap (many_more (length moves' + vain')) h.asks ∙ (many_more_again (length moves' + vain') (length moves + vain) a.asks ∙ ap (λ (n : ℕ). many_more n a.asks) all));
  said = k.said ∙ (ap (λ (ms : List Move). ms ++ moves') h.said ∙ append_assoc a.said moves moves');
  heard = k.heard ∙ (ap (λ (ls : List Line). ls ++ lines') h.heard ∙ append_assoc a.heard lines lines');
}
  where
    all : length moves' + vain' + (length moves + vain) ≡ length (moves ++ moves') + (vain + vain')
    all = omega (arith, length-append moves moves')
