-- What is read as a player's line is spelled so, and what is spelled so is read.
use Rattle.std.proofs.Common.{◌≡◌, ℕ, cond, List, ◌∷◌, ◌++◌, Option, Some, None, refl, ap, ◌∙◌, arith, subst}
use Rattle.std.specs.Prelude.{codes}
use Rattle.std.specs.Str.{bytes_eq}
use Rattle.std.specs.Option.{option_map}
use Rattle.krieg_wordtext.proofs.Common.{Move, behind, cut, move_text, move_of, IsOnBoard, Dialect, Wild16, Line, Opens, Illegal, Done, Heard, Early, Over, Said, IsSaid, Fits, LineFits, line_text, IsLine, words_text, words_in, done_in, judged_in, tried_in, try_in, heard_in, opens_in, line_in}
use Rattle.krieg_text.proofs.Free.{above_less}
use Rattle.krieg_fen.proofs.CleanTexts.{move_above}
use Rattle.krieg_text.proofs.NameLemmas.{behind_again, cut_again, cut_spells}
use Rattle.krieg_fen.proofs.MoveTexts.{move_spells, move_again}
use Rattle.krieg_wordtext.proofs.PartLaws.{Free}
use Rattle.krieg_words.proofs.Cases.{by_name}
use Rattle.krieg_wordtext.proofs.Cases.{by_front}
use Rattle.krieg_wordtext.proofs.CleanWords.{above_free}
use Rattle.krieg_wordtext.proofs.WordsLaws.{words_again, words_spell}

-- a move's text has no space
move_free : (m : Move) → Free 32 (move_text m)
move_free m = above_free 32 (move_text m) (above_less 32 48 (move_text m) (omega arith) (move_above m))

-- a try is read by its move and what became of it
try_again : (d : Dialect) (m : Move) (text : List ℕ) → IsOnBoard m → line_in d (codes "try " ++ (move_text m ++ (32 ∷ text))) ≡ judged_in d m text
unfolding line_in behind
try_again d m text there =
    ap (try_in d) (behind_again (codes "try ") (move_text m ++ (32 ∷ text)))
    ∙ ap (λ (x : List ℕ × Option (List ℕ)). tried_in d (move_of x.0) x.1) (cut_again 32 (move_text m) text (move_free m))
    ∙ ap (λ (x : Option Move). tried_in d x (Some text)) (move_again m there)

-- the written line is read again
pub line_again : (d : Dialect) (l : Line) → IsLine l → LineFits d l → line_in d (line_text d l) ≡ Some l
unfolding line_text line_in behind
line_again d (Opens w) said fits =
    ap (λ (x : Option (List ℕ)). opens_in d x (codes "opens " ++ words_text d w)) (behind_again (codes "opens ") (words_text d w))
    ∙ ap (option_map Opens) (let f : Fits d w = cc in words_again d w said f)
line_again d (Heard w) said fits =
    ap (λ (x : Option (List ℕ)). heard_in d x (codes "heard " ++ words_text d w)) (behind_again (codes "heard ") (words_text d w))
    ∙ ap (option_map Heard) (let f : Fits d w = cc in words_again d w said f)
line_again d (Illegal m) there fits = try_again d m (codes "illegal") there
line_again d (Early m) there fits = try_again d m (codes "early") there
line_again d (Over m) there fits = try_again d m (codes "over") there
line_again d (Done m w) both fits =
    try_again d m (codes "ok " ++ words_text d w) both.0 ∙ ap (done_in d m) (behind_again (codes "ok ") (words_text d w))
    ∙ ap (option_map (Done m)) (let f : Fits d w = cc in words_again d w both.1 f)

record LineIs (d : Dialect) (text : List ℕ) (l : Line) : Type 0 where
  valid : IsLine l
  fits : LineFits d l
  is : text ≡ line_text d l

line_is : (a b : Line) → Some a ≡ Some b → a ≡ b
line_is a b e = cc

-- a line with words is spelled by its words
words_spelled : (d : Dialect) (text words : List ℕ) (kind : Said → Line) (x : Option Said) (l : Line) → words_in d words ≡ x → option_map kind x ≡ Some l →
    ((w : Said) → IsSaid w → Fits d w → words ≡ words_text d w → LineIs d text (kind w)) → LineIs d text l
words_spelled d text words kind None l is e spelled = absurd cc
words_spelled d text words kind (Some w) l is e spelled = let r = words_spell d words w is in subst (LineIs d text) (line_is (kind w) l e) (spelled w r.0 r.1 r.2)

judged_spelled : (d : Dialect) (text rest : List ℕ) (m : Move) (l : Line) → IsOnBoard m → ((t : List ℕ) → rest ≡ t → text ≡ codes "try " ++ (move_text m ++ (32 ∷ t))) → judged_in d m rest ≡ Some l → LineIs d text l
unfolding line_text
judged_spelled d text rest m l there whole e =
    by_name (λ a. cond a (Some (Illegal m)) (cond (bytes_eq rest (codes "early")) (Some (Early m)) (cond (bytes_eq rest (codes "over")) (Some (Over m)) done)) ≡ Some l → LineIs d text l) rest (codes "illegal")
    (λ is h. subst (LineIs d text) (line_is (Illegal m) l h) (record { valid = there; fits = refl; is = whole (codes "illegal") is }))
    (by_name (λ b. cond b (Some (Early m)) (cond (bytes_eq rest (codes "over")) (Some (Over m)) done) ≡ Some l → LineIs d text l) rest (codes "early")
    (λ is h. subst (LineIs d text) (line_is (Early m) l h) (record { valid = there; fits = refl; is = whole (codes "early") is }))
    (by_name (λ c. cond c (Some (Over m)) done ≡ Some l → LineIs d text l) rest (codes "over")
    (λ is h. subst (LineIs d text) (line_is (Over m) l h) (record { valid = there; fits = refl; is = whole (codes "over") is }))
    (by_front (λ y. done_in d m y ≡ Some l → LineIs d text l) (codes "ok ") rest
    (λ words is h. words_spelled d text words (Done m) (words_in d words) l refl h
    (λ w said fits same. (record { valid = (there, said); fits = ap (Done m) fits; is = whole (codes "ok " ++ words_text d w) (is ∙ ap (λ (t : List ℕ). codes "ok " ++ t) same) })))
    (λ h. absurd cc)))) e
  where
    done : Option Line
    done = done_in d m (behind (codes "ok ") rest)

try_spelled : (d : Dialect) (text tail : List ℕ) (m : Option Move) (rest : Option (List ℕ)) (l : Line) → text ≡ codes "try " ++ tail →
    move_of (cut 32 tail).0 ≡ m → (cut 32 tail).1 ≡ rest → tried_in d m rest ≡ Some l → LineIs d text l
try_spelled d text tail None rest l whole first second e = absurd cc
try_spelled d text tail (Some m) None l whole first second e = absurd cc
try_spelled d text tail (Some m) (Some rest) l whole first second e =
    let s = move_spells (cut 32 tail).0 m first in
    judged_spelled d text rest m l s.0
    (λ t same. whole ∙ ap (λ (x : List ℕ). codes "try " ++ x) (cut_spells 32 tail (move_text m) rest s.1 second ∙ ap (λ (x : List ℕ). move_text m ++ (32 ∷ x)) same)) e

-- what is read is spelled so, and the dialect can tell it
pub line_spells : (d : Dialect) (text : List ℕ) (l : Line) → line_in d text ≡ Some l → IsLine l × LineFits d l × (text ≡ line_text d l)
unfolding line_in line_text
line_spells d text l e =
    let r : LineIs d text l =
    by_front (λ y. opens_in d y text ≡ Some l → LineIs d text l) (codes "opens ") text
    (λ words is h. words_spelled d text words Opens (words_in d words) l refl h
    (λ w said fits same. (record { valid = said; fits = ap Opens fits; is = is ∙ ap (λ (t : List ℕ). codes "opens " ++ t) same })))
    (by_front (λ y. heard_in d y text ≡ Some l → LineIs d text l) (codes "heard ") text
    (λ words is h. words_spelled d text words Heard (words_in d words) l refl h
    (λ w said fits same. (record { valid = said; fits = ap Heard fits; is = is ∙ ap (λ (t : List ℕ). codes "heard " ++ t) same })))
    (by_front (λ y. try_in d y ≡ Some l → LineIs d text l) (codes "try ") text
    (λ tail is h. try_spelled d text tail (move_of (cut 32 tail).0) (cut 32 tail).1 l is refl refl h) (λ h. absurd cc))) e in
    (r.valid, r.fits, r.is)

-- what is spelled so is read
pub line_read : (d : Dialect) (text : List ℕ) (l : Line) → IsLine l → LineFits d l → text ≡ line_text d l → line_in d text ≡ Some l
line_read d text l valid fits is = ap (line_in d) is ∙ line_again d l valid fits

-- every line fits wild16
pub line_fits_wild16 : (l : Line) → LineFits Wild16 l
line_fits_wild16 (Opens w) = refl
line_fits_wild16 _ = refl

pub ruleset lines = (line_spells, line_read)

pub ruleset wild_lines = (line_fits_wild16)
