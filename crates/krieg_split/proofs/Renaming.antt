-- The same classes under other names.
use Rattle.std.proofs.Common.{◌≡◌, List, [], ◌∷◌, ◌++◌, map, sym, ap, ◌∙◌, append_assoc}
use Rattle.std.proofs.lemmas.List.{map_push}
use Rattle.std.proofs.lemmas.Simd.{map-map}
use Rattle.krieg_split.proofs.Common.{Pos, Side, Dialect, Said, silent, RootKey, classes_in, opened, opening_sets, IsOwnTurn, opened_pair, opened_set, heard_first, OpeningSet}
use Rattle.std.specs.Prelude.{None}
use Rattle.krieg_game.proofs.Classed.{openings_are_classed}

-- one more is named
pub named_more : {A Z : Type 0} (f : A → Z) (xs ys : List A) (x : A) (rest left all : List Z) → ys ≡ xs ++ x ∷ [] → left ≡ f x ∷ rest → map f xs ++ left ≡ all → map f ys ++ rest ≡ all
named_more f xs ys x rest left all is first h =
    ap (λ v. map f v ++ rest) is
    ∙ ap (λ v. v ++ rest) (map_push f xs x)
    ∙ append_assoc (map f xs) (f x ∷ []) rest
    ∙ ap (λ v. map f xs ++ v) (sym first)
    ∙ h

-- an opening's words with a value that says that no move was heard
abbrev unheard : Said × List Pos → RootKey × List Pos
unheard o = ((o.0, None), o.1)

-- at the player's turn the members by their opening words are the opening sets
pub opening_sets_are : (d : Dialect) (who : Side) (B : List Pos) (os : List OpeningSet) → map opened_pair os ≡ map heard_first (classes_in (map (opened d silent) B)) → IsOwnTurn who B → map opened_set os ≡ opening_sets d who B
opening_sets_are d who B os is turn =
    sym (map-map unheard opened_pair os)
    ∙ ap (map unheard) is
    ∙ map-map unheard heard_first (classes_in (map (opened d silent) B))
    ∙ openings_are_classed d who B silent turn
