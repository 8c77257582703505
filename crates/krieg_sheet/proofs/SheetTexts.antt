-- The text of a sheet is that of its lines, each with its line feed.
use Rattle.std.proofs.Common.{◌≡◌, ℕ, List, [], ◌∷◌, ◌++◌, length, map, ap, ◌∙◌, append_assoc}
use Rattle.std.specs.Prelude.{codes}
use Rattle.krieg_sheet.proofs.Common.{with_ends, position_text, side_line, list_line, list_head, position_line, alone, joined, line_text, version_lines, SheetState, opens_lines, entry_line, end_line, sheet_lines, sheet_text, told_lines}
use Rattle.krieg_fen.specs.ListText as list
use Rattle.krieg_text.proofs.Writings.{put_lines_is, joined_alone, joined_each}

-- the lines, each as one text
abbrev pub written_lines : SheetState → List (List ℕ)
written_lines s =
    version_lines (codes "krieg sheet ") s.dialect
    ++ ((list_head s.side (length s.list) ++ map position_text s.list) ++ told_lines s)

told_are : (s : SheetState) → map joined (map alone (opens_lines s.dialect s.opens) ++ (map (entry_line s.dialect) s.entries ++ (end_line ∷ []))) ≡ told_lines s
told_are s =
    joined_alone (opens_lines s.dialect s.opens) (map (entry_line s.dialect) s.entries ++ (end_line ∷ []))
    ∙ ap (λ (t : List (List ℕ)). opens_lines s.dialect s.opens ++ t) (joined_each (line_text s.dialect) s.entries (end_line ∷ []))

lines_are : (s : SheetState) → map joined (sheet_lines s) ≡ written_lines s
lines_are s =
    let told = map alone (opens_lines s.dialect s.opens) ++ (map (entry_line s.dialect) s.entries ++ (end_line ∷ [])) in
    let versions = version_lines (codes "krieg sheet ") s.dialect in
    let head = list.head_lines s.side (length s.list) in
    ap (map joined) (append_assoc (map alone versions) head (map position_line s.list ++ told))
    ∙ joined_alone versions (head ++ (map position_line s.list ++ told))
    ∙ ap (λ (t : List (List ℕ)). versions ++ (side_line s.side ∷ list_line (length s.list) ∷ t))
    (joined_each position_text s.list told ∙ ap (λ (t : List (List ℕ)). map position_text s.list ++ t) (told_are s))

pub text_is : (s : SheetState) → sheet_text s ≡ with_ends (written_lines s)
unfolding sheet_text
text_is s = put_lines_is [] (sheet_lines s) ∙ ap with_ends (lines_are s)
