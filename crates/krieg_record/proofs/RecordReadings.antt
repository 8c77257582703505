-- The reader gives the record that is spelled, or the first bad line; and what is spelled is a record.
use Rattle.std.proofs.Common.{ℕ, List, [], ◌∷◌, ◌++◌, Result, Ok, Err, subst}
use Rattle.std.specs.Prelude.{IfOk}
use Rattle.krieg_record.proofs.Common.{Pos, Move, TextFault, Always, IsReading, UpToLast, whole, Gives, RecordState, after_all, AreLegal, IsRecord, record_at, SpellsRecord, RecordGrammar}
use Rattle.krieg_text.proofs.Formats.{whole_found, reading}
use Rattle.krieg_record.proofs.MoveLines.{MoveLine, EndLine, after_more}
use Rattle.krieg_record.proofs.RecordFormat.{record_format}
use Rattle.krieg_record.proofs.RecordGrammars.{record_keeps}

pub record_reading : {X : Type 0} (view : X → RecordState) (answer : Result X TextFault) (ls : List (List ℕ)) → Gives view answer (whole record_at ls) → IsReading view record_at Always SpellsRecord RecordGrammar ls answer
record_reading view answer ls given = reading view answer record_at Always SpellsRecord Always RecordGrammar record_format record_keeps ls given

legal_of : (start : Pos) (before ms : List Move) (ls : List (List ℕ)) → UpToLast (MoveLine start) EndLine before ms tt ls → AreLegal (after_all start before) ms
legal_of start before [] ls s = tt
legal_of start before (m ∷ ms) [] s = absurd s
legal_of start before (m ∷ ms) (l ∷ ls) s = (s.0.only.matches.legal, subst (λ (p : Pos). AreLegal p ms) (after_more start before m) (legal_of start (before ++ m ∷ []) ms ls s.1))

pub record_of : (r : RecordState) (ls : List (List ℕ)) → SpellsRecord r ls → IsRecord r
record_of r ls s = record { valid = s.second.first.says.says.is_valid; legal = legal_of r.start [] r.moves s.second.back s.second.second }

pub code_record : {X : Type 0} (view : X → RecordState) (answer : Result X TextFault) (ls : List (List ℕ)) → Gives view answer (whole record_at ls) → IfOk answer (λ x. IsRecord (view x))
code_record view (Ok x) ls given = record_of (view x) ls (whole_found record_at Always SpellsRecord record_format ls (view x) given).1
code_record view (Err e) ls given = tt

pub ruleset records = (record_reading, code_record)
