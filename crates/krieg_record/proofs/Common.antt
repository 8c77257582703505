-- The words of specs/, of this crate and of those below it, that its proofs cite: passed on from one place.
unfoldable pub use Rattle.krieg_board.specs.Attacks.{attacks}
pub use Rattle.krieg_board.specs.Attacks.{apart, can_reach, is_forward}
pub use Rattle.krieg_board.specs.Board.{is_empty, is_man, is_of, man_at}
pub use Rattle.krieg_board.specs.Boards.{is_kind}
pub use Rattle.krieg_board.specs.Men.{is_same_bool, is_same_kind, is_same_side, other}
pub use Rattle.krieg_board.specs.Pos.{Pos}
unfoldable pub use Rattle.krieg_board.specs.Sets.{has}
pub use Rattle.krieg_board.specs.Sets.{IsLowest}
unfoldable pub use Rattle.krieg_board.specs.Squares.{some_square, squares}
pub use Rattle.krieg_board.specs.Squares.{crossed_rank, file_of, gathered, landing_rank, last_rank, rank_of}
pub use Rattle.krieg_board.specs.Validity.{IsValid}
pub use Rattle.krieg_board.specs.declared.men.Kind.{Kind}
pub use Rattle.krieg_board.specs.declared.men.Kind.TheVariants.{Pawn}
pub use Rattle.krieg_board.specs.declared.men.Man.{Man}
pub use Rattle.krieg_board.specs.declared.men.Move.{Move}
pub use Rattle.krieg_board.specs.declared.men.Promo.{Promo}
pub use Rattle.krieg_board.specs.declared.men.Side.{Side}
pub use Rattle.krieg_board.specs.declared.men.Side.TheVariants.{Black, White}
unfoldable pub use Rattle.krieg_moves.specs.After.{after}
pub use Rattle.krieg_moves.specs.After.{crossed, is_castling, is_en_passant, is_marked}
unfoldable pub use Rattle.krieg_moves.specs.Legal.{is_legal}
pub use Rattle.krieg_moves.specs.Legal.{has_promotion, is_double_step, is_move_of, is_move_of_kind, is_pawn_move, is_plain, is_step}
unfoldable pub use Rattle.krieg_moves.specs.Moves.{in_check, is_mate}
pub use Rattle.krieg_moves.specs.Moves.{plain_move}
pub use Rattle.krieg_moves.specs.Wings.{arrival, king_square}
pub use Rattle.krieg_moves.specs.declared.wing.Wing.{Wing}
pub use Rattle.krieg_moves.specs.declared.wing.Wing.TheVariants.{Long, Short}
pub use Rattle.krieg_text.specs.FirstBad.{Has, is_beyond_form}
pub use Rattle.krieg_text.specs.Formats.{Always, IsReading}
pub use Rattle.krieg_text.specs.Forms.{version_form}
pub use Rattle.krieg_text.specs.Languages.{Behind, Language, One, UpToLast}
pub use Rattle.krieg_text.specs.Lines.{AreLines, is_line, lines}
unfoldable pub use Rattle.krieg_text.specs.Names.{behind}
pub use Rattle.krieg_text.specs.Outcomes.{◌>>=◌}
pub use Rattle.krieg_text.specs.Reading.{Gives, GivesOn, LineReader, Place, Step, goes_on, stops, taken, up_to_last, whole}
pub use Rattle.krieg_text.specs.Writing.{joined, put_lines}
pub use Rattle.krieg_text.specs.declared.fault.TextFault.{TextFault}
pub use Rattle.krieg_text.specs.declared.fault.TextKind.{TextKind}
pub use Rattle.krieg_text.specs.declared.fault.TextKind.TheVariants.{OutOfPlace, Version}
unfoldable pub use Rattle.krieg_fen.specs.FenText.{position_text}
unfoldable pub use Rattle.krieg_fen.specs.Forms.{start_form}
pub use Rattle.krieg_fen.specs.Forms.{side_mark}
pub use Rattle.krieg_fen.specs.MoveText.{square_of, square_text}
pub use Rattle.krieg_fen.specs.Spelling.{Spells}
unfoldable pub use Rattle.krieg_record.specs.Disambiguation.{is_shared, origin}
pub use Rattle.krieg_record.specs.Disambiguation.{fits, is_rival}
unfoldable pub use Rattle.krieg_record.specs.Matching.{is_matched}
pub use Rattle.krieg_record.specs.Matching.{IsOnly, Matches, Means, is_ending, is_movement, is_same_promo, is_wing}
pub use Rattle.krieg_record.specs.MoveTraits.{captures, captures_by, castling, castling_by, is_own, kind_of, officer_at, officer_by, officer_of}
unfoldable pub use Rattle.krieg_record.specs.NotationReading.{notation_of}
pub use Rattle.krieg_record.specs.NotationReading.{both_told, castling_movement, coordinate_told, ending_of, file_named, front_of, movement_from, movement_of, notation_by, officer_movement, officer_named, officer_with, one_told, pawn_movement, pawn_taking, pawn_with, promo_named, rank_named, square_told, with_ending}
unfoldable pub use Rattle.krieg_record.specs.NotationText.{notation_text}
pub use Rattle.krieg_record.specs.NotationText.{IsCoordinate, IsMovement, Says, capture_text, ending_text, file_text, letter, movement_text, officer_text, pawn_capture_text, pawn_text, promotion_text, rank_text, told}
unfoldable pub use Rattle.krieg_record.specs.RecordReading.{line_form, marked, move_form, record_at, record_version}
pub use Rattle.krieg_record.specs.RecordReading.{in_turn, led, marked_by, move_by, moves_at, step_form}
pub use Rattle.krieg_record.specs.RecordSpelling.{IsMoveLine, RecordGrammar, SpellsMove, SpellsMoves, SpellsRecord}
unfoldable pub use Rattle.krieg_record.specs.RecordText.{record_text}
pub use Rattle.krieg_record.specs.RecordText.{move_line, move_lines, record_lines}
pub use Rattle.krieg_record.specs.Records.{AreLegal, IsRecord, RecordState, after_all, state_of}
unfoldable pub use Rattle.krieg_record.specs.San.{san, san_text}
pub use Rattle.krieg_record.specs.San.{ending, movement_by}
unfoldable pub use Rattle.krieg_record.specs.SanReading.{leaving, meant}
pub use Rattle.krieg_record.specs.SanReading.{goes_from, meant_by, move_from, mover, the_only}
pub use Rattle.krieg_record.specs.declared.notation.CheckSuffix.{CheckSuffix}
pub use Rattle.krieg_record.specs.declared.notation.CheckSuffix.TheVariants.{Check, Mate, Nothing}
pub use Rattle.krieg_record.specs.declared.notation.Movement.{Movement}
pub use Rattle.krieg_record.specs.declared.notation.Movement.TheVariants.{ByOfficer, ByPawn, Castles}
pub use Rattle.krieg_record.specs.declared.notation.Notation.{Notation}
pub use Rattle.krieg_record.specs.declared.notation.Officer.{Officer}
pub use Rattle.krieg_record.specs.declared.notation.Officer.TheVariants.{Bishop, King, Knight, Queen, Rook}
pub use Rattle.krieg_record.specs.declared.notation.Origin.{Origin}
pub use Rattle.krieg_record.specs.declared.record_reading.RecordLine.{RecordLine}
pub use Rattle.krieg_record.specs.declared.record_reading.RecordLine.TheVariants.{End, Played}
pub use Rattle.krieg_record.specs.declared.san_reading.SanFault.{SanFault}
pub use Rattle.krieg_record.specs.declared.san_reading.SanFault.TheVariants.{NoMemory, Several, Syntax, Unknown}
