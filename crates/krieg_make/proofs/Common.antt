-- The words of specs/, of this crate and of those below it, that its proofs cite: passed on from one place.
unfoldable pub use Rattle.krieg_board.specs.Attacks.{attacks, is_attacked, is_between, is_clear, is_king_attacked}
pub use Rattle.krieg_board.specs.Attacks.{can_reach, is_adjacent, is_forward, man_attacks, slides}
pub use Rattle.krieg_board.specs.Board.{Board, is_man, is_of, man_at}
unfoldable pub use Rattle.krieg_board.specs.Boards.{empty_board}
unfoldable pub use Rattle.krieg_board.specs.Hand.{has_same_men, same_hand}
pub use Rattle.krieg_board.specs.Hand.{has_same_rights, is_same_man, is_same_of}
pub use Rattle.krieg_board.specs.Men.{is_same_side, other}
pub use Rattle.krieg_board.specs.Pos.{Pos}
unfoldable pub use Rattle.krieg_board.specs.Squares.{every_square, some_square, squares}
pub use Rattle.krieg_board.specs.Squares.{gathered, rank_of, square_at}
unfoldable pub use Rattle.krieg_board.specs.Validity.{first_fault, has_pawns_inside}
pub use Rattle.krieg_board.specs.Validity.{IsValid, has_kings, is_pawn, is_small}
pub use Rattle.krieg_board.specs.declared.men.Kind.{Kind}
pub use Rattle.krieg_board.specs.declared.men.Kind.TheVariants.{King, Pawn, Rook}
pub use Rattle.krieg_board.specs.declared.men.Man.{Man}
pub use Rattle.krieg_board.specs.declared.men.Move.{Move}
pub use Rattle.krieg_board.specs.declared.men.Side.{Side}
pub use Rattle.krieg_board.specs.declared.men.Side.TheVariants.{Black, White}
unfoldable pub use Rattle.krieg_moves.specs.After.{after}
pub use Rattle.krieg_moves.specs.After.{after_by, board_after, placed}
unfoldable pub use Rattle.krieg_moves.specs.Legal.{is_candidate, is_legal}
pub use Rattle.krieg_moves.specs.Legal.{can_castle, has_promotion, is_double_step, is_move_of, is_move_of_kind, is_pawn_capture, is_plain, is_step}
unfoldable pub use Rattle.krieg_moves.specs.Moves.{all_moves, can_go, in_check, is_ended, is_mate, is_stalemate, moves}
pub use Rattle.krieg_moves.specs.Moves.{plain_move, promotions}
pub use Rattle.krieg_moves.specs.declared.wing.Wing.TheVariants.{Long, Short}
unfoldable pub use Rattle.krieg_words.specs.Kinds.{checks_from, is_checked, is_checked_at, kinds}
unfoldable pub use Rattle.krieg_fen.specs.Fen.{position_of}
pub use Rattle.krieg_fen.specs.declared.forms.TheConstants.{MOST_LISTED}
unfoldable pub use Rattle.krieg_words.specs.PawnTries.{is_try, tries, tries_from}
pub use Rattle.krieg_words.specs.ToldWords.{no_kinds}
unfoldable pub use Rattle.krieg_words.specs.WordsOfMoves.{words}
pub use Rattle.krieg_words.specs.WordsOfMoves.{end_of, took_by}
pub use Rattle.krieg_words.specs.ToldWords.{silent}
pub use Rattle.krieg_words.specs.declared.words.End.TheVariants.{Goes, Mate, Stalemate}
pub use Rattle.krieg_words.specs.declared.words.Took.TheVariants.{Nothing}
pub use Rattle.krieg_umpire.specs.Games.{judge, last}
unfoldable pub use Rattle.krieg_umpire.specs.Verdicts.{verdict}
pub use Rattle.krieg_umpire.specs.Verdicts.{next}
pub use Rattle.krieg_umpire.specs.declared.verdict.Event.{Event}
pub use Rattle.krieg_umpire.specs.declared.verdict.Verdict.{Verdict}
pub use Rattle.krieg_umpire.specs.declared.verdict.Verdict.TheVariants.{Done, Early, Illegal}
pub use Rattle.krieg_sheet.specs.Lists.{differs, list_fault, other_hand}
pub use Rattle.krieg_sheet.specs.declared.sheet.SheetFault.TheVariants.{Count}
pub use Rattle.krieg_make.specs.Laws.{AreCounted, AreDistinct, AreListedOnce, RookMates, RoundsAreAlike, round_verdicts}
unfoldable pub use Rattle.krieg_make.specs.MadePositions.{made_board, made_position, pair_at, pairs}
pub use Rattle.krieg_make.specs.MadePositions.{man, pairs_above}
unfoldable pub use Rattle.krieg_make.specs.MadeSessions.{made_tries}
pub use Rattle.krieg_make.specs.MadeSessions.{event, knight_move, knight_moves, mover, round_of}
unfoldable pub use Rattle.krieg_make.specs.MadeSheets.{made_positions}
pub use Rattle.krieg_make.specs.MadeSheets.{made_count, made_list, made_number}
pub use Rattle.krieg_make.specs.Named.{c1, f3, f6, g1, g8, h7}
unfoldable pub use Rattle.krieg_make.specs.Start.{start_position}
pub use Rattle.krieg_make.specs.declared.position.TheConstants.{POSITION_COUNT}
