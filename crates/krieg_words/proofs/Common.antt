-- The words of specs/, of this crate and of those below it, that its proofs cite: passed on from one place.
unfoldable pub use Rattle.krieg_board.specs.Attacks.{attacks, is_clear}
pub use Rattle.krieg_board.specs.Attacks.{apart, can_reach, is_forward, man_attacks, slides}
pub use Rattle.krieg_board.specs.Board.{Board, is_man, is_of, man_at}
pub use Rattle.krieg_board.specs.Boards.{is_kind}
pub use Rattle.krieg_board.specs.Men.{is_same_kind, is_same_side, other, is_same_bool}
pub use Rattle.krieg_board.specs.Pos.{Pos}
unfoldable pub use Rattle.krieg_board.specs.Sets.{has}
pub use Rattle.krieg_board.specs.Sets.{IsLowest}
unfoldable pub use Rattle.krieg_board.specs.Squares.{squares, every_square, some_square}
pub use Rattle.krieg_board.specs.Squares.{file_of, gathered, rank_of}
pub use Rattle.krieg_board.specs.Validity.{IsValid, count_kind, count_side, is_pawn, is_small}
pub use Rattle.krieg_board.specs.declared.men.Kind.{Kind}
pub use Rattle.krieg_board.specs.declared.men.Kind.TheVariants.{Bishop, King, Knight, Pawn, Queen, Rook}
pub use Rattle.krieg_board.specs.declared.men.Man.{Man}
pub use Rattle.krieg_board.specs.declared.men.Move.{Move}
pub use Rattle.krieg_board.specs.declared.men.Promo.{Promo}
pub use Rattle.krieg_board.specs.declared.men.Side.{Side}
pub use Rattle.krieg_board.specs.declared.men.Side.TheVariants.{Black, White}
unfoldable pub use Rattle.krieg_rays.specs.Rays.{goes, is_on_falling, is_on_file, is_on_rank, is_on_rising}
unfoldable pub use Rattle.krieg_moves.specs.After.{after}
pub use Rattle.krieg_moves.specs.After.{is_en_passant, is_marked, passed_square}
unfoldable pub use Rattle.krieg_moves.specs.Legal.{is_legal}
pub use Rattle.krieg_moves.specs.Legal.{has_promotion, holds, is_double_step, is_move_of, is_move_of_kind, is_pawn_capture, is_pawn_move, is_step}
unfoldable pub use Rattle.krieg_moves.specs.Moves.{can_go}
pub use Rattle.krieg_moves.specs.Wings.{corner}
pub use Rattle.krieg_moves.specs.declared.wing.Wing.{Wing}
unfoldable pub use Rattle.krieg_words.specs.Diagonals.{is_on_long, is_on_short}
pub use Rattle.krieg_words.specs.Diagonals.{falling_length, is_long_diagonal, is_rising_longer, rising_length}
pub use Rattle.krieg_words.specs.Dialects.{dialect_of, dialect_rules, dialect_text}
unfoldable pub use Rattle.krieg_words.specs.Kinds.{checks_from, is_checked, is_checked_at, kinds}
pub use Rattle.krieg_words.specs.Kinds.{bits_of, CheckKind, File, Leap, Long, Rank, Short, is_knight, is_same_check, kind_from}
unfoldable pub use Rattle.krieg_words.specs.PawnTries.{is_try, tries, tries_from}
pub use Rattle.krieg_words.specs.ToldMoves.{after_told, after_told_if_legal, are_told, is_rest_told, is_took_told}
pub use Rattle.krieg_words.specs.ToldWords.{Fits, as_piece, checks_told, no_kinds, some_kind, told, took_told, tries_told}
unfoldable pub use Rattle.krieg_words.specs.WordNumbers.{words_at, words_number}
pub use Rattle.krieg_words.specs.WordNumbers.{end_at, kinds_at, took_at}
unfoldable pub use Rattle.krieg_words.specs.Words.{words_cmp}
pub use Rattle.krieg_words.specs.Words.{IsSaid, IsTaken, Said, end_rank, ranks, took_rank, took_square}
unfoldable pub use Rattle.krieg_words.specs.WordsOfMoves.{opening, words}
pub use Rattle.krieg_words.specs.WordsOfMoves.{took_by}
pub use Rattle.krieg_words.specs.declared.dialects.ChecksTold.{ChecksTold}
pub use Rattle.krieg_words.specs.declared.dialects.ChecksTold.TheVariants.{Bare, ByKind}
pub use Rattle.krieg_words.specs.declared.dialects.Dialect.{Dialect}
pub use Rattle.krieg_words.specs.declared.dialects.Dialect.TheVariants.{Anytry, Plain, Wild16}
pub use Rattle.krieg_words.specs.declared.dialects.MenTold.{MenTold}
pub use Rattle.krieg_words.specs.declared.dialects.MenTold.TheVariants.{Alike, Apart}
pub use Rattle.krieg_words.specs.declared.dialects.TriesTold.{TriesTold}
pub use Rattle.krieg_words.specs.declared.dialects.TriesTold.TheVariants.{Any, Number, Untold}
pub use Rattle.krieg_words.specs.declared.kinds.Kinds.{Kinds}
pub use Rattle.krieg_words.specs.declared.word_numbers.TheConstants.{WORDS_LIMIT}
pub use Rattle.krieg_words.specs.declared.words.End.{End}
pub use Rattle.krieg_words.specs.declared.words.End.TheVariants.{Goes, Mate, Stalemate}
pub use Rattle.krieg_words.specs.declared.words.TheConstants.{MOST_TRIES}
pub use Rattle.krieg_words.specs.declared.words.Took.{Took}
pub use Rattle.krieg_words.specs.declared.words.Took.TheVariants.{Piece}
