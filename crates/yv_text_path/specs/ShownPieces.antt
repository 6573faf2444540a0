-- What the program's pieces show.
use Rattle.std.specs.Prelude.{List}
use Rattle.yv_text_path.specs.Pieces.{Piece, pieces}
use Rattle.yv_text_path.specs.Pieces as shown
use Rattle.yv_text_path.specs.declared.piece.Piece.{Piece as CodePiece}
use Rattle.yv_text_path.specs.declared.piece.Piece.TheVariants as code
use Rattle.yv_text_path.specs.declared.piece.Pieces.{Pieces}

-- what a piece is
abbrev pub piece_shown : CodePiece → Piece
piece_shown (code.Word w) = shown.Word w.now
piece_shown code.Blank = shown.Blank
piece_shown code.Slash = shown.Slash
piece_shown code.OpeningBracket = shown.OpeningBracket
piece_shown code.ClosingBracket = shown.ClosingBracket
piece_shown code.EqualsSign = shown.EqualsSign
piece_shown code.OpeningParenthesis = shown.OpeningParenthesis
piece_shown code.ClosingParenthesis = shown.ClosingParenthesis
piece_shown code.SingleQuote = shown.SingleQuote
piece_shown code.DoubleQuote = shown.DoubleQuote
piece_shown code.Other = shown.Other

-- the pieces that are still to come
abbrev pub pieces_left : Pieces → List Piece
pieces_left it = pieces it.rest.now
