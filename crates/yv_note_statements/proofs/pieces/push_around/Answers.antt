use Rattle.std.proofs.Common.{string_bytes}
use Rattle.yv_note_text.proofs.QuotedWords.{quotes_within}
use Rattle.yv_note_statements.proofs.pieces.push_around.Goals as goal

pub returns-clause-names : goal.returns-clause-names
returns-clause-names c =
    quotes_within c.args.word.now (string_bytes c.push_pieces.new.text) (string_bytes c.push_quoted.new.text) (string_bytes c.push_pieces-2.new.text)
    c.in_ok-push_quoted.ensures.quotes c.in_ok-push_pieces-2.ensures
