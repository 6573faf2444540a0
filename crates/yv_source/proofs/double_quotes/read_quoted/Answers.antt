use Rattle.yv_source.specs.Place.{column_of}
use Rattle.yv_source.proofs.Plain.{plain_says}
use Rattle.yv_source.proofs.double_quotes.read_quoted.Goals as goal

pub returns-then-is_plain_text : goal.returns-then-is_plain_text
returns-then-is_plain_text c = plain_says (column_of c.args.front.now) c.args.text.now c.utf8.text (c.is_plain_text.ensures c.if-is_plain_text.true)
