use Rattle.std.proofs.lemmas.Str.{IsCharBoundary-start}
use Rattle.yv_source.proofs.double_quotes.Writer.take_run.Goals as goal

pub returns-then-not-is_at_rest-clause-boundary : goal.returns-then-not-is_at_rest-clause-boundary
returns-then-not-is_at_rest-clause-boundary c = IsCharBoundary-start c.args.text.now c.utf8.text
