use Rattle.std.proofs.Common.{ℕ, List, subst}
use Rattle.memchr.specs.Find.{IsFirstByte, is_byte}
use Rattle.yv_source.proofs.Runs.{no_feed_text}
use Rattle.yv_source.proofs.double_quotes.is_one_line.Goals as goal

pub returns : goal.returns
returns c =
    let P : List ℕ → Type 0 = λ l. IsFirstByte (is_byte 10) l c.memchr.result in
    λ t. no_feed_text c.args.text.now c.memchr.result c.is_none.result c.utf8.text (subst P c.as_bytes.ensures.value c.memchr.ensures) c.is_none.ensures t
