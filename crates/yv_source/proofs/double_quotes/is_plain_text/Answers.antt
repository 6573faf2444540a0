use Rattle.std.proofs.Common.{ℕ, List, subst}
use Rattle.memchr.specs.Find.{IsFirstByte, is_byte2}
use Rattle.yv_source.proofs.Runs.{plain_text}
use Rattle.yv_source.proofs.double_quotes.is_plain_text.Goals as goal

pub returns : goal.returns
returns c =
    let P : List ℕ → Type 0 = λ l. IsFirstByte (is_byte2 10 92) l c.memchr2.result in
    λ t. plain_text c.args.text.now c.memchr2.result c.is_none.result c.utf8.text (subst P c.as_bytes.ensures.value c.memchr2.ensures) c.is_none.ensures t
