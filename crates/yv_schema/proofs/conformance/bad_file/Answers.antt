use Rattle.yv_text_grammar.specs.declared.xpath.Xpath.TheVariants.{Refuse}
use Rattle.yv_text_statement.specs.Order.{IsLeast}
use Rattle.yv_text_grammar.specs.Refusals.{Bad}
use Rattle.yv_schema.proofs.FileRefusals.{least_told}
use Rattle.yv_schema.proofs.conformance.bad_file.Goals as goal

pub returns : goal.returns
returns c =
    let t = c.args.file.now in
    let own : IsLeast (Bad Refuse t) c.err-own.result = rw c.err-own.ensures.value c.conform.ensures.least in
    rw c.told_of.ensures (least_told c.args.number t c.err-own.result own)
