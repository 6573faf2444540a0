use Rattle.std.proofs.Common.{codes, sym, ◌∙◌}
use Rattle.yv_link_definitions.proofs.ReaderAnswers.{told}
use Rattle.yv_link_definitions.proofs.meaning_table.Names.grouping.Goals as goal

pub returns : goal.returns
returns c files t ref =
    told files c.args.self.now t (codes "uses") c.args.file c.args.offset c.in_ok-number.number _ (sym (t.uses c.args.file c.args.offset) ∙ sym c.in_ok-number.ensures) c.definition.ensures ref
