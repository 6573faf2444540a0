use Rattle.std.proofs.Common.{List, ℕ, subst}
use Rattle.yv_source.specs.Inner.End.{Comes}
use Rattle.yv_source.proofs.Unique.{only_spelled, only_refused}
use Rattle.yv_source.proofs.Order.{answered_in_order}
use Rattle.yv_source.proofs.reader.parse.Goals as goal

pub returns-clause-only_spelled : goal.returns-clause-only_spelled
returns-clause-only_spelled c =
    let P : List ℕ → Type 0 = λ l. Comes l c.parse_text.result in
    only_spelled c.args.source.now.text c.parse_text.result (subst P c.text.ensures.value c.parse_text.ensures)

pub returns-clause-only_refused : goal.returns-clause-only_refused
returns-clause-only_refused c =
    let P : List ℕ → Type 0 = λ l. Comes l c.parse_text.result in
    only_refused c.args.source.now.text c.parse_text.result (subst P c.text.ensures.value c.parse_text.ensures)

pub returns-clause-order : goal.returns-clause-order
returns-clause-order c = answered_in_order c.text.result.now c.parse_text.result c.parse_text.ensures
