use Rattle.std.proofs.Common.{◌≡◌, length, ap}
use Rattle.yv_text_statement.specs.Tree.{Then, End}
use Rattle.yv_lint.proofs.KnownUses.{uses_known}
use Rattle.yv_lint.proofs.uses.Uses.read.Goals as goal

pub returns : goal.returns
returns c =
    let none : length c.new-3.result.items ≡ 0 = ap length c.new-3.ensures.items in
    uses_known c.args.own.now _ c.add.new.self _ (Then c.args.root.now.head c.args.root.now.children End) c.new-3.ensures.items none c.new.ensures c.new-2.ensures c.in_ok-add.ensures
