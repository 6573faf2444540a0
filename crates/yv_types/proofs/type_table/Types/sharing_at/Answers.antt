use Rattle.std.proofs.Common.{rules, ◌≡◌, Some, sym, ◌∙◌}
use Rattle.yv_types.specs.Types.{sharing_at}
use Rattle.yv_types.proofs.SharedTypeNumbers.{same_at}
use Rattle.yv_types.proofs.type_table.Types.sharing_at.Goals as goal

pub returns-clause-same : goal.returns-clause-same
returns-clause-same c f o numbers e has =
    let is : Some (c.in_ok-list.field-0.now.list, c.in_ok-typedef.typedef) ≡ sharing_at c.args.self.now c.args.file c.args.offset = search rules in
    same_at c.args.self.now c.args.self.now.numbered numbers f o c.args.file c.args.offset has (sym is ∙ e)
