use Rattle.std.proofs.Common.{ap, sym, ◌∙◌}
use Rattle.yv_node_statements.specs.KnownTypes.{kinds_of}
use Rattle.yv_node_statements.proofs.Firsts.{types_found, types_in-first}
use Rattle.yv_node_statements.proofs.properties.lasting_types.Goals as goal

pub returns-in-Some : goal.returns-in-Some
returns-in-Some c =
    let kinds = kinds_of c.args.types.now in
    c.lasting_at.ensures
    ∙ ap (kinds c.args.file) c.offset.ensures
    ∙ ap (types_found kinds c.args.file) c.in-Some.ensures ∙ sym (types_in-first kinds c.args.file c.args.statement.now.children)

pub returns-in-None : goal.returns-in-None
returns-in-None c =
    let kinds = kinds_of c.args.types.now in
    ap (types_found kinds c.args.file) c.in-None.ensures ∙ sym (types_in-first kinds c.args.file c.args.statement.now.children)
