use Rattle.std.proofs.Common.{◌≡◌, [], map, ap, sym, ◌∙◌}
use Rattle.std.proofs.lemmas.Result.{IfOk-weaker}
use Rattle.yv_values.specs.Types.{plain_of}
use Rattle.yv_node_statements.specs.KnownTypes.{kinds_of}
use Rattle.yv_node_statements.specs.Definitions.{types_in}
use Rattle.yv_node_statements.proofs.Firsts.{types_found, types_in-first}
use Rattle.yv_node_statements.proofs.properties.types_in.Goals as goal

pub returns-in-Some : goal.returns-in-Some
returns-in-Some c =
    let kinds = kinds_of c.args.types.now in
    let found : kinds c.args.file c.offset.result ≡ types_in kinds c.args.file c.args.statement.now.children =
    ap (kinds c.args.file) c.offset.ensures
    ∙ ap (types_found kinds c.args.file) c.in-Some.ensures ∙ sym (types_in-first kinds c.args.file c.args.statement.now.children) in
    IfOk-weaker c.types_at.result _ _ (λ list is. is ∙ found) c.types_at.ensures

pub returns-in-None : goal.returns-in-None
returns-in-None c =
    let kinds = kinds_of c.args.types.now in
    let none : [] ≡ types_in kinds c.args.file c.args.statement.now.children =
    ap (types_found kinds c.args.file) c.in-None.ensures ∙ sym (types_in-first kinds c.args.file c.args.statement.now.children) in
    IfOk-weaker c.types.result _ _ (λ list is. ap (map plain_of) is ∙ none) c.types.ensures
