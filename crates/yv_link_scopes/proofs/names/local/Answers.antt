use Rattle.std.proofs.Common.{Some, None, sym, ◌∙◌, ap, arith}
use Rattle.std.proofs.lemmas.Str.Pattern.{split_once_first}
use Rattle.yv_link_scopes.specs.Names.{behind}
use Rattle.yv_link_scopes.proofs.Colons.{colon_found, no_colon}
use Rattle.yv_link_scopes.proofs.names.local.Goals as goal

pub returns-in-Some : goal.returns-in-Some
returns-in-Some c =
    let parts = split_once_first 58 c.args.name.now (Some (c.in-Some._prefix, c.in-Some.rest)) c.in-Some.ensures.cases (omega arith) in
    parts.2 ∙ sym (ap (behind c.args.name.now) (colon_found c.args.name.now parts.0))

pub returns-in-None : goal.returns-in-None
returns-in-None c = sym (ap (behind c.args.name.now) (no_colon c.args.name.now (split_once_first 58 c.args.name.now None c.in-None.ensures.cases (omega arith))))
