use Rattle.std.proofs.Common.{◌≡◌, false, sym, ◌∙◌, ap}
use Rattle.yv_link_scopes.specs.Rows.{is_extended}
use Rattle.yv_link_scopes.specs.Tables.{table_of}
use Rattle.yv_link_scopes.proofs.Keywords.{extended_by_colon}
use Rattle.yv_link_modules.specs.Prefixes.{is_undeclared}
use Rattle.yv_link_modules.proofs.KeywordPrefixes.{no_prefix}
use Rattle.yv_link_modules.proofs.prefixes.has_unknown_keyword.Goals as goal

pub returns-then-not-is : goal.returns-then-not-is
returns-then-not-is c =
    let text = c.args.entry.now.statement.now.head.keyword in
    let plain : is_extended text ≡ false = sym (extended_by_colon text) ∙ sym c.is.ensures.kind ∙ c.if-not-is.true in
    sym (ap (is_undeclared (table_of c.args.prefixes.now) c.args.entry.now.file) (no_prefix text plain))
