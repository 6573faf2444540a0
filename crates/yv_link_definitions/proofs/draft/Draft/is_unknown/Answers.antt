use Rattle.std.proofs.Common.{◌≡◌, None, sym, ◌∙◌}
use Rattle.yv_link_scopes.specs.Rows.{row, name_in}
use Rattle.yv_link_scopes.specs.Views.{lent_in, files_in, rows_in}
use Rattle.yv_link_definitions.proofs.Unknown.{none_read, unknown_none, unknown_read}
use Rattle.yv_link_definitions.proofs.draft.Draft.is_unknown.Goals as goal

pub returns-then-is_none : goal.returns-then-is_none
returns-then-is_none c =
    let r = row c.args.entry.now in
    let none : c.meant_at-meant.result ≡ None = none_read c.meant_at-meant.result c.is_none.result c.is_none.ensures c.if-is_none.true in
    unknown_none (lent_in c.args.self.now.rows.now) c.args.meanings.now c.requires.meant c.args.number r c.requires.at c.args.kind c.names_definition.result (c.a_name_means_something_or_nothing.ensures (lent_in c.args.self.now.rows.now) c.args.kind c.args.number (name_in r)) (sym c.meant_at-meant.ensures ∙ none) c.names_definition.ensures

pub returns-else-is_none : goal.returns-else-is_none
returns-else-is_none c =
    let r = row c.args.entry.now in
    unknown_read (lent_in c.args.self.now.rows.now) c.args.meanings.now c.requires.meant c.args.number r c.requires.at c.args.kind c.is_none.result (c.a_name_means_one_thing.ensures (files_in c.args.self.now.rows.now) (rows_in c.args.self.now.rows.now) c.args.kind c.args.number (name_in r)) c.meant_at-meant.result c.meant_at-meant.ensures c.is_none.ensures c.if-is_none.false
