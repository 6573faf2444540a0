use Rattle.std.proofs.Common.{sym, ◌∙◌}
use Rattle.yv_link_scopes.specs.Tables.{table_of}
use Rattle.yv_link_scopes.specs.Rows.{Row, row}
use Rattle.yv_link_scopes.proofs.Firsts.{table_more, table_same}
use Rattle.yv_link_scopes.proofs.kind.keep_name.Goals as goal

pub returns-in_ok-keep : goal.returns-in_ok-keep
returns-in_ok-keep c = λ rows at before.
    let e : Row = row c.args.entry.now in
    table_more c.args.kind rows c.args.number e (table_of c.args.places.now) (table_of c.keep.new.self) c.place-place.result c.as_bytes.result.now at (sym c.gives_names.ensures ∙ c.if-gives_names.true) c.place-place.ensures (c.as_bytes.ensures.value ∙ c.name_of-name.ensures) before c.in_ok-keep.ensures

pub returns-else-gives_names : goal.returns-else-gives_names
returns-else-gives_names c = λ rows at before.
    let e : Row = row c.args.entry.now in
    table_same c.args.kind rows c.args.number e (table_of c.args.places.now) at (sym c.gives_names.ensures ∙ c.if-gives_names.false) before
