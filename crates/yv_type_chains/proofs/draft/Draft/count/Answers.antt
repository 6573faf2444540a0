use Rattle.std.proofs.Common.{◌≡◌, List, Some, None, sym, ◌∙◌, ap}
use Rattle.std.specs.List.{slice_get}
use Rattle.std.proofs.lemmas.Bool.{false≢true}
use Rattle.yv_link_scopes.specs.Files.{Briefs}
use Rattle.yv_link_scopes.specs.Rows.{Row, row}
use Rattle.yv_link_scopes.specs.Views.{files_in, rows_in}
use Rattle.yv_type_chains.specs.Types.{types_in}
use Rattle.yv_type_chains.specs.InnerCounts.{total_from}
use Rattle.yv_base_tables.specs.Slots.{at}
use Rattle.yv_type_chains.proofs.Words.{row_read}
use Rattle.yv_type_chains.proofs.PlainTypeCounts.{count_along, count_leafref, count_none, count_plain, count_union}
use Rattle.yv_type_chains.proofs.draft.Draft.count.Goals as goal

pub returns-then-is_kind : goal.returns-then-is_kind
returns-then-is_kind c = λ told known.
    let files : Briefs = files_in c.args.self.now.rows.now in
    let rows : List Row = rows_in c.args.self.now.rows.now in
    let here : slice_get rows c.args.number ≡ Some (row c.in-Some.entry.now) = row_read row _ rows c.args.number c.in-Some.entry.now c.entries.ensures c.in-Some.ensures.lookup.3.0 c.in-Some.ensures.lookup.1 in
    count_leafref files rows c.args.number (row c.in-Some.entry.now) here (sym c.is_kind.ensures ∙ c.if-is_kind.true)

pub returns-then-is_kind-2 : goal.returns-then-is_kind-2
returns-then-is_kind-2 c = λ told known.
    let files : Briefs = files_in c.args.self.now.rows.now in
    let rows : List Row = rows_in c.args.self.now.rows.now in
    let here : slice_get rows c.args.number ≡ Some (row c.in-Some.entry.now) = row_read row _ rows c.args.number c.in-Some.entry.now c.entries.ensures c.in-Some.ensures.lookup.3.0 c.in-Some.ensures.lookup.1 in
    let items : c.at.result.now ≡ types_in rows c.args.number = c.at.ensures ∙ c.args.self.now.listed c.args.number in
    count_union files rows c.args.number (row c.in-Some.entry.now) here c.args.counts.now c.total.result (sym c.is_kind-2.ensures ∙ c.if-is_kind-2.true) (c.total.ensures ∙ ap (total_from c.args.counts.now 0) items) known

pub returns-then-names_built_in : goal.returns-then-names_built_in
returns-then-names_built_in c = λ told known.
    let files : Briefs = files_in c.args.self.now.rows.now in
    let rows : List Row = rows_in c.args.self.now.rows.now in
    let here : slice_get rows c.args.number ≡ Some (row c.in-Some.entry.now) = row_read row _ rows c.args.number c.in-Some.entry.now c.entries.ensures c.in-Some.ensures.lookup.3.0 c.in-Some.ensures.lookup.1 in
    count_plain files rows c.args.number (row c.in-Some.entry.now) here (sym c.is_kind.ensures ∙ c.if-is_kind.false) (sym c.is_kind-2.ensures ∙ c.if-is_kind-2.false) (c.names_built_in.ensures.0 c.if-names_built_in.true)

pub returns-in-Some-get : goal.returns-in-Some-get
returns-in-Some-get c = λ told known.
    let files : Briefs = files_in c.args.self.now.rows.now in
    let rows : List Row = rows_in c.args.self.now.rows.now in
    let here : slice_get rows c.args.number ≡ Some (row c.in-Some.entry.now) = row_read row _ rows c.args.number c.in-Some.entry.now c.entries.ensures c.in-Some.ensures.lookup.3.0 c.in-Some.ensures.lookup.1 in
    let followed : at c.args.self.now.follows.items c.args.number ≡ Some c.in-Some-get.followed = ap (λ xs. at xs c.args.number) (sym c.deref.ensures.value) ∙ sym c.get-2.ensures ∙ c.in-Some-get.is in
    count_along files rows c.args.number (row c.in-Some.entry.now) here (sym c.is_kind.ensures ∙ c.if-is_kind.false) (sym c.is_kind-2.ensures ∙ c.if-is_kind-2.false) c.args.self.now.follows.items told
    (λ n. false≢true (sym c.if-names_built_in.false ∙ c.names_built_in.ensures.1 n)) c.args.counts.now c.in-Some-get.followed c.get-in-Some-get.result followed c.get-in-Some-get.ensures known

pub returns-in-None : goal.returns-in-None
returns-in-None c = λ told known.
    let files : Briefs = files_in c.args.self.now.rows.now in
    let rows : List Row = rows_in c.args.self.now.rows.now in
    let here : slice_get rows c.args.number ≡ Some (row c.in-Some.entry.now) = row_read row _ rows c.args.number c.in-Some.entry.now c.entries.ensures c.in-Some.ensures.lookup.3.0 c.in-Some.ensures.lookup.1 in
    let followed : at c.args.self.now.follows.items c.args.number ≡ None = ap (λ xs. at xs c.args.number) (sym c.deref.ensures.value) ∙ sym c.get-2.ensures ∙ c.in-None.is in
    count_none files rows c.args.number (row c.in-Some.entry.now) here (sym c.is_kind.ensures ∙ c.if-is_kind.false) (sym c.is_kind-2.ensures ∙ c.if-is_kind-2.false) c.args.self.now.follows.items told
    (λ n. false≢true (sym c.if-names_built_in.false ∙ c.names_built_in.ensures.1 n)) followed
