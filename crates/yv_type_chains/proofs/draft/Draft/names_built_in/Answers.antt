use Rattle.std.proofs.Common.{◌≡◌, Some, List, sym, ◌∙◌, ap, arith}
use Rattle.std.specs.List.{slice_get}
use Rattle.std.proofs.lemmas.Bool.{false≢true}
use Rattle.std.proofs.lemmas.Option.{same_Some, slice_get_within}
use Rattle.yv_link_scopes.specs.Rows.{Row, row, name_in}
use Rattle.yv_link_scopes.specs.Views.{rows_in}
use Rattle.yv_link_definitions.specs.BuiltIn.{is_built_in}
use Rattle.yv_link_definitions.specs.Refers.{is_type}
use Rattle.yv_type_chains.proofs.Words.{row_read, rows_count}
use Rattle.yv_type_chains.proofs.draft.Draft.names_built_in.Goals as goal

pub returns-then-is_type : goal.returns-then-is_type
returns-then-is_type c =
    let rows : List Row = rows_in c.args.self.now.rows.now in
    let r : Row = row c.in-Some.entry.now in
    let at : slice_get rows c.args.number ≡ Some r = row_read row _ rows c.args.number c.in-Some.entry.now c.entries.ensures c.in-Some.ensures.lookup.3.0 c.in-Some.ensures.lookup.1 in (
      λ h. record { statement = r; at = at; is = sym c.is_type.ensures ∙ c.if-is_type.true; named = ap is_built_in (sym c.name_of.ensures) ∙ sym c.is_built_in.ensures ∙ h },
      λ n.
          let same : n.statement ≡ r = same_Some n.statement r (sym n.at ∙ at) in
          c.is_built_in.ensures ∙ ap is_built_in (c.name_of.ensures ∙ ap name_in (sym same)) ∙ n.named,
    )

pub returns-else-is_type : goal.returns-else-is_type
returns-else-is_type c =
    let rows : List Row = rows_in c.args.self.now.rows.now in
    let r : Row = row c.in-Some.entry.now in
    let at : slice_get rows c.args.number ≡ Some r = row_read row _ rows c.args.number c.in-Some.entry.now c.entries.ensures c.in-Some.ensures.lookup.3.0 c.in-Some.ensures.lookup.1 in (
      λ h. absurd (false≢true (sym c.if-is_type.false ∙ h)),
      λ n.
          let same : n.statement ≡ r = same_Some n.statement r (sym n.at ∙ at) in
          c.is_type.ensures ∙ ap is_type (sym same) ∙ n.is,
    )

pub returns-in-None : goal.returns-in-None
returns-in-None c =
    let rows : List Row = rows_in c.args.self.now.rows.now in (
      λ h. absurd (false≢true h),
      λ n.
          let within = slice_get_within rows c.args.number n.statement n.at in
          let past = c.in-None.ensures.lookup.3 in
          absurd (omega (arith, within, past, rows_count row _ rows c.entries.ensures)),
    )
