use Rattle.std.proofs.Common.{List, sym, ◌∙◌}
use Rattle.yv_text_statement.specs.Order.{refusal_at}
use Rattle.yv_text_statement.specs.declared.refusal.Code.TheVariants as code
use Rattle.yv_text_statement.proofs.Least.{least_lesser}
use Rattle.yv_link_scopes.specs.Files.{Briefs}
use Rattle.yv_link_scopes.specs.Rows.{Row, row}
use Rattle.yv_link_scopes.specs.Views.{files_in, rows_in}
use Rattle.yv_link_scopes.specs.declared.kind.NameKind.TheVariants.{Typedef, Grouping}
use Rattle.yv_link_definitions.specs.Duplicates.{IsTaken}
use Rattle.yv_link_definitions.specs.Refers.{IsUnknown}
use Rattle.yv_link_definitions.specs.Refusals.{IsOnCycle}
use Rattle.yv_link_definitions.proofs.Faulty.{decided, none_last, none_wrong}
use Rattle.yv_link_definitions.proofs.draft.Draft.name_refusal.Goals as goal

pub returns : goal.returns
returns c =
    let files : Briefs = files_in c.args.self.now.rows.now in
    let rows : List Row = rows_in c.args.self.now.rows.now in
    let r : Row = row c.args.entry.now in
    let k = c.args.number in
    least_lesser _ _ _ _ _ c.lesser.ensures
    (decided (IsTaken rows k r) c.is_taken-is_taken.result (refusal_at code.DuplicateName r.file r.head) c.refusal_of-taken.result c.is_taken-is_taken.ensures c.refusal_of-taken.ensures)
    (least_lesser _ _ _ _ _ c.lesser-types.ensures
    (decided (IsUnknown files rows Typedef k r) c.is_unknown-no_typedef.result (refusal_at code.UnknownType r.file r.head) c.refusal_of-typedef.result c.is_unknown-no_typedef.ensures c.refusal_of-typedef.ensures)
    (least_lesser _ _ _ _ _ c.lesser-cycles.ensures
    (decided (IsOnCycle files rows Typedef k r) c.is_on_cycle-is_typedef_cycle.result (refusal_at code.TypeCycle r.file r.head) c.refusal_of-typedef_cycle.result c.is_on_cycle-is_typedef_cycle.ensures c.refusal_of-typedef_cycle.ensures)
    (least_lesser _ _ _ _ _ c.lesser-groupings.ensures
    (decided (IsUnknown files rows Grouping k r) c.is_unknown-no_grouping.result (refusal_at code.UnknownGrouping r.file r.head) c.refusal_of-grouping.result c.is_unknown-no_grouping.ensures c.refusal_of-grouping.ensures)
    (decided (IsOnCycle files rows Grouping k r) c.is_on_cycle-is_grouping_cycle.result (refusal_at code.GroupingCycle r.file r.head) c.refusal_of-grouping_cycle.result c.is_on_cycle-is_grouping_cycle.ensures c.refusal_of-grouping_cycle.ensures))))

pub returns-then-not-any : goal.returns-then-not-any
returns-then-not-any c =
    let files : Briefs = files_in c.args.self.now.rows.now in
    let rows : List Row = rows_in c.args.self.now.rows.now in
    let r : Row = row c.args.entry.now in
    let k = c.args.number in
    none_wrong (IsTaken rows k r) c.is_taken-is_taken.result _ (refusal_at code.DuplicateName r.file r.head) _ c.is_taken-is_taken.ensures (sym c.any.ensures ∙ c.if-not-any.true) (λ h.
    none_wrong (IsUnknown files rows Typedef k r) c.is_unknown-no_typedef.result _ (refusal_at code.UnknownType r.file r.head) _ c.is_unknown-no_typedef.ensures h (λ h.
    none_wrong (IsOnCycle files rows Typedef k r) c.is_on_cycle-is_typedef_cycle.result _ (refusal_at code.TypeCycle r.file r.head) _ c.is_on_cycle-is_typedef_cycle.ensures h (λ h.
    none_wrong (IsUnknown files rows Grouping k r) c.is_unknown-no_grouping.result _ (refusal_at code.UnknownGrouping r.file r.head) _ c.is_unknown-no_grouping.ensures h (λ h.
    none_last (IsOnCycle files rows Grouping k r) c.is_on_cycle-is_grouping_cycle.result (refusal_at code.GroupingCycle r.file r.head) c.is_on_cycle-is_grouping_cycle.ensures h))))
