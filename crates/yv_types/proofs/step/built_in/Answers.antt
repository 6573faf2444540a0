use Rattle.std.proofs.Common.{[], ap, refl, sym, ◌∙◌, Some, None}
use Rattle.std.specs.Option.{option_map}
use Rattle.yv_link_scopes.specs.Rows.{row}
use Rattle.yv_link.specs.LinkedFiles.{truth_in}
use Rattle.yv_types.specs.Spaces.{identityref, leafref}
use Rattle.yv_types.specs.InnerTables.{joined_from, plains}
use Rattle.yv_types.proofs.TypeStatementStep.{has_joined, has_none, has_some, if_ok}
use Rattle.yv_types.proofs.step.built_in.Goals as goal

pub returns-then-is_kind-clause-space : goal.returns-then-is_kind-clause-space
returns-then-is_kind-clause-space c = λ kept files choice linked at own bare alone known.
    has_some files (truth_in c.args.linked.now) choice c.args.number (Some (plains c.in_ok-nothing.field-0)) [] (ap Some c.in_ok-nothing.ensures.types)
    (leafref at (sym c.is_kind.ensures ∙ c.if-is_kind.true))

pub returns-then-is_kind-2-clause-space : goal.returns-then-is_kind-2-clause-space
returns-then-is_kind-2-clause-space c = λ kept files choice linked at own bare alone known.
    has_some files (truth_in c.args.linked.now) choice c.args.number (Some (plains c.in_ok-one.field-0)) _ (ap Some c.in_ok-one.ensures.types)
    (identityref at (sym c.is_kind-2.ensures ∙ c.if-is_kind-2.true) c.in_ok-values.ensures.rises (c.in_ok-values.ensures.same kept files choice linked))

pub returns-then-is_kind-3-clause-space : goal.returns-then-is_kind-3-clause-space
returns-then-is_kind-3-clause-space c = λ kept. if_ok _ _ c.join_members.result
    (λ s e files choice linked at own bare alone known.
    has_joined files (truth_in c.args.linked.now) choice c.args.number bare alone (row c.args.entry.now) at c.args.spaces.now (option_map plains s)
    (sym c.is_kind.ensures ∙ c.if-is_kind.false) (sym c.is_kind-2.ensures ∙ c.if-is_kind-2.false) (sym c.is_kind-3.ensures ∙ c.if-is_kind-3.true)
    known (e ∙ ap (joined_from c.args.spaces.now []) own))
    c.join_members.ensures.types

pub returns-else-is_kind-3-clause-space : goal.returns-else-is_kind-3-clause-space
returns-else-is_kind-3-clause-space c = λ kept files choice linked at own bare alone known.
    has_none files (truth_in c.args.linked.now) choice c.args.number bare alone (row c.args.entry.now) at None refl
    (sym c.is_kind.ensures ∙ c.if-is_kind.false) (sym c.is_kind-2.ensures ∙ c.if-is_kind-2.false) (sym c.is_kind-3.ensures ∙ c.if-is_kind-3.false)
