use Rattle.std.proofs.Common.{ℕ, inl, map, refl, sym, ◌∙◌}
use Rattle.yv_link_scopes.specs.Files.{brief_of}
use Rattle.yv_link_scopes.specs.RowList.{rows_of}
use Rattle.yv_type_chains.specs.Types.{Follows}
use Rattle.yv_type_enums.specs.Types.{Truth}
use Rattle.yv_link.specs.LinkedFiles.{truth_in}
use Rattle.yv_values.specs.Types.{plain_of}
use Rattle.yv_types.proofs.TypeStatementStep.{if_ok}
use Rattle.yv_types.proofs.UnrestrictedTypes.{followed_space, some_of}
use Rattle.yv_types.proofs.layers.Layers.shared_types.Goals as goal

pub returns-in-Some-clause-space : goal.returns-in-Some-clause-space
returns-in-Some-clause-space c = if_ok _ _ c.list_at.result
    (λ s e files choice linked layers known ps is.
    let truth : Truth = truth_in c.args.linked.now in
    let k : ℕ = c.args.number in
    let j : ℕ = c.in-Some.followed in
    let f : Follows (map brief_of files) (rows_of files) k j = (c.in-Some.ensures files layers.based j).0 refl in
    let found = some_of plain_of c.plain.result (sym c.is_some.ensures ∙ c.if-is_some.true) in
    followed_space files truth choice k j (c.is_unrestricted.ensures files choice linked c.if-not-is_unrestricted.false) f found.0
    ((c.plain.ensures files layers.faceted found.0).0 found.1) (λ qs rs. c.a_type_has_one_space.ensures files choice truth j qs rs) ps
    ((known j (inl f)).sound ps (sym e ∙ is)))
    c.list_at.ensures.types
