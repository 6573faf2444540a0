use Rattle.std.proofs.Common.{◌≡◌, ◌↔◌, IsTrue, List, true, sym, ◌∙◌, ap}
use Rattle.std.proofs.lemmas.Bool.{false≢true}
use Rattle.yv_link_scopes.specs.Rows.{Row, row, name_in}
use Rattle.yv_link_scopes.specs.Views.{rows_in}
use Rattle.yv_link_scopes.specs.declared.kind.NameKind.TheVariants.{Typedef}
use Rattle.yv_link_definitions.specs.BuiltIn.{is_built_in}
use Rattle.yv_link_definitions.specs.Duplicates.{is_scoped}
use Rattle.yv_link_definitions.specs.InnerDuplicates.{HasAround}
use Rattle.yv_link_definitions.proofs.TakenNames.{taken_by}
use Rattle.yv_link_definitions.proofs.draft.Draft.is_taken.Goals as goal
use Rattle.yv_link_definitions.proofs.draft.Draft.is_taken.Goals.{then-is_scoped, else-is_scoped, then-is_typedef, else-is_typedef}

pub returns : goal.returns
returns c =
    let rows : List Row = rows_in c.args.self.now.rows.now in
    let r : Row = row c.args.entry.now in
    let around : IsTrue c.if-is_scoped.around ↔ ((is_scoped c.in-Some.kind ≡ true) × HasAround c.in-Some.kind rows r) = elim c.if-is_scoped.branch [
      | then-is_scoped w ↦ (λ t. (sym c.is_scoped.ensures ∙ w.if-is_scoped.true, w.has_around-around.ensures.0 (sym w.around-is ∙ t)), λ h. w.around-is ∙ w.has_around-around.ensures.1 h.1)
      | else-is_scoped w ↦ (λ t. absurd (false≢true (sym w.if-is_scoped.false ∙ sym w.around-is ∙ t)), λ h. absurd (false≢true (sym w.if-is_scoped.false ∙ c.is_scoped.ensures ∙ h.0)))
    ] in
    let built : IsTrue c.if-is_typedef.built_in ↔ ((c.in-Some.kind ≡ Typedef) × (is_built_in (name_in r) ≡ true)) = elim c.if-is_typedef.branch [
      | then-is_typedef w ↦ (λ t. (c.is_typedef.ensures.0 w.if-is_typedef.true, ap is_built_in (sym w.name_of.ensures) ∙ sym w.is_built_in-built_in.ensures ∙ sym w.built_in-is ∙ t), λ h. w.built_in-is ∙ w.is_built_in-built_in.ensures ∙ ap is_built_in w.name_of.ensures ∙ h.1)
      | else-is_typedef w ↦ (λ t. absurd (false≢true (sym w.if-is_typedef.false ∙ sym w.built_in-is ∙ t)), λ h. absurd (false≢true (sym w.if-is_typedef.false ∙ c.is_typedef.ensures.1 h.0)))
    ] in
    taken_by rows c.args.number r c.in-Some.kind c.has_before-before.result c.if-is_scoped.around c.if-is_typedef.built_in _ (sym c.kind_defined.ensures ∙ c.in-Some.is) c.has_before-before.ensures around built c.any.ensures
