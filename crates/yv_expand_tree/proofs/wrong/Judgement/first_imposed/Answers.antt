use Rattle.std.proofs.Common.{◌≡◌, ◌∙◌, ℕ, [], None, ap, length, map, subst, sym, List}
use Rattle.std.proofs.lemmas.Bool.{eqb-true}
use Rattle.std.proofs.lemmas.List.{nil_from_length}
use Rattle.std.proofs.lemmas.Result.{IfOk-weaker}
use Rattle.yv_link_scopes.specs.Views.{lent_in, rows_in}
use Rattle.yv_expand_refines.specs.Changes.{each}
use Rattle.yv_expand_augments.specs.MandatoryNodes.{ImposesMandatory, nothing_around, told_in}
use Rattle.yv_expand.specs.Tree.{Item}
use Rattle.yv_node_properties.specs.Marks.{is_mandatory}
use Rattle.yv_node_properties.specs.declared.properties.StatedProperties.{StatedProperties}
use Rattle.yv_expand_changes.specs.Properties.{said_of_all, told_of}
use Rattle.yv_expand_tree.specs.Final.{said_of, spots_of}
use Rattle.yv_expand_tree.proofs.TreeJudgements.{imposed_same, none_imposed}
use Rattle.yv_expand_tree.proofs.wrong.Judgement.first_imposed.Goals as goal

pub returns : goal.returns
returns c = λ final items augments full_tree tree changes. (
    let files = lent_in c.args.self.now.rows.now in
    let said : c.deref.result.now ≡ said_of files final =
    c.deref.ensures.value ∙ c.in_ok-said.ensures ∙ ap (λ (xs : List Item). said_of_all files xs (each c.args.self.now.changes.now)) items
    ∙ ap (said_of_all files final.items) changes in
    let told : told_in c.marks-marks.result ≡ told_of (said_of files final) =
    c.marks-marks.ensures (said_of files final) (c.in_ok-properties.ensures.mandatory ∙ ap (map is_mandatory) said)
    (c.in_ok-properties.ensures.presence ∙ ap (map (λ (s : StatedProperties). s.presence)) said) (c.in_ok-properties.ensures.config ∙ ap (map (λ (s : StatedProperties). s.config)) said) in
    IfOk-weaker c.first_imposed.result _ _
    (λ o h. imposed_same (rows_in c.args.self.now.rows.now) c.deref-2.result.now (spots_of files final) c.args.self.now.augments.now final.augments
    (told_in c.marks-marks.result) (told_of (said_of files final)) final.tree o (c.deref-2.ensures.value ∙ full_tree.spots) augments told h)
    (c.first_imposed.ensures final.tree (c.deref-3.ensures.value ∙ tree)))

pub returns-then-is_empty : goal.returns-then-is_empty
returns-then-is_empty c = λ final items augments full_tree tree changes r h. (
    let files = lent_in c.args.self.now.rows.now in
    let rows = rows_in c.args.self.now.rows.now in
    let told = told_of (said_of files final) in
    let size : length c.args.self.now.augments.now ≡ 0 = eqb-true (length c.args.self.now.augments.now) 0 (sym c.is_empty.ensures ∙ c.if-is_empty.true) in
    let empty : final.augments ≡ [] = sym augments ∙ nil_from_length c.args.self.now.augments.now size in
    none_imposed rows (spots_of files final) told None nothing_around final.tree r
    (subst (λ (ks : List ℕ). ImposesMandatory rows (spots_of files final) ks told None nothing_around final.tree r) empty h))
