use Rattle.std.proofs.Common.{ap, sym, ◌∙◌, subst, All, List}
use Rattle.yv_nodes.specs.declared.node.NodeId.{NodeId}
use Rattle.yv_nodes.specs.Rows.{Note}
use Rattle.yv_schema_tables.specs.Sound.{IsChild}
use Rattle.yv_tree.proofs.draw.Subject.added_group.Goals as goal

pub shown_ids-requires-clause-trees : goal.shown_ids-requires-clause-trees
shown_ids-requires-clause-trees c =
    let s = c.args.self.now.schema.now in
    let target = c.args.augment.now.target in
    let own = c.as_slice-ids.ensures.value ∙ ap (λ (n : Note). n.nodes) c.augment.view_is in
    c.children_are_trees.ensures s target c.as_slice-ids.result.now c.requires.sound
    (subst (λ (xs : List NodeId). All (IsChild s target) xs) (sym own) c.requires.note.given)
