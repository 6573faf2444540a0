use Rattle.std.proofs.Common.{List, sym, subst}
use Rattle.yv_nodes.specs.declared.node.NodeId.{NodeId}
use Rattle.yv_walk.specs.InnerNextExisting.{Ascend}
use Rattle.yv_walk.proofs.Places.{children_ascend, unkept_children}
use Rattle.yv_walk.proofs.context.Context.pass_absent.Goals as goal

pub pass_unkept-requires : goal.pass_unkept-requires
pass_unkept-requires c =
    let s = c.args.schema.now in
    let kids = c.children.ensures in
    subst (λ (cs : List NodeId). Ascend cs) (sym kids.value) (children_ascend s c.args.parent kids.sound c.requires)

pub returns-clause-absent : goal.returns-clause-absent
returns-clause-absent c = λ context stand.
    let s = c.args.schema.now in
    let kids = c.children in
    unkept_children s c.args.self.now c.args.parent kids.result.now c.args.from c.pass_unkept.result kids.ensures.sound c.requires context stand kids.ensures.value c.pass_unkept.ensures.unkept
