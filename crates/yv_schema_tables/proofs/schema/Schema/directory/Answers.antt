use Rattle.std.proofs.Common.{◌≡◌, ◌≤◌, length, true, false, sym, ◌∙◌, arith, subst}
use Rattle.std.proofs.lemmas.Option.{slice_get_read}
use Rattle.yv_nodes.specs.declared.node.NodeId.{NodeId}
use Rattle.yv_nodes.specs.Rows.{Rows, is_root, rank, root}
use Rattle.yv_schema_tables.specs.InnerTables.{IsAnswering}
use Rattle.yv_schema_tables.proofs.Colons.{rank_below, root_is}
use Rattle.yv_schema_tables.proofs.schema.Schema.directory.Goals as goal

pub returns-then-eq-clause-answers : goal.returns-then-eq-clause-answers
returns-then-eq-clause-answers c =
    let at_root : is_root c.args.parent ≡ true = sym c.eq.ensures ∙ c.if-eq.true in
    let same : root ≡ c.args.parent = root_is c.args.parent at_root in
    subst (λ (p : NodeId). IsAnswering c.args.self.now p c.self.inside.at_top) same (rw c.self.view_is at c.self.invariant.kept.top)

pub returns-else-eq-clause-answers : goal.returns-else-eq-clause-answers
returns-else-eq-clause-answers c =
    let s : Rows = record { nodes = c.self.inside.nodes.rows; top = c.self.inside.top.items; limit = c.self.inside.nodes.limit; modules = c.self.inside.implemented.items; augments = c.self.inside.notes.items; links = c.self.inside.links } in
    let inner : is_root c.args.parent ≡ false = sym c.eq.ensures ∙ c.if-eq.false in
    let within : rank c.args.parent ≤ length s.nodes = rw (← c.self.view_is) at c.requires in
    let at = slice_get_read c.self.inside.directories.items (length s.nodes) c.args.parent.0 c.index.result.now (sym c.self.invariant.kept.each) (omega (arith, within, rank_below c.args.parent inner)) c.index.ensures in
    rw (← c.self.view_is) (c.self.invariant.kept.below c.args.parent c.index.result.now inner at)
