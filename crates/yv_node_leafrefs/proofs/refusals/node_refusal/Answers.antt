use Rattle.std.proofs.Common.{◌≡◌, refl, sym, ◌∙◌}
use Rattle.std.proofs.lemmas.Option.{same_Some, slice_get_read}
use Rattle.yv_text_statement.specs.declared.refusal.Code.TheVariants as code
use Rattle.yv_text_statement.proofs.Least.{least_lesser}
use Rattle.yv_nodes.specs.Refusals.{refusal_of}
use Rattle.yv_node_leafrefs.specs.Targets.{LeadsTo}
use Rattle.yv_node_leafrefs.specs.Bad.{IsLost}
use Rattle.yv_node_leafrefs.specs.InnerOutline.{rows_in, schema_in}
use Rattle.yv_node_leafrefs.proofs.Faulty.{decided}
use Rattle.yv_node_leafrefs.proofs.refusals.node_refusal.Goals as goal

pub returns : goal.returns
returns c row at =
    let o = c.args.outline.now in
    let n = c.args.number in
    let s = schema_in o in
    let same : c.index-outline-number.result ≡ row =
    same_Some c.index-outline-number.result row (sym (slice_get_read (rows_in o) _ n c.index-outline-number.result refl c.requires.within c.index-outline-number.is) ∙ at) in
    let read = sym c.index-outline-number.is ∙ same in
    least_lesser _ _ _ _ _ c.lesser.ensures
    (decided (IsLost s n row) c.is_lost-is_lost.result (refusal_of code.BadPath row.label) c.refusal_if-lost.result (c.is_lost-is_lost.ensures row at) (rw read at c.refusal_if-lost.ensures))
    (decided (LeadsTo s n n) _ (refusal_of code.PathCycle row.label) c.refusal_if-cycle.result c.requires.cycle (rw read at c.refusal_if-cycle.ensures))
