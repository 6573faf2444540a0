use Rattle.std.proofs.Common.{inl, inr, sym, ap, ◌∙◌}
use Rattle.std.specs.BTreeMap.{get_by, is_at}
use Rattle.std.specs.Map.{lookup}
use Rattle.yv_node_statements.specs.InnerRefinedStore.{IsRefined, key_cmp}
use Rattle.yv_node_statements.specs.RefinedContext.{files_of, sequences_of, typing_of}
use Rattle.yv_node_statements.specs.declared.refined_definitions.RefinedNode.{RefinedNode}
use Rattle.yv_node_statements.proofs.StoreGrowth.{either, found}
use Rattle.yv_node_statements.proofs.refined_definitions.RefinedDefinitions.keep_definition.Goals as goal

pub invariant_of-self : goal.invariant_of-self
invariant_of-self c =
    let self = c.args.self.now in
    let P : RefinedNode → Type 0 = λ r. IsRefined (typing_of self) (files_of self) (sequences_of self) r.origin r.sequence r.said in
    let value : RefinedNode = record { origin = c.args.origin; sequence = c.args.sequence; said = c.in_ok-said.said } in
    record {
      kept_so = λ key r at. elim (either c.insert.result c.insert.ensures.updates c.insert.ensures.err) [
        | inl u ↦ found P (is_at (key_cmp c.key_of.result) key) value r (get_by (key_cmp key) self.kept) c.in_ok-said.ensures (self.kept_so key) (sym (u.0 key) ∙ at)
        | inr same ↦ self.kept_so key r (ap (lookup (is_at (key_cmp key))) (sym same) ∙ at)
      ];
    }
