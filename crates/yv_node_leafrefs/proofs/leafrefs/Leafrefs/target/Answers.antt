use Rattle.std.proofs.Common.{◌≡◌, None, sym, ◌∙◌, ap, slice_index_or}
use Rattle.yv_node_leafrefs.proofs.leafrefs.Leafrefs.target.Goals as goal

pub returns : goal.returns
returns c s are x =
    let n = c.args.node.0 in
    let is : c.target_at.result ≡ slice_index_or c.args.self.now.targets.items n None =
    c.target_at.ensures ∙ ap (λ xs. slice_index_or xs c.number.result None) c.deref.ensures.value ∙ ap (λ k. slice_index_or c.args.self.now.targets.items k None) c.number.ensures in
    let numbered = c.node_id.ensures x in
    let exact = are.exact n x.0 in
    (λ h. exact.0 (sym is ∙ numbered.0 h), λ refers. numbered.1 (is ∙ exact.1 refers))
