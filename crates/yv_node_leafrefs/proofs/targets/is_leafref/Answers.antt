use Rattle.std.proofs.Common.{◌≡◌, ◌<◌, false, length, sym, ◌∙◌, arith, slice_index_or}
use Rattle.std.proofs.lemmas.Bool.{ltb-true, lt-ltb}
use Rattle.std.proofs.lemmas.List.{get_or_default}
use Rattle.std.proofs.lemmas.Option.{slice_get-get_or}
use Rattle.yv_nodes.specs.Rows.{blank_row}
use Rattle.yv_node_leafrefs.specs.InnerOutline.{rows_in}
use Rattle.yv_node_leafrefs.proofs.LeafrefTargets.{one_exactly}
use Rattle.yv_node_leafrefs.proofs.targets.is_leafref.Goals as goal

pub returns-in-Some : goal.returns-in-Some
returns-in-Some c =
    let o = c.args.outline.now in
    let d = c.args.draft.now in
    let n = c.args.number in
    let outside : slice_index_or d.inside.items n false ≡ false =
    get_or_default d.inside.items n false c.index.result.now (let l : n < length d.inside.items = omega (arith, c.requires.within, c.requires.draft.each_inside) in l) ∙ sym c.index.ensures ∙ c.if-index.false in
    let at = slice_get-get_or (rows_in o) n blank_row c.requires.within in
    let both = one_exactly o d n c.in-Some.says _ c.requires.draft at outside (sym c.leafref_number.ensures ∙ c.in-Some.is) in (
      λ h. both.0 (let l = ltb-true c.in-Some.says _ h in l),
      λ h. lt-ltb c.in-Some.says _ (both.1 h),
    )
