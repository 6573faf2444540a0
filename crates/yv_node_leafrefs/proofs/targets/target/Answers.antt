use Rattle.std.proofs.Common.{◌≡◌, ◌<◌, Some, length, refl, ◌∙◌, arith}
use Rattle.std.proofs.lemmas.Option.{slice_get_read, slice_get_within}
use Rattle.std.specs.List.{slice_get}
use Rattle.yv_node_leafrefs.specs.InnerOutline.{leafrefs_in}
use Rattle.yv_node_leafrefs.proofs.KeyLookup.{as_many, both_at}
use Rattle.yv_node_leafrefs.proofs.targets.target.Goals as goal

pub follow-requires-clause-strides : goal.follow-requires-clause-strides
follow-requires-clause-strides c =
    let o = c.args.outline.now in
    let d = c.args.draft.now in
    let k = c.in_ok-says.says in
    let there : slice_get (leafrefs_in o) k ≡ Some c.in_ok-leafref.leafref.now = slice_get_read (leafrefs_in o) _ k c.in_ok-leafref.leafref.now refl c.in_ok-leafref.ensures.lookup.3.0 (c.in_ok-leafref.ensures.lookup.3.1 c.in_ok-leafref.leafref.now) in
    let within : k < length d.strides.items = omega (arith, slice_get_within (leafrefs_in o) k c.in_ok-leafref.leafref.now there, as_many _ _ d.strides.items (leafrefs_in o) c.requires.draft.strides) in
    let at = slice_get_read d.strides.items _ k c.index-2.result.now refl within c.index-2.ensures in
    c.deref.ensures.value ∙ both_at _ _ d.strides.items (leafrefs_in o) k c.index-2.result.now c.in_ok-leafref.leafref.now c.requires.draft.strides at there
