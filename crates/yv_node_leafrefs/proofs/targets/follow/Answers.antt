use Rattle.std.proofs.Common.{◌≡◌, ◌↔◌, ◌<◌, ℕ, List, Option, Some, None, length, refl, sym, ◌∙◌, ap, arith}
use Rattle.std.proofs.lemmas.Option.{slice_get_read, slice_get_within}
use Rattle.std.specs.List.{slice_get}
use Rattle.yv_nodes.specs.Rows.{Row}
use Rattle.yv_node_content.specs.Steps.{Step}
use Rattle.yv_node_leafrefs.specs.Schema.{Schema}
use Rattle.yv_node_leafrefs.specs.Targets.{RefersTo, is_fit}
use Rattle.yv_node_leafrefs.specs.Ways.{Begins, Leads}
use Rattle.yv_node_leafrefs.specs.InnerOutline.{rows_in, schema_in}
use Rattle.yv_node_leafrefs.proofs.LeafrefTargets.{lost_start, lost_walk, fits, misfits, nothing, target_within}
use Rattle.yv_node_leafrefs.proofs.targets.follow.Goals as goal

pub start-requires-clause-within : goal.start-requires-clause-within
start-requires-clause-within c =
    omega (arith, slice_get_within (rows_in c.args.outline.now) c.args.number c.args.node.now c.requires.leafref.at, c.requires.draft.each_above)

pub start-requires-clause-inner : goal.start-requires-clause-inner
start-requires-clause-inner c = (c.args.outline.now, c.requires.draft)

pub returns-in_err-place : goal.returns-in_err-place
returns-in_err-place c =
    let o = c.args.outline.now in
    let s : Schema = schema_in o in
    let begins : (a : Option ℕ) → (None ≡ Some a) ↔ Begins s.rows c.args.number c.args.leafref.now.climbs a = rw c.climbs.ensures at (c.in_err-place.ensures o c.requires.draft) in
    nothing (RefersTo s c.args.number) c.from_residual.result c.from_residual.ensures (lost_start s c.args.number c.args.node.now c.args.leafref.now c.requires.leafref None begins refl)

pub returns-in_err-found : goal.returns-in_err-found
returns-in_err-found c =
    let o = c.args.outline.now in
    let s : Schema = schema_in o in
    let begins : (a : Option ℕ) → (Some c.in_ok-place.place ≡ Some a) ↔ Begins s.rows c.args.number c.args.leafref.now.climbs a = rw c.climbs.ensures at (c.in_ok-place.ensures o c.requires.draft) in
    let leads : (x : ℕ) → (None ≡ Some x) ↔ Leads s.rows c.args.node.now.label.module_file c.args.leafref.now.steps c.in_ok-place.place (Some x) = rw c.module_file.ensures at (c.in_err-found.ensures o c.args.leafref.now.steps c.requires.draft c.requires.strides) in
    nothing (RefersTo s c.args.number) c.from_residual-in_err-found.result c.from_residual-in_err-found.ensures
    (lost_walk s c.args.number c.args.node.now c.args.leafref.now c.requires.leafref c.in_ok-place.place None begins leads refl)

within : (n : ℕ) {y : ℕ} (s : Schema) (row : Row) (climbs start : Option ℕ) (own : ℕ) (steps : List (Option Step)) → slice_get s.rows n ≡ Some row → Begins s.rows n climbs start → Leads s.rows own steps start (Some y) → y < length s.rows
within n s row climbs start own steps at begins leads = target_within s n row climbs start own steps _ at begins leads

pub bounds-outline-found : goal.bounds-outline-found
bounds-outline-found c =
    let o = c.args.outline.now in
    let s : Schema = schema_in o in
    within c.args.number s c.args.node.now _ _ _ c.args.leafref.now.steps c.requires.leafref.at ((c.in_ok-place.ensures o c.requires.draft c.in_ok-place.place).0 refl)
    ((c.in_ok-found.ensures o c.args.leafref.now.steps c.requires.draft c.requires.strides c.in_ok-found.found).0 refl)

pub returns-then-is_fit : goal.returns-then-is_fit
returns-then-is_fit c =
    let o = c.args.outline.now in
    let s : Schema = schema_in o in
    let y = c.in_ok-found.found in
    let begins : (a : Option ℕ) → (Some c.in_ok-place.place ≡ Some a) ↔ Begins s.rows c.args.number c.args.leafref.now.climbs a = rw c.climbs.ensures at (c.in_ok-place.ensures o c.requires.draft) in
    let leads : (x : ℕ) → (Some y ≡ Some x) ↔ Leads s.rows c.args.node.now.label.module_file c.args.leafref.now.steps c.in_ok-place.place (Some x) = rw c.module_file.ensures at (c.in_ok-found.ensures o c.args.leafref.now.steps c.requires.draft c.requires.strides) in
    let below : y < length s.rows = within c.args.number s c.args.node.now _ _ _ c.args.leafref.now.steps c.requires.leafref.at ((begins c.in_ok-place.place).0 refl) ((leads y).0 refl) in
    let at : slice_get s.rows y ≡ Some c.index-outline-found.result = slice_get_read s.rows _ y c.index-outline-found.result refl below c.index-outline-found.is in
    fits s c.args.number c.args.node.now c.args.leafref.now c.requires.leafref c.in_ok-place.place y begins leads c.index-outline-found.result at (sym (c.is_fit.ensures ∙ ap (is_fit c.args.node.now c.args.leafref.now) (sym c.index-outline-found.is)) ∙ c.if-is_fit.true)

pub returns-else-is_fit : goal.returns-else-is_fit
returns-else-is_fit c =
    let o = c.args.outline.now in
    let s : Schema = schema_in o in
    let y = c.in_ok-found.found in
    let begins : (a : Option ℕ) → (Some c.in_ok-place.place ≡ Some a) ↔ Begins s.rows c.args.number c.args.leafref.now.climbs a = rw c.climbs.ensures at (c.in_ok-place.ensures o c.requires.draft) in
    let leads : (x : ℕ) → (Some y ≡ Some x) ↔ Leads s.rows c.args.node.now.label.module_file c.args.leafref.now.steps c.in_ok-place.place (Some x) = rw c.module_file.ensures at (c.in_ok-found.ensures o c.args.leafref.now.steps c.requires.draft c.requires.strides) in
    let below : y < length s.rows = within c.args.number s c.args.node.now _ _ _ c.args.leafref.now.steps c.requires.leafref.at ((begins c.in_ok-place.place).0 refl) ((leads y).0 refl) in
    let at : slice_get s.rows y ≡ Some c.index-outline-found.result = slice_get_read s.rows _ y c.index-outline-found.result refl below c.index-outline-found.is in
    nothing (RefersTo s c.args.number) None refl
    (misfits s c.args.number c.args.node.now c.args.leafref.now c.requires.leafref c.in_ok-place.place y begins leads c.index-outline-found.result at (sym (c.is_fit.ensures ∙ ap (is_fit c.args.node.now c.args.leafref.now) (sym c.index-outline-found.is)) ∙ c.if-is_fit.false))
