use Rattle.std.proofs.Common.{◌≡◌, ◌≤◌, List, [], ◌∷◌, length, false, refl, arith}
use Rattle.serde_json.specs.View.{items_view}
use Rattle.serde_json.specs.declared.value.Value.{Value}
use Rattle.yv_values.specs.Reads.{is_lone_null}
use Rattle.yv_values.proofs.value_check.is_lone_null.Goals as goal

several : (vs : List Value) → 2 ≤ length vs → false ≡ is_lone_null (items_view vs)
several [] h = refl
several (v ∷ []) h = absurd (omega arith)
several (v ∷ w ∷ vs) h = refl

pub returns-in_default-2 : goal.returns-in_default-2
returns-in_default-2 c = several c.args.items.now.items (omega (arith, c.as_slice.ensures.len, c.in_default.len_at_least))
