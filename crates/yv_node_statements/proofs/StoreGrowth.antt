-- What is kept, with one more.
use Rattle.std.proofs.Common.{◌≡◌, Bool, true, false, cond, Option, Some, ◌⊎◌, inl, inr, subst}
use Rattle.std.proofs.lemmas.Option.{same_Some}
use Rattle.std.specs.Prelude.{Result, Ok, Err, OnOk, OnErr}
use Rattle.yv_node_statements.specs.declared.refined_definitions.RefinedNode.{RefinedNode}

pub either : {T E A B : Type 0} (r : Result T E) → OnOk r A → OnErr r B → A ⊎ B
either (Ok x) a b = inl a
either (Err e) a b = inr b

-- what is found is the new one or was there
pub found : (P : RefinedNode → Type 0) (b : Bool) (value r : RefinedNode) (old : Option RefinedNode) → P value → ((x : RefinedNode) → old ≡ Some x → P x)
    → cond b (Some value) old ≡ Some r → P r
found P true value r old v o e = subst P (same_Some value r e) v
found P false value r old v o e = o r e
