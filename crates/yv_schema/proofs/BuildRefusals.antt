-- What is built of the nodes of modules, and the first refusal of them.
use Rattle.std.proofs.Common.{◌≡◌, sym, ◌∙◌, subst, refl, IfOk, OnOk, Option, Some, None, inl, inr}
use Rattle.std.specs.Option.{unwrap_or}
use Rattle.std.specs.declared.result.Result.{Result}
use Rattle.std.specs.declared.result.Result.TheVariants.{Ok, Err}
use Rattle.yv_text_statement.specs.Order.{IsLeast, IsLesser}
use Rattle.yv_text_statement.specs.declared.refusal.Refusal.{Refusal}
use Rattle.yv_text_statement.specs.declared.refusal.Stop.{Stop}
use Rattle.yv_text_statement.specs.declared.refusal.Stop.TheVariants.{Fault}
use Rattle.yv_text_statement.proofs.Least.{least_lesser}
use Rattle.yv_nodes.specs.Rows.{Rows}
use Rattle.yv_nodes.specs.Tree.{Forest}
use Rattle.yv_schema_tables.specs.Bad.{BadRows}
use Rattle.yv_node_checks.specs.Bad.{BadTree}
use Rattle.yv_node_leafrefs.specs.Bad.{BadLeafrefs}
use Rattle.yv_schema.specs.InnerBasis.{NumberedBasis, leafrefs_of}
use Rattle.yv_schema.specs.Refusals.{BadNodes}
use Rattle.yv_schema.specs.InnerBuild.{IsFirst, of_tree, of_both}
use Rattle.yv_schema.specs.InnerParts.{BadOther}

-- what holds of each answer holds
pub on_ok_from : {A E : Type 0} {P : A → Type 0} {Q : Type 0} (o : Result A E) → ((x : A) → P x → Q) → IfOk o P → OnOk o Q
on_ok_from (Ok x) f h = f x h
on_ok_from (Err e) f h = tt

-- neither of two is refused
pub both_none : (a b c : Option Refusal) → IsLesser a b c → c ≡ None → (a ≡ None) × (b ≡ None)
both_none None b c e none = (refl, sym e ∙ none)
both_none (Some r) None c e none = absurd (let bad : Some r ≡ None = sym e ∙ none in cc)
both_none (Some r) (Some s) c (inl e) none = absurd (let bad : Some r ≡ None = sym e.0 ∙ none in cc)
both_none (Some r) (Some s) c (inr e) none = absurd (let bad : Some s ≡ None = sym e.0 ∙ none in cc)

-- the least of what is wrong with a tree, but for its rows
pub least_other : (b : NumberedBasis) (top : Forest) (wrong fault both : Option Refusal) → IsLeast (BadTree top) wrong → IsLeast (BadLeafrefs (leafrefs_of b)) fault → IsLesser wrong fault both
    → IsLeast (BadOther b top) both
least_other b top wrong fault both p q lesser = least_lesser (BadTree top) (BadLeafrefs (leafrefs_of b)) wrong fault both lesser p q

-- nothing is wrong with a tree
pub both_clear : (b : NumberedBasis) (top : Forest) → IsLeast (BadRows top) None → IsLeast (BadOther b top) None → IsLeast (BadNodes (leafrefs_of b) top) None
both_clear b top duplicate wrong = least_lesser (BadRows top) (BadOther b top) None None None refl duplicate wrong

-- the first refusal is the least of all that is wrong with a tree
pub first_stands : (b : NumberedBasis) (top : Forest) (numbered : Result Rows Stop) (wrong : Option Refusal) (r : Refusal) → OnOk numbered (IsLeast (BadRows top) None)
    → ((d : Refusal) → numbered ≡ Err (Fault d) → IsLeast (BadRows top) (Some d)) → IsLeast (BadOther b top) wrong → IsFirst numbered wrong r → IsLeast (BadNodes (leafrefs_of b) top) (Some r)
first_stands b top numbered wrong r clear duplicate least (of_tree s is told) =
    least_lesser (BadRows top) (BadOther b top) None (Some r) (Some r) refl (subst (λ (o : Result Rows Stop). OnOk o (IsLeast (BadRows top) None)) is clear) (subst (λ (o : Option Refusal). IsLeast (BadOther b top) o) told least)
first_stands b top numbered wrong r clear duplicate least (of_both d is lesser) =
    least_lesser (BadRows top) (BadOther b top) (Some d) wrong (Some r) lesser (duplicate d is) least

-- what stopped a call
abbrev pub stop_in : {A : Type 0} → Result A Stop → Stop → Stop
stop_in (Err stop) other = stop
stop_in (Ok x) other = other

-- the refusal of a stop
abbrev pub fault_in : Stop → Refusal → Refusal
fault_in (Fault r) other = r
fault_in _ other = other

pub lesser_some : (d : Refusal) (wrong result : Option Refusal) → IsLesser (Some d) wrong result → result ≡ Some (unwrap_or result d)
lesser_some d wrong (Some r) h = refl
lesser_some d None None h = h
lesser_some d (Some s) None h = elim h [
  | inl x ↦ let e : None ≡ Some d = x.0 in cc
  | inr y ↦ let e : None ≡ Some s = y.0 in cc
]
