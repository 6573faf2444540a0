-- What is wrong with a node, and with all.
use Rattle.std.proofs.Common.{◌≡◌, ℕ, ◌≤◌, ◌↔◌, inr, Bool, true, false, IsTrue, not, cond, List, length, refl, sym, ◌∙◌, ap, subst, arith, Option, Some, None}
use Rattle.std.specs.Option.{is_some}
use Rattle.std.specs.List.{slice_get}
use Rattle.std.proofs.lemmas.Bool.{false≢true}
use Rattle.std.proofs.lemmas.Option.{same_Some, none-some, slice_get_within}
use Rattle.yv_text_statement.specs.Order.{IsLeast, Stands, Among}
use Rattle.yv_text_statement.specs.declared.refusal.Refusal.{Refusal}
use Rattle.yv_text_statement.proofs.Least.{least_refused, least_same}
use Rattle.yv_nodes.specs.Rows.{Row}
use Rattle.yv_nodes.specs.Refusals.{refusal_of}
use Rattle.yv_node_leafrefs.specs.Schema.{Schema}
use Rattle.yv_node_leafrefs.specs.Targets.{IsLeafref, RefersTo, LeadsTo, by_step, by_way}
use Rattle.yv_text_statement.specs.declared.refusal.Code.TheVariants as code
use Rattle.yv_node_leafrefs.specs.Bad.{IsLost, BadLeafrefs}
use Rattle.yv_node_leafrefs.specs.InnerGraph.{IsOne}

-- a refusal where what a test decides holds
pub decided : (P : Type 0) (flag : Bool) (r : Refusal) (result : Option Refusal) → IsTrue flag ↔ P → result ≡ cond flag (Some r) None → IsLeast (Stands P r) result
decided P flag r result both h = subst (λ (o : Option Refusal). IsLeast (Stands P r) o) (sym h) (least_refused P flag r both.0 both.1)

-- all of them
pub least_all : {X : Type 0} (xs : List X) (P : ℕ → X → Refusal → Type 0) (i : ℕ) (o : Option Refusal) → length xs ≤ i → IsLeast (Among xs P i) o → IsLeast (Among xs P (length xs)) o
least_all xs P i o h l = least_same (Among xs P i) (Among xs P (length xs)) o
    (λ r a. (a.0, slice_get_within xs a.0 a.2 a.3, a.2, a.3, a.4))
    (λ r a. (a.0, omega (arith, a.1), a.2, a.3, a.4)) l

none_is : (o : Option ℕ) (flag : Bool) → is_some o ≡ not flag → flag ≡ true → o ≡ None
none_is None flag e h = refl
none_is (Some x) flag e h = absurd (false≢true (sym (e ∙ ap not h)))

is_none_by : (o : Option ℕ) (flag : Bool) → is_some o ≡ not flag → o ≡ None → flag ≡ true
is_none_by o true e h = refl
is_none_by o false e h = absurd (false≢true (ap is_some (sym h) ∙ e))

pub lost_one : (t : Schema) (n : ℕ) (row : Row) (target : Option ℕ) (flag : Bool) → is_some target ≡ not flag → slice_get t.rows n ≡ Some row → IsOne t n → ((x : ℕ) → (target ≡ Some x) ↔ RefersTo t n x) → IsTrue flag ↔ IsLost t n row
lost_one t n row target flag is at (own, ref, one) exact = (
  λ h. record {
    ref = ref;
    is_leafref = subst (λ (r : Row). IsLeafref t n r ref) (same_Some own row (sym one.at ∙ at)) one;
    lost = λ x refers. none-some x (sym (none_is target flag is h) ∙ (exact x).1 refers);
  },
  λ lost. is_none_by target flag is (by target refl lost),
)
  where
    by : (o : Option ℕ) → target ≡ o → IsLost t n row → target ≡ None
    by None e lost = e
    by (Some x) e lost = absurd (lost.lost x ((exact x).0 e))

pub lost_other : (t : Schema) (n : ℕ) (row : Row) (flag : Bool) → flag ≡ false → IsTrue flag ↔ IsOne t n → IsTrue false ↔ IsLost t n row
lost_other t n row flag off both = ((λ h. absurd (false≢true h)), (λ lost. absurd (false≢true (sym off ∙ both.1 (row, lost.ref, lost.is_leafref)))))

source_at : (t : Schema) (a b : ℕ) → LeadsTo t a b → (r : Row) × (slice_get t.rows a ≡ Some r)
source_at t a b (by_step refers) = (refers.row, refers.is_leafref.at)
source_at t a b (by_way refers rest) = (refers.row, refers.is_leafref.at)

-- where nothing is wrong no leafref leads to itself
pub clear_cycle : (t : Schema) → IsLeast (BadLeafrefs t) None → (n : ℕ) → LeadsTo t n n → ⊥
clear_cycle t clear n w =
    let source = source_at t n n w in
    clear (refusal_of code.PathCycle source.0.label) (n, slice_get_within t.rows n source.0 source.1, source.0, source.1, inr (w, refl))
