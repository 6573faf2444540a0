-- The refusals of statements that are bad.
use Rattle.std.proofs.Common.{◌≡◌, ℕ, ◌+◌, ◌==◌, ◌&&◌, not, Bool, true, false, List, refl, sym, ◌∙◌, ap, subst, Option, Some, None}
use Rattle.std.specs.List.{slice_get}
use Rattle.std.proofs.lemmas.Bool.{and_parts, eqb-true, eq-eqb}
use Rattle.std.proofs.lemmas.Option.{same_Some}
use Rattle.yv_text_statement.specs.Order.{Among, IsLeast, IsLesser, Stands, refusal_at}
use Rattle.yv_text_statement.specs.declared.refusal.Code.{Code}
use Rattle.yv_text_statement.specs.declared.refusal.Code.TheVariants as code
use Rattle.yv_text_statement.specs.declared.refusal.Refusal.{Refusal}
use Rattle.yv_text_statement.proofs.Least.{least_more, least_refused, least_same}
use Rattle.yv_link_scopes.specs.Rows.{Row}
use Rattle.yv_expand_rounds.specs.declared.row.ItemRow.{ItemRow}
use Rattle.yv_expand_statements.specs.Kinds.{is_uses}
use Rattle.yv_expand_augments.specs.Refusals.{IsTooDeep, RefusesIf}
use Rattle.yv_expand_augments.specs.InnerRefusals.{depth_refusal, is_absent, refusal_of_row}
use Rattle.yv_expand_uses.specs.declared.spot.Spot.{Spot}

-- the least refusal of one statement
pub least_at : (rows : List Row) (c : Code) (P : Type 0) (bad : Bool) (k : ℕ) → (bad ≡ true → P) → (P → bad ≡ true)
    → IsLeast (RefusesIf rows c P k) (refusal_of_row c bad (slice_get rows k))
least_at rows c P bad k so back = by (slice_get rows k) refl
  where
    by : (o : Option Row) → slice_get rows k ≡ o → IsLeast (RefusesIf rows c P k) (refusal_of_row c bad o)
    by None at = λ f h. (let none : None ≡ Some h.0 = sym at ∙ h.1 in cc)
    by (Some r) at =
        least_same (Stands P (refusal_at c r.file r.head)) (RefusesIf rows c P k) (refusal_of_row c bad (Some r))
        (λ f h. (r, at, h))
        (λ f h. subst (λ (x : Row). Stands P (refusal_at c x.file x.head) f) (same_Some h.0 r (sym h.1 ∙ at)) h.2)
        (least_refused P bad (refusal_at c r.file r.head) so back)

pub not_false : (b : Bool) → not b ≡ true → b ≡ false
not_false true h = let bad : false ≡ true = h in cc
not_false false h = refl

-- that of an item of the final tree
least_deep : (rows : List Row) (spots : List Spot) (x : ItemRow) (s : Spot) → slice_get spots x.number ≡ Some s
    → IsLeast (IsTooDeep rows spots x) (refusal_of_row code.TreeTooDeep ((x.depth == 129) && not (is_uses s.label.kind)) (slice_get rows s.statement))
least_deep rows spots x s at =
    let P : Type 0 = (x.depth ≡ 129) × (is_uses s.label.kind ≡ false) in
    let bad : Bool = (x.depth == 129) && not (is_uses s.label.kind) in
    least_same (RefusesIf rows code.TreeTooDeep P s.statement) (IsTooDeep rows spots x) (refusal_of_row code.TreeTooDeep bad (slice_get rows s.statement))
    (λ f h. (s, at, h))
    (λ f h. subst (λ (y : Spot). RefusesIf rows code.TreeTooDeep ((x.depth ≡ 129) × (is_uses y.label.kind ≡ false)) y.statement f) (same_Some h.0 s (sym h.1 ∙ at)) h.2)
    (least_at rows code.TreeTooDeep P bad s.statement
    (λ h. (let parts = and_parts (x.depth == 129) (not (is_uses s.label.kind)) h in (eqb-true x.depth 129 parts.0, not_false (is_uses s.label.kind) parts.1)))
    (λ h. ap (λ (b : Bool). b && not (is_uses s.label.kind)) (eq-eqb x.depth 129 h.0) ∙ ap (λ (b : Bool). true && not b) h.1))

none_deep : (rows : List Row) (spots : List Spot) (x : ItemRow) → slice_get spots x.number ≡ None → IsLeast (IsTooDeep rows spots x) None
none_deep rows spots x at = λ f h. (let none : None ≡ Some h.0 = sym at ∙ h.1 in cc)

deep_at : (rows : List Row) (spots : List Spot) (x : ItemRow) → IsLeast (IsTooDeep rows spots x) (depth_refusal rows x.depth (slice_get spots x.number))
deep_at rows spots x = by (slice_get spots x.number) refl
  where
    by : (o : Option Spot) → slice_get spots x.number ≡ o → IsLeast (IsTooDeep rows spots x) (depth_refusal rows x.depth o)
    by None at = none_deep rows spots x at
    by (Some s) at = least_deep rows spots x s at

-- one more item of the final tree
pub deep_more : (rows : List Row) (spots : List Spot) (tree : List ItemRow) (i : ℕ) (x : ItemRow) (best one next : Option Refusal) → slice_get tree i ≡ Some x
    → one ≡ depth_refusal rows x.depth (slice_get spots x.number) → IsLesser best one next → IsLeast (Among tree (λ place y. IsTooDeep rows spots y) i) best
    → IsLeast (Among tree (λ place y. IsTooDeep rows spots y) (i + 1)) next
deep_more rows spots tree i x best one next at is lesser before =
    least_more tree (λ place y. IsTooDeep rows spots y) i x best one next at lesser before (subst (IsLeast (IsTooDeep rows spots x)) (sym is) (deep_at rows spots x))

pub absent : (o : Option ℕ) → is_absent o ≡ true → o ≡ None
absent None h = refl
absent (Some n) h = let bad : false ≡ true = h in cc
