-- Refusals that stand at a list by a test.
use Rattle.std.proofs.Common.{◌≡◌, ℕ, Bool, true, false, not, cond, refl, sym, ap, ◌∙◌, subst, Option, Some, None, inl, inr}
use Rattle.std.specs.List.{slice_get}
use Rattle.std.proofs.lemmas.Option.{same_Some}
use Rattle.yv_text_statement.specs.declared.refusal.Code.{Code}
use Rattle.yv_text_statement.specs.declared.refusal.Refusal.{Refusal}
use Rattle.yv_text_statement.specs.Order.{IsLeast, IsLesser, Stands}
use Rattle.yv_text_statement.proofs.Least.{least_refused}
use Rattle.yv_nodes.specs.Tree.{Forest, Label}
use Rattle.yv_nodes.specs.Places.{Place, places}
use Rattle.yv_nodes.specs.Rows.{Row}
use Rattle.yv_nodes.specs.Numbers.{rows_from}
use Rattle.yv_nodes.specs.Refusals.{refusal_of}
use Rattle.yv_node_keys.proofs.Spots.{IsNumbered, is_numbered}

-- a node is refused where the test says so
pub least_here : (code : Code) (l m : Label) (b bad : Bool) (o : Option Refusal) → o ≡ cond b (Some (refusal_of code l)) None → l ≡ m → b ≡ bad → IsLeast (Stands (bad ≡ true) (refusal_of code m)) o
least_here code l m b bad o e same test =
    let is : o ≡ cond bad (Some (refusal_of code m)) None = e ∙ ap (λ (c : Bool). cond c (Some (refusal_of code l)) None) test ∙ ap (λ (n : Label). cond bad (Some (refusal_of code n)) None) same in
    subst (λ (x : Option Refusal). IsLeast (Stands (bad ≡ true) (refusal_of code m)) x) (sym is) (least_refused (bad ≡ true) bad (refusal_of code m) (λ h. h) (λ h. h))

pub same_not : (a b : Bool) → not a ≡ not b → a ≡ b
same_not true true e = refl
same_not true false e = cc
same_not false true e = cc
same_not false false e = refl

-- what is there is so where the test says that it isn't
pub there : (some none : Bool) → some ≡ not none → none ≡ false → some ≡ true
there some true e f = absurd (let bad : true ≡ false = f in cc)
there some false e f = e

pub not_refused : (b : Bool) (r : Refusal) (o : Option Refusal) → o ≡ cond b (Some r) None → o ≡ None → b ≡ false
not_refused true r o e none = absurd (let bad : Some r ≡ None = sym e ∙ none in cc)
not_refused false r o e none = refl

-- neither of two is refused
pub both_none : (a b c : Option Refusal) → IsLesser a b c → c ≡ None → (a ≡ None) × (b ≡ None)
both_none None b c e none = (refl, sym e ∙ none)
both_none (Some r) None c e none = absurd (let bad : Some r ≡ None = sym e ∙ none in cc)
both_none (Some r) (Some s) c (inl e) none = absurd (let bad : Some r ≡ None = sym e.0 ∙ none in cc)
both_none (Some r) (Some s) c (inr e) none = absurd (let bad : Some s ≡ None = sym e.0 ∙ none in cc)

-- the row of a number is that of its place
pub label_at : (ts : Forest) (k : ℕ) (r : Row) (p : Place) → slice_get (rows_from 0 ts) k ≡ Some r → slice_get (places ts) k ≡ Some p → r.label ≡ p.label
label_at ts k r p at here =
    let row : IsNumbered ts k r = is_numbered ts k r at in
    ap (λ (s : Row). s.label) row.is ∙ ap (λ (q : Place). q.label) (same_Some row.spot.place p (sym row.at_place ∙ here))
