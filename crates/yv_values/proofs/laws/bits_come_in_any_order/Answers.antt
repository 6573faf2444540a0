use Rattle.std.proofs.Common.{◌≡◌, ◌∙◌, ◌&&◌, ℕ, List, Bool, true, false, Some, None, cond, sym, ap}
use Rattle.std.proofs.lemmas.List.Elements.{filter_agree}
use Rattle.std.specs.List.{list_all}
use Rattle.yv_values.specs.Texts.{HaveSameWords, is_named, is_trimmed, are_distinct, choose, words, bits_in}
use Rattle.yv_values.specs.Values.{Val, bits}
use Rattle.yv_values.proofs.laws.bits_come_in_any_order.Goals as goal

value_if : (b : Bool) (x v : Val) → cond b (Some x) None ≡ Some v → v ≡ x
value_if true x v h = cc
value_if false x v h = absurd (cc)

value_is : (names : List (List ℕ)) (s : List ℕ) (v : Val) → bits_in names s ≡ Some v → v ≡ bits (choose names (words s))
value_is names s v h = value_if (is_trimmed s && (list_all (is_named names) (words s) && are_distinct (words s))) (bits (choose names (words s))) v h

any_order : (names : List (List ℕ)) (s t : List ℕ) (v w : Val) → HaveSameWords s t → bits_in names s ≡ Some v → bits_in names t ≡ Some w → v ≡ w
any_order names s t v w e f g =
    value_is names s v f ∙ ap bits (filter_agree (is_named (words s)) (is_named (words t)) e names) ∙ sym (value_is names t w g)

pub returns : goal.returns
returns c = any_order
