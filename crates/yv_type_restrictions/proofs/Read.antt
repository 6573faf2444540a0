-- One statement more: its test, and its refusal.
use Rattle.std.proofs.Common.{◌≡◌, ℕ, ◌+◌, ◌≤◌, List, [], ◌∷◌, ◌++◌, take, length, Option, Some, refl, sym, ◌∙◌, ap, subst, append_assoc, arith}
use Rattle.std.specs.Prelude.{slice_get, option_to_list}
use Rattle.std.proofs.lemmas.List.{take_more, append-nil}
use Rattle.std.proofs.lemmas.Option.{slice_get_within, get_or_from_slice_get}
use Rattle.yv_text_statement.specs.Tree.{Tree}
use Rattle.yv_text_statement.specs.Order.{IsLeast, Among}
use Rattle.yv_text_statement.specs.declared.refusal.Refusal.{Refusal}
use Rattle.yv_text_statement.proofs.Least.{least_same}
use Rattle.yv_values.specs.Types.{Test}
use Rattle.yv_type_restrictions.specs.Facets.{AreTests, IsTest}

one_behind : (cs : List Tree) (tests : List Test) (c : Tree) (test : Option Test) → IsTest c test → AreTests cs tests → AreTests (cs ++ c ∷ []) (tests ++ option_to_list test)
one_behind [] tests c test is are = (test, [], is, refl, ap (λ (ts : List Test). ts ++ option_to_list test) are ∙ sym (append-nil (option_to_list test)))
one_behind (x ∷ cs) tests c test is are = (
  are.0,
  are.1 ++ option_to_list test,
  are.2,
  one_behind cs are.1 c test is are.3,
  ap (λ (ts : List Test). ts ++ option_to_list test) are.4 ∙ append_assoc (option_to_list are.0) are.1 (option_to_list test),
)

pub more_tests : (cs : List Tree) (i : ℕ) (c : Tree) (test : Option Test) (old new : List Test) → slice_get cs i ≡ Some c → IsTest c test → AreTests (take i cs) old → new ≡ old ++ option_to_list test → AreTests (take (i + 1) cs) new
more_tests cs i c test old new at is are e =
    let longer : take (i + 1) cs ≡ take i cs ++ c ∷ [] = take_more cs i c (slice_get_within cs i c at) ∙ ap (λ (x : Tree). take i cs ++ x ∷ []) (get_or_from_slice_get cs i c c at) in
    subst (λ (xs : List Tree). AreTests xs new) (sym longer) (subst (AreTests (take i cs ++ c ∷ [])) (sym e) (one_behind (take i cs) old c test is are))

-- the least of all, once none is left
pub least_all : {X : Type 0} (xs : List X) (P : ℕ → X → Refusal → Type 0) (i : ℕ) (o : Option Refusal) → length xs ≤ i → IsLeast (Among xs P i) o → IsLeast (Among xs P (length xs)) o
least_all xs P i o h l = least_same (Among xs P i) (Among xs P (length xs)) o
    (λ r a. (a.0, slice_get_within xs a.0 a.2 a.3, a.2, a.3, a.4))
    (λ r a. (a.0, omega (arith, a.1), a.2, a.3, a.4)) l
