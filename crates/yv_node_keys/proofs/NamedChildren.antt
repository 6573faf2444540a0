-- The nodes below one by module and name, as they are met.
use Rattle.std.proofs.Common.{◌≡◌, ◌==◌, arith, ℕ, ◌+◌, List, ◌∷◌, Bool, true, false, ◌&&◌, cond, drop, Option, Some, refl, sym, ap, ◌∙◌}
use Rattle.std.proofs.lemmas.List.{drop_more}
use Rattle.std.proofs.lemmas.Option.{slice_get_within, get_or_from_slice_get}
use Rattle.std.specs.List.{find, slice_get}
use Rattle.std.specs.Str.{bytes_eq}
use Rattle.std.specs.Ordering.{is_eq, nat_cmp, ordering_then}
use Rattle.std.specs.declared.cmp.Ordering.{Ordering}
use Rattle.std.specs.declared.cmp.Ordering.TheVariants.{Less, Equal, Greater}
use Rattle.std.specs.Cmp.Lexicographic.{slice_cmp}
use Rattle.std.specs.BTreeMap.{BTreeMap, UpdatesBy}
use Rattle.std.proofs.lemmas.Bool.Decides.{nat_tests}
use Rattle.std.proofs.lemmas.Map.Text.{is_eq-slice_cmp}
use denote.Ref.{Bor}
use Rattle.yv_nodes.specs.declared.node.NodeId.{NodeId}
use Rattle.yv_nodes.specs.Rows.{Row}
use Rattle.yv_node_keys.specs.Numbers.{is_called_at}
use Rattle.yv_node_keys.specs.InnerNames.{NameNumbers, lookup_in, told_before, told_with}

is_eq_then : (p q : Ordering) → is_eq (ordering_then p q) ≡ (is_eq p && is_eq q)
is_eq_then Less q = refl
is_eq_then Equal q = refl
is_eq_then Greater q = refl

and_swapped : (a b : Bool) → (a && b) ≡ (b && a)
and_swapped true true = refl
and_swapped true false = refl
and_swapped false true = refl
and_swapped false false = refl

-- whether two modules and names are the same
abbrev is_same : (h : ℕ) (n : List ℕ) (module_file : ℕ) (name : List ℕ) → Bool
is_same h n module_file name = h == module_file && bytes_eq n name

pub module_file_is : (h module_file : ℕ) → is_eq (nat_cmp h module_file) ≡ (h == module_file)
module_file_is h module_file = grind (arith, nat_tests)

test_is : (h : ℕ) (n : List ℕ) (module_file : ℕ) (name : List ℕ) → is_eq (ordering_then (slice_cmp nat_cmp n name) (nat_cmp h module_file)) ≡ is_same h n module_file name
test_is h n module_file name =
    is_eq_then (slice_cmp nat_cmp n name) (nat_cmp h module_file)
    ∙ ap (λ b. b && is_eq (nat_cmp h module_file)) (is_eq-slice_cmp n name)
    ∙ ap (λ b. bytes_eq n name && b) (module_file_is h module_file)
    ∙ and_swapped (bytes_eq n name) (h == module_file)

-- a node more before the others
pub told_new : (old new : BTreeMap (Bor (List ℕ) × ℕ) NodeId) (h : ℕ) (n : Bor (List ℕ)) (number : NodeId)
    → UpdatesBy (λ x y. ordering_then (slice_cmp nat_cmp x.0.now y.0.now) (nat_cmp x.1 y.1)) (λ y. ordering_then (slice_cmp nat_cmp n.now y.0.now) (nat_cmp h y.1)) old new (Some number)
    → (module_file : ℕ) (name : List ℕ) → lookup_in new module_file name ≡ told_with (lookup_in old) h n.now number module_file name
told_new old new h n number u module_file name =
    u.0 (record { ref_ptr = (0, 0); now = name }, module_file)
    ∙ ap (λ b. cond b (Some number) (lookup_in old module_file name)) (test_is h n.now module_file name)

-- one more of the numbered nodes
pub told_next : (rows : List Row) (module_file : ℕ) (name : List ℕ) (cs : List NodeId) (i : ℕ) (c : NodeId) (old new : NameNumbers) → slice_get cs i ≡ Some c
    → old module_file name ≡ find (is_called_at rows module_file name) (drop (i + 1) cs) → new module_file name ≡ told_before old (slice_get rows c.0) c module_file name
    → new module_file name ≡ find (is_called_at rows module_file name) (drop i cs)
told_next rows module_file name cs i c old new at before is =
    let test : NodeId → Bool = is_called_at rows module_file name in
    is
    ∙ ap (λ (o : Option NodeId). cond (test c) (Some c) o) before
    ∙ ap (find test) (sym (drop_more cs i c (slice_get_within cs i c at) ∙ ap (λ (x : NodeId). x ∷ drop (i + 1) cs) (get_or_from_slice_get cs i c c at)))
