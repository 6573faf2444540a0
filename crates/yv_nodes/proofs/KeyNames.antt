-- The names in keys, with and without a prefix.
use Rattle.std.proofs.Common.{◌≡◌, ℕ, ◌==◌, List, [], ◌∷◌, Bool, true, false, ◌||◌, ◌&&◌, Option, Some, None, refl, ap, ◌∙◌}
use Rattle.std.specs.List.{list_any}
use Rattle.std.specs.Str.{bytes_eq}
use Rattle.yv_node_content.specs.Steps.{Step, has_step, is_step}
use Rattle.yv_nodes.specs.Tree.{Label}
use Rattle.yv_nodes.specs.Labels.{has_key_called, is_key_name}
use Rattle.yv_nodes.specs.Above.{nearest_module_file, nearest_keys}

without : (a h : Bool) → (a && h) ≡ ((h && (a && true)) || (a && false))
without true true = refl
without true false = refl
without false true = refl
without false false = refl

within : (a b h : Bool) → (a && b) ≡ ((h && (a && false)) || (a && b))
within true b true = refl
within true b false = refl
within false b true = refl
within false b false = refl

-- a name of the list's module has no prefix, or one of this module; that of another module has its
-- prefix
one : (list_module_file module_file : ℕ) (name : List ℕ) (o : Option Step) → is_key_name list_module_file module_file name o ≡ ((module_file == list_module_file && is_step None name o) || is_step (Some module_file) name o)
one list_module_file module_file name None = by (module_file == list_module_file)
  where
    by : (h : Bool) → false ≡ ((h && false) || false)
    by true = refl
    by false = refl
one list_module_file module_file name (Some s) = by s.module_file
  where
    by : (g : Option ℕ) → is_key_name list_module_file module_file name (Some (record { module_file = g; name = s.name })) ≡ ((module_file == list_module_file && is_step None name (Some (record { module_file = g; name = s.name }))) || is_step (Some module_file) name (Some (record { module_file = g; name = s.name })))
    by None = without (bytes_eq name s.name) (module_file == list_module_file)
    by (Some g) = within (bytes_eq name s.name) (module_file == g) (module_file == list_module_file)

swapped : (h a b c d : Bool) → (((h && a) || b) || ((h && c) || d)) ≡ ((h && (a || c)) || (b || d))
swapped true true b c d = refl
swapped true false true true d = refl
swapped true false true false d = refl
swapped true false false c d = refl
swapped false a b c d = refl

all : (list_module_file module_file : ℕ) (name : List ℕ) (steps : List (Option Step))
    → list_any (is_key_name list_module_file module_file name) steps ≡ ((module_file == list_module_file && has_step None name steps) || has_step (Some module_file) name steps)
all list_module_file module_file name [] = by (module_file == list_module_file)
  where
    by : (h : Bool) → false ≡ ((h && false) || false)
    by true = refl
    by false = refl
all list_module_file module_file name (o ∷ steps) =
    ap (λ (b : Bool). b || list_any (is_key_name list_module_file module_file name) steps) (one list_module_file module_file name o)
    ∙ ap (λ (b : Bool). ((module_file == list_module_file && is_step None name o) || is_step (Some module_file) name o) || b) (all list_module_file module_file name steps)
    ∙ swapped (module_file == list_module_file) (is_step None name o) (is_step (Some module_file) name o) (has_step None name steps) (has_step (Some module_file) name steps)

-- what the key just above has
pub keyed : (module_file : ℕ) (ls : List Label) (name : List ℕ)
    → has_key_called ls module_file name ≡ ((module_file == nearest_module_file ls && has_step None name (nearest_keys ls)) || has_step (Some module_file) name (nearest_keys ls))
keyed module_file [] name = by (module_file == 0)
  where
    by : (h : Bool) → false ≡ ((h && false) || false)
    by true = refl
    by false = refl
keyed module_file (l ∷ ls) name = all l.module_file module_file name l.defined.keys
