-- What a prefix refers to.
use Rattle.std.proofs.Common.{◌≡◌, ℕ, ◌+◌, suc, ◌&&◌, Bool, true, false, cond, List, [], ◌∷◌, map, refl, sym, ◌∙◌, ap, arith, Option, Some, None, eqb}
use Rattle.std.specs.List.{filter, find, position_from, slice_get}
use Rattle.std.specs.Option.{option_and_then, option_map}
use Rattle.std.specs.Str.{bytes_eq}
use Rattle.std.proofs.lemmas.Option.{same_Some}
use Rattle.std.proofs.lemmas.Slice.Eq.{bytes_eq-Decides}
use Rattle.yv_link_scopes.specs.Files.{Brief, Briefs, Files, brief_of, file_named}
use Rattle.yv_link_scopes.specs.Rows.{Row, name_in}
use Rattle.yv_link_scopes.specs.RowList.{rows_of}
use Rattle.yv_link_scopes.specs.Scopes.{module_of as file_of}
use Rattle.yv_link_scopes.specs.Tables.{first_of, is_same, place_of_kind}
use Rattle.yv_link_scopes.specs.declared.kind.NameKind.TheVariants.{Prefix}
use Rattle.yv_link_scopes.proofs.Meanings.{first_passing}
use Rattle.yv_link_definitions.specs.Duplicates.{is_of}
use Rattle.yv_values.specs.Scopes.{module_of}
use Rattle.yv_types.specs.Scopes.{binding_at, bindings_in, is_prefix_in, name_or_none}

none_some : {A : Type 0} (x : A) → None ≡ Some x → ⊥
none_some x e = cc

-- the first that passes stands where the first place is
abbrev Finds : {X : Type 0} → (X → Bool) → ℕ → List X → ℕ → Type 0
Finds {X} p n xs k = (i : ℕ) × (n + i ≡ k) × (find p xs ≡ slice_get xs i)

module _ {X : Type 0} (p : X → Bool) where
  finds_by : (n : ℕ) (x : X) (xs : List X) (k : ℕ) (b : Bool) → p x ≡ b → (position_from p (n + 1) xs ≡ Some k → Finds p (n + 1) xs k) → cond b (Some n) (position_from p (n + 1) xs) ≡ Some k → Finds p n (x ∷ xs) k
  finds_by n x xs k true is further e = (0, omega (arith, same_Some n k e), ap (λ b. cond b (Some x) (find p xs)) is)
  finds_by n x xs k false is further e = let q = further e in (suc q.0, omega (arith, q.1), ap (λ b. cond b (Some x) (find p xs)) is ∙ q.2)

  finds : (n : ℕ) (xs : List X) (k : ℕ) → position_from p n xs ≡ Some k → Finds p n xs k
  finds n [] k e = absurd (none_some k e)
  finds n (x ∷ xs) k e = finds_by n x xs k (p x) refl (finds (n + 1) xs k) e

module _ (rows : List Row) (file : ℕ) (prefix : List ℕ) where
  abbrev test : Row → Bool
  test r = is_of Prefix r && is_same file prefix (place_of_kind Prefix r) (name_in r)

  abbrev module_name : Row → List ℕ
  module_name r = name_or_none (slice_get rows r.scope)

  abbrev bound_by : List Row → Option (List ℕ)
  bound_by rs = module_of (map (binding_at rows) (filter (is_prefix_in file) rs)) prefix

  chosen : (c : Bool) (r : Row) (rest : Option (List ℕ)) (found : Option Row) → rest ≡ option_map module_name found → cond c (Some (module_name r)) rest ≡ option_map module_name (cond c (Some r) found)
  chosen true r rest found e = refl
  chosen false r rest found e = e

  one_more : (a b : Bool) (r : Row) (rs : List Row) → bound_by rs ≡ option_map module_name (find test rs) → module_of (map (binding_at rows) (cond (a && b) (r ∷ filter (is_prefix_in file) rs) (filter (is_prefix_in file) rs))) prefix ≡ option_map module_name (cond (a && (b && bytes_eq (name_in r) prefix)) (Some r) (find test rs))
  one_more true true r rs e = chosen (bytes_eq (name_in r) prefix) r (bound_by rs) (find test rs) e
  one_more true false r rs e = e
  one_more false b r rs e = e

  bound_first : (rs : List Row) → bound_by rs ≡ option_map module_name (find test rs)
  bound_first [] = refl
  bound_first (r ∷ rs) = one_more (is_of Prefix r) (eqb r.file file) r rs (bound_first rs)

module _ (files : Briefs) (m : ℕ) (f : Brief) (at : slice_get files m ≡ Some f) where
  name_at : (name : List ℕ) → file_named files name ≡ Some m → name ≡ f.name
  name_at name e =
      let found = (first_passing (λ (g : Brief). bytes_eq g.name name) files (Some m) e).0 in
      sym ((bytes_eq-Decides found.0.name name).0 found.2) ∙ ap (λ (g : Brief). g.name) (same_Some found.0 f (sym found.1 ∙ at))

  by_scope : (o : Option Row) → option_and_then (λ (s : Row). file_named files (name_in s)) o ≡ Some m → name_or_none o ≡ f.name
  by_scope None e = absurd (none_some m e)
  by_scope (Some s) e = name_at (name_in s) e

  by_row : (rows : List Row) (o : Option Row) → option_and_then (λ (p : Row). option_and_then (λ (s : Row). file_named files (name_in s)) (slice_get rows p.scope)) o ≡ Some m → option_map (module_name rows 0 []) o ≡ Some f.name
  by_row rows None e = absurd (none_some m e)
  by_row rows (Some p) e = ap Some (by_scope (slice_get rows p.scope) e)

  by_first : (rows : List Row) (file : ℕ) (prefix : List ℕ) (o : Option ℕ) → first_of Prefix rows file prefix ≡ o → option_and_then (λ k. option_and_then (λ (p : Row). option_and_then (λ (s : Row). file_named files (name_in s)) (slice_get rows p.scope)) (slice_get rows k)) o ≡ Some m → bound_by rows file prefix rows ≡ Some f.name
  by_first rows file prefix None first e = absurd (none_some m e)
  by_first rows file prefix (Some k) first e =
      let found = finds (test rows file prefix) 0 rows k first in
      let here : found.0 ≡ k = omega (arith, found.1) in
      bound_first rows file prefix rows
      ∙ ap (option_map (module_name rows file prefix)) (found.2 ∙ ap (slice_get rows) here)
      ∙ by_row rows (slice_get rows k) e

pub stands_for : (files : Files) (file m : ℕ) (prefix : List ℕ) (f : Brief) → file_of (map brief_of files) (rows_of files) file prefix ≡ Some m → slice_get (map brief_of files) m ≡ Some f → module_of (bindings_in files file) prefix ≡ Some f.name
stands_for files file m prefix f e at = by_first (map brief_of files) m f at (rows_of files) file prefix (first_of Prefix (rows_of files) file prefix) refl e
