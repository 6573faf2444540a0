-- What a prefix stands for, by its first declaration.
use Rattle.std.proofs.Common.{◌≡◌, ℕ, ◌+◌, ◌<◌, zero, suc, ◌&&◌, Bool, true, false, cond, if◌then◌else◌, List, [], ◌∷◌, length, map, Option, None, Some, codes, refl, sym, ◌∙◌, ap, arith}
use Rattle.std.specs.List.{slice_get, position_from}
use Rattle.std.specs.Option.{option_map, option_and_then}
use Rattle.std.proofs.lemmas.Option.{same_Some, slice_get-map}
use Rattle.yv_link_scopes.specs.Files.{Briefs, has_word}
use Rattle.yv_link_scopes.specs.Rows.{Row, name_in}
use Rattle.yv_link_scopes.specs.Scopes.{module_of}
use Rattle.yv_link_scopes.specs.Tables.{first_of, is_same, place_of_kind, word_of}
use Rattle.yv_link_scopes.specs.declared.kind.NameKind.TheVariants.{Prefix}
use Rattle.yv_link_scopes.specs.InnerModuleFiles.{declared_module_file, module_file_of_prefix}

both_left : (a b : Bool) → (a && b) ≡ true → a ≡ true
both_left true b h = refl
both_left false b h = h

-- the first place at which something passes
position_hit : {X : Type 0} (p : X → Bool) (k : ℕ) (xs : List X) (a : ℕ) → position_from p k xs ≡ Some a → (j : ℕ) × (x : X) × (a ≡ k + j) × (j < length xs) × (slice_get xs j ≡ Some x) × (p x ≡ true)
position_hit p k [] a h = absurd (let bad : None ≡ Some a = h in cc)
position_hit {X} p k (x ∷ xs) a h = by (p x) refl h (position_hit p (k + 1) xs a)
  where
    by : (b : Bool) → p x ≡ b → cond b (Some k) (position_from p (k + 1) xs) ≡ Some a → (position_from p (k + 1) xs ≡ Some a → (j : ℕ) × (y : X) × (a ≡ k + 1 + j) × (j < length xs) × (slice_get xs j ≡ Some y) × (p y ≡ true)) → (j : ℕ) × (y : X) × (a ≡ k + j) × (j < length (x ∷ xs)) × (slice_get (x ∷ xs) j ≡ Some y) × (p y ≡ true)
    by true e f rest = (zero, x, (let s : k ≡ a = same_Some k a f in omega (arith, s)), omega arith, refl, e)
    by false e f rest = let r = rest f in (suc r.0, r.1, omega (arith, r.2), omega (arith, r.3), r.4, r.5)

-- the first declaration of a prefix is one
first_is : (rows : List Row) (file k : ℕ) (prefix : List ℕ) → first_of Prefix rows file prefix ≡ Some k → (r : Row) × (slice_get rows k ≡ Some r) × (has_word (codes "prefix") r.head ≡ true)
first_is rows file k prefix h =
    let found = position_hit (λ (r : Row). has_word (word_of Prefix) r.head && is_same file prefix (place_of_kind Prefix r) (name_in r)) 0 rows k h in
    let same : k ≡ found.0 = omega (arith, found.2) in
    (found.1, ap (slice_get rows) same ∙ found.4, both_left (has_word (codes "prefix") found.1.head) (is_same file prefix (place_of_kind Prefix found.1) (name_in found.1)) found.5)

pub module_file_is : (files : Briefs) (rows : List Row) (module_files : List (Option ℕ)) (file : ℕ) (prefix : List ℕ) (o : Option ℕ) → map (module_file_of_prefix files rows) rows ≡ module_files → first_of Prefix rows file prefix ≡ o → option_and_then (λ k. option_and_then (λ h. h) (slice_get module_files k)) o ≡ module_of files rows file prefix
module_file_is files rows module_files file prefix None are first = sym (ap (option_and_then (λ k. option_and_then (declared_module_file files rows) (slice_get rows k))) first)
module_file_is files rows module_files file prefix (Some k) are first =
    let found = first_is rows file k prefix first in
    let r : Row = found.0 in
    ap (λ l. option_and_then (λ h. h) (slice_get l k)) (sym are)
    ∙ ap (option_and_then (λ h. h)) (slice_get-map (module_file_of_prefix files rows) rows k ∙ ap (option_map (module_file_of_prefix files rows)) found.1)
    ∙ ap (λ (b : Bool). if b then declared_module_file files rows r else None) found.2
    ∙ sym (ap (option_and_then (declared_module_file files rows)) found.1)
    ∙ sym (ap (option_and_then (λ k. option_and_then (declared_module_file files rows) (slice_get rows k))) first)
