-- Tables that are filled along an order of the types.
use Rattle.std.proofs.Common.{◌≡◌, ◌≢◌, ℕ, ◌+◌, ◌<◌, ◌≤◌, ◌↔◌, ◌⊎◌, inl, inr, zero, suc, Bool, true, false, List, [], ◌∷◌, length, take, get_or, refl, sym, ◌∙◌, ap, subst, arith, Option, Some, None, not, codes}
use Rattle.std.specs.Str.{bytes_eq}
use Rattle.std.specs.List.{Contains, slice_get}
use Rattle.std.proofs.lemmas.Bool.{cases_eq, false≢true}
use Rattle.std.proofs.lemmas.List.{take_more, take_all}
use Rattle.std.proofs.lemmas.List.Elements.{Contains-append_cases}
use Rattle.std.proofs.lemmas.Option.{same_Some}
use Rattle.yv_link_scopes.specs.Files.{Files}
use Rattle.yv_link_scopes.specs.Rows.{Row, name_in}
use Rattle.yv_link_scopes.specs.RowList.{rows_of}
use Rattle.yv_link_definitions.specs.BuiltIn.{is_built_in}
use Rattle.yv_link_definitions.specs.Refers.{is_type}
use Rattle.yv_type_chains.specs.Types.{IsTypeAt}
use Rattle.yv_base_tables.specs.Slots.{at}
use Rattle.yv_types.specs.InnerLeafrefTables.{AreFound}
use Rattle.yv_types.specs.Referrals.{HasReferral, other}
use Rattle.yv_types.specs.declared.leafref_path.TypeLeafref.{TypeLeafref}
use Rattle.yv_types.proofs.LeafrefOnce.{both_true}

none_some : {A : Type 0} (x : A) → None ≡ Some x → ⊥
none_some x e = cc

one_in : (n m : ℕ) → Contains (n ∷ []) m → n ≡ m
one_in n m (zero, l, e) = e
one_in n m (suc k, l, e) = absurd (omega (arith, l))

next_in : (order : List ℕ) (i n k : ℕ) → i < length order → n ≡ get_or order i 0 → Contains (take (i + 1) order) k → Contains (take i order) k ⊎ (k ≡ n)
next_in order i n k l e c = elim (Contains-append_cases (take i order) (get_or order i 0 ∷ []) k (subst (λ xs. Contains xs k) (take_more order i 0 l) c)) [
  | inl a ↦ inl a
  | inr b ↦ inr (sym (e ∙ one_in (get_or order i 0) k b))
]

item_itself : (xs : List ℕ) (i d : ℕ) → i < length xs → get_or xs i (get_or xs i d) ≡ get_or xs i d
item_itself [] i d l = absurd (omega (arith, l))
item_itself (x ∷ xs) zero d l = refl
item_itself (x ∷ xs) (suc i) d l = item_itself xs i d (omega (arith, l))

pub item_in : (xs : List ℕ) (i : ℕ) → i < length xs → Contains xs (get_or xs i 0)
item_in xs i l = (i, l, item_itself xs i 0 l)

-- one number more
pub found_more : (files : Files) (order : List ℕ) (i n : ℕ) (old new : List (Option TypeLeafref)) → i < length order → n ≡ get_or order i 0 → HasReferral files n (at new n) → ((k : ℕ) → k ≢ n → at new k ≡ at old k) → AreFound files (Contains (take i order)) old → AreFound files (Contains (take (i + 1) order)) new
found_more files order i n old new l e here else before k c = elim (cases_eq k n) [
  | inl same ↦ subst (λ m. HasReferral files m (at new m)) (sym same) here
  | inr ne ↦ elim (next_in order i n k l e c) [
    | inl a ↦ subst (HasReferral files k) (sym (else k ne)) (before k a)
    | inr same ↦ absurd (ne same)
  ]
]

-- still nothing for what isn't a type
pub blank_more : (rows : List Row) (n : ℕ) (old new : List (Option TypeLeafref)) → IsTypeAt rows n → ((k : ℕ) → k ≢ n → at new k ≡ at old k) → ((k : ℕ) → (IsTypeAt rows k → ⊥) → at old k ≡ None) → (k : ℕ) → (IsTypeAt rows k → ⊥) → at new k ≡ None
blank_more rows n old new type else before k out = else k (λ same. out (subst (IsTypeAt rows) (sym same) type)) ∙ before k out

by_flag : (rows : List Row) (k : ℕ) (r : Row) (b : Bool) → slice_get rows k ≡ Some r → is_type r ≡ b → IsTypeAt rows k ⊎ (IsTypeAt rows k → ⊥)
by_flag rows k r true e is = inl (r, e, is)
by_flag rows k r false e is = inr (λ t. false≢true (sym is ∙ ap is_type (same_Some r t.0 (sym e ∙ t.1)) ∙ t.2))

type_or_not : (rows : List Row) (k : ℕ) (o : Option Row) → slice_get rows k ≡ o → IsTypeAt rows k ⊎ (IsTypeAt rows k → ⊥)
type_or_not rows k None e = inr (λ t. none_some t.0 (sym e ∙ t.1))
type_or_not rows k (Some r) e = by_flag rows k r (is_type r) e refl

-- what isn't a type says nothing
found_out : (files : Files) (k : ℕ) → (IsTypeAt (rows_of files) k → ⊥) → HasReferral files k None
found_out files k out =
    other (λ l. out (l.0, l.1, (both_true (is_type l.0) (bytes_eq (name_in l.0) (codes "leafref")) l.2).0))
    (λ j f.
    let r : Row = f.refers.statement in
    out (r, f.refers.at, (both_true (is_type r) (not (is_built_in (name_in r))) f.refers.names).0))

-- all numbers
pub found_all : (files : Files) (order : List ℕ) (i : ℕ) (found : List (Option TypeLeafref)) → length order ≤ i → ((a : ℕ) → Contains order a ↔ IsTypeAt (rows_of files) a) → AreFound files (Contains (take i order)) found → ((k : ℕ) → (IsTypeAt (rows_of files) k → ⊥) → at found k ≡ None) → (k : ℕ) → HasReferral files k (at found k)
found_all files order i found past exact all blank k = elim (type_or_not (rows_of files) k (slice_get (rows_of files) k) refl) [
  | inl type ↦ all k (subst (λ xs. Contains xs k) (sym (take_all i order past)) ((exact k).1 type))
  | inr out ↦ subst (HasReferral files k) (sym (blank k out)) (found_out files k out)
]
