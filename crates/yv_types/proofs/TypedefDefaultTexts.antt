-- What typedefs say of their default.
use Rattle.std.proofs.Common.{◌≡◌, ℕ, ◌+◌, ◌<◌, ◌≤◌, inl, inr, zero, suc, Bool, true, false, cond, List, [], ◌∷◌, ◌++◌, length, map, refl, sym, ◌∙◌, ap, arith, Option, Some, None}
use Rattle.std.specs.List.{slice_get}
use Rattle.std.specs.Option.{option_and_then, option_map}
use Rattle.std.proofs.lemmas.Bool.{cases_lt}
use Rattle.std.proofs.lemmas.Option.{same_Some, slice_get_within}
use Rattle.yv_text_statement.specs.Tree.{Tree}
use Rattle.yv_link_scopes.specs.Files.{Briefs, Files, brief_of}
use Rattle.yv_link_scopes.specs.Names.{local_of}
use Rattle.yv_link_scopes.specs.Rows.{Row, name_in}
use Rattle.yv_link_scopes.specs.RowList.{rows_of, statements_of}
use Rattle.yv_link_scopes.specs.Scopes.{MeansFrom, start_of}
use Rattle.yv_link_scopes.specs.Tables.{is_same, place_of_kind}
use Rattle.yv_link_scopes.specs.declared.kind.NameKind.TheVariants.{Typedef}
use Rattle.yv_link_definitions.specs.Duplicates.{is_of}
use Rattle.yv_type_chains.proofs.Words.{both_true}
use Rattle.yv_text_statement.specs.TextInFile.{TextInFile, written_of}
use Rattle.yv_text_statement.specs.declared.written_text.WrittenText.{WrittenText}
use Rattle.yv_types.specs.Defaults.{Means, default_at, default_in}
use Rattle.yv_types.specs.InnerDefaultTables.{AreSaid, said_at, default_of_typedef, text_at}

-- the numbered statement is a typedef
abbrev pub IsTypedefAt : List Row → ℕ → Type 0
IsTypedefAt rows d = (r : Row) × (slice_get rows d ≡ Some r) × (is_of Typedef r ≡ true)

some_none : (d : ℕ) → Some d ≡ None → ⊥
some_none d e = cc

means_from : (rows : List Row) (name : List ℕ) (d : ℕ) (start : Option ℕ) → MeansFrom Typedef rows name start (Some d) → IsTypedefAt rows d
means_from rows name d None h = absurd (some_none d h)
means_from rows name d (Some block) h =
    let named = h.0.2 in
    let r : Row = named.0 in
    (r, named.1, (both_true (is_of Typedef r) (is_same h.0.0 name (place_of_kind Typedef r) (name_in r)) named.2).0)

-- what a type means is a typedef
pub means_typedef : (files : Files) (k d : ℕ) → Means files k d → IsTypedefAt (rows_of files) d
means_typedef files k d m =
    let briefs : Briefs = map brief_of files in
    means_from (rows_of files) (local_of (name_in m.statement)) d (start_of briefs (rows_of files) k (name_in m.statement)) m.means

taken : (b : Bool) (x : Option TextInFile) → b ≡ true → cond b x None ≡ x
taken true x e = refl
taken false x e = absurd (let bad : false ≡ true = e in cc)

said_is : (o : Option Row) (s : Option Tree) (r : Row) → o ≡ Some r → is_of Typedef r ≡ true → option_and_then (λ (q : Row). option_and_then (default_of_typedef q) s) o ≡ option_and_then (λ (q : Row). option_and_then (default_in q.file) s) o
said_is None s r e is = absurd (let bad : None ≡ Some r = e in cc)
said_is (Some q) None r e is = refl
said_is (Some q) (Some t) r e is = taken (is_of Typedef q) (default_in q.file t) (ap (is_of Typedef) (same_Some q r e) ∙ is)

said_there : (files : Files) (d : ℕ) → IsTypedefAt (rows_of files) d → said_at files d ≡ default_at files d
said_there files d (r, at, is) = said_is (slice_get (rows_of files) d) (slice_get (statements_of files) d) r at is

kept_at : {A : Type 0} (xs : List A) (y : A) (k : ℕ) → k < length xs → slice_get (xs ++ y ∷ []) k ≡ slice_get xs k
kept_at [] y k l = absurd (omega (arith, l))
kept_at (x ∷ xs) y zero l = refl
kept_at (x ∷ xs) y (suc k) l = kept_at xs y k (omega (arith, l))

last_at : {A : Type 0} (xs : List A) (y : A) → slice_get (xs ++ y ∷ []) (length xs) ≡ Some y
last_at [] y = refl
last_at (x ∷ xs) y = last_at xs y

-- one text more
pub texts_more : (P : ℕ → Option TextInFile) (n : ℕ) (xs ys : List (Option WrittenText)) (t : Option WrittenText) → length xs ≡ n → ys ≡ xs ++ t ∷ [] → option_map written_of t ≡ P n → ((k : ℕ) → k < n → text_at xs k ≡ P k) → (k : ℕ) → k < n + 1 → text_at ys k ≡ P k
texts_more P n xs ys t len is gives old k l = elim (cases_lt k n) [
  | inl less ↦ ap (λ zs. text_at zs k) is ∙ ap (option_and_then (option_map written_of)) (kept_at xs t k (omega (arith, less, len))) ∙ old k less
  | inr up ↦
      let here : k ≡ length xs = omega (arith, l, up, len) in
      ap (λ zs. text_at zs k) is ∙ ap (λ i. text_at (xs ++ t ∷ []) i) here ∙ ap (option_and_then (option_map written_of)) (last_at xs t) ∙ gives ∙ ap P (sym len ∙ sym here)
]

-- all texts
pub texts_all : (files : Files) (n : ℕ) (xs : List (Option WrittenText)) → length (rows_of files) ≤ n → ((k : ℕ) → k < n → text_at xs k ≡ said_at files k) → AreSaid files xs
texts_all files n xs past told k d m =
    let typedef : IsTypedefAt (rows_of files) d = means_typedef files k d m in
    let within : d < length (rows_of files) = slice_get_within (rows_of files) d typedef.0 typedef.1 in
    told d (omega (arith, past, within)) ∙ said_there files d typedef
