-- The typedef whose default a type has, along an order.
use Rattle.std.proofs.Common.{◌≡◌, ◌≢◌, ℕ, ◌+◌, ◌<◌, ◌≤◌, ◌↔◌, ◌⊎◌, inl, inr, zero, suc, Bool, true, false, List, [], ◌∷◌, length, map, take, get_or, refl, sym, ◌∙◌, ap, subst, arith, Option, Some, None}
use Rattle.std.specs.Borrow.{Bor}
use Rattle.std.specs.List.{Contains, slice_get}
use Rattle.std.specs.Option.{is_some, option_copied, option_map}
use Rattle.std.proofs.lemmas.Bool.{false≢true}
use Rattle.std.proofs.lemmas.List.{take_all}
use Rattle.std.proofs.lemmas.Option.{same_Some}
use Rattle.yv_link_scopes.specs.Files.{Files, brief_of}
use Rattle.yv_link_scopes.specs.Rows.{Row}
use Rattle.yv_link_scopes.specs.RowList.{rows_of}
use Rattle.yv_link_scopes.specs.declared.kind.NameKind.TheVariants.{Typedef}
use Rattle.yv_link_definitions.specs.Refers.{RefersTo, is_type}
use Rattle.yv_base_tables.specs.Slots.{at}
use Rattle.yv_type_chains.specs.Types.{IsTypeAt, type_of}
use Rattle.yv_type_chains.proofs.FollowedTypes.{names_type, refers_type}
use Rattle.yv_type_chains.proofs.TableWalk.{walk_more}
use Rattle.yv_text_statement.specs.TextInFile.{TextInFile, written_of}
use Rattle.yv_text_statement.specs.declared.written_text.WrittenText.{WrittenText}
use Rattle.yv_types.specs.Defaults.{HasDefault, Means, default_at, no_typedef, nearest, further, no_type}
use Rattle.yv_types.specs.InnerDefaultTables.{AreFound, AreSaid, IsFollowed, text_at, text_from}

none_some : {A : Type 0} (x : A) → None ≡ Some x → ⊥
none_some x e = cc

-- a text that is there
there : (o : Option (Bor WrittenText)) → is_some o ≡ true → (w : TextInFile) × (option_map written_of (option_copied o) ≡ Some w)
there (Some t) e = (written_of t.now, refl)
there None e = absurd (false≢true e)

gone : (o : Option (Bor WrittenText)) → is_some o ≡ false → option_map written_of (option_copied o) ≡ None
gone (Some t) e = absurd (false≢true (sym e))
gone None e = refl

module _ (files : Files) (k : ℕ) (meant : Option ℕ) (told : (d : ℕ) → (meant ≡ Some d) ↔ RefersTo (map brief_of files) (rows_of files) k d) where
  -- no name
  pub found_none : meant ≡ None → HasDefault files k None
  found_none e = no_typedef (λ d m. none_some d (sym e ∙ (told d).1 (Typedef, m)))

  module _ (said : List (Option WrittenText)) (are : AreSaid files said) (type : IsTypeAt (rows_of files) k) (d : ℕ) (is : meant ≡ Some d) where
    means : Means files k d
    means = refers_type (map brief_of files) (rows_of files) k d type.0 type.1 type.2 ((told d).0 is)

    -- the typedef that it names says one
    pub found_here : (o : Option (Bor WrittenText)) → option_map written_of (option_copied o) ≡ text_at said d → is_some o ≡ true → HasDefault files k (text_at said d)
    found_here o e some =
        let w = there o some in
        subst (HasDefault files k) (sym (sym e ∙ w.1)) (nearest means (sym (are k d means) ∙ sym e ∙ w.1))

    silent : (o : Option (Bor WrittenText)) → option_map written_of (option_copied o) ≡ text_at said d → is_some o ≡ false → default_at files d ≡ None
    silent o e none = sym (are k d means) ∙ sym e ∙ gone o none

    -- it says none, and its type has this
    pub found_further : (o : Option (Bor WrittenText)) → option_map written_of (option_copied o) ≡ text_at said d → is_some o ≡ false → (j : ℕ) (w : Option TextInFile) → IsFollowed files k j → HasDefault files j w → HasDefault files k w
    found_further o e none j w f h =
        let same : d ≡ f.definition = same_Some d f.definition (sym is ∙ (told f.definition).1 (Typedef, f.refers)) in
        further means (silent o e none) (ap (type_of (rows_of files)) same ∙ f.stands) h

    ended : (o : Option ℕ) → type_of (rows_of files) d ≡ o → ((j : ℕ) → IsFollowed files k j → ⊥) → o ≡ None
    ended None e out = refl
    ended (Some j) e out = absurd (out j (record { definition = d; refers = means; stands = e }))

    -- it has no type
    pub found_last : (o : Option (Bor WrittenText)) → option_map written_of (option_copied o) ≡ text_at said d → is_some o ≡ false → ((j : ℕ) → IsFollowed files k j → ⊥) → HasDefault files k None
    found_last o e none out =
        no_type means (silent o e none) (ended (type_of (rows_of files) d) refl out)

by_flag : (rows : List Row) (k : ℕ) (r : Row) (b : Bool) → slice_get rows k ≡ Some r → is_type r ≡ b → IsTypeAt rows k ⊎ (IsTypeAt rows k → ⊥)
by_flag rows k r true e is = inl (r, e, is)
by_flag rows k r false e is = inr (λ t. false≢true (sym is ∙ ap is_type (same_Some r t.0 (sym e ∙ t.1)) ∙ t.2))

by_row : (rows : List Row) (k : ℕ) (o : Option Row) → slice_get rows k ≡ o → IsTypeAt rows k ⊎ (IsTypeAt rows k → ⊥)
by_row rows k None e = inr (λ t. none_some t.0 (sym e ∙ t.1))
by_row rows k (Some r) e = by_flag rows k r (is_type r) e refl

-- what isn't a type has none
found_out : (files : Files) (k : ℕ) → (IsTypeAt (rows_of files) k → ⊥) → HasDefault files k None
found_out files k out = no_typedef (λ d m. out (m.statement, m.at, (names_type (map brief_of files) (rows_of files) k d m.statement m.at m).0))

-- all numbers
pub found_all : (files : Files) (said : List (Option WrittenText)) (order : List ℕ) (i : ℕ) (found : List (Option ℕ)) → length order ≤ i → ((a : ℕ) → Contains order a ↔ IsTypeAt (rows_of files) a) → AreFound files said (Contains (take i order)) found → ((k : ℕ) → (IsTypeAt (rows_of files) k → ⊥) → at found k ≡ None) → (k : ℕ) → HasDefault files k (text_from said (at found k))
found_all files said order i found past exact all blank k = elim (by_row (rows_of files) k (slice_get (rows_of files) k) refl) [
  | inl type ↦ all k (subst (λ xs. Contains xs k) (sym (take_all i order past)) ((exact k).1 type))
  | inr out ↦ subst (λ o. HasDefault files k (text_from said o)) (sym (blank k out)) (found_out files k out)
]

item_itself : (xs : List ℕ) (i d : ℕ) → i < length xs → get_or xs i (get_or xs i d) ≡ get_or xs i d
item_itself [] i d l = absurd (omega (arith, l))
item_itself (x ∷ xs) zero d l = refl
item_itself (x ∷ xs) (suc i) d l = item_itself xs i d (omega (arith, l))

pub item_in : (xs : List ℕ) (i : ℕ) → i < length xs → Contains xs (get_or xs i 0)
item_in xs i l = (i, l, item_itself xs i 0 l)

-- one number more
pub found_more : (files : Files) (said : List (Option WrittenText)) (order : List ℕ) (i n : ℕ) (old new : List (Option ℕ)) → i < length order → n ≡ get_or order i 0 → HasDefault files n (text_from said (at new n)) → ((k : ℕ) → k ≢ n → at new k ≡ at old k) → AreFound files said (Contains (take i order)) old → AreFound files said (Contains (take (i + 1) order)) new
found_more files said order i n old new l e here else before = walk_more (λ k o. HasDefault files k (text_from said o)) order i n (at old) (at new) l e here else before

-- still nothing for what isn't a type
pub blank_more : (rows : List Row) (n : ℕ) (old new : List (Option ℕ)) → IsTypeAt rows n → ((k : ℕ) → k ≢ n → at new k ≡ at old k) → ((k : ℕ) → (IsTypeAt rows k → ⊥) → at old k ≡ None) → (k : ℕ) → (IsTypeAt rows k → ⊥) → at new k ≡ None
blank_more rows n old new type else before k out = else k (λ same. out (subst (IsTypeAt rows) (sym same) type)) ∙ before k out

-- the same of lists that are these
pub found_for : (files : Files) (n : ℕ) (said ss : List (Option WrittenText)) (found fs : List (Option ℕ)) (result : Option ℕ) → ss ≡ said → fs ≡ found → (AreSaid files ss → AreFound files ss (IsFollowed files n) fs → HasDefault files n (text_from ss result)) → AreSaid files said → AreFound files said (IsFollowed files n) found → HasDefault files n (text_from said result)
found_for files n said ss found fs result e g h =
    subst (λ (ys : List (Option ℕ)). AreSaid files said → AreFound files said (IsFollowed files n) ys → HasDefault files n (text_from said result)) g
    (subst (λ (xs : List (Option WrittenText)). AreSaid files xs → AreFound files xs (IsFollowed files n) fs → HasDefault files n (text_from xs result)) e h)
