-- The values of defaults of typedefs, which nodes share.
use Rattle.std.proofs.Common.{◌≡◌, ℕ, Bool, true, false, cond, List, [], Option, Some, None, refl, sym, ap, ◌∙◌, subst}
use Rattle.std.specs.Prelude.{IfSome}
use Rattle.std.specs.Option.{unwrap_or}
use Rattle.std.specs.Ordering.{nat_cmp}
use Rattle.std.specs.Cmp.{Equal-is}
use Rattle.std.specs.Map.{lookup}
use Rattle.std.specs.BTreeMap.{BTreeMap, IsEmpty, Updates, get_by, is_at}
use Rattle.std.specs.declared.alloc.Global.{Global}
use Rattle.std.specs.declared.rc.Rc.{Rc}
use Rattle.std.proofs.lemmas.Option.{none-some, same_Some}
use Rattle.std.proofs.lemmas.Map.Lookups.{exact_pairs, exact_unsigned}
use Rattle.yv_text_statement.specs.Tree.{Forest, Tree}
use Rattle.yv_text_statement.specs.declared.keyword.Keyword.TheVariants as word
use Rattle.yv_link_scopes.specs.Files.{Files}
use Rattle.yv_values.specs.Types.{Plain}
use Rattle.yv_values.specs.Values.{Val}
use Rattle.yv_node_content.specs.Definition.{Definition}
use Rattle.yv_types.specs.Types.{default_at, sharing_at, space_at}
use Rattle.yv_types.specs.declared.type_table.Types.{Types}
use Rattle.yv_node_statements.specs.Definitions.{default_of_type, types_in}
use Rattle.yv_node_statements.specs.InnerSharedValues.{AreShared, AreValues, IsByType, Numbers, numbers_cmp, type_values}
use Rattle.yv_node_statements.specs.KnownTypes.{kinds_of}
use Rattle.yv_node_statements.proofs.Firsts.{types_found, types_in-first}
use Rattle.yv_node_properties.specs.Statements.{first_of}

-- numbers that compare as equal are the same
same_numbers : (a b : Numbers) → is_at (numbers_cmp a) b ≡ true → a ≡ b
same_numbers a b h = exact_pairs nat_cmp nat_cmp exact_unsigned exact_unsigned a b ((Equal-is (numbers_cmp a b)).0 h)

-- what holds of whatever there is
pub if_some : {A : Type 0} (o : Option A) (P : A → Type 0) → ((x : A) → o ≡ Some x → P x) → IfSome o P
if_some None P h = tt
if_some (Some x) P h = h x refl

abbrev Values : Type 0
Values = Rc (List Val) Global

-- the values by the default of the type of a definition are those of another one with the same
-- types and the same default of its type
pub by_type_stays : (files : Files) (d e : Definition) (o : Option Values) → d.types ≡ e.types → d.type_default ≡ e.type_default
    → IfSome o (λ v. IsByType files d v.value) → IfSome o (λ v. IsByType files e v.value)
by_type_stays files d e None types default is = is
by_type_stays files d e (Some v) types default is = is ∙ (λ i. type_values files (types i) (default i))

module _ (types : Types) (files : Files) where
  -- the values of one `type` statement are those of all with its numbers
  pub are_values : (file offset : ℕ) (numbers : Numbers) (values : List Val)
      → ((f o : ℕ) → sharing_at types f o ≡ Some numbers → (space_at types f o ≡ space_at types file offset) × (default_at types f o ≡ default_at types file offset))
      → values ≡ type_values files (kinds_of types file offset) (default_at types file offset) → AreValues types files numbers values
  are_values file offset numbers values same is = λ f o at.
      let s = same f o at in
      is ∙ (λ i. type_values files (unwrap_or (sym s.0 i) []) (sym s.1 i))

  -- nothing is kept at first
  pub shared_none : (shared : BTreeMap Numbers Values) → IsEmpty shared → AreShared types files shared
  shared_none shared empty numbers values at = absurd (none-some values (sym (ap (lookup (is_at (numbers_cmp numbers))) empty) ∙ at))

  new_or_there : (b : Bool) (numbers asked : Numbers) (new found : Values) (old : Option Values) → (b ≡ true → numbers ≡ asked)
      → AreValues types files numbers new.value → (old ≡ Some found → AreValues types files asked found.value) → cond b (Some new) old ≡ Some found
      → AreValues types files asked found.value
  new_or_there true numbers asked new found old same are there at =
      subst (λ (k : Numbers). AreValues types files k found.value) (same refl) (subst (λ (v : Values). AreValues types files numbers v.value) (same_Some new found at) are)
  new_or_there false numbers asked new found old same are there at = there at

  -- and then the values of some numbers more
  pub shared_more : (old new : BTreeMap Numbers Values) (numbers : Numbers) (values : Values) → Updates numbers_cmp old new numbers (Some values)
      → AreValues types files numbers values.value → AreShared types files old → AreShared types files new
  shared_more old new numbers values updates are before = λ asked found at.
      new_or_there (is_at (numbers_cmp numbers) asked) numbers asked values found (get_by (numbers_cmp asked) old) (same_numbers numbers asked) are (before asked found) (sym (updates.0 asked) ∙ at)

  -- what is kept for the numbers of the first `type` statement of a block is the values of its
  -- default
  pub at_type : (file : ℕ) (block : Forest) (t : Tree) (numbers : Numbers) (values : List Val) → first_of word.Type block ≡ Some t
      → sharing_at types file t.head.offset ≡ Some numbers → AreValues types files numbers values
      → values ≡ type_values files (types_in (kinds_of types) file block) (default_of_type (default_at types) file (first_of word.Type block))
  at_type file block t numbers values first at are =
      are file t.head.offset at
      ∙ (λ i. type_values files (types_found (kinds_of types) file (sym first i)) (default_of_type (default_at types) file (sym first i)))
      ∙ ap (λ (ps : List Plain). type_values files ps (default_of_type (default_at types) file (first_of word.Type block))) (sym (types_in-first (kinds_of types) file block))
