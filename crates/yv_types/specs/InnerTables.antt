-- Inner definitions, which only private clauses and the tables cite: plain types by number.
use Rattle.std.specs.Prelude.{◌≡◌, ◌<◌, ◌⊎◌, ℕ, List, [], ◌∷◌, ◌++◌, Option, Some, None, map}
use Rattle.std.specs.Option.{option_and_then, option_map}
use Rattle.std.specs.Rc.{rc_slice_items}
use Rattle.yv_base_tables.specs.Table.{item_of}
use Rattle.yv_base_tables.specs.declared.table.Table.{Table}
use Rattle.yv_text_statement.specs.Selection.{ModuleChoice}
use Rattle.yv_link_scopes.specs.Files.{Files, brief_of}
use Rattle.yv_link_scopes.specs.RowList.{rows_of}
use Rattle.yv_values.specs.Types.{Plain, plain_of}
use Rattle.yv_values.specs.NameOrder.{Rises, is_named}
use Rattle.yv_type_chains.specs.Types.{Follows, IsTypeAt}
use Rattle.yv_text_statement.specs.Tree.{Tree, trees}
use Rattle.yv_type_restrictions.specs.Types.{HasPlainType, IsTypeAt as IsType}
use Rattle.yv_type_enums.specs.Types.{HasNames, NamesView, Truth}
use Rattle.yv_types.specs.Spaces.{Space, of_kind}
use Rattle.yv_types.specs.declared.table.SharedTypes.{SharedTypes}

-- the plain types of a list
abbrev pub plains : SharedTypes → List Plain
plains shared = map plain_of (rc_slice_items shared.types)

-- the number of a list, and its plain types
abbrev pub entry_of : SharedTypes → ℕ × List Plain
entry_of shared = (shared.list, plains shared)

-- those at a place, if there are some
abbrev pub entry_at : Table SharedTypes → ℕ → Option (ℕ × List Plain)
entry_at spaces k = option_map entry_of (item_of spaces k)

-- lists of one number have the same plain types
abbrev pub AreNumbered : Table SharedTypes → Type 0
AreNumbered spaces = (j k : ℕ) (x y : ℕ × List Plain) → entry_at spaces j ≡ Some x
    → entry_at spaces k ≡ Some y → x.0 ≡ y.0 → x.1 ≡ y.1

-- their numbers are below this one
abbrev pub AreBelow : Table SharedTypes → ℕ → Type 0
AreBelow spaces next = (k : ℕ) (x : ℕ × List Plain) → entry_at spaces k ≡ Some x → x.0 < next

-- a list has this number, or it is one of those that are there
abbrev pub IsNewOrThere : Table SharedTypes → ℕ → Option SharedTypes → Type 0
IsNewOrThere spaces next space = (x : ℕ × List Plain) → option_map entry_of space ≡ Some x
    → (x.0 ≡ next) ⊎ ((k : ℕ) × (entry_at spaces k ≡ Some x))

-- the plain types at a place, if there are some
abbrev pub plains_at : Table SharedTypes → ℕ → Option (List Plain)
plains_at spaces k = option_map plains (item_of spaces k)

-- plain types and those of members after them, if each has some
abbrev pub joined_from : Table SharedTypes → List Plain → List ℕ → Option (List Plain)
joined_from spaces all [] = Some all
joined_from spaces all (m ∷ ms) =
    option_and_then (λ ps. joined_from spaces (all ++ ps) ms) (plains_at spaces m)

-- these are the plain types of the numbered statement, or it has none
pub record IsSpace (files : Files) (truth : Truth) (choice : ModuleChoice) (k : ℕ)
    (space : Option (List Plain)) : Type 0 where
  pub sound : (ps : List Plain) → space ≡ Some ps → Space files truth choice k ps
  pub full : space ≡ None → (ps : List Plain) → Space files truth choice k ps → ⊥

-- the table has the plain types of those
abbrev pub AreKnown : Files → Truth → ModuleChoice → (ℕ → Type 0) → Table SharedTypes → Type 0
AreKnown files truth choice Those spaces =
    (k : ℕ) → Those k → IsSpace files truth choice k (plains_at spaces k)

-- an enumeration or bits of the names that are values
abbrev pub IsListed : NamesView → Plain → Type 0
IsListed told p = (ns : List (List ℕ)) × (p ≡ of_kind told.kind ns) × Rises ns
    × ((s : List ℕ) → is_named ns s ≡ told.value s)

-- the numbered statement has no plain type of its own and no names
pub record IsBare (files : Files) (truth : Truth) (k : ℕ) : Type 0 where
  pub plain : (p : Plain) → HasPlainType files k p → ⊥
  pub names : (told : NamesView) → HasNames files truth k told → ⊥

-- and it follows none
abbrev pub FollowsNone : Files → ℕ → Type 0
FollowsNone files k = (j : ℕ) → Follows (map brief_of files) (rows_of files) k j → ⊥

-- the numbered statement is a type that says nothing but a name
abbrev pub IsUnrestricted : Files → ℕ → Type 0
IsUnrestricted files k = (t : Tree) × IsType files k t × (trees t.children ≡ [])

-- the table has the plain types of all types, and of nothing else
pub record AreSpaces (files : Files) (truth : Truth) (choice : ModuleChoice)
    (spaces : Table SharedTypes) : Type 0 where
  pub sound : (k : ℕ) (ps : List Plain) → plains_at spaces k ≡ Some ps
      → Space files truth choice k ps
  pub full : (k : ℕ) → IsTypeAt (rows_of files) k → plains_at spaces k ≡ None → (ps : List Plain)
      → Space files truth choice k ps → ⊥
