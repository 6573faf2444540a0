-- What a selection chooses (RFC 7950, sections 5.6.1, 5.6.5 and 7.20.1).
use Rattle.std.specs.Prelude.{ℕ, ◌&&◌, ◌||◌, not, Bool, List, map, string_bytes}
use Rattle.std.specs.List.{list_any}
use Rattle.std.specs.Str.{bytes_eq}
use Rattle.std.specs.declared.string.String.{String}
use Rattle.std.specs.declared.vec.Vec.{Vec}
use Rattle.std.specs.declared.alloc.Global.{Global}
use Rattle.yv_text_statement.specs.declared.selection.Selection.{Selection}
use Rattle.yv_text_statement.specs.Words.{is_among}

-- a module with some of its features
pub record Entry : Type 0 where
  pub «module» : List ℕ
  pub features : List (List ℕ)

-- a selection, as clauses see it: modules with the features of them that are supported, and modules
-- that are there for their definitions only
pub record ModuleChoice : Type 0 where
  pub support : List Entry
  pub imports : List (List ℕ)

-- a module that is named with features
abbrev pub entry_of : String Global × Vec (String Global) Global → Entry
entry_of p = record { «module» = string_bytes p.0; features = map string_bytes p.1.items }

-- what a selection names
abbrev pub selected_of : Selection → ModuleChoice
selected_of s = record {
  support = map entry_of s.support.items;
  imports = map string_bytes s.import_only.items;
}

-- every module is implemented but those that are there for their definitions only
abbrev pub is_implemented : ModuleChoice → List ℕ → Bool
is_implemented c «module» = not (is_among c.imports «module»)

-- the entry is of this module
abbrev pub is_of : List ℕ → Entry → Bool
is_of «module» e = bytes_eq e.module «module»

-- the entry is of this module, and lists this feature
unfoldable pub is_listed : List ℕ → List ℕ → Entry → Bool
is_listed «module» feature e = is_of «module» e && is_among e.features feature

-- every feature is supported, but of a module that has an entry those only that one of its entries
-- lists
abbrev pub is_supported : ModuleChoice → List ℕ → List ℕ → Bool
is_supported c «module» feature =
    not (list_any (is_of «module») c.support) || list_any (is_listed «module» feature) c.support
