-- Paths of files that are listed.
use Rattle.std.specs.Prelude.{◌≡◌, ℕ, ◌&&◌, ◌==◌, not, Bool, true, List, All, length, leb, ltb, count_by, codes, string_bytes, sum_by}
use Rattle.std.specs.Bool.{nat_eq}
use Rattle.std.specs.Char.{is_control}
use Rattle.std.specs.List.{list_all, ends_with}
use Rattle.std.specs.Str.{chars}
use Rattle.yv_search.specs.declared.listing.Folder.{Folder}
use Rattle.yv_search.specs.Listing.{found_name, slash}

-- no character is a control (00 to 1F, 7F to 9F)
abbrev pub has_no_control : List ℕ → Bool
has_no_control characters = list_all (λ c. not (is_control c)) characters

-- a path from a folder of this name, with the name before it
abbrev pub whole_path : (folder path : List ℕ) → List ℕ
whole_path folder path = found_name (record { folder = 0; folder_name = folder; path = path })

-- how many `/` are between the parts of a path
abbrev pub slashes : List ℕ → ℕ
slashes path = count_by (λ b. b == slash) path

-- A path that ends in `.yang` has at most 16 parts, no control, and with its folder at most 4,095
-- bytes.
abbrev pub is_module_path : (path whole : List ℕ) → Bool
is_module_path path whole =
    leb (length whole) 4095 && ends_with nat_eq path (codes ".yang")
    && ltb (slashes path) 16 && has_no_control (chars path)

-- the same of a path and its folder
abbrev pub is_listed : (folder path : List ℕ) → Bool
is_listed folder path = is_module_path path (whole_path folder path)

-- each path of a folder is one that is listed
abbrev pub HasListed : Folder → Type 0
HasListed f = All (λ path. is_listed (string_bytes f.name) (string_bytes path) ≡ true) f.paths.items

-- how many paths folders have together
abbrev pub path_count : List Folder → ℕ
path_count folders = sum_by (λ (f : Folder). length f.paths.items) folders
