-- The files of folders, in order.
use Rattle.std.specs.Prelude.{ℕ, ◌+◌, List, [], ◌∷◌, ◌++◌, map, string_bytes, if◌then◌else◌}
use Rattle.std.specs.List.{ends_with}
use Rattle.std.specs.Bool.{nat_eq}
use Rattle.yv_search.specs.declared.listing.Folder.{Folder as FolderValue}

-- a folder: its name, and the paths of its files from it, in order
pub record Folder : Type 0 where
  pub name : List ℕ
  pub paths : List (List ℕ)

-- a folder of the code
abbrev pub folder_of : FolderValue → Folder
folder_of f = record { name = string_bytes f.name; paths = map string_bytes f.paths.items }

-- a file of a folder: the number of the folder, its name, and the path from it
pub record ListedFile : Type 0 where
  pub folder : ℕ
  pub folder_name : List ℕ
  pub path : List ℕ

-- the files of the folder of this number
abbrev pub files_in : ℕ → Folder → List ListedFile
files_in n f = map (λ path. record { folder = n; folder_name = f.name; path = path }) f.paths

-- the files of folders, which have numbers from this one on
abbrev pub files_from : ℕ → List Folder → List ListedFile
files_from n [] = []
files_from n (f ∷ fs) = files_in n f ++ files_from (n + 1) fs

-- the files of all folders, in order
abbrev pub files_of : List Folder → List ListedFile
files_of folders = files_from 0 folders

-- the byte `/`
abbrev pub slash : ℕ
slash = 47

-- the name of a file that was found: the folder's, a `/` where that doesn't end in one, and the
-- path
abbrev pub found_name : ListedFile → List ℕ
found_name f =
    f.folder_name ++ (if ends_with nat_eq f.folder_name (slash ∷ []) then [] else slash ∷ [])
    ++ f.path
