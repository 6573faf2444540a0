-- What one step of a search does.
use Rattle.std.specs.Prelude.{◌≡◌, ◌⊎◌, ℕ, false, List, [], ◌∷◌, ◌++◌}
use Rattle.std.specs.List.{Contains}
use Rattle.yv_search.specs.Listing.{ListedFile, found_name}
use Rattle.yv_search.specs.Search.{RootedFile, State, is_settled}

-- one name is looked for, which wasn't looked for before and which no root has
pub record SeeksOne (s t : State) : Type 0 where
  pub name : List ℕ
  pub sought : t.sought ≡ s.sought ++ name ∷ []
  pub fresh : is_settled s name ≡ false

-- one file more, whose name is that of a file of the listing
pub record TakesOne (listing : List ListedFile) (s t : State) : Type 0 where
  pub file : RootedFile
  pub files : t.files ≡ s.files ++ file ∷ []
  pub listed : ListedFile
  pub among : Contains listing listed
  pub name : file.file.name ≡ found_name listed

-- no file more, or such a one
abbrev pub FindsOne : List ListedFile → State → State → Type 0
FindsOne listing s t = (t.files ≡ s.files) ⊎ TakesOne listing s t
