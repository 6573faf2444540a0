-- The documents that are given for the names of sources.
use Rattle.std.specs.Prelude.{◌≡◌, ℕ, List, map, Option, Some}

-- Each name has the document that is given for it, in their order. Documents of one name are equal,
-- since they are looked up by their names.
abbrev pub AreNamed : (lookup : List ℕ → Option (List ℕ)) → (names documents : List (List ℕ))
    → Type 0
AreNamed lookup names documents = map lookup names ≡ map Some documents

-- there is a document for each name, and those of one name are equal
abbrev pub HaveNames : (names documents : List (List ℕ)) → Type 0
HaveNames names documents = (lookup : List ℕ → Option (List ℕ)) × AreNamed lookup names documents
