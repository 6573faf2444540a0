-- The documents whose files' names a source lists.
use Rattle.std.specs.Prelude.{ℕ, ◌&&◌, nat_le, List, [], ◌∷◌, length, take, if◌then◌else◌}
use Rattle.std.specs.Str.{is_utf8}
use Rattle.std.specs.declared.option.Option.TheVariants.{None}
use Rattle.yv_batch.specs.AskedDocument.{AskedDocument, ReadResult, Unread}
use Rattle.yv_batch.specs.Pieces.{pieces}

-- what is had of the file of a name: of one that is too long or isn't UTF-8 nothing can be read
abbrev pub file_of_name : (files : List ℕ → ReadResult) → (name : List ℕ) → ReadResult
file_of_name files name =
    if nat_le (length name) 4095 && is_utf8 name then files name else Unread

-- the document of a name: the first bytes of one that is too long show which it is
abbrev pub name_asked : (files : List ℕ → ReadResult) → (name : List ℕ) → AskedDocument
name_asked files name =
    record { name = take 4096 name; line = None; fetched = file_of_name files name }

-- those of names; an empty one is passed over
abbrev pub names_asked : (files : List ℕ → ReadResult) → List (List ℕ) → List AskedDocument
names_asked files [] = []
names_asked files ([] ∷ names) = names_asked files names
names_asked files ((x ∷ xs) ∷ names) = name_asked files (x ∷ xs) ∷ names_asked files names

-- those of a source of these bytes, in which each name is ended by the byte `end`
abbrev pub name_documents : (end : ℕ) → (files : List ℕ → ReadResult) → (bytes : List ℕ)
    → List AskedDocument
name_documents end files bytes = names_asked files (pieces end bytes)
