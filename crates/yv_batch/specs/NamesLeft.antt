-- The documents that a list of names still has.
use Rattle.std.specs.Prelude.{◌||◌, ℕ, Bool, List, string_bytes, if◌then◌else◌}
use Rattle.std.specs.declared.alloc.Global.{Global}
use Rattle.std.specs.declared.option.Option.{Option}
use Rattle.std.specs.declared.option.Option.TheVariants.{None, Some}
use Rattle.std.specs.declared.vec.Vec.{Vec}
use Rattle.yv_batch.specs.AskedDocument.{AskedDocument, ReadResult}
use Rattle.yv_batch.specs.NameDocuments.{name_documents}
use Rattle.yv_batch.specs.PiecesLeft.{left_of}
use Rattle.yv_batch.specs.declared.names.NameList.{NameList}
use Rattle.yv_batch.specs.declared.names.NamedFiles.{NamedFiles}

-- the documents of the names that bytes list, where these and the files are known
abbrev pub names_known : (end : ℕ) → Option (List ℕ → ReadResult) → Option (List ℕ)
    → Option (List AskedDocument)
names_known end None left = None
names_known end (Some files) None = None
names_known end (Some files) (Some bytes) = Some (name_documents end files bytes)

-- the same, unless a name was lost
abbrev pub names_left : (end : ℕ) → (is_lost : Bool) → Option (List ℕ → ReadResult)
    → Option (List ℕ) → Option (List AskedDocument)
names_left end is_lost files left = if is_lost then None else names_known end files left

-- what is still to come of a list, where it is known
abbrev pub list_left : {R : Type 0} → (remaining : R → Option (List ℕ))
    → (files : Option (List ℕ → ReadResult)) → NameList R → Option (List AskedDocument)
list_left remaining files l =
    names_left l.end (l.has_lost || l.is_broken) files (left_of remaining l.pieces)

-- a name of the list, or that of the list's source
abbrev pub name_or : (source : List ℕ) → Option (Vec ℕ Global) → List ℕ
name_or source None = source
name_or source (Some name) = name.items

-- the name of the document that was fetched last: that of the source where a name was lost
abbrev pub last_of : {R : Type 0} → NameList R → List ℕ
last_of l = name_or (string_bytes l.source) l.name

-- what is still to come of a supply, where it is known
abbrev pub names_of : {R F : Type 0} → (remaining : R → Option (List ℕ))
    → (files : F → Option (List ℕ → ReadResult)) → NamedFiles R F → Option (List AskedDocument)
names_of remaining files n = list_left remaining (files n.files) n.list
