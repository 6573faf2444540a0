-- What a shelf has.
use Rattle.std.specs.Prelude.{ℕ, List, Option, option_map}
use Rattle.std.specs.BTreeMap.{get_by_text}
use Rattle.yv_call.specs.declared.shelf.DocumentShelf.{DocumentShelf}

-- the document of a name
abbrev pub document_of : DocumentShelf → (name : List ℕ) → Option (List ℕ)
document_of shelf name = option_map (λ d. d.now) (get_by_text shelf.documents name)
