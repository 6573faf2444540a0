-- The documents of sources, one source after the other.
use Rattle.std.specs.Prelude.{ℕ, List, [], ◌∷◌, flat_map, take}
use Rattle.std.specs.declared.option.Option.{Option}
use Rattle.std.specs.declared.option.Option.TheVariants.{None, Some}
use Rattle.yv_batch.specs.AskedDocument.{AskedDocument, Read, ReadResult, Unread}
use Rattle.yv_batch.specs.LineDocuments.{line_documents}
use Rattle.yv_batch.specs.NameDocuments.{name_documents}
use Rattle.yv_batch.specs.declared.sources.SourceKind.{SourceKind}
use Rattle.yv_batch.specs.declared.sources.SourceKind.TheVariants as is

-- the documents of a source of these bytes
abbrev pub opened_documents : SourceKind → (files : List ℕ → ReadResult) → (source : List ℕ)
    → (bytes : List ℕ) → List AskedDocument
opened_documents is.Document files source bytes =
    record { name = source; line = None; fetched = Read (take 16777217 bytes) } ∷ []
opened_documents is.Lines files source bytes = line_documents source bytes
opened_documents (is.Names end) files source bytes = name_documents end files bytes

-- the documents of a source: one that can't be opened is one that can't be read
abbrev pub source_documents : SourceKind → (files : List ℕ → ReadResult) → (source : List ℕ)
    → Option (List ℕ) → List AskedDocument
source_documents kind files source None =
    record { name = source; line = None; fetched = Unread } ∷ []
source_documents kind files source (Some bytes) = opened_documents kind files source bytes

-- the documents of sources of these names
abbrev pub sources_documents : SourceKind → (contents : List ℕ → Option (List ℕ))
    → (files : List ℕ → ReadResult) → (sources : List (List ℕ)) → List AskedDocument
sources_documents kind contents files sources =
    flat_map (λ source. source_documents kind files source (contents source)) sources
