-- The documents that are given for the sources of a request.
use Rattle.std.specs.Prelude.{ℕ, List, [], ◌∷◌, ◌++◌}
use Rattle.std.specs.declared.option.Option.{Option}
use Rattle.std.specs.declared.option.Option.TheVariants.{None, Some}
use Rattle.yv_batch.specs.AskedDocument.{AskedDocument, ReadResult, Unread}
use Rattle.yv_batch.specs.SourceDocuments.{opened_documents}
use Rattle.yv_batch.specs.declared.sources.SourceKind.{SourceKind}
use Rattle.yv_batch.specs.declared.sources.SourceKind.TheVariants as source
use Rattle.yv_job.specs.declared.request.Each.{Each}
use Rattle.yv_job.specs.declared.request.Each.TheVariants as each

-- What a source holds, by the word of `--each`: one document where nothing was said. Names of files
-- are ended by line feeds or by NUL.
abbrev pub kind_of : Option Each → SourceKind
kind_of None = source.Document
kind_of (Some each.File) = source.Document
kind_of (Some each.Line) = source.Lines
kind_of (Some each.Name) = source.Names 10
kind_of (Some each.Name0) = source.Names 0

-- no file can be read
abbrev pub no_files : (name : List ℕ) → ReadResult
no_files name = Unread

-- the documents of sources of these names, with the bytes that are given for them in their order
abbrev pub documents_given : SourceKind → (names : List (List ℕ)) → (given : List (List ℕ))
    → List AskedDocument
documents_given kind [] given = []
documents_given kind (name ∷ names) [] = []
documents_given kind (name ∷ names) (bytes ∷ given) =
    opened_documents kind no_files name bytes ++ documents_given kind names given
