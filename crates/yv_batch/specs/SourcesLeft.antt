-- The documents that sources still have.
use Rattle.std.specs.Prelude.{ℕ, Bool, true, false, List, [], ◌∷◌, ◌++◌, map, string_bytes}
use Rattle.std.specs.declared.option.Option.{Option}
use Rattle.std.specs.declared.option.Option.TheVariants.{None, Some}
use Rattle.yv_batch.specs.AskedDocument.{AskedDocument, ReadResult}
use Rattle.yv_batch.specs.LinesLeft.{lines_of}
use Rattle.yv_batch.specs.NamesLeft.{last_of, list_left}
use Rattle.yv_batch.specs.SourceDocuments.{sources_documents}
use Rattle.yv_batch.specs.declared.sources.Part.{Part}
use Rattle.yv_batch.specs.declared.sources.Part.TheVariants as part
use Rattle.yv_batch.specs.declared.sources.SourceKind.{SourceKind}
use Rattle.yv_batch.specs.declared.sources.Sources.{Sources}

-- the documents of sources, where what they and files have is known
abbrev pub sources_known : SourceKind → Option (List ℕ → Option (List ℕ))
    → Option (List ℕ → ReadResult) → (sources : List (List ℕ)) → Option (List AskedDocument)
sources_known kind None files sources = None
sources_known kind (Some contents) None sources = None
sources_known kind (Some contents) (Some files) sources =
    Some (sources_documents kind contents files sources)

-- the same, unless one was lost
abbrev pub unopened_left : SourceKind → (is_lost : Bool) → Option (List ℕ → Option (List ℕ))
    → Option (List ℕ → ReadResult) → (sources : List (List ℕ)) → Option (List AskedDocument)
unopened_left kind true contents files sources = None
unopened_left kind false contents files sources = sources_known kind contents files sources

-- the documents of a source that is open
abbrev pub part_left : {R : Type 0} → (remaining : R → Option (List ℕ))
    → (files : Option (List ℕ → ReadResult)) → Part R → Option (List AskedDocument)
part_left remaining files part.Start = Some []
part_left remaining files (part.Done name) = Some []
part_left remaining files (part.Lines l) = lines_of remaining l
part_left remaining files (part.Names l) = list_left remaining files l

-- the name of the document of it that was fetched last
abbrev pub part_name : {R : Type 0} → Part R → List ℕ
part_name part.Start = []
part_name (part.Done name) = string_bytes name
part_name (part.Lines l) = string_bytes l.source
part_name (part.Names l) = last_of l

-- the first of these documents and the others, where both are known
abbrev pub both_left : Option (List AskedDocument) → Option (List AskedDocument)
    → Option (List AskedDocument)
both_left None others = None
both_left (Some first) None = None
both_left (Some first) (Some others) = Some (first ++ others)

-- what is still to come, where it is known
abbrev pub sources_left : {R O F : Type 0} → (remaining : R → Option (List ℕ))
    → (contents : O → Option (List ℕ → Option (List ℕ)))
    → (files : F → Option (List ℕ → ReadResult)) → Sources R O F → Option (List AskedDocument)
sources_left remaining contents files s = both_left (part_left remaining (files s.files) s.part)
    (unopened_left s.kind s.has_lost (contents s.opener) (files s.files)
    (map string_bytes s.names.items))

-- the same with one more source, which is to be opened first
abbrev pub left_before : {R O F : Type 0} → (remaining : R → Option (List ℕ))
    → (contents : O → Option (List ℕ → Option (List ℕ)))
    → (files : F → Option (List ℕ → ReadResult)) → (source : List ℕ) → Sources R O F
    → Option (List AskedDocument)
left_before remaining contents files source s =
    both_left (part_left remaining (files s.files) s.part)
    (unopened_left s.kind s.has_lost (contents s.opener) (files s.files)
    (source ∷ map string_bytes s.names.items))
