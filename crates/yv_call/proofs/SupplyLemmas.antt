-- The documents of sources that are looked up by their names.
use Rattle.std.proofs.Common.{◌≡◌, ◌∙◌, ℕ, List, [], ◌∷◌, ◌++◌, Option, Some, map, refl, ap}
use Rattle.yv_batch.specs.SourceDocuments.{opened_documents, source_documents, sources_documents}
use Rattle.yv_batch.specs.declared.sources.SourceKind.{SourceKind}
use Rattle.yv_call.specs.Documents.{AreNamed}
use Rattle.yv_call.specs.Supplies.{documents_given, no_files}

-- they are those that are given
pub documents_are : (lookup : List ℕ → Option (List ℕ)) (kind : SourceKind)
    (names documents : List (List ℕ)) → AreNamed lookup names documents
    → sources_documents kind lookup no_files names ≡ documents_given kind names documents
documents_are lookup kind [] [] are = refl
documents_are lookup kind [] (d ∷ ds) are = absurd (cc)
documents_are lookup kind (n ∷ ns) [] are = absurd (cc)
documents_are lookup kind (n ∷ ns) (d ∷ ds) are =
    let here : lookup n ≡ Some d = cc in
    let there : map lookup ns ≡ map Some ds = cc in
    ap (λ o. source_documents kind no_files n o ++ sources_documents kind lookup no_files ns) here
    ∙ ap (λ l. opened_documents kind no_files n d ++ l) (documents_are lookup kind ns ds there)
