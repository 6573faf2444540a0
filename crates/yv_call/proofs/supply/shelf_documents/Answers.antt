use Rattle.std.proofs.Common.{◌∙◌, Some, ap, map, string_bytes}
use Rattle.yv_call.specs.ShelfDocuments.{document_of}
use Rattle.yv_batch.specs.SourcesLeft.{sources_known}
use Rattle.yv_call.specs.Supplies.{kind_of, no_files}
use Rattle.yv_call.proofs.SupplyLemmas.{documents_are}
use Rattle.yv_call.proofs.supply.shelf_documents.Goals as goal

pub returns : goal.returns
returns c = λ documents are.
    c.new.ensures
    ∙ ap (λ k. sources_known k (Some (document_of c.args.shelf)) (Some no_files) (map string_bytes c.args.names.items)) c.kind_of.ensures
    ∙ ap Some (documents_are (document_of c.args.shelf) (kind_of c.args.each)
    (map string_bytes c.args.names.items) documents are)
