use Rattle.std.proofs.Common.{◌∙◌, ℕ, List, ◌∷◌, Option, Some, ap, map, string_bytes, sym}
use Rattle.std.specs.Option.{option_map}
use Rattle.yv_batch.specs.AskedDocument.{ReadResult}
use Rattle.yv_batch.specs.LineDocuments.{line_documents}
use Rattle.yv_batch.specs.LinesLeft.{lines_of}
use Rattle.yv_batch.specs.NamesLeft.{list_left, names_known}
use Rattle.yv_batch.specs.SourceDocuments.{opened_documents}
use Rattle.yv_batch.specs.SourcesLeft.{both_left, part_left, part_name, sources_left, unopened_left}
use Rattle.yv_batch.specs.declared.sources.SourceKind.{SourceKind}
use Rattle.yv_batch.proofs.SourceLemmas.{begun, steps_after}
use Rattle.yv_batch.proofs.sources.Sources.begin.Goals as goal

pub returns-in-Lines-clause-steps : goal.returns-in-Lines-clause-steps
returns-in-Lines-clause-steps g c = λ done has.
    let s = c.args.self.now in
    let name = string_bytes c.args.name in
    let names = map string_bytes s.names.items in
    let contents = g.O.Opener.contents s.opener in
    let files = g.F.Files.files s.files in
    let remaining = g.R.Read.remaining in
    let old = part_left remaining files s.part in
    let rest = unopened_left s.kind s.has_lost contents files in
    let here = c.fetch_part.new.self in
    steps_after (both_left old (rest (name ∷ names))) (both_left (lines_of remaining c.new-in-Lines.result) (rest names)) (sources_left remaining g.O.Opener.contents g.F.Files.files here) (part_left remaining (g.F.Files.files here.files) here.part) (part_name here.part) c.fetch_part.result
    (begun s.kind s.has_lost contents files name names (remaining c.args.reader) old (lines_of remaining c.new-in-Lines.result) done has (λ f bytes known left.
    c.new-in-Lines.ensures.left ∙ ap (option_map (line_documents name)) (ap remaining c.new.ensures.inner) ∙ ap (option_map (line_documents name)) left
    ∙ ap (λ (k : SourceKind). Some (opened_documents k f name bytes)) (sym c.in-Lines.is)))
    c.fetch_part.ensures.steps

pub returns-in-Names-clause-steps : goal.returns-in-Names-clause-steps
returns-in-Names-clause-steps g c = λ done has.
    let s = c.args.self.now in
    let name = string_bytes c.args.name in
    let names = map string_bytes s.names.items in
    let contents = g.O.Opener.contents s.opener in
    let files = g.F.Files.files s.files in
    let remaining = g.R.Read.remaining in
    let old = part_left remaining files s.part in
    let rest = unopened_left s.kind s.has_lost contents files in
    let here = c.fetch_part-in-Names.new.self in
    let mid = list_left remaining files c.new-in-Names-2.result in
    let end = c.in-Names.end in
    steps_after (both_left old (rest (name ∷ names))) (both_left mid (rest names)) (sources_left remaining g.O.Opener.contents g.F.Files.files here) (part_left remaining (g.F.Files.files here.files) here.part) (part_name here.part) c.fetch_part-in-Names.result
    (begun s.kind s.has_lost contents files name names (remaining c.args.reader) old mid done has (λ f bytes known left.
    c.new-in-Names-2.ensures.left files ∙ ap (names_known end files) (ap remaining c.new-in-Names.ensures.inner) ∙ ap (names_known end files) left ∙ ap (λ (k : Option (List ℕ → ReadResult)). names_known end k (Some bytes)) known
    ∙ ap (λ (k : SourceKind). Some (opened_documents k f name bytes)) (sym c.in-Names.is)))
    c.fetch_part-in-Names.ensures.steps
