use Rattle.std.proofs.Common.{◌∙◌, ap}
use Rattle.json.specs.Print.{quoted}
use Rattle.yv_json_lines.proofs.PieceLemmas.{adds_as, adds_both, document_pieces}
use Rattle.yv_json_lines.proofs.document.put_document_line.Goals as goal

pub returns : goal.returns
returns g c =
    let verdict = adds_as _ _ _ _ (ap quoted (c.as_bytes.ensures.value ∙ c.name.ensures)) c.put_quoted.ensures in
    let object = adds_both _ _ _ _ _ c.put.ensures (adds_both _ _ _ _ _ c.put_document.ensures (adds_both _ _ _ _ _ c.put-2.ensures (adds_both _ _ _ _ _ verdict (adds_both _ _ _ _ _ c.put_faults.ensures c.put-3.ensures)))) in
    adds_both _ _ _ _ _ (adds_as _ _ _ _ (document_pieces c.args.name.now c.args.line c.args.verdict) object) c.put-4.ensures
