use Rattle.std.proofs.Common.{ap}
use Rattle.yv_data_faults.specs.Flaw.{Flaw}
use Rattle.yv_json_lines.specs.InnerPieces.{unique_piece}
use Rattle.yv_json_lines.proofs.PieceLemmas.{adds_as, adds_both, fault_pieces}
use Rattle.yv_json_lines.proofs.fault.put_fault_line.Goals as goal

pub returns : goal.returns
returns g c =
    let unique = adds_as _ _ _ _ (ap (λ (f : Flaw). unique_piece f.number) c.fault.view_is) c.put_unique.ensures in
    let object = adds_both _ _ _ _ _ c.put.ensures (adds_both _ _ _ _ _ c.put_document.ensures (adds_both _ _ _ _ _ c.put_flaw.ensures (adds_both _ _ _ _ _ unique c.put-2.ensures))) in
    adds_both _ _ _ _ _ (adds_as _ _ _ _ (fault_pieces c.args.name.now c.args.line c.args.fault.now) object) c.put-3.ensures
