use Rattle.yv_json_lines.proofs.PieceLemmas.{adds_as, adds_both, run_pieces}
use Rattle.yv_json_lines.proofs.totals.put_run_line.Goals as goal

pub returns : goal.returns
returns g c =
    adds_both _ _ _ _ _ (adds_as _ _ _ _ (run_pieces c.args.documents c.args.valid) (adds_both _ _ _ _ _ c.put_member.ensures (adds_both _ _ _ _ _ c.put_member-2.ensures c.put.ensures))) c.put-2.ensures
