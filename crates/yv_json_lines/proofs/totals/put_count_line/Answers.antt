use Rattle.yv_json_lines.proofs.PieceLemmas.{adds_as, adds_both, count_pieces}
use Rattle.yv_json_lines.proofs.totals.put_count_line.Goals as goal

pub returns : goal.returns
returns g c =
    adds_both _ _ _ _ _ (adds_as _ _ _ _ (count_pieces c.args.nodes c.args.measures) (adds_both _ _ _ _ _ c.put_member.ensures (adds_both _ _ _ _ _ c.put_measures.ensures c.put.ensures))) c.put-2.ensures
