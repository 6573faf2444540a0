use Rattle.yv_json_lines.proofs.PieceLemmas.{adds_as, adds_both, linted_pieces}
use Rattle.yv_json_lines.proofs.totals.put_linted_line.Goals as goal

pub returns : goal.returns
returns g c =
    adds_both _ _ _ _ _ (adds_as _ _ _ _ (linted_pieces c.args.findings) (adds_both _ _ _ _ _ c.put_member.ensures c.put.ensures)) c.put-2.ensures
