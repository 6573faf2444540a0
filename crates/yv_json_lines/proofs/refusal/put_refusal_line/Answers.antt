use Rattle.std.proofs.Common.{◌++◌, List, ℕ, ap, codes}
use Rattle.yv_json_lines.proofs.PieceLemmas.{adds_as, refusal_pieces}
use Rattle.yv_json_lines.proofs.refusal.put_refusal_line.Goals as goal

pub returns : goal.returns
returns g c =
    let p = c.args.position in
    adds_as _ _ _ _ (ap (λ (l : List ℕ). l ++ codes "\n") (refusal_pieces c.args.file.now p.line p.column p.offset c.args.code.now)) c.put_place_line.ensures
