use Rattle.std.proofs.Common.{◌++◌, List, ℕ, ap, codes}
use Rattle.yv_json_lines.proofs.PieceLemmas.{adds_as, finding_pieces}
use Rattle.yv_json_lines.proofs.refusal.put_finding_line.Goals as goal

pub returns : goal.returns
returns g c =
    let p = c.args.position in
    adds_as _ _ _ _ (ap (λ (l : List ℕ). l ++ codes "\n") (finding_pieces c.args.file.now p.line p.column p.offset c.args.rule.now)) c.put_place_line.ensures
