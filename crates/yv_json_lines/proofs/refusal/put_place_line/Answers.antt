use Rattle.std.proofs.Common.{ap}
use Rattle.json.specs.Print.{quoted}
use Rattle.yv_json_lines.proofs.PieceLemmas.{adds_as, adds_both}
use Rattle.yv_json_lines.proofs.refusal.put_place_line.Goals as goal

pub returns : goal.returns
returns g c =
    let file = adds_as _ _ _ _ (ap quoted c.as_bytes.ensures.value) c.put_quoted.ensures in
    let code = adds_as _ _ _ _ (ap quoted c.as_bytes-2.ensures.value) c.put_quoted-2.ensures in
    adds_both _ _ _ _ _ (adds_both _ _ _ _ _ c.put.ensures (adds_both _ _ _ _ _ file (adds_both _ _ _ _ _ c.put_position.ensures (adds_both _ _ _ _ _ c.put-2.ensures (adds_both _ _ _ _ _ code c.put-3.ensures))))) c.put-4.ensures
