use Rattle.std.proofs.Common.{ap}
use Rattle.json.specs.Print.{quoted}
use Rattle.yv_json_lines.proofs.PieceLemmas.{adds_as, shown_label, shown_text}
use Rattle.yv_json_lines.proofs.document.put_name.Goals as goal

pub returns-in-Ok : goal.returns-in-Ok
returns-in-Ok g c = adds_as _ _ _ _ (ap quoted (shown_text c.args.name.now c.in-Ok.ensures.cases.1)) c.put_quoted.ensures

pub returns-in-Err : goal.returns-in-Err
returns-in-Err g c = adds_as _ _ _ _ (ap quoted (shown_label c.args.name.now c.in-Err.ensures.cases.0)) c.put_quoted_label.ensures
