use Rattle.std.proofs.Common.{◌∙◌, ap, cond, true}
use Rattle.std.specs.Str.{bytes_eq}
use Rattle.std.proofs.lemmas.Map.Text.{is_eq-slice_cmp}
use Rattle.yv_type_enums.specs.Values.{has}
use Rattle.yv_type_enums.proofs.NextValueName.{joined}
use Rattle.yv_type_enums.proofs.values.Values.add.Goals as goal

pub returns : goal.returns
returns c = λ s.
    c.in_ok-insert.ensures.updates.0 (record { ref_ptr = (0, 0); now = s })
    ∙ ap (λ b. cond b true (has c.args.self.now s)) (is_eq-slice_cmp c.args.name.now s)
    ∙ joined (bytes_eq c.args.name.now s) (has c.args.self.now s)
