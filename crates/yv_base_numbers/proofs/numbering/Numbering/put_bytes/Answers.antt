use Rattle.std.proofs.Common.{◌∙◌, ap, cond, Some, ℤ}
use Rattle.std.specs.Str.{bytes_eq}
use Rattle.std.proofs.lemmas.Int.{to_z-of_z}
use mir.Syntax.{w64}
use Rattle.yv_base_numbers.specs.Numberings.{lookup_in}
use Rattle.yv_base_numbers.proofs.Pairs.{put_new}
use Rattle.yv_base_numbers.proofs.numbering.Numbering.put_bytes.Goals as goal

pub returns : goal.returns
returns c =
    let same = to_z-of_z w64 c.args.number c.ranges.number in
    let h = c.in_ok-insert.ensures.updates in
    λ s. put_new c.args.self.now.map c.insert.new.self c.args.name _ h s ∙ ap (λ (n : ℤ). cond (bytes_eq c.args.name.now s) (Some n) (lookup_in c.args.self.now.map s)) same
