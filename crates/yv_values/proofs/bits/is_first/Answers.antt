use Rattle.std.proofs.Common.{◌∙◌, List, ℕ, ap}
use Rattle.std.specs.Str.{bytes_eq}
use Rattle.yv_values.proofs.BitSets.{first_of}
use Rattle.yv_values.proofs.bits.is_first.Goals as goal

pub returns-in-Some : goal.returns-in-Some
returns-in-Some c =
    c.is_same.ensures.value ∙ ap (λ (x : List ℕ). bytes_eq x c.args.text.now) c.as_bytes.ensures.value ∙ first_of c.args.words.now c.in-Some.word.now c.args.text.now c.in-Some.ensures.value c.requires.above c.requires.order
