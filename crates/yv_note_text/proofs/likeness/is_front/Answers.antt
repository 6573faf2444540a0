use Rattle.std.proofs.Common.{drop, length}
use Rattle.std.proofs.lemmas.Bool.Decides.{Decides-eqb}
use Rattle.std.proofs.lemmas.Slice.Eq.{starts_is}
use Rattle.yv_note_text.proofs.likeness.is_front.Goals as goal

pub returns : goal.returns
returns c =
    let is = starts_is Decides-eqb c.args.other.now c.args.one.now c.starts_with.result c.starts_with.ensures.value in
    (λ yes. (drop (length c.args.one.now) c.args.other.now, is.0 yes), λ more. is.1 more.0 more.1)
