use Rattle.std.proofs.Common.{sym, ◌∙◌, refl}
use Rattle.yv_source.proofs.Pairs.{newer_means, not_newer}
use Rattle.yv_source.proofs.reader.check_escapes.Goals as goal
use Rattle.yv_source.proofs.reader.check_escapes.Goals.{in_default-via-in-Some+else-is_newer, in_default-via-in_default}

pub returns-in-Some : goal.returns-in-Some
returns-in-Some c =
    (newer_means c.args.statement.children (sym c.is_newer.ensures ∙ c.if-is_newer.true), c.in-Some.at, c.in-Some.is, c.refuse.ensures)

pub returns : goal.returns
returns c = (
  refl,
  λ h. elim c.in_default.branch [
    | in_default-via-in-Some+else-is_newer w ↦ not_newer c.args.statement.children (sym w.is_newer.ensures ∙ w.if-is_newer.false) h
    | in_default-via-in_default w ↦ w.in_default.is
  ],
)
