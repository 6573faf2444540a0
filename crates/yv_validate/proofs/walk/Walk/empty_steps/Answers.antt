use Rattle.std.proofs.Common.{◌≡◌, ap, ◌∙◌}
use Rattle.serde_json.specs.View.{members_view}
use Rattle.yv_validate.proofs.Silent.{no_entries}
use Rattle.yv_validate.proofs.walk.Walk.empty_steps.Goals as goal

pub returns : goal.returns
returns c = record {
  empty = ap members_view (no_entries c.args.members.now.entries (c.is_empty.ensures.0 c.if-not-is_empty.false));
  quiet = c.in_ok-steps.ensures.quiet;
  steps = c.in_ok-steps.ensures.steps;
}
