use Rattle.std.proofs.Common.{◌≡◌, sym, ◌∙◌}
use Rattle.yv_validate.proofs.walk.Walk.passed_steps.Goals as goal

pub returns-in-Nothing : goal.returns-in-Nothing
returns-in-Nothing c = record {
  sound = c.node-node.ensures.sound;
  quiet = c.in_ok-steps.ensures;
  nothing = sym (c.existence_of.ensures c.requires.meets.context c.requires.meets.stands) ∙ c.in-Nothing.is;
}
