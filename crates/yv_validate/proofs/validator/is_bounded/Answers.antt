use Rattle.serde_json.specs.View.{view}
use Rattle.yv_validate.proofs.validator.is_bounded.Goals as goal

pub returns : goal.returns
returns c = c.work_bound.ensures c.args.kind c.args.schema.now (view c.args.document.now) c.children-nodes.ensures.sound
