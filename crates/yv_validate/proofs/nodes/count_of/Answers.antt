use Rattle.std.proofs.Common.{length, ap, sym, ◌∙◌}
use Rattle.serde_json.proofs.Views.{items_len-items_view}
use Rattle.yv_validate.proofs.nodes.count_of.Goals as goal

pub returns : goal.returns
returns c = ap length c.as_slice.ensures.value ∙ sym (items_len-items_view c.args.items.now.items)
