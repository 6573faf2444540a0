use Rattle.std.proofs.Common.{length, sym, ◌∙◌, ap}
use Rattle.yv_text_if_feature.proofs.Frames.{how_many}
use Rattle.yv_text_if_feature.proofs.stack.Stack.len.Goals as goal

pub returns : goal.returns
returns c = sym (how_many c.self.inside.frames c.self.inside.len) ∙ ap length c.self.view_is
