use Rattle.std.proofs.Common.{◌<◌, ◌∷◌, length, ◌∙◌, ap, arith}
use Rattle.yv_text_if_feature.proofs.Frames.{how_many, one_more}
use Rattle.yv_text_if_feature.proofs.stack.Stack.push.Goals as goal

pub returns : goal.returns
returns c =
    let within : c.self.inside.len < length c.self.inside.frames = omega (arith, how_many c.self.inside.frames c.self.inside.len, ap length c.self.view_is) in
    one_more c.self.inside.frames c.self.inside.len c.args.frame within
    ∙ ap (λ fs. c.args.frame ∷ fs) c.self.view_is
