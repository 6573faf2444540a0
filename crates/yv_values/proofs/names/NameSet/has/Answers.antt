use Rattle.std.proofs.Common.{◌∙◌, not, List, ℕ, ap}
use Rattle.std.specs.Str.{bytes_eq}
use Rattle.std.specs.Rc.{rc_str_bytes}
use Rattle.std.specs.declared.rc.RcStr.{RcStr}
use Rattle.std.specs.declared.alloc.Global.{Global}
use Rattle.yv_values.proofs.Order.{any_filtered}
use Rattle.yv_values.proofs.names.NameSet.has.Goals as goal

pub returns : goal.returns
returns c = ap not c.is_empty.ensures ∙ any_filtered (λ (n : List ℕ). bytes_eq n c.args.text.now) c.args.self.now (λ (n : RcStr Global). rc_str_bytes n) c.equal_to.result.now c.equal_to.ensures.names
