use Rattle.std.proofs.Common.{List, ℕ}
use Rattle.std.specs.Rc.{rc_str_bytes}
use Rattle.std.specs.declared.rc.RcStr.{RcStr}
use Rattle.std.specs.Str.{bytes_eq}
use Rattle.std.specs.declared.alloc.Global.{Global}
use Rattle.yv_values.proofs.Order.{first_any, first_same}
use Rattle.yv_values.proofs.names.NameSet.find.Goals as goal

pub returns-clause-value : goal.returns-clause-value
returns-clause-value c = first_any (λ (n : List ℕ). bytes_eq n c.args.text.now) c.args.self.now (λ (n : RcStr Global). rc_str_bytes n) c.equal_to.result.now c.first.result c.equal_to.ensures.names c.first.ensures.value

pub returns-clause-same : goal.returns-clause-same
returns-clause-same c = first_same c.args.text.now c.args.self.now (λ (n : RcStr Global). rc_str_bytes n) c.equal_to.result.now c.first.result c.equal_to.ensures.names c.first.ensures.value
