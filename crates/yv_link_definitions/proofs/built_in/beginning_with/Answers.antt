use Rattle.std.proofs.Common.{arith}
use Rattle.yv_link_definitions.proofs.BuiltIns.{begin_b, begin_d, begin_e, begin_i, begin_l, begin_s, begin_u, begin_otherwise}
use Rattle.yv_link_definitions.proofs.built_in.beginning_with.Goals as goal

pub returns-in-98 : goal.returns-in-98
returns-in-98 c = begin_b c.args.byte c.in-98.is

pub returns-in-100 : goal.returns-in-100
returns-in-100 c = begin_d c.args.byte c.in-100.is

pub returns-in-101 : goal.returns-in-101
returns-in-101 c = begin_e c.args.byte c.in-101.is

pub returns-in-105 : goal.returns-in-105
returns-in-105 c = begin_i c.args.byte c.in-105.is

pub returns-in-108 : goal.returns-in-108
returns-in-108 c = begin_l c.args.byte c.in-108.is

pub returns-in-115 : goal.returns-in-115
returns-in-115 c = begin_s c.args.byte c.in-115.is

pub returns-in-117 : goal.returns-in-117
returns-in-117 c = begin_u c.args.byte c.in-117.is

pub returns-in_default : goal.returns-in_default
returns-in_default c = begin_otherwise c.args.byte (λ e. omega arith) (λ e. omega arith) (λ e. omega arith) (λ e. omega arith) (λ e. omega arith) (λ e. omega arith) (λ e. omega arith)
