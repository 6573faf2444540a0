use Rattle.std.proofs.Common.{◌∙◌, refl, sym, ap, codes}
use Rattle.std.specs.Option.{option_map}
use Rattle.yv_search.specs.InnerModules.{row_at, lookup}
use Rattle.yv_search.proofs.TableSteps.{prefix_row, no_prefix_row}
use Rattle.yv_search.proofs.prefixes.add_prefix.Goals as goal

pub returns-in_ok-keep : goal.returns-in_ok-keep
returns-in_ok-keep c = λ q.
    prefix_row (lookup c.args.modules.now) c.args.statement.now q c.in-Some.prefix.now c.module_ref.result (row_at c.args.prefixes.now q) (row_at c.keep.new.self q)
    (sym (ap (option_map (λ t. t.now)) c.in-Some.is) ∙ c.argument_of.ensures (codes "prefix") refl) c.module_ref.ensures (c.in_ok-keep.ensures q)

pub returns-in_default : goal.returns-in_default
returns-in_default c = λ q.
    no_prefix_row (lookup c.args.modules.now) c.args.statement.now q (row_at c.args.prefixes.now q)
    (sym (ap (option_map (λ t. t.now)) c.in_default.is) ∙ c.argument_of.ensures (codes "prefix") refl)
