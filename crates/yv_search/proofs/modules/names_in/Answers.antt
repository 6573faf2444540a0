use Rattle.std.proofs.Common.{◌≡◌, ◌∙◌, ◌||◌, map, string_bytes, ap}
use Rattle.std.specs.Str.{bytes_eq}
use Rattle.yv_search.specs.InnerNames.{has}
use Rattle.yv_search.proofs.ListSteps.{get_map}
use Rattle.yv_search.proofs.NameSteps.{name_more}
use Rattle.yv_search.proofs.modules.names_in.Goals as goal

pub loop-name-preserved : goal.loop-name-preserved
loop-name-preserved c = λ q.
    name_more (map string_bytes c.args.list.now) c.loop-name.name-index (string_bytes c.name-item.result) q (has c.loop-name.names q) (has c.add.new.self q)
    (get_map string_bytes c.args.list.now c.loop-name.name-index c.name-item.result c.loop-name-test.true c.name-item.is) (c.loop-name.invariant q)
    (c.in_ok-add.ensures q ∙ ap (λ n. bytes_eq n q || has c.loop-name.names q) c.as_str.ensures.value)
