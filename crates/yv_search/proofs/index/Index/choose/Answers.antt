use Rattle.std.proofs.Common.{[], List, Option, None, refl, ap, ◌∙◌}
use Rattle.std.specs.Option.{option_map, option_map_or}
use Rattle.std.specs.declared.vec.Vec.{Vec}
use Rattle.std.specs.declared.alloc.Global.{Global}
use Rattle.yv_search.specs.declared.index.Row.{Row}
use Rattle.yv_search.specs.InnerIndex.{text_of, listed_of}
use Rattle.yv_search.proofs.Groups.{chosen_kept}
use Rattle.yv_search.proofs.index.Index.choose.Goals as goal

items_in : Option (Vec Row Global) → List Row
items_in o = option_map_or (λ (rows : Vec Row Global). rows.items) o []

pub returns-in-Some : goal.returns-in-Some
unfolding items_in
returns-in-Some c = λ files kept.
    chosen_kept c.args.self.now (record { name = c.args.name.now; date = text_of c.args.date }) files c.deref.result.now (option_map listed_of c.chosen_file.result)
    (c.deref.ensures.value ∙ ap items_in c.in-Some.ensures.value) c.chosen_file.ensures kept

pub returns-in-None : goal.returns-in-None
unfolding items_in
returns-in-None c = λ files kept.
    chosen_kept c.args.self.now (record { name = c.args.name.now; date = text_of c.args.date }) files [] None
    (ap items_in c.in-None.ensures.value) refl kept
