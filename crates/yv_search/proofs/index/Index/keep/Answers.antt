use Rattle.std.proofs.Common.{◌≡◌, ◌∙◌, List, [], ◌∷◌, ◌++◌, ap, Option, Some, None}
use Rattle.std.specs.Option.{option_map_or, unwrap_or}
use Rattle.std.specs.declared.vec.Vec.{Vec}
use Rattle.std.specs.declared.alloc.Global.{Global}
use Rattle.yv_search.specs.declared.index.Row.{Row}
use Rattle.yv_search.proofs.MapSteps.{put_back}
use Rattle.yv_search.proofs.index.Index.keep.Goals as goal

items_of : (o : Option (Vec Row Global)) (empty rows : Vec Row Global) → rows ≡ unwrap_or o empty → empty.items ≡ [] → rows.items ≡ option_map_or (λ (v : Vec Row Global). v.items) o []
items_of None empty rows e none = ap (λ (v : Vec Row Global). v.items) e ∙ none
items_of (Some v) empty rows e none = ap (λ (w : Vec Row Global). w.items) e

pub returns : goal.returns
returns c =
    let items : Option (Vec Row Global) → List Row = λ o. option_map_or (λ (v : Vec Row Global). v.items) o [] in
    put_back items c.args.self.now.groups c.remove.new.self c.insert.new.self c.args.name.now c.push.new.self (c.args.row ∷ [])
    c.remove.ensures.updates c.in_ok-insert.ensures.updates
    (c.in_ok-push.ensures.items ∙ ap (λ (l : List Row). l ++ c.args.row ∷ []) (items_of c.remove.result c.new.result c.unwrap_or-rows.result c.unwrap_or-rows.ensures c.new.ensures.items ∙ ap items c.remove.ensures.value))
