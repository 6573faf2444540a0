use Rattle.std.proofs.Common.{◌≡◌, ◌∙◌, ◌++◌, ◌∷◌, [], false, true, sym, rules}
use Rattle.yv_data_faults.specs.Part.{part_of}
use Rattle.yv_json_lines.proofs.PieceLemmas.{adds_as, adds_both}
use Rattle.yv_json_lines.proofs.PointerLemmas.{with_last, without_last}
use Rattle.yv_json_lines.proofs.pointer.put_places.Goals as goal

pub returns-then-not-is_choice : goal.returns-then-not-is_choice
returns-then-not-is_choice g c =
    let parts : c.args.path.now ≡ c.in-Some.before ++ part_of c.in-Some.last ∷ [] = search rules in
    let is : c.is_choice.result ≡ false = search rules in
    adds_as _ _ _ _ (with_last c.args.kind c.in-Some.before (part_of c.in-Some.last) c.args.path.now parts (sym c.is_choice.ensures ∙ is)) (adds_both _ _ _ _ _ c.put_steps.ensures c.put_step.ensures)

pub returns-else-not-is_choice : goal.returns-else-not-is_choice
returns-else-not-is_choice g c =
    let parts : c.args.path.now ≡ c.in-Some.before ++ part_of c.in-Some.last ∷ [] = search rules in
    let is : c.is_choice.result ≡ true = search rules in
    adds_as _ _ _ _ (without_last c.args.kind c.in-Some.before (part_of c.in-Some.last) c.args.path.now parts (sym c.is_choice.ensures ∙ is)) c.put_steps.ensures
