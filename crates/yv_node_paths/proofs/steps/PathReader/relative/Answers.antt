use Rattle.std.proofs.Common.{map, ◌∙◌, ap}
use Rattle.yv_node_paths.specs.Steps.{step_of}
use Rattle.yv_node_paths.proofs.PathPieces.{names_left}
use Rattle.yv_node_paths.proofs.steps.PathReader.relative.Goals as goal

pub returns-clause-steps : goal.returns-clause-steps
returns-clause-steps c = λ files module_files.
    c.in_ok-steps.ensures files module_files
    ∙ ap (map (step_of files c.args.self.now.file))
    (names_left c.args.text.now c.in_ok-texts.texts.items c.deref.result.now c.deref-2.result.now c.ups-ups.result c.in_ok-texts.ensures c.deref.ensures.value c.deref-2.ensures.value c.ups-ups.ensures.count)
