use Rattle.std.proofs.Common.{map, ◌∙◌, ap}
use Rattle.std.specs.Option.{option_map}
use Rattle.std.proofs.lemmas.Option.{slice_get-map, slice_get-get_or}
use Rattle.yv_node_paths.specs.Steps.{step_of}
use Rattle.yv_link_scopes.proofs.MappedLists.{mapped_more}
use Rattle.yv_node_paths.proofs.steps.PathReader.steps.Goals as goal

pub loop-text-preserved : goal.loop-text-preserved
loop-text-preserved c = λ files module_files.
    mapped_more (step_of files c.args.self.now.file) (map (λ w. w.now) c.args.texts.now) c.loop-text.text-index _ _ c.loop-text.steps.items c.push.new.self.items
    (slice_get-map (λ w. w.now) c.args.texts.now c.loop-text.text-index ∙ ap (option_map (λ w. w.now)) (slice_get-get_or c.args.texts.now c.loop-text.text-index _ c.loop-text-test.true))
    (c.in_ok-step.ensures files module_files) c.in_ok-push.ensures.items (c.loop-text.invariant files module_files)
