use Rattle.std.proofs.Common.{map, ◌∙◌, ap}
use Rattle.std.specs.Option.{option_map}
use Rattle.std.proofs.lemmas.Option.{slice_get-map, slice_get-get_or}
use Rattle.yv_expand_paths.specs.InnerSteps.{step_of}
use Rattle.yv_expand_paths.proofs.PathReading.{mapped_more}
use Rattle.yv_expand_paths.proofs.paths.path.Goals as goal

pub loop-text-preserved : goal.loop-text-preserved
loop-text-preserved c = λ files rows module_files names.
    mapped_more (step_of files rows c.args.entry.now.file) (map (λ w. w.now) c.deref-text-items.result.now) c.loop-text.text-index _ c.read_step.result c.loop-text.path.items c.push.new.self.items
    (slice_get-map (λ w. w.now) c.deref-text-items.result.now c.loop-text.text-index ∙ ap (option_map (λ w. w.now)) (slice_get-get_or c.deref-text-items.result.now c.loop-text.text-index _ c.loop-text-test.true))
    (c.read_step.ensures files rows module_files names) c.in_ok-push.ensures.items (c.loop-text.invariant files rows module_files names)
