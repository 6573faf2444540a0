use Rattle.std.proofs.Common.{arith, ◌∙◌, Bor, List, ℕ, ap, map, refl, string_bytes}
use Rattle.std.proofs.lemmas.Grind.{common_steps}
use Rattle.std.proofs.lemmas.List.{map_push}
use Rattle.yv_base_streams.specs.Files.{file_of}
use Rattle.yv_call.proofs.FileLemmas.{files_more}
use Rattle.yv_call.proofs.inputs.inputs_of.Goals as goal

pub loop-place-preserved : goal.loop-place-preserved
loop-place-preserved c = record {
  files = files_more string_bytes (λ (f : Bor (List ℕ)). f.now) c.args.names.now
      c.args.files.now c.loop-place.place _ _ _ _ (map file_of c.loop-place.inputs.items) _ _
      c.loop-place-test.true c.requires
      (c.as_str.ensures.value ∙ ap string_bytes c.index-names-place.is) refl
      c.in_ok-input_of.ensures
      (ap (map file_of) c.in_ok-push.ensures.items
      ∙ map_push file_of c.loop-place.inputs.items c.in_ok-input_of.field-0)
      c.loop-place.invariant.files;
  each = grind (arith, common_steps);
}
