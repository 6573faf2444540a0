use Rattle.std.proofs.Common.{rules, ◌∙◌, ap, sym, refl, length, option_map, string_bytes, Some}
use Rattle.std.proofs.lemmas.Option.{slice_get-map, slice_get_read}
use Rattle.yv_job.proofs.job.Job.unrequired_file.Goals as goal

pub returns-in_ok-file : goal.returns-in_ok-file
returns-in_ok-file c =
    let files = c.args.self.now.files.items in
    let place = c.in_ok-found_place.field-0 in
    let at = slice_get_read files (length files) place c.in_ok-file.file.now refl (search rules) (search rules) in
    (place, slice_get-map string_bytes files place ∙ ap (option_map string_bytes) at ∙ ap (λ t. Some t) (sym c.as_str.ensures.value))
