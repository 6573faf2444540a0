use Rattle.yv_expand_laws.proofs.FileConformance.{conform}
use Rattle.yv_expand_laws.proofs.SoundFiles.{sound}
use Rattle.yv_expand_laws.proofs.laws.files_that_conform_are_sound.Goals as goal

pub returns : goal.returns
returns c = λ files accepted.
    sound c.roots_come_first.ensures.roots c.statements_have_their_rows.ensures c.statements_stand_in_their_blocks.ensures
    c.modules_are_files.ensures.module_files c.numbered_statements_fit.ensures (λ places place number. (c.a_number_is_listed_at_its_place.ensures places place number).0) files
    (conform c.what_is_not_refused_fits.ensures files accepted.each) c.a_name_means_something_or_nothing.ensures accepted.names accepted.few
