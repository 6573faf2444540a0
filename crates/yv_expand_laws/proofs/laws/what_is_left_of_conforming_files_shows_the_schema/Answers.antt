use Rattle.yv_expand_laws.proofs.laws.what_is_left_of_conforming_files_shows_the_schema.Goals as goal

pub returns : goal.returns
returns c = λ files choice truth f nodes accepted.
    c.what_is_left_shows_the_schema.ensures files choice truth f nodes (c.files_that_conform_are_sound.ensures files accepted)
    (c.files_that_conform_have_roots.ensures files accepted.each)
