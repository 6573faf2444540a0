use Rattle.yv_expand_laws.proofs.laws.refusals_of_conforming_files_are_one.Goals as goal

pub returns : goal.returns
returns c = λ files choice f r accepted.
    c.refusals_of_final_trees_are_one.ensures files choice f r (c.files_that_conform_are_sound.ensures files accepted)
    (c.files_that_conform_have_roots.ensures files accepted.each) (c.uses_that_conform_are_optional.ensures files accepted.each)
