use Rattle.yv_schema.proofs.LeafrefPathStarts.{begins}
use Rattle.yv_schema.proofs.referral_laws.what_leafrefs_say_begins.Goals as goal

pub returns : goal.returns
returns c = λ files typing from ref fine are says.
    begins files typing fine (c.statements_have_their_rows.ensures files) c.an_origin_is_a_leafref.ensures are from ref says
