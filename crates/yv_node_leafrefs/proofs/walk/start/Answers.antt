use Rattle.yv_node_leafrefs.proofs.walk.start.Goals as goal

pub returns-in-Some : goal.returns-in-Some
returns-in-Some c o draft a = rw c.in-Some.is (c.climb.ensures o draft a)
