-- What is left shows the schema, since files expand to a tree and their items show nodes.
use Rattle.yv_link_scopes.specs.Files.{Files}
use Rattle.yv_expand_statements.specs.FileOrder.{marks_of, order_of}
use Rattle.yv_expand_laws.specs.Files.{ItemsShow}
use Rattle.yv_expand_laws.specs.LeftSchema.{LeftIsSchema}
use Rattle.yv_expand_laws.specs.Schema.{LeftShows}
use Rattle.yv_expand_laws.proofs.FileMarks.{order_marked}
use Rattle.yv_expand_laws.proofs.RefusalsJoined.{ExpandToSome}

pub left_is_schema : (files : Files) → ExpandToSome → ItemsShow files → LeftShows files → LeftIsSchema files
left_is_schema files to_some show left choice truth f nodes sound roots none_bad holds final are_left =
    let (its, tells) = show (marks_of choice files) (order_of choice files) final.own f.items final.expanded in
    let (m, expand) = to_some files (marks_of choice files) (order_of choice files) final.own f.items sound.refer (order_marked choice files) final.expanded in
    (its, tells, left choice truth f its m nodes sound roots none_bad holds final tells expand are_left)
