use Rattle.std.proofs.Common.{sym}
use Rattle.yv_expand_changes.proofs.KeywordKinds.{allowed_by_kind}
use Rattle.yv_expand_changes.proofs.allowed_refines.is_allowed.Goals as goal

pub returns : goal.returns
returns c =
    rw (c.is_allowed_by.ensures, c.kind.ensures, c.kind-2.ensures)
    (sym (allowed_by_kind c.args.statement.now.head.keyword c.args.target.now.head.keyword))
