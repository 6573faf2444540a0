use Rattle.yv_link_scopes.proofs.entry.Entry.is.Goals as goal

pub returns-clause-text : goal.returns-clause-text
returns-clause-text c =
    rw (c.eq.ensures, c.args.self.now.kinds)
    (c.a_keyword_has_one_text.ensures c.args.self.now.statement.now.head.keyword c.args.keyword)
