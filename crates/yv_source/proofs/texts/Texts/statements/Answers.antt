use Rattle.std.proofs.Common.{◌≡◌, subst}
use Rattle.yv_source.specs.FileStatements.{IsUnreadAt}
use Rattle.yv_source.proofs.FileReading.{all_read, err_again, no_text, none_spelled}
use Rattle.yv_source.proofs.texts.Texts.statements.Goals as goal

pub returns-in-Some-clause-refuses : goal.returns-in-Some-clause-refuses
returns-in-Some-clause-refuses c = λ files are r e.
    let same : c.in-Some.refusal ≡ r = cc in
    subst (IsUnreadAt files) same
    (no_text files c.args.self.now.texts.items c.in-Ok.statements.items c.in-Some.refusal are.each (rw (c.deref.ensures.value) at c.in-Ok.ensures.spells)
    (rw c.in-Some.is at are.rest))

pub returns-in-Ok-clause-reads : goal.returns-in-Ok-clause-reads
returns-in-Ok-clause-reads c = λ files are.
    all_read files c.args.self.now.texts.items c.in-Ok.statements.items (rw c.in-None.is at are.rest) are.each (rw (c.deref.ensures.value) at c.in-Ok.ensures.spells)

pub returns-clause-refuses : goal.returns-clause-refuses
returns-clause-refuses c = λ files are r e.
    none_spelled files c.args.self.now.texts.items r are.each (rw (c.deref.ensures.value) at (c.in-Err.ensures.refuses r (err_again _ _ e)))
