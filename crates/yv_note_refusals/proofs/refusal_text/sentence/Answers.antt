use Rattle.yv_note_refusals.proofs.refusal_text.sentence.Goals as goal

pub returns : goal.returns
returns c = rw (← c.statement_at.ensures, c.in-Some.is) c.in_ok-push_about.ensures.names
