use Rattle.std.proofs.Common.{refl}
use Rattle.yv_source.proofs.Legality.{refused_in_stop}
use Rattle.yv_source.proofs.Once.{bad_or_legal}
use Rattle.yv_source.proofs.source.Source.new.Goals as goal

pub returns-in-Err-clause-refuses : goal.returns-in-Err-clause-refuses
returns-in-Err-clause-refuses c = refused_in_stop c.args.bytes.now c.in-Err.refusal c.in-Err.ensures.refuses

pub returns-in-Err-clause-only_legal : goal.returns-in-Err-clause-only_legal
returns-in-Err-clause-only_legal c = λ legal.
    absurd (bad_or_legal c.args.bytes.now c.in-Err.refusal ((c.in-Err.ensures.refuses c.in-Err.refusal).0 refl) legal)
