use Rattle.std.proofs.Common.{string_bytes, IfErr, subst, List, ℕ}
use Rattle.clap.specs.Words.{rows_of, found_of}
use Rattle.yv_job.specs.Faults.{IsReason}
use Rattle.yv_job.proofs.matches.action_of.Goals as goal

pub returns-in-Err-clause-reason : goal.returns-in-Err-clause-reason
returns-in-Err-clause-reason c =
    let said = subst (λ r. IfErr r (λ line. (name : List ℕ) → IsReason name (rows_of (found_of c.args.below.now)) (string_bytes line))) c.in-Err.is c.in_ok-rules.ensures.reason in
    said c.args.name.now

pub returns-in-Err-2-clause-reason : goal.returns-in-Err-2-clause-reason
returns-in-Err-2-clause-reason c =
    let said = subst (λ r. IfErr r (λ line. (name : List ℕ) → IsReason name (rows_of (found_of c.args.below.now)) (string_bytes line))) c.in-Err-2.is c.in_ok-tree.ensures.reason in
    said c.args.name.now
