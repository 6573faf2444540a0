use Rattle.std.proofs.Common.{map, string_bytes}
use Rattle.clap.specs.Words.{kind_of}
use Rattle.yv_job.proofs.FaultLemmas.{usage_is_not_help}
use Rattle.yv_job.proofs.words.read_request.Goals as goal

pub returns-clause-not_help : goal.returns-clause-not_help
returns-clause-not_help c =
    usage_is_not_help (map string_bytes c.args.words.now) (kind_of c.in-Err.error) c.job_fault.result c.in-Err.ensures.err c.job_fault.ensures
