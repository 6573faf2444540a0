use Rattle.yv_base_streams.proofs.StreamLemmas.{gave_up_to}
use Rattle.yv_run.proofs.RunLemmas.{both}
use Rattle.yv_run.proofs.answers.validate_document.Goals as goal

pub returns-in-Ok-clause-runs : goal.returns-in-Ok-clause-runs
returns-in-Ok-clause-runs g c =
    let read = c.in-Ok.ensures in
    both _ _ _ c.write_findings.result
    (λ e writes noted. record {
      given = c.in-Ok.bytes.items;
      gives = gave_up_to _ _ _ 16777217 read.gives read.bound read.end;
      consumed = read.gives;
      writes = rw (← c.as_slice.ensures.value) writes;
      noted = rw (← c.as_slice.ensures.value) noted;
    })
    c.write_findings.ensures.writes c.write_findings.ensures.notes
