use Rattle.yv_json_lines.proofs.ReadBackLemmas.{count_back, document_back, fault_back, finding_back, linted_back, refusal_back, run_back}
use Rattle.yv_json_lines.proofs.laws.json_lines_read_back.Goals as goal

pub returns : goal.returns
returns c = record { count = count_back; refusal = refusal_back; finding = finding_back; linted = linted_back; fault = fault_back; document = document_back; run = run_back }
