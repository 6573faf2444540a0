use Rattle.yv_json_lines.proofs.OneLineLemmas.{count_line, document_line, fault_line, finding_line, linted_line, refusal_line, run_line}
use Rattle.yv_json_lines.proofs.laws.json_lines_are_lines.Goals as goal

pub returns : goal.returns
returns c = record { count = count_line; refusal = refusal_line; finding = finding_line; linted = linted_line; fault = fault_line; document = document_line; run = run_line }
