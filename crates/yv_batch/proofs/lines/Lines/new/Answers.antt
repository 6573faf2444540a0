use Rattle.std.proofs.Common.{List, ℕ, Option, ap, string_bytes}
use Rattle.std.specs.Option.{option_map}
use Rattle.yv_batch.specs.LineDocuments.{line_documents}
use Rattle.yv_batch.proofs.lines.Lines.new.Goals as goal

pub returns : goal.returns
returns g c = record { left = ap (λ (known : Option (List ℕ)). option_map (line_documents (string_bytes c.args.source)) known) c.new.ensures }
