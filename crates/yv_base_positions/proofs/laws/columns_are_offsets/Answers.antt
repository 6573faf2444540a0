use Rattle.yv_base_positions.proofs.OffsetLemmas.{line_begins, offset_back, same_offset}
use Rattle.yv_base_positions.proofs.laws.columns_are_offsets.Goals as goal

pub returns : goal.returns
returns c = record { offset = offset_back; begins = line_begins; same = same_offset }
