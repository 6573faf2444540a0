use Rattle.yv_json_laws.proofs.Pointers.{choice_leads, fault_found, fault_leads, parent_leads, reference_leads, unknown_leads}
use Rattle.yv_json_laws.proofs.laws.pointers_lead_there.Goals as goal

pub returns : goal.returns
returns c = record { there = fault_leads; found = fault_found; unknown = unknown_leads; choice = choice_leads; parent = parent_leads; reference = reference_leads }
