use Rattle.std.proofs.Common.{◌≡◌, false, string_bytes}
use Rattle.yv_node_statements.proofs.BlankRuns.{ends_blank, written}
use Rattle.yv_node_statements.proofs.features.push_spaced.Given as goal

abbrev pub invariant-loop-character : goal.invariant-loop-character
invariant-loop-character l = record {
  text : string_bytes l.text ≡ written (string_bytes l.fn.text) l.yielded;
  behind : l.is_behind ≡ ends_blank false l.yielded;
}
