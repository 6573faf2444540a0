use Rattle.std.proofs.Common.{◌≡◌, [], false, string_bytes}
use Rattle.yv_text_path.proofs.BlankRuns.{ends_blank, written}
use Rattle.yv_text_path.proofs.diagram.shown_path.Given as goal

abbrev pub invariant-loop-character : goal.invariant-loop-character
invariant-loop-character l = record {
  text : string_bytes l.path ≡ written [] l.yielded;
  behind : l.is_behind ≡ ends_blank false l.yielded;
}
