use Rattle.std.proofs.Common.{◌≡◌, ◌≤◌, ◌||◌, ℕ, List, drop, filter}
use Rattle.yv_text_if_feature.specs.Names.{is_identifier}
use Rattle.yv_text_statement.specs.Words.{is_among}
use Rattle.yv_lint.specs.InnerUsed.{has_prefix}
use Rattle.yv_lint.specs.Used.{prefixes_in, runs_after}
use Rattle.yv_lint.proofs.Cuts.{cut}
use Rattle.yv_lint.proofs.prefixes.Prefixes.add_text.Given as goal

abbrev pub invariant-loop-i : goal.invariant-loop-i
invariant-loop-i l = record {
  within : l.start ≤ l.i;
  each : (p : List ℕ) → (has_prefix l.self p || is_among (filter is_identifier (runs_after (cut l.start l.i l.text) (drop l.i l.text))) p) ≡ (has_prefix l.fn.self p || is_among (prefixes_in l.text) p);
}
