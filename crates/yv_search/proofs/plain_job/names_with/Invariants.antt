use Rattle.std.proofs.Common.{◌≡◌, map, drop, string_bytes}
use Rattle.yv_search.specs.PlainJob.{with_modules}
use Rattle.yv_search.specs.InnerRoles.{is_required}
use Rattle.yv_search.specs.InnerPlainJob.{AreKnown}
use Rattle.yv_search.proofs.plain_job.names_with.Given as goal

abbrev pub invariant-loop-root : goal.invariant-loop-root
invariant-loop-root l = record {
  rest : with_modules (is_required l.requirements) (map string_bytes l.names.items) (drop l.root-index l.roots) ≡ with_modules (is_required l.requirements) (map string_bytes l.given) l.roots;
  known : AreKnown l.known l.names.items;
}
