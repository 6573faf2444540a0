use Rattle.std.proofs.Common.{◌≡◌, false, map}
use Rattle.std.specs.List.{list_any}
use Rattle.yv_link_scopes.specs.Tables.{table_of}
use Rattle.yv_link_scopes.specs.Names.{prefix_of}
use Rattle.yv_link_modules.specs.Prefixes.{is_undeclared}
use Rattle.yv_link_modules.proofs.prefixes.has_undeclared.Given as goal

abbrev pub invariant-loop-word : goal.invariant-loop-word
invariant-loop-word l = list_any (λ piece. is_undeclared (table_of l.prefixes) l.file (prefix_of piece)) (map (λ piece. piece.now) l.yielded) ≡ false
