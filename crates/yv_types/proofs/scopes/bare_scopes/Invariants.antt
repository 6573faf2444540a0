use Rattle.std.proofs.Common.{◌≡◌, map, take}
use Rattle.yv_link_scopes.specs.Files.{brief}
use Rattle.yv_values.specs.Scopes.{place_of}
use Rattle.yv_types.specs.InnerScopes.{bare}
use Rattle.yv_types.proofs.scopes.bare_scopes.Given as goal

abbrev pub invariant-loop-file : goal.invariant-loop-file
invariant-loop-file l = map place_of l.scopes.items ≡ map bare (map brief (take l.file-index l.file-items))
