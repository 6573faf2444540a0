use Rattle.std.proofs.Common.{◌≡◌}
use Rattle.yv_folders.specs.InnerWalk.{IsWalk}
use Rattle.yv_folders.proofs.folder_list.list_folder.Given as goal

abbrev pub invariant-loop : goal.invariant-loop
invariant-loop g l = IsWalk l.walk × (l.walk.name.now ≡ l.name) × (l.walk.room ≡ l.room)
