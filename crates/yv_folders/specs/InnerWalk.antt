-- Only private clauses cite this: what a walk through a folder found.
use Rattle.std.specs.Prelude.{◌≡◌, ◌≤◌, ℕ, true, List, [], All, length, string_bytes}
use Rattle.yv_folders.specs.declared.folder_walk.Walk.{Walk}
use Rattle.yv_folders.specs.Paths.{is_listed}

-- there is room for the paths, and each is one that is listed
pub record IsWalk (w : Walk) : Type 0 where
  pub few : length w.paths.items ≤ w.room
  pub listed : All (λ path. is_listed w.name.now (string_bytes path) ≡ true) w.paths.items

-- a walk through the folder of this name, with this room, which found nothing
pub record IsFresh (folder : List ℕ) (most : ℕ) (w : Walk) : Type 0 where
  pub name : w.name.now ≡ folder
  pub room : w.room ≡ most
  pub none : w.paths.items ≡ []

-- the name and the room are as before, and the paths are still such
pub record Keeps (old new : Walk) : Type 0 where
  pub name : new.name.now ≡ old.name.now
  pub room : new.room ≡ old.room
  pub walk : IsWalk old → IsWalk new
