-- Only private clauses cite this: what numbered statements say, where it was read, and what several
-- say, one after the other.
use Rattle.std.specs.Prelude.{◌≡◌, ℕ, List, Some, slice_get}
use Rattle.yv_link_scopes.specs.Files.{Files}
use Rattle.yv_node_properties.specs.Marks.{stated_of}
use Rattle.yv_node_properties.specs.Properties.{last_said, said_at}
use Rattle.yv_node_properties.specs.declared.properties.StatedProperties.{StatedProperties}

-- this is what the first statements say, by number
abbrev pub AreSaid : Files → List StatedProperties → Type 0
AreSaid files each =
    (n : ℕ) (s : StatedProperties) → slice_get each n ≡ Some s → s ≡ stated_of (said_at files n)

-- what the last of these refines says that says something
abbrev pub said_by_refines : Files → List ℕ → StatedProperties
said_by_refines files numbers = stated_of (last_said files numbers)
