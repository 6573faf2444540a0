-- What is known of types that were read.
use Rattle.std.specs.Prelude.{◌≡◌, ◌↔◌, ℕ, Some}
use Rattle.yv_text_statement.specs.Order.{IsLeast}
use Rattle.yv_link_scopes.specs.Files.{Files}
use Rattle.yv_type_enums.specs.Types.{Truth, NamesView, HasNames}
use Rattle.yv_type_enums.specs.Refusals.{BadLists}
use Rattle.yv_type_enums.specs.TypeNames.{told_at}
use Rattle.yv_type_enums.specs.declared.lists.Lists.{Lists}

-- these are the names of the types of these files; how, only the readers ask
pub record AreLists (files : Files) (truth : Truth) (lists : Lists) : Type 0 where
  pub types : (k : ℕ) (told : NamesView) → (told_at lists.types k ≡ Some told)
      ↔ HasNames files truth k told
  pub least : IsLeast (BadLists files truth) lists.fault
