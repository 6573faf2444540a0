-- What is wrong with the types of files (RFC 7950, sections 7.3, 7.4 and 9).
use Rattle.std.specs.Prelude.{◌⊎◌}
use Rattle.yv_text_statement.specs.declared.refusal.Refusal.{Refusal}
use Rattle.yv_link_scopes.specs.Files.{Files}
use Rattle.yv_type_chains.specs.Refusals.{BadKinds}
use Rattle.yv_type_restrictions.specs.Refusals.{BadFaceted}
use Rattle.yv_type_enums.specs.Types.{Truth}
use Rattle.yv_type_enums.specs.Refusals.{BadLists}

-- a substatement that a type doesn't take or lacks, a leafref in a union or too many types in one;
-- a range, a length or a pattern; or a name or a number of an enumeration or of bits
abbrev pub BadTypes : Files → Truth → Refusal → Type 0
BadTypes files truth f = BadKinds files f ⊎ (BadFaceted files f ⊎ BadLists files truth f)
