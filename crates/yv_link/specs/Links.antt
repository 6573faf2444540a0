-- What is wrong with modules, features and identities.
use Rattle.std.specs.Prelude.{◌⊎◌, map}
use Rattle.yv_text_statement.specs.declared.refusal.Refusal.{Refusal}
use Rattle.yv_link_scopes.specs.Files.{Files, brief_of}
use Rattle.yv_link_scopes.specs.RowList.{rows_of}
use Rattle.yv_link_modules.specs.Modules.{BadModules}
use Rattle.yv_link_features.specs.Refusals.{BadFeatures}
use Rattle.yv_link_identities.specs.Refusals.{BadIdentities}

-- f is wrong with the files: with modules, imports, prefixes and submodules; with features; or with
-- identities
abbrev pub BadLinks : Files → Refusal → Type 0
BadLinks files f = BadModules (map brief_of files) (rows_of files) f
    ⊎ (BadFeatures files f ⊎ BadIdentities (map brief_of files) (rows_of files) f)
