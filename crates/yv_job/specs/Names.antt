-- Names and lists of them, as a command line spells them.
use Rattle.std.specs.Prelude.{◌≡◌, ◌<◌, ℕ, true, List, [], ◌∷◌, ◌++◌, Option, Some, None, IsSome, length, map}
use Rattle.std.specs.List.{All, join_with_byte}
use Rattle.yv_text_if_feature.specs.Names.{is_identifier}
use Rattle.yv_text_statement.specs.Selection.{Entry}
use Rattle.yv_tree_drawing.specs.Steps.{Step}

-- the text is an identifier (RFC 7950, section 6.2)
abbrev pub IsIdentifier : List ℕ → Type 0
IsIdentifier t = is_identifier t ≡ true

-- the text is these names joined by commas, perhaps none
pub record JoinsNames (text : List ℕ) (names : List (List ℕ)) : Type 0 where
  pub spelled : join_with_byte 44 names ≡ text
  pub each : All IsIdentifier names

-- the text is these names joined by commas, one or more
pub record IsNames (text : List ℕ) (names : List (List ℕ)) : Type 0 where
  pub joined : JoinsNames text names
  pub some : 0 < length names

-- the module, `:`, and its features joined by commas, or none
abbrev pub entry_text : Entry → List ℕ
entry_text e = e.module ++ (58 ∷ join_with_byte 44 e.features)

-- the module and the features are identifiers
abbrev pub HasIdentifiers : Entry → Type 0
HasIdentifiers e = IsIdentifier e.module × All IsIdentifier e.features

-- the text is that of the entry
pub record IsEntry (text : List ℕ) (e : Entry) : Type 0 where
  pub spelled : entry_text e ≡ text
  pub names : HasIdentifiers e

-- the text is that of these entries joined by `/`, one or more
pub record IsSupport (text : List ℕ) (entries : List Entry) : Type 0 where
  pub spelled : join_with_byte 47 (map entry_text entries) ≡ text
  pub each : All HasIdentifiers entries
  pub some : 0 < length entries

-- a name, with its module and `:` in front where there is one
abbrev pub step_text_in : Option (List ℕ) → (name : List ℕ) → List ℕ
step_text_in None name = name
step_text_in (Some m) name = m ++ (58 ∷ name)

-- the text of a step
abbrev pub step_text : Step → List ℕ
step_text x = step_text_in x.module x.name

-- the name is an identifier, and the module, where there is one
abbrev pub AreStepNames : Option (List ℕ) → (name : List ℕ) → Type 0
AreStepNames None name = IsIdentifier name
AreStepNames (Some m) name = IsIdentifier m × IsIdentifier name

-- the names of a step are identifiers
abbrev pub HasStepNames : Step → Type 0
HasStepNames x = AreStepNames x.module x.name

-- the text is that of the step
pub record IsStep (text : List ℕ) (x : Step) : Type 0 where
  pub spelled : step_text x ≡ text
  pub names : HasStepNames x

-- there is a first step, and it gives a module
abbrev pub StartsInModule : List Step → Type 0
StartsInModule [] = ⊥
StartsInModule (x ∷ xs) = IsSome x.module

-- the text is that of these steps, each after a `/`, of which the first gives a module
pub record IsWay (text : List ℕ) (steps : List Step) : Type 0 where
  pub spelled : 47 ∷ join_with_byte 47 (map step_text steps) ≡ text
  pub each : All HasStepNames steps
  pub start : StartsInModule steps
