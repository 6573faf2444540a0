-- Only private clauses cite this: what is known of the first statements.
use Rattle.std.specs.Prelude.{◌≡◌, ◌↔◌, ℕ, ◌<◌, List, length, take, Option, Some, codes}
use Rattle.std.specs.List.{slice_get}
use Rattle.std.specs.Option.{option_and_then}
use Rattle.yv_link_scopes.specs.Files.{Briefs}
use Rattle.yv_link_scopes.specs.Rows.{Row}
use Rattle.yv_link_definitions.specs.Refers.{RefersTo}
use Rattle.yv_link_definitions.specs.References.{number_at}
use Rattle.yv_link_definitions.specs.Places.{placed_in}
use Rattle.yv_link_definitions.specs.InnerPlaces.{ReferToFirst}
use Rattle.yv_link_definitions.specs.declared.answers.Answers.{Answers}

abbrev pub meant_at : List (Option ℕ) → ℕ → Option ℕ
meant_at meanings k = option_and_then (λ meant. meant) (slice_get meanings k)

-- for each statement the definition that it means
pub record AreMeant (files : Briefs) (rows : List Row) (meanings : List (Option ℕ)) : Type 0 where
  pub exact : (k d : ℕ) → (meant_at meanings k ≡ Some d) ↔ RefersTo files rows k d

-- these are the answers on the first n statements
pub record TellFirst (files : Briefs) (rows : List Row) (n : ℕ) (answers : Answers) : Type 0 where
  pub each : length answers.meanings.items ≡ n
  pub meant : (k d : ℕ) → (meant_at answers.meanings.items k ≡ Some d)
      ↔ ((k < n) × RefersTo files rows k d)
  pub refs : ReferToFirst rows n answers.definitions
  pub types : (file offset : ℕ) → placed_in answers.types file offset
      ≡ number_at (take n rows) (codes "type") file offset
  pub uses : (file offset : ℕ) → placed_in answers.uses file offset
      ≡ number_at (take n rows) (codes "uses") file offset
