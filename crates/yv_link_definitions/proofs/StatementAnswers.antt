-- What is told of all statements.
use Rattle.std.proofs.Common.{◌≡◌, ℕ, List, length, true, Some, codes, Option, sym, ◌∙◌, ap, subst, arith}
use Rattle.std.specs.List.{slice_get}
use Rattle.std.proofs.lemmas.List.{take_all}
use Rattle.std.proofs.lemmas.Option.{slice_get_within}
use Rattle.yv_link_scopes.specs.Files.{Briefs}
use Rattle.yv_link_scopes.specs.Rows.{Row}
use Rattle.yv_link_definitions.specs.References.{number_at, ref_of}
use Rattle.yv_link_definitions.specs.Places.{placed_in}
use Rattle.yv_link_definitions.specs.InnerPlaces.{is_definition, ref_in}
use Rattle.yv_link_definitions.specs.InnerAnswers.{AreMeant, TellFirst}
use Rattle.yv_link_definitions.specs.declared.answers.Answers.{Answers}
use Rattle.yv_link_definitions.proofs.ReaderAnswers.{meant_all}

module _ (files : Briefs) (rows : List Row) (answers : Answers) (told : TellFirst files rows (length rows) answers) where
  pub meanings_told : AreMeant files rows answers.meanings.items
  meanings_told = record { exact = meant_all files rows (length rows) answers.meanings.items (omega arith) told.meant }

  pub refs_told : (d : ℕ) (r : Row) → slice_get rows d ≡ Some r → is_definition r ≡ true → ref_in answers.definitions d ≡ Some (ref_of r)
  refs_told d r at is = told.refs d r (slice_get_within rows d r at) at is

  pub types_told : (file offset : ℕ) → placed_in answers.types file offset ≡ number_at rows (codes "type") file offset
  types_told file offset = told.types file offset ∙ ap (λ xs. number_at xs (codes "type") file offset) (take_all (length rows) rows (omega arith))

  pub uses_told : (file offset : ℕ) → placed_in answers.uses file offset ≡ number_at rows (codes "uses") file offset
  uses_told file offset = told.uses file offset ∙ ap (λ xs. number_at xs (codes "uses") file offset) (take_all (length rows) rows (omega arith))

pub meanings_read : (files : Briefs) (rows : List Row) (answers : Answers) (meanings : List (Option ℕ)) → meanings ≡ answers.meanings.items → TellFirst files rows (length rows) answers → AreMeant files rows meanings
meanings_read files rows answers meanings is told = subst (λ (xs : List (Option ℕ)). AreMeant files rows xs) (sym is) (meanings_told files rows answers told)
