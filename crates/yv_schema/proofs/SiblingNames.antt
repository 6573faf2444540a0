-- Where nothing is refused of files, siblings differ, and defaults of choices are cases.
use Rattle.std.proofs.Common.{inl, inr, ◌⊎◌, ◌≡◌, ◌<◌, ℕ, Bool, true, false, List, length, None, Some, refl}
use Rattle.std.specs.Option.{is_some}
use Rattle.std.proofs.lemmas.Bool.{and_from, cases_Bool, not_from_false}
use Rattle.std.proofs.lemmas.Option.{slice_get_within}
use Rattle.std.specs.List.{slice_get}
use Rattle.yv_text_statement.specs.Order.{IsLeast}
use Rattle.yv_text_statement.specs.Selection.{ModuleChoice}
use Rattle.yv_text_statement.specs.declared.refusal.Refusal.{Refusal}
use Rattle.yv_text_statement.specs.declared.refusal.Code.TheVariants as code
use Rattle.yv_link_scopes.specs.Files.{Files}
use Rattle.yv_node_checks.specs.Mandatory.{default_case}
use Rattle.yv_node_checks.specs.Bad.{BadTree}
use Rattle.yv_nodes.specs.Places.{Place, places}
use Rattle.yv_nodes.specs.Refusals.{refusal_of}
use Rattle.yv_nodes.specs.Tree.{Forest, Label}
use Rattle.yv_schema_tables.specs.DuplicateNodes.{HasDuplicate, HasRepeat, duplicate_at, family, names_that_differ}
use Rattle.yv_schema.specs.Refuses.{Refuses}
use Rattle.yv_schema.specs.Schema.{IsSchema}
use Rattle.yv_schema.specs.Siblings.{DefaultsAreCases, DifferInName, SiblingsDiffer}

differ : (ls : List Label) → ((f : Refusal) → HasRepeat ls f → ⊥) → DifferInName ls
differ ls none i k a b before first second same name =
    none (duplicate_at b)
    (k, slice_get_within ls k b second, b, second, (record { place = i; first = a; before = before; at = first; same_module = same; same_name = name }, refl))

module _ (choice : ModuleChoice) (files : Files) (limit : ℕ) (top : Forest) (none : IsLeast (Refuses choice files limit) None) (is : IsSchema choice files top) where
  no_duplicate : (f : Refusal) → HasDuplicate top f → ⊥
  no_duplicate f h = none f (inr (inr (inr (record { tree = top; schema = is; stands = inl (inl h) }))))

  no_bad_tree : (f : Refusal) → BadTree top f → ⊥
  no_bad_tree f h = none f (inr (inr (inr (record { tree = top; schema = is; stands = inr (inl h) }))))

  pub siblings_differ : SiblingsDiffer top
  siblings_differ = record {
    top = differ (names_that_differ top) (λ f h. no_duplicate f (inl h));
    below = λ k p at. differ (family p.label.defined.kind p.kids) (λ f h. no_duplicate f (inr (k, slice_get_within (places top) k p at, p, at, h)));
  }

  pub defaults_are_cases : DefaultsAreCases top
  defaults_are_cases k p at is_choice has = elim (cases_Bool (is_some (default_case p))) [
    | inl found ↦ found
    | inr lost ↦
        absurd (no_bad_tree (refusal_of code.BadDefault p.label)
        (inr (k, slice_get_within (places top) k p at, p, at, inr (inl (and_from _ _ is_choice (and_from _ _ has (not_from_false _ lost)), refl)))))
  ]
