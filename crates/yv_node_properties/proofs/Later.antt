-- What is said by several statements.
use Rattle.std.proofs.Common.{◌≡◌, ℕ, List, [], ◌∷◌, Option, Some, None, is_some, refl}
use Rattle.std.specs.Prelude.{◌||◌}
use Rattle.std.specs.Option.{option_map, option_or}
use Rattle.yv_text_statement.specs.declared.keyword.Keyword.TheVariants as word
use Rattle.yv_link_scopes.specs.Files.{Files}
use Rattle.yv_node_properties.specs.Marks.{over, stated_of}
use Rattle.yv_node_properties.specs.Properties.{Substatements, is_true, last_said, least_of, said_at}

or_map : {A B : Type 0} (f : A → B) (a b : Option A) → option_map f (option_or a b) ≡ option_or (option_map f a) (option_map f b)
or_map f None b = refl
or_map f (Some x) b = refl

or_some : {A : Type 0} (a b : Option A) → is_some (option_or a b) ≡ (is_some a || is_some b)
or_some None b = refl
or_some (Some x) b = refl

both : (s t : Substatements) → stated_of (λ keyword. option_or (s keyword) (t keyword)) ≡ over (stated_of s) (stated_of t)
both s t = λ i. record {
  config = or_map is_true (s word.Config) (t word.Config) i;
  mandatory = or_map is_true (s word.Mandatory) (t word.Mandatory) i;
  presence = or_some (s word.Presence) (t word.Presence) i;
  min = or_map least_of (s word.MinElements) (t word.MinElements) i;
}

pub later : (files : Files) (n : ℕ) (ns : List ℕ) → stated_of (last_said files (n ∷ ns)) ≡ over (stated_of (last_said files ns)) (stated_of (said_at files n))
later files n ns = both (last_said files ns) (said_at files n)
