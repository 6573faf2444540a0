-- What is said of items that doesn't wait for types: whether they are mandatory, have a presence,
-- or state their configuration, as refines change it (RFC 7950, sections 3, 7.5.5, 7.6.5, 7.7.5,
-- 7.13.2 and 7.21.1).
use Rattle.std.specs.Prelude.{ℕ, List, [], ◌∷◌, ◌++◌, map, None, slice_index_or}
use Rattle.yv_link_scopes.specs.Files.{Files}
use Rattle.yv_expand.specs.Tree.{Item}
use Rattle.yv_expand_augments.specs.MandatoryNodes.{MarksView}
use Rattle.yv_base_graph.specs.Marks.{is_marked}
use Rattle.yv_node_properties.specs.Marks.{is_mandatory, stated_of}
use Rattle.yv_node_properties.specs.Properties.{last_said, statements_of_origin}
use Rattle.yv_node_properties.specs.declared.properties.StatedProperties.{StatedProperties}

-- what is said of an item that these refines change: by its own statement, or by the last of them
-- that says something
abbrev pub said_of : Files → Item → (changes : List ℕ) → StatedProperties
said_of files x changes = stated_of (last_said files (statements_of_origin x.origin ++ changes))

-- what is said of each item
abbrev pub said_of_all : Files → List Item → (changes : List (List ℕ)) → List StatedProperties
said_of_all files [] changes = []
said_of_all files (x ∷ xs) [] = said_of files x [] ∷ said_of_all files xs []
said_of_all files (x ∷ xs) (c ∷ cs) = said_of files x c ∷ said_of_all files xs cs

-- what is known of numbered items of which this is said
abbrev pub told_of : List StatedProperties → MarksView
told_of said = record {
  mandatory = is_marked (map is_mandatory said);
  presence = is_marked (map (λ (s : StatedProperties). s.presence) said);
  config = λ i. slice_index_or (map (λ (s : StatedProperties). s.config) said) i None;
}
