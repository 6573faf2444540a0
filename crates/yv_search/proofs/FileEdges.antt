-- The edges of a file, by the meanings of its prefixes.
use Rattle.std.proofs.Common.{◌≡◌, ◌∙◌, ◌++◌, ℕ, List, Option, Some, sym, ap, append_assoc}
use Rattle.std.specs.List.{flat_map}
use Rattle.std.specs.Option.{option_and_then}
use Rattle.yv_text_statement.specs.Tree.{Tree, trees}
use Rattle.yv_search.specs.Wants.{module_of}
use Rattle.yv_search.specs.Statements.{places}
use Rattle.yv_search.specs.InnerPrefixes.{Refs, refs_of}
use Rattle.yv_search.specs.InnerEdges.{augment_edges, place_edges, edges_from, module_edges, file_edges}
use Rattle.yv_search.specs.declared.table.ModuleRef.{ModuleRef}
use Rattle.yv_search.specs.declared.edges.Edge.{Edge}

pub edges_of_file : (refs : Refs) (root : Tree) (m : ModuleRef) (o : Option ModuleRef) (meanings : Refs) (old mid new : List Edge) → o ≡ Some m → o ≡ option_and_then refs (module_of root) → ((q : List ℕ) → meanings q ≡ refs_of refs root q)
    → mid ≡ old ++ flat_map (augment_edges m.number meanings) (trees root.children) → new ≡ mid ++ flat_map (place_edges m.number meanings) (places root) → new ≡ old ++ file_edges refs (Some root)
edges_of_file refs root m o meanings old mid new is module_is mean augments places_ =
    places_
    ∙ ap (λ l. l ++ flat_map (place_edges m.number meanings) (places root)) augments
    ∙ append_assoc old (flat_map (augment_edges m.number meanings) (trees root.children)) (flat_map (place_edges m.number meanings) (places root))
    ∙ ap (λ (r : Refs). old ++ edges_from m.number r root) (λ i q. mean q i)
    ∙ ap (λ (p : Option ModuleRef). old ++ module_edges refs root p) (sym is ∙ module_is)
