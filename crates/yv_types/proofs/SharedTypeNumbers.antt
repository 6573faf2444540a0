-- Type statements that have the same numbers of plain types and of a typedef.
use Rattle.std.proofs.Common.{◌≡◌, ℕ, List, Option, Some, None, refl, sym, ap, ◌∙◌}
use Rattle.std.specs.Option.{option_and_then, option_map}
use Rattle.yv_base_tables.specs.Table.{item_of}
use Rattle.yv_base_tables.specs.declared.table.Table.{Table}
use Rattle.yv_values.specs.Types.{Plain}
use Rattle.yv_types.specs.TypeDefaults.{found_in, text_in, typedef_in}
use Rattle.yv_link_definitions.specs.Places.{placed_in}
use Rattle.yv_types.specs.InnerTables.{AreNumbered, entry_at, entry_of, plains, plains_at}
use Rattle.yv_types.specs.Types.{default_at, sharing_at, sharing_of, space_at}
use Rattle.yv_types.specs.declared.type_table.Types.{Types}
use Rattle.yv_types.specs.declared.table.SharedTypes.{SharedTypes}

-- the plain types at a place are those of its entry
plains_in : (spaces : Table SharedTypes) (k : ℕ) → plains_at spaces k ≡ option_map (λ (x : ℕ × List Plain). x.1) (entry_at spaces k)
plains_in spaces k = by (item_of spaces k)
  where
    by : (o : Option SharedTypes) → option_map plains o ≡ option_map (λ (x : ℕ × List Plain). x.1) (option_map entry_of o)
    by None = refl
    by (Some s) = refl

-- an entry and a typedef, where both are there
abbrev pub pair_of : Option (ℕ × List Plain) → Option ℕ → Option (ℕ × ℕ)
pair_of entry typedef = option_and_then (λ (e : ℕ × List Plain). option_map (λ (d : ℕ). (e.0, d)) typedef) entry

parts : (entry : Option (ℕ × List Plain)) (typedef : Option ℕ) (numbers : ℕ × ℕ) → pair_of entry typedef ≡ Some numbers
    → (e : ℕ × List Plain) × (entry ≡ Some e) × (e.0 ≡ numbers.0) × (typedef ≡ Some numbers.1)
parts None typedef numbers h = cc
parts (Some e) None numbers h = cc
parts (Some e) (Some d) numbers h =
    let same : (e.0, d) ≡ numbers = (let g : Some (e.0, d) ≡ Some numbers = h in cc) in
    (e, refl, ap (λ (n : ℕ × ℕ). n.0) same, ap (λ (n : ℕ × ℕ). Some n.1) same)

module _ (types : Types) (are : AreNumbered types.spaces) (numbers : ℕ × ℕ) where
  of_numbers : (j k : ℕ) → sharing_of types j ≡ Some numbers → sharing_of types k ≡ Some numbers
      → (plains_at types.spaces j ≡ plains_at types.spaces k) × (found_in types.defaults j ≡ found_in types.defaults k)
  of_numbers j k has_j has_k =
      let p = parts (entry_at types.spaces j) (typedef_in types.defaults j) numbers has_j in
      let q = parts (entry_at types.spaces k) (typedef_in types.defaults k) numbers has_k in
      let lists : p.0.1 ≡ q.0.1 = are j k p.0 q.0 p.1 q.1 (p.2 ∙ sym q.2) in (
        plains_in types.spaces j
            ∙ ap (option_map (λ (x : ℕ × List Plain). x.1)) p.1
            ∙ ap (λ (ps : List Plain). Some ps) lists
            ∙ sym (ap (option_map (λ (x : ℕ × List Plain). x.1)) q.1)
            ∙ sym (plains_in types.spaces k),
        ap (option_and_then (text_in types.defaults.said)) (p.3 ∙ sym q.3),
      )

  of_places : (a b : Option ℕ) → option_and_then (sharing_of types) a ≡ Some numbers → option_and_then (sharing_of types) b ≡ Some numbers
      → (option_and_then (plains_at types.spaces) a ≡ option_and_then (plains_at types.spaces) b)
      × (option_and_then (found_in types.defaults) a ≡ option_and_then (found_in types.defaults) b)
  of_places None b g h = cc
  of_places (Some j) None g h = cc
  of_places (Some j) (Some k) g h = of_numbers j k g h

  -- they have the same plain types and the same default
  pub same_at : (f o file offset : ℕ) → sharing_at types f o ≡ Some numbers → sharing_at types file offset ≡ Some numbers
      → (space_at types f o ≡ space_at types file offset) × (default_at types f o ≡ default_at types file offset)
  same_at f o file offset g h = of_places (placed_in types.places f o) (placed_in types.places file offset) g h
