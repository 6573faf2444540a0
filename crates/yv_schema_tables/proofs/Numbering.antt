-- The names of nodes, one node after the other.
use Rattle.std.proofs.Common.{◌≡◌, ℕ, ◌+◌, List, [], ◌∷◌, ◌++◌, length, length-append, take, sym, ap, ◌∙◌, subst, arith, Some, inl, inr, ◌<◌}
use Rattle.std.specs.List.{slice_get, slice_index_or}
use Rattle.std.proofs.lemmas.List.{take_all}
use Rattle.std.proofs.lemmas.Option.{get_or_from_slice_get, same_Some, slice_get_within}
use Rattle.yv_nodes.specs.Rows.{Row, blank_row}
use Rattle.yv_schema_tables.specs.declared.names.NameTable.{NameTable}
use Rattle.yv_schema_tables.specs.InnerNames.{HaveNumbers, AreOfNodes, names_of, number_in, with_name}
use Rattle.yv_schema_tables.proofs.SiblingNamesakes.{append_cases}
use Rattle.yv_schema_tables.proofs.NameNumbers.{names_more, number_stays}

module _ (rows : List Row) where
  abbrev name_at : ℕ → List ℕ
  name_at i = (slice_index_or rows i blank_row).label.defined.name

  -- the names of the first n nodes, and their numbers
  pub record NamesFirst (names : NameTable) (numbers : List ℕ) (n : ℕ) : Type 0 where
    pub named : HaveNumbers (names_of (take n rows)) names
    pub each : length numbers ≡ n
    pub gives : (i number : ℕ) → slice_get numbers i ≡ Some number → number_in (names_of (take n rows)) (name_at i) ≡ Some number

  -- one more node
  pub names_next : (old new : NameTable) (numbers grown : List ℕ) (n number : ℕ) (row : Row) → NamesFirst old numbers n → slice_get rows n ≡ Some row
      → HaveNumbers (with_name (names_of (take n rows)) row.label.defined.name) new → number_in (with_name (names_of (take n rows)) row.label.defined.name) row.label.defined.name ≡ Some number
      → grown ≡ numbers ++ number ∷ [] → NamesFirst new grown (n + 1)
  names_next old new numbers grown n number row h at named known pushed =
      let more : names_of (take (n + 1) rows) ≡ with_name (names_of (take n rows)) row.label.defined.name = names_more rows n row at in
      record {
        named = subst (λ (names : List (List ℕ)). HaveNumbers names new) (sym more) named;
        each = omega (arith, ap length pushed, length-append numbers (number ∷ []), h.each);
        gives = λ i k got. ap (λ (names : List (List ℕ)). number_in names (name_at i)) more ∙ by i k (ap (λ (ns : List ℕ). slice_get ns i) (sym pushed) ∙ got);
      }
    where
      by : (i k : ℕ) → slice_get (numbers ++ number ∷ []) i ≡ Some k → number_in (with_name (names_of (take n rows)) row.label.defined.name) (name_at i) ≡ Some k
      by i k got = elim (append_cases numbers (number ∷ []) i k got) [
        | inl before ↦ number_stays (names_of (take n rows)) row.label.defined.name (name_at i) k (h.gives i k before)
        | inr last ↦
            let within : last.0 < 1 = slice_get_within (number ∷ []) last.0 k last.2 in
            let here : i ≡ n = omega (arith, last.1, h.each, within) in
            let own : name_at i ≡ row.label.defined.name = ap name_at here ∙ ap (λ (r : Row). r.label.defined.name) (get_or_from_slice_get rows n row blank_row at) in
            let first : 0 ≡ last.0 = omega (arith, within) in
            let is : number ≡ k = same_Some number k (ap (slice_get (number ∷ [])) first ∙ last.2) in
            ap (number_in (with_name (names_of (take n rows)) row.label.defined.name)) own ∙ known ∙ ap Some is
      ]

  pub names_end : (names : NameTable) (numbers : List ℕ) (n : ℕ) → length rows ≡ n → NamesFirst names numbers n → HaveNumbers (names_of rows) names × AreOfNodes rows numbers
  names_end names numbers n all h =
      let every : take n rows ≡ rows = take_all n rows (omega (arith, all)) in (
        subst (λ (rs : List Row). HaveNumbers (names_of rs) names) every h.named,
        record { each = h.each ∙ sym all; gives = λ i number got. ap (λ (rs : List Row). number_in (names_of rs) (name_at i)) (sym every) ∙ h.gives i number got },
      )
