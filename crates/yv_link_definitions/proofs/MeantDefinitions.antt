-- What types and uses mean.
use Rattle.std.proofs.Common.{◌≡◌, ℕ, ◌<◌, ◌&&◌, ◌||◌, ◌⊎◌, inl, inr, Bool, true, false, List, length, Option, Some, None, refl}
use Rattle.std.specs.List.{slice_get}
use Rattle.std.proofs.lemmas.Bool.{false≢true}
use Rattle.std.proofs.lemmas.Option.{slice_get_within}
use Rattle.yv_link_scopes.specs.Names.{local_of}
use Rattle.yv_link_scopes.specs.Files.{Briefs}
use Rattle.yv_link_scopes.specs.Rows.{Row, name_in}
use Rattle.yv_link_scopes.specs.Scopes.{MeansFrom, start_of}
use Rattle.yv_link_scopes.specs.declared.kind.NameKind.{NameKind}
use Rattle.yv_link_scopes.specs.declared.kind.NameKind.TheVariants.{Prefix, Include, Typedef, Grouping, Feature, Identity, Extension}
use Rattle.yv_link_definitions.specs.Duplicates.{is_of}
use Rattle.yv_link_definitions.specs.InnerPlaces.{is_definition}
use Rattle.yv_link_definitions.specs.Refers.{Refers, RefersTo}

-- what is meant is a statement
pub meant_within : (files : Briefs) (rows : List Row) (kind : NameKind) (k d : ℕ) → Refers files rows kind k d → d < length rows
meant_within files rows kind k d h = by (start_of files rows k (name_in h.statement)) h.means
  where
    by : (o : Option ℕ) → MeansFrom kind rows (local_of (name_in h.statement)) o (Some d) → d < length rows
    by None e = absurd (let bad : Some d ≡ None = e in cc)
    by (Some block) m = slice_get_within rows d m.0.2.0 m.0.2.1

and_first : (a b : Bool) → (a && b) ≡ true → a ≡ true
and_first true b h = refl
and_first false b h = h

-- it is one of the kind
kind_meant : (files : Briefs) (rows : List Row) (kind : NameKind) (k d : ℕ) → Refers files rows kind k d → (r : Row) × (slice_get rows d ≡ Some r) × (is_of kind r ≡ true)
kind_meant files rows kind k d h = by (start_of files rows k (name_in h.statement)) h.means
  where
    by : (o : Option ℕ) → MeansFrom kind rows (local_of (name_in h.statement)) o (Some d) → (r : Row) × (slice_get rows d ≡ Some r) × (is_of kind r ≡ true)
    by None e = absurd (let bad : Some d ≡ None = e in cc)
    by (Some block) m =
        let r = m.0.2.0 in
        (r, m.0.2.1, and_first (is_of kind r) _ m.0.2.2)

is_either : (a b : Bool) → (a ≡ true) ⊎ (b ≡ true) → (a || b) ≡ true
is_either true b h = refl
is_either false b (inl h) = absurd (false≢true h)
is_either false b (inr h) = h

-- what is meant is a typedef or a grouping
pub meant_definition : (files : Briefs) (rows : List Row) (k d : ℕ) → RefersTo files rows k d → (r : Row) × (slice_get rows d ≡ Some r) × (is_definition r ≡ true)
meant_definition files rows k d h = by h.0 h.1
  where
    by : (kind : NameKind) → Refers files rows kind k d → (r : Row) × (slice_get rows d ≡ Some r) × (is_definition r ≡ true)
    by Typedef g = let p = kind_meant files rows Typedef k d g in (p.0, p.1, is_either (is_of Typedef p.0) (is_of Grouping p.0) (inl p.2))
    by Grouping g = let p = kind_meant files rows Grouping k d g in (p.0, p.1, is_either (is_of Typedef p.0) (is_of Grouping p.0) (inr p.2))
    by Prefix g = absurd (false≢true g.names)
    by Include g = absurd (false≢true g.names)
    by Feature g = absurd (false≢true g.names)
    by Identity g = absurd (false≢true g.names)
    by Extension g = absurd (false≢true g.names)
