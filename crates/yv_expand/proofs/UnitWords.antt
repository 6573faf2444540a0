-- Keywords, and the statements as they are read.
use Rattle.std.proofs.Common.{◌≡◌, ℕ, ◌<◌, Bool, true, false, not, ◌&&◌, List, length, map, get_or, refl, sym, ◌∙◌, ap, codes, Option, Some, None}
use Rattle.std.specs.List.{slice_get}
use Rattle.std.specs.Option.{option_map}
use Rattle.std.proofs.lemmas.List.{length-map}
use Rattle.std.proofs.lemmas.Option.{slice_get-map, slice_get_read, slice_get_within}
use Rattle.std.proofs.lemmas.Slice.Eq.{bytes_eq-Decides}
use Rattle.yv_text_statement.specs.Tree.{Head}
use Rattle.yv_link_scopes.specs.Names.{local_of}
use Rattle.yv_link_scopes.specs.Files.{Briefs, has_word}
use Rattle.yv_link_scopes.specs.Rows.{Row, name_in}
use Rattle.yv_link_scopes.specs.Scopes.{MeansFrom, start_of}
use Rattle.yv_link_scopes.specs.declared.kind.NameKind.{NameKind}
use Rattle.yv_link_scopes.specs.declared.kind.NameKind.TheVariants.{Prefix, Include, Typedef, Grouping, Feature, Identity, Extension}
use Rattle.yv_link_definitions.specs.BuiltIn.{is_built_in}
use Rattle.yv_link_definitions.specs.Duplicates.{is_of}
use Rattle.yv_link_definitions.specs.Refers.{Refers, is_type, names_definition}
use Rattle.yv_expand_statements.specs.Units.{units_of}

-- a statement has one keyword
word_is : (head : Head) (u : List ℕ) → has_word u head ≡ true → head.keyword ≡ u
word_is head u h = (bytes_eq-Decides head.keyword u).0 h

none_type : units_of (codes "type") ≡ None
unfolding units_of
none_type = refl

none_grouping : units_of (codes "grouping") ≡ None
unfolding units_of
none_grouping = refl

-- what counts is no type and no grouping
pub counts_no_type : (r : Row) (own : ℕ) → units_of r.head.keyword ≡ Some own → is_type r ≡ true → ⊥
counts_no_type r own e h =
    let bad : None ≡ Some own = sym none_type ∙ ap units_of (sym (word_is r.head (codes "type") h)) ∙ e in cc

pub counts_no_grouping : (r : Row) (own : ℕ) → units_of r.head.keyword ≡ Some own → is_of Grouping r ≡ true → ⊥
counts_no_grouping r own e h =
    let bad : None ≡ Some own = sym none_grouping ∙ ap units_of (sym (word_is r.head (codes "grouping") h)) ∙ e in cc

false_true : false ≡ true → ⊥
false_true h = cc

pub both_true : (a b : Bool) → (a && b) ≡ true → (a ≡ true) × (b ≡ true)
both_true true b h = (refl, h)
both_true false b h = absurd (false_true h)

-- what counts names a grouping, if it names a definition
pub counts_kind : (kind : NameKind) (r : Row) (own : ℕ) → units_of r.head.keyword ≡ Some own → names_definition kind r ≡ true → kind ≡ Grouping
counts_kind Prefix r own e h = absurd (false_true h)
counts_kind Include r own e h = absurd (false_true h)
counts_kind Typedef r own e h = absurd (counts_no_type r own e (both_true (is_type r) (not (is_built_in (name_in r))) h).0)
counts_kind Grouping r own e h = refl
counts_kind Feature r own e h = absurd (false_true h)
counts_kind Identity r own e h = absurd (false_true h)
counts_kind Extension r own e h = absurd (false_true h)

-- what is meant is a statement
pub meant_within : (files : Briefs) (rows : List Row) (kind : NameKind) (k d : ℕ) → Refers files rows kind k d → d < length rows
meant_within files rows kind k d h = by (start_of files rows k (name_in h.statement)) h.means
  where
    by : (o : Option ℕ) → MeansFrom kind rows (local_of (name_in h.statement)) o (Some d) → d < length rows
    by None e = absurd (let bad : Some d ≡ None = e in cc)
    by (Some block) m = slice_get_within rows d m.0.2.0 m.0.2.1

-- the view of a list's item
pub row_read : {A B : Type 0} (f : A → B) (xs : List A) (ys : List B) (k : ℕ) (x : A) → map f xs ≡ ys → k < length xs → x ≡ get_or xs k x → slice_get ys k ≡ Some (f x)
row_read f xs ys k x e h is = ap (λ l. slice_get l k) (sym e) ∙ slice_get-map f xs k ∙ ap (option_map f) (slice_get_read xs (length xs) k x refl h is)

pub rows_count : {A B : Type 0} (f : A → B) (xs : List A) (ys : List B) → map f xs ≡ ys → length xs ≡ length ys
rows_count f xs ys e = sym (length-map xs f) ∙ ap length e

-- a grouping doesn't count
pub none_of_grouping : (r : Row) → is_of Grouping r ≡ true → units_of r.head.keyword ≡ None
none_of_grouping r h = ap units_of (word_is r.head (codes "grouping") h) ∙ none_grouping
