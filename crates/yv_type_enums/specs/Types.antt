-- What is known of the names of `type` statements that lead along typedefs to `enumeration` or to
-- `bits`: a derived type lists some of the names of the type that it follows, or none and has them
-- all (RFC 7950, sections 7.3.4, 9.6.3, 9.6.4,
-- 9.7.3 and 9.7.4).
use Rattle.std.specs.Prelude.{◌≡◌, ℕ, ℤ, Bool, List, map, Option, Some, None, codes, if◌then◌else◌, slice_get}
use Rattle.yv_text_statement.specs.Tree.{Tree}
use Rattle.yv_text_statement.specs.declared.refusal.Refusal.{Refusal}
use Rattle.yv_link_scopes.specs.Files.{Files, brief_of}
use Rattle.yv_link_scopes.specs.Rows.{Row}
use Rattle.yv_link_scopes.specs.RowList.{rows_of, statements_of}
use Rattle.yv_type_chains.specs.Types.{Follows, is_kind}
use Rattle.yv_base_numbers.specs.Numberings.{is_wrong, is_wrong_in, keep_numbers, number_in, number_entries}
use Rattle.yv_base_numbers.specs.declared.numbering.NumberKind.{NumberKind}
use Rattle.yv_base_numbers.specs.declared.numbering.NumberKind.TheVariants.{Enumeration, Bits}
use Rattle.yv_type_enums.specs.Entries.{entries, is_on_among, listing}
use Rattle.yv_type_enums.specs.Names.{IsRefusal, is_value_among, is_value_from, number_from}

-- which `if-feature` expressions hold in each file
abbrev pub Truth : Type 0
Truth = ℕ → List ℕ → Bool

-- what is known of a type's names: whether they are values or bits, the number of each, and which
-- are values
pub record NamesView : Type 0 where
  pub kind : NumberKind
  pub number : List ℕ → Option ℤ
  pub value : List ℕ → Bool

-- where a type statement's names come from: a new type has them by itself, a derived one from
-- what is known of the type that it follows
pub data Start : Type 0 where
  new : NumberKind → Start
  from : NamesView → Start

-- the number of a name in a type that isn't derived
abbrev pub new_number : NumberKind → Tree → List ℕ → Option ℤ
new_number kind t = number_in (number_entries kind (entries kind t))

-- what is known of a type statement in a file
abbrev pub names_of_start : Truth → ℕ → Tree → Start → NamesView
names_of_start truth file t (new kind) = record {
  kind = kind;
  number = new_number kind t;
  value = is_value_among (new_number kind t) (is_on_among truth file (listing kind t));
}
names_of_start truth file t (from base) = record {
  kind = base.kind;
  number = number_from base.number (entries base.kind t);
  value = is_value_from base.value (number_from base.number (entries base.kind t))
      (is_on_among truth file) (listing base.kind t);
}

-- none of its entries is wrong, or f is the refusal of the first one that is
abbrev pub IsFaultBy : ℕ → Tree → Start → Option Refusal → Type 0
IsFaultBy file t (new kind) f = IsRefusal (number_entries kind) (is_wrong kind) kind file t f
IsFaultBy file t (from base) f =
    IsRefusal (keep_numbers base.number) (is_wrong_in base.number) base.kind file t f

-- the kind of a type that names `enumeration` or `bits`
abbrev pub kind_in : Row → Option NumberKind
kind_in r =
    if is_kind (codes "enumeration") r then Some Enumeration
    else if is_kind (codes "bits") r then Some Bits
    else None

mutual
  -- from what type k takes its names
  pub data StartsFrom (files : Files) (truth : Truth) : ℕ → Start → Type 0 where
    first : {k : ℕ} {r : Row} {kind : NumberKind} → slice_get (rows_of files) k ≡ Some r
        → kind_in r ≡ Some kind → StartsFrom files truth k (new kind)
    from_base : {k j : ℕ} {base : NamesView} → Follows (map brief_of files) (rows_of files) k j
        → HasNames files truth j base → StartsFrom files truth k (from base)

  -- what is known of type k; types that lead elsewhere have nothing known
  pub data HasNames (files : Files) (truth : Truth) : ℕ → NamesView → Type 0 where
    from_entries : {k : ℕ} {s : Start} {r : Row} {t : Tree} {told : NamesView}
        → StartsFrom files truth k s → slice_get (rows_of files) k ≡ Some r
        → slice_get (statements_of files) k ≡ Some t → told ≡ names_of_start truth r.file t s
        → HasNames files truth k told
