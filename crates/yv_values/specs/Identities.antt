-- Identities (RFC 7950, section 7.18).
use Rattle.std.specs.Prelude.{ℕ, List, Bool, ◌<◌, ◌&&◌, Option, Some, None, if◌then◌else◌, count_by, map, nat_le, nat_lt}
use Rattle.std.specs.Cmp.Lexicographic.{slice_cmp}
use Rattle.std.specs.List.{filter, list_any}
use Rattle.std.specs.List.Sorted.{IsStrictlySortedBy}
use Rattle.std.specs.Ordering.{nat_cmp, ordering_then}
use Rattle.std.specs.Rc.{rc_str_bytes}
use Rattle.std.specs.Str.{bytes_eq}
use Rattle.std.specs.declared.cmp.Ordering.{Ordering}
use Rattle.yv_values.specs.declared.members.Member.{Member}
use Rattle.yv_values.specs.declared.numbered_members.NumberedMember.{NumberedMember}
use Rattle.yv_values.specs.Values.{Val, identity}

-- an identity: its module and its name
pub record Id : Type 0 where
  pub module_name : List ℕ
  pub name : List ℕ

-- the module and the name of an identity
abbrev pub id_of : Member → Id
id_of m = record { module_name = rc_str_bytes m.module; name = rc_str_bytes m.name }

-- by module, and then by name
abbrev pub id_cmp : Id → Id → Ordering
id_cmp i j =
    ordering_then (slice_cmp nat_cmp i.module_name j.module_name) (slice_cmp nat_cmp i.name j.name)

-- each of these identities comes before all after it, so that none is there twice
abbrev pub RiseById : List Id → Type 0
RiseById = IsStrictlySortedBy id_cmp

-- an identity has this module and name
abbrev pub is_identity : List ℕ → List ℕ → Id → Bool
is_identity module_name called i = bytes_eq i.module_name module_name && bytes_eq i.name called

-- the identity of this module and name, where it is one of these (section 9.10)
abbrev pub identity_in : List Id → List ℕ → List ℕ → Option Val
identity_in ids module_name called = if list_any (is_identity module_name called) ids
    then Some (identity module_name called) else None

-- an identity with a number
pub record NumberedId : Type 0 where
  pub id : Id
  pub number : ℕ

-- an identity with its number
abbrev pub numbered_of : NumberedMember → NumberedId
numbered_of m = record { id = id_of m.member; number = m.number }

-- identities without their numbers
abbrev pub ids_of : List NumberedId → List Id
ids_of all = map (λ (e : NumberedId). e.id) all

-- one of these identities is there twice
pub record HasTwins (all : List NumberedId) : Type 0 where
  pub twin : Id
  pub twice : 1 < count_by (λ (e : NumberedId). is_identity twin.module_name twin.name e.id) all

-- a number is from the low one up to the high one, and not that
abbrev pub is_between : ℕ → ℕ → ℕ → Bool
is_between low high n = nat_le low n && nat_lt n high

-- the identities whose numbers are
abbrev pub between : List NumberedId → ℕ → ℕ → List Id
between all low high = ids_of (filter (λ (e : NumberedId). is_between low high e.number) all)
