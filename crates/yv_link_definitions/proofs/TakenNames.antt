-- Names of definitions that are taken.
use Rattle.std.proofs.Common.{◌≡◌, ◌≢◌, ℕ, ◌≤◌, ◌↔◌, ◌||◌, ◌⊎◌, inl, inr, nat_lt, Bool, true, false, is_some, IsTrue, List, Option, Some, None, refl, sym, ◌∙◌, ap, subst, arith}
use Rattle.std.specs.List.{slice_get}
use Rattle.std.proofs.lemmas.Option.{same_Some}
use Rattle.std.proofs.lemmas.Bool.{false≢true, lt-ltb, ltb-true}
use Rattle.yv_link_scopes.specs.Rows.{Row, name_in}
use Rattle.yv_link_scopes.specs.Tables.{Table, first_of}
use Rattle.yv_link_scopes.specs.Scopes.{AreNested, Encloses, itself, inside, IsNamed, IsFirst, Means}
use Rattle.yv_link_scopes.specs.declared.kind.NameKind.{NameKind}
use Rattle.yv_link_scopes.specs.declared.kind.NameKind.TheVariants.{Typedef}
use Rattle.yv_link_scopes.proofs.Meanings.{first_named}
use Rattle.yv_link_definitions.specs.BuiltIn.{is_built_in}
use Rattle.yv_link_definitions.specs.Duplicates.{IsTaken, again, outside, built_in, kind_defined, is_scoped}
use Rattle.yv_link_definitions.specs.InnerDuplicates.{HasAround, HasBefore}

-- what is looked up in a block is the first there
pub looked_up : (kind : NameKind) (rows : List Row) (block : ℕ) (text name : List ℕ) (table : Table) (o : Option ℕ) → table ≡ first_of kind rows → text ≡ name → o ≡ table block text → IsFirst (IsNamed kind rows block name) o
looked_up kind rows block text name table o same spelled e = first_named kind rows block name o (ap (λ (t : Table). t block name) (sym same) ∙ ap (table block) (sym spelled) ∙ sym e)

pub before_some : (kind : NameKind) (rows : List Row) (k f : ℕ) (r : Row) → IsFirst (IsNamed kind rows r.scope (name_in r)) (Some f) → IsTrue (nat_lt f k) ↔ HasBefore kind rows k r
before_some kind rows k f r h = (
  λ t. (f, ltb-true f k t, h.0),
  λ b. lt-ltb f k (let x = h.1 b.0 b.2 in let y = b.1 in omega arith),
)

pub before_none : (kind : NameKind) (rows : List Row) (k : ℕ) (r : Row) → IsFirst (IsNamed kind rows r.scope (name_in r)) None → IsTrue false ↔ HasBefore kind rows k r
before_none kind rows k r h = (λ t. absurd (false≢true t), λ b. absurd (h b.0 b.2))

-- a block stands behind those around it
enclosed : {rows : List Row} {outer block : ℕ} → AreNested rows → Encloses rows outer block → outer ≤ block
enclosed nested itself = omega arith
enclosed nested (inside {block = b} {r = r} at e) = let x = enclosed nested e in let y = nested b r at in omega arith

-- a root stands in no other block
root_alone : {rows : List Row} {outer block : ℕ} {root : ℕ} {r : Row} → slice_get rows root ≡ Some r → r.scope ≡ root → Encloses rows outer block → block ≡ root → outer ≡ root
root_alone at own itself e = e
root_alone {rows} {root = root} {r = r} at own (inside {r = s} here next) e = root_alone at own next (let same : s ≡ r = same_Some s r (sym here ∙ ap (slice_get rows) e ∙ at) in ap (λ (x : Row). x.scope) same ∙ own)

pub around_root : (kind : NameKind) (rows : List Row) (r s : Row) → slice_get rows r.scope ≡ Some s → s.scope ≡ r.scope → IsTrue false ↔ HasAround kind rows r
around_root kind rows r s at own = (λ t. absurd (false≢true t), λ h. absurd (h.1 (root_alone at own h.2 refl)))

pub around_none : (kind : NameKind) (rows : List Row) (r : Row) → slice_get rows r.scope ≡ None → IsTrue false ↔ HasAround kind rows r
around_none kind rows r at = (λ t. absurd (false≢true t), λ h. by h.1 h.2 refl)
  where
    by : {outer block : ℕ} → outer ≢ r.scope → Encloses rows outer block → block ≡ r.scope → IsTrue false
    by ne itself e = absurd (ne e)
    by ne (inside {r = s} here next) e = absurd (let bad : None ≡ Some s = sym at ∙ ap (slice_get rows) (sym e) ∙ here in cc)

further_out : {rows : List Row} {outer block : ℕ} (r s : Row) → slice_get rows r.scope ≡ Some s → outer ≢ r.scope → Encloses rows outer block → block ≡ r.scope → Encloses rows outer s.scope
further_out r s at ne itself e = absurd (ne e)
further_out {rows} {outer = outer} r s at ne (inside {r = t} here next) e = subst (λ (x : Row). Encloses rows outer x.scope) (same_Some t s (sym here ∙ ap (slice_get rows) e ∙ at)) next

pub around_means : (kind : NameKind) (rows : List Row) (r s : Row) (o : Option ℕ) → AreNested rows → slice_get rows r.scope ≡ Some s → s.scope ≢ r.scope → Means kind rows s.scope (name_in r) o → IsTrue (is_some o) ↔ HasAround kind rows r
around_means kind rows r s (Some d) nested at ne m = (
  λ t. (m.0.0, (λ same. let x = enclosed nested m.0.1 in let y = nested r.scope s at in ne (omega (arith, same, x, y))), inside at m.0.1, d, m.0.2),
  λ h. refl,
)
around_means kind rows r s None nested at ne m = (
  λ t. absurd (false≢true t),
  λ h. absurd (m h.3 (h.0, further_out r s at h.1 h.2 refl, h.4)),
)

-- a definition's name is taken in one of three ways
pub taken_by : (rows : List Row) (k : ℕ) (r : Row) (kind : NameKind) (before around built result : Bool) → kind_defined r ≡ Some kind → IsTrue before ↔ HasBefore kind rows k r → (IsTrue around ↔ ((is_scoped kind ≡ true) × HasAround kind rows r)) → (IsTrue built ↔ ((kind ≡ Typedef) × (is_built_in (name_in r) ≡ true))) → result ≡ (before || (around || built)) → IsTrue result ↔ IsTaken rows k r
taken_by rows k r kind before around built result is b a t e = (λ h. to before around b.0 a.0 t.0 (sym e ∙ h), λ h. e ∙ from h)
  where
    to : (x y : Bool) → (IsTrue x → HasBefore kind rows k r) → (IsTrue y → (is_scoped kind ≡ true) × HasAround kind rows r) → (IsTrue built → (kind ≡ Typedef) × (is_built_in (name_in r) ≡ true)) → (x || (y || built)) ≡ true → IsTaken rows k r
    to true y f g u h = let p = f refl in again p.0 is p.1 p.2
    to false true f g u h = let p = g refl in outside p.1.3 is p.0 p.1.1 p.1.2 p.1.4
    to false false f g u h = let p = u h in built_in (is ∙ ap Some p.0) p.1

    either : (x y z : Bool) → (x ≡ true) ⊎ ((y ≡ true) ⊎ (z ≡ true)) → (x || (y || z)) ≡ true
    either true y z h = refl
    either false true z h = refl
    either false false true h = refl
    either false false false (inl h) = h
    either false false false (inr (inl h)) = h
    either false false false (inr (inr h)) = h

    same_kind : (other : NameKind) → kind_defined r ≡ Some other → other ≡ kind
    same_kind other h = same_Some other kind (sym h ∙ is)

    from : IsTaken rows k r → (before || (around || built)) ≡ true
    from (again {kind = other} d h less n) = either before around built (inl (b.1 (d, less, subst (λ (q : NameKind). IsNamed q rows r.scope (name_in r) d) (same_kind other h) n)))
    from (outside {kind = other} {outer = block} d h s ne enc n) = either before around built (inr (inl (a.1 (ap is_scoped (sym (same_kind other h)) ∙ s, (block, ne, enc, d, subst (λ (q : NameKind). IsNamed q rows block (name_in r) d) (same_kind other h) n)))))
    from (built_in h name) = either before around built (inr (inr (t.1 (sym (same_kind Typedef h), name))))

pub taken_none : (rows : List Row) (k : ℕ) (r : Row) → kind_defined r ≡ None → IsTrue false ↔ IsTaken rows k r
taken_none rows k r none = (λ t. absurd (false≢true t), λ h. absurd (by h))
  where
    not_one : (kind : NameKind) → kind_defined r ≡ Some kind → ⊥
    not_one kind h = let bad : None ≡ Some kind = sym none ∙ h in cc

    by : IsTaken rows k r → ⊥
    by (again {kind = kind} d h less n) = not_one kind h
    by (outside {kind = kind} d h s ne enc n) = not_one kind h
    by (built_in h name) = not_one Typedef h
