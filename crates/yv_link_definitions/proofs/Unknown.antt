-- What types and uses that were looked up mean, and what it is that they name.
use Rattle.std.proofs.Common.{◌≡◌, ℕ, ◌↔◌, ◌&&◌, Bool, true, false, not, cond, is_some, IsTrue, List, codes, map, Option, Some, None, refl, sym, ◌∙◌, ap, subst}
use Rattle.std.specs.List.{slice_get}
use Rattle.std.proofs.lemmas.Bool.{false≢true}
use Rattle.std.proofs.lemmas.Option.{same_Some}
use Rattle.std.proofs.lemmas.Slice.Eq.{bytes_eq-Decides}
use Rattle.yv_link_scopes.specs.Files.{Briefs, Files, brief_of}
use Rattle.yv_link_scopes.specs.Rows.{Row, name_in}
use Rattle.yv_link_scopes.specs.RowList.{rows_of}
use Rattle.yv_link_scopes.specs.Scopes.{MeansIn}
use Rattle.yv_link_scopes.specs.declared.kind.NameKind.{NameKind}
use Rattle.yv_link_scopes.specs.declared.kind.NameKind.TheVariants.{Typedef, Grouping}
use Rattle.yv_link_definitions.specs.BuiltIn.{is_built_in}
use Rattle.yv_link_definitions.specs.Refers.{IsUnknown, Refers, RefersTo, is_type, names_definition}
use Rattle.yv_link_definitions.specs.Leads.{CountsFor, Joins}
use Rattle.yv_link_definitions.specs.InnerAnswers.{AreMeant, meant_at}
use Rattle.yv_link_definitions.proofs.Words.{not_true, word_once}

-- a type names a typedef, and all else that names a definition names a grouping
abbrev pub kind_in : Row → NameKind
kind_in r = cond (is_type r) Typedef Grouping

first_true : (a b : Bool) → (a && b) ≡ true → a ≡ true
first_true true b h = refl
first_true false b h = absurd (false≢true h)

pub kind_named : (kind : NameKind) (r : Row) → names_definition kind r ≡ true → kind_in r ≡ kind
kind_named Typedef r h = ap (λ b. cond b Typedef Grouping) (first_true (is_type r) (not (is_built_in (name_in r))) h)
kind_named Grouping r h = ap (λ b. cond b Typedef Grouping) (not_true (is_type r) (λ g. let bad : codes "type" ≡ codes "uses" = word_once r.head (codes "type") (codes "uses") g h in false≢true ((bytes_eq-Decides (codes "type") (codes "uses")).1 bad)))
kind_named kind r h = absurd (false≢true h)

pub kind_given : (kind : NameKind) (r : Row) (b : Bool) → b ≡ is_type r → names_definition kind r ≡ true → cond b Typedef Grouping ≡ kind
kind_given kind r b e h = ap (λ t. cond t Typedef Grouping) e ∙ kind_named kind r h

none_some : {A : Type 0} (x : A) → None ≡ Some x → ⊥
none_some x e = cc

module _ (files : Files) (meanings : List (Option ℕ)) (meant : AreMeant (map brief_of files) (rows_of files) meanings) (k : ℕ) (r : Row) (at : slice_get (rows_of files) k ≡ Some r) where
  -- a statement that means nothing is unknown where it names a definition
  pub unknown_none : (kind : NameKind) (flag : Bool) → ((d : Option ℕ) × MeansIn (map brief_of files) (rows_of files) kind k (name_in r) d) → meant_at meanings k ≡ None → flag ≡ names_definition kind r → IsTrue flag ↔ IsUnknown (map brief_of files) (rows_of files) kind k r
  unknown_none kind flag something none is = (λ h. (sym is ∙ h, nothing (sym is ∙ h) something.0 something.1), λ u. is ∙ u.0)
    where
      nothing : names_definition kind r ≡ true → (d : Option ℕ) → MeansIn (map brief_of files) (rows_of files) kind k (name_in r) d → MeansIn (map brief_of files) (rows_of files) kind k (name_in r) None
      nothing h None m = m
      nothing h (Some d) m = absurd (none_some d (sym none ∙ (meant.exact k d).1 (kind, record { statement = r; at = at; names = h; means = m })))

  -- one that means something isn't
  pub unknown_some : (kind : NameKind) (d : ℕ) → ((o p : Option ℕ) → MeansIn (map brief_of files) (rows_of files) kind k (name_in r) o → MeansIn (map brief_of files) (rows_of files) kind k (name_in r) p → o ≡ p) → meant_at meanings k ≡ Some d → IsTrue false ↔ IsUnknown (map brief_of files) (rows_of files) kind k r
  unknown_some kind d one is = (
    λ h. absurd (false≢true h),
    λ u.
        let found : RefersTo (map brief_of files) (rows_of files) k d = (meant.exact k d).0 is in
        let same : found.1.statement ≡ r = same_Some found.1.statement r (sym found.1.at ∙ at) in
        let named : names_definition found.0 r ≡ true = ap (names_definition found.0) (sym same) ∙ found.1.names in
        let kinds : found.0 ≡ kind = sym (kind_named found.0 r named) ∙ kind_named kind r u.0 in
        let means : MeansIn (map brief_of files) (rows_of files) kind k (name_in r) (Some d) =
        subst (λ (n : NameKind). MeansIn (map brief_of files) (rows_of files) n k (name_in r) (Some d)) kinds
        (subst (λ (x : Row). MeansIn (map brief_of files) (rows_of files) found.0 k (name_in x) (Some d)) same found.1.means) in
        absurd (none_some d (one None (Some d) u.1 means)),
  )

  pub unknown_read : (kind : NameKind) (flag : Bool) → ((o p : Option ℕ) → MeansIn (map brief_of files) (rows_of files) kind k (name_in r) o → MeansIn (map brief_of files) (rows_of files) kind k (name_in r) p → o ≡ p) → (o : Option ℕ) → o ≡ meant_at meanings k → is_some o ≡ not flag → flag ≡ false → IsTrue flag ↔ IsUnknown (map brief_of files) (rows_of files) kind k r
  unknown_read kind flag one None is some unset = absurd (false≢true (some ∙ ap not unset))
  unknown_read kind flag one (Some d) is some unset = subst (λ (b : Bool). IsTrue b ↔ IsUnknown (map brief_of files) (rows_of files) kind k r) (sym unset) (unknown_some kind d one (sym is))

pub none_read : (o : Option ℕ) (flag : Bool) → is_some o ≡ not flag → flag ≡ true → o ≡ None
none_read None flag some set = refl
none_read (Some d) flag some set = absurd (false≢true (sym (some ∙ ap not set)))

-- the definition for which a statement counts, and that which it means
module _ (files : Briefs) (rows : List Row) (meanings : List (Option ℕ)) (meant : AreMeant files rows meanings) (k : ℕ) (r : Row) (at : slice_get rows k ≡ Some r) where
  pub no_pair : (o : Option (ℕ × ℕ)) → o ≡ None → meant_at meanings k ≡ None → (a b : ℕ) → (o ≡ Some (a, b)) ↔ Joins files rows k a b
  no_pair o empty none a b = (λ e. absurd (none_some (a, b) (sym empty ∙ e)), λ j. absurd (none_some b (sym none ∙ (meant.exact k b).1 (j.0, j.2))))

  module _ (kind : NameKind) (d : ℕ) (own : Option ℕ) (is : meant_at meanings k ≡ Some d) (only : (other : NameKind) → names_definition other r ≡ true → kind ≡ other) (counts : (a : ℕ) → (own ≡ Some a) ↔ CountsFor rows kind k a) where
    named_so : (other : NameKind) (b : ℕ) → Refers files rows other k b → kind ≡ other
    named_so other b h = only other (ap (names_definition other) (sym (same_Some h.statement r (sym h.at ∙ at))) ∙ h.names)

    counts_so : (other : NameKind) (a b : ℕ) → CountsFor rows other k a → Refers files rows other k b → own ≡ Some a
    counts_so other a b c h = (counts a).1 (subst (λ (n : NameKind). CountsFor rows n k a) (sym (named_so other b h)) c)

    pub no_owner : (o : Option (ℕ × ℕ)) → o ≡ None → own ≡ None → (a b : ℕ) → (o ≡ Some (a, b)) ↔ Joins files rows k a b
    no_owner o empty none a b = (λ e. absurd (none_some (a, b) (sym empty ∙ e)), λ j. absurd (none_some a (sym none ∙ counts_so j.0 a b j.1 j.2)))

    pub a_pair : (c : ℕ) (o : Option (ℕ × ℕ)) → o ≡ Some (c, d) → own ≡ Some c → (a b : ℕ) → (o ≡ Some (a, b)) ↔ Joins files rows k a b
    a_pair c o pair some a b = (to, from)
      where
        to : o ≡ Some (a, b) → Joins files rows k a b
        to e =
            let both : (c, d) ≡ (a, b) = same_Some (c, d) (a, b) (sym pair ∙ e) in
            let found : RefersTo files rows k d = (meant.exact k d).0 is in
            subst (λ (p : ℕ × ℕ). Joins files rows k p.0 p.1) both (found.0, subst (λ (n : NameKind). CountsFor rows n k c) (named_so found.0 d found.1) ((counts c).0 some), found.1)

        from : Joins files rows k a b → o ≡ Some (a, b)
        from j =
            let left : c ≡ a = same_Some c a (sym some ∙ counts_so j.0 a b j.1 j.2) in
            let right : d ≡ b = same_Some d b (sym is ∙ (meant.exact k b).1 (j.0, j.2)) in
            pair ∙ ap (λ n. Some (n, d)) left ∙ ap (λ n. Some (a, n)) right
