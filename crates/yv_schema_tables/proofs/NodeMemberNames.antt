-- Nodes of modules: whose they are, and what their members are called.
use Rattle.std.proofs.Common.{◌≡◌, ◌≢◌, ℕ, zero, suc, ◌==◌, ◌&&◌, inl, inr, List, [], ◌∷◌, ◌++◌, refl, sym, ap, ◌∙◌, subst, Bool, true, false, cond, Option, Some, None}
use Rattle.std.specs.List.{AllByRecursion, slice_get}
use Rattle.std.specs.Str.{bytes_eq}
use Rattle.std.proofs.lemmas.Bool.{false≢true, false_from_ne_true, eq-eqb}
use Rattle.std.proofs.lemmas.Slice.Eq.{bytes_eq-Decides}
use Rattle.yv_text_statement.specs.declared.refusal.Refusal.{Refusal}
use Rattle.yv_node_content.specs.declared.kind.NodeKind.{NodeKind}
use Rattle.yv_node_content.specs.Kinds.{is_case, is_choice, is_passed}
use Rattle.yv_nodes.specs.Member.{data_module_file, is_module_file, member_name, member_of}
use Rattle.yv_nodes.specs.Places.{Place, places_below}
use Rattle.yv_nodes.specs.Rows.{Module}
use Rattle.yv_nodes.specs.Tree.{Forest, Label, labels, no_trees, node, tree}
use Rattle.yv_schema_tables.specs.DuplicateNodes.{duplicate_at, family, names_that_differ}
use Rattle.yv_schema_tables.specs.InnerTables.{module_file_named, is_called, is_front}
use Rattle.yv_schema_tables.specs.NodeNumbers.{AreFormed, AreModules, HasNoColon, IsFormed, IsNamed}
use Rattle.yv_schema_tables.specs.DataChildren.{opened_trees}
use Rattle.yv_schema_tables.proofs.Colons.{colon_apart, colon_cut}
use Rattle.yv_schema_tables.proofs.SiblingNamesakes.{AreDistinct, IsOf, Pair, SameBoth, append_cases, kept_opened, kept_two, each_in, named_plain, one_module_file, one_name}
use Rattle.yv_schema_tables.proofs.ChildDirectories.{equal, equal_is}
use Rattle.yv_schema_tables.proofs.Members.{append_all}

-- a node of one of the modules, and what its member is called where this module is around
pub record IsAround (modules : List Module) (around : Option ℕ) (l : Label) : Type 0 where
  pub of_module : IsNamed modules l.module_file l.module_name
  pub plain : HasNoColon l.defined.name
  pub member : l.member ≡ member_name around l.module_file l.module_name l.defined.name

pub each_as : {X : Type 0} (P Q : X → Type 0) (xs : List X) → ((x : X) → P x → Q x) → AllByRecursion P xs → AllByRecursion Q xs
each_as P Q [] f h = tt
each_as P Q (x ∷ xs) f h = (f x h.0, each_as P Q xs f h.1)

module _ (modules : List Module) where
  own_around : (above : List Label) (l : Label) → IsFormed modules above l → IsAround modules (data_module_file above) l
  own_around above l h = record { of_module = h.of_module; plain = h.plain; member = h.member }

  pub labels_of : (above : List Label) (ts : Forest) → AreFormed modules above ts → AllByRecursion (IsAround modules (data_module_file above)) (labels ts)
  labels_of above no_trees h = tt
  labels_of above (tree (node l kids) ts) h = (own_around above l h.0, labels_of above ts h.2)

  -- choices and cases are passed through: what is around them is around those in them
  pub opened_of : (above : List Label) (ts : Forest) → AreFormed modules above ts → AllByRecursion (IsAround modules (data_module_file above)) (names_that_differ ts)
  opened_of above no_trees h = tt
  opened_of above (tree (node l kids) ts) h =
      let P : Label → Type 0 = IsAround modules (data_module_file above) in
      let here : List Label = cond (is_case l.defined.kind) [] (l ∷ []) in
      let inner : List Label = cond (is_passed l.defined.kind) (names_that_differ kids) [] in
      append_all P (here ++ inner) (names_that_differ ts)
      (append_all P here inner (own (is_case l.defined.kind)) (below (is_passed l.defined.kind) (opened_of (l ∷ above) kids h.1)))
      (opened_of above ts h.2)
    where
      own : (b : Bool) → AllByRecursion (IsAround modules (data_module_file above)) (cond b [] (l ∷ []))
      own true = tt
      own false = (own_around above l h.0, tt)

      below : (b : Bool) → AllByRecursion (IsAround modules (cond b (data_module_file above) (Some l.module_file))) (names_that_differ kids) → AllByRecursion (IsAround modules (data_module_file above)) (cond b (names_that_differ kids) [])
      below true k = k
      below false k = tt

  pub around_of : (around : Option ℕ) (ls : List Label) → AllByRecursion (IsAround modules around) ls → AllByRecursion (IsOf modules) ls
  around_of around ls h = each_as (IsAround modules around) (IsOf modules) ls (λ l k. k.of_module) h

  pub family_of : (kind : NodeKind) (above : List Label) (ts : Forest) → AreFormed modules above ts → AllByRecursion (IsOf modules) (family kind ts)
  family_of kind above ts h = by (is_choice kind) (is_case kind)
    where
      by : (b d : Bool) → AllByRecursion (IsOf modules) (cond b (labels ts) (cond d [] (names_that_differ ts)))
      by true d = around_of (data_module_file above) (labels ts) (labels_of above ts h)
      by false true = tt
      by false false = around_of (data_module_file above) (names_that_differ ts) (opened_of above ts h)

  -- the trees below a place
  pub place_formed : (above : List Label) (ts : Forest) (k : ℕ) (p : Place) → AreFormed modules above ts → slice_get (places_below above ts) k ≡ Some p → AreFormed modules (p.label ∷ p.above) p.kids
  place_formed above no_trees k p h at = cc
  place_formed above (tree (node l kids) ts) zero p h at =
      let q : Place = record { label = l; above = above; kids = kids } in
      let same : q ≡ p = cc in
      subst (λ (r : Place). AreFormed modules (r.label ∷ r.above) r.kids) same h.1
  place_formed above (tree (node l kids) ts) (suc k) p h at = elim (append_cases (places_below (l ∷ above) kids) (places_below above ts) k p at) [
    | inl x ↦ place_formed (l ∷ above) kids k p h.1 x
    | inr x ↦ place_formed above ts x.0 p h.2 x.2
  ]

-- what is around those below a node that is no choice or case
pub data_here : (l : Label) (above : List Label) → is_passed l.defined.kind ≡ false → data_module_file (l ∷ above) ≡ Some l.module_file
data_here l above met = rw met refl

-- texts with one front are the same where the rest is
pub bytes_eq_front : (front a b : List ℕ) → bytes_eq (front ++ a) (front ++ b) ≡ bytes_eq a b
bytes_eq_front [] a b = refl
bytes_eq_front (x ∷ xs) a b = rw (eq-eqb x x refl) (bytes_eq_front xs a b)

-- the first module of a name
named_some : (modules : List Module) (name : List ℕ) (module_file : ℕ) → module_file_named modules name ≡ Some module_file → IsNamed modules module_file name
named_some [] name module_file h = cc
named_some (m ∷ ms) name module_file h = by (bytes_eq m.name name) refl h (named_some ms name module_file)
  where
    by : (b : Bool) → bytes_eq m.name name ≡ b → cond b (Some m.module_file) (module_file_named ms name) ≡ Some module_file → (module_file_named ms name ≡ Some module_file → IsNamed ms module_file name) → IsNamed (m ∷ ms) module_file name
    by true e h later = let same : m.module_file ≡ module_file = cc in record { place = 0; found = m; at = refl; module_file_is = same; name_is = (bytes_eq-Decides m.name name).0 e }
    by false e h later = let r : IsNamed ms module_file name = later h in record { place = suc r.place; found = r.found; at = r.at; module_file_is = r.module_file_is; name_is = r.name_is }

named_not : (modules : List Module) (name : List ℕ) (k : ℕ) (m : Module) → slice_get modules k ≡ Some m → module_file_named modules name ≡ None → m.name ≢ name
named_not [] name k m at h = cc
named_not (n ∷ ms) name k m at h = by (bytes_eq n.name name) refl h k at (named_not ms name)
  where
    by : (b : Bool) → bytes_eq n.name name ≡ b → cond b (Some n.module_file) (module_file_named ms name) ≡ None → (k : ℕ) → slice_get (n ∷ ms) k ≡ Some m
        → ((k : ℕ) (m : Module) → slice_get ms k ≡ Some m → module_file_named ms name ≡ None → m.name ≢ name) → m.name ≢ name
    by true e h k at later = cc
    by false e h zero at later = let same : n ≡ m = cc in λ is. false≢true (sym e ∙ (bytes_eq-Decides n.name name).1 (ap (λ (x : Module). x.name) same ∙ is))
    by false e h (suc k) at later = later k m at h

module _ (modules : List Module) (apart : AreModules modules) (around : Option ℕ) where
  -- two nodes of one object have one member where they have one module and one name
  pub member_both : (a b : Label) → IsAround modules around a → IsAround modules around b → a.member ≡ b.member → SameBoth a b
  member_both a b p q e = by (is_module_file a.module_file around) (is_module_file b.module_file around) refl refl (sym p.member ∙ e ∙ q.member)
    where
      module_file_is : (o : Option ℕ) → is_module_file a.module_file o ≡ true → is_module_file b.module_file o ≡ true → a.module_file ≡ b.module_file
      module_file_is None g h = absurd (false≢true g)
      module_file_is (Some n) g h = sym (equal_is n a.module_file g) ∙ equal_is n b.module_file h

      by : (c d : Bool) → is_module_file a.module_file around ≡ c → is_module_file b.module_file around ≡ d
          → member_of (cond c false true) a.module_name a.defined.name ≡ member_of (cond d false true) b.module_name b.defined.name → SameBoth a b
      by true true g h same = (one_name modules a.module_file b.module_file a.module_name b.module_name apart p.of_module q.of_module (module_file_is around g h), same)
      by true false g h same = absurd (colon_apart a.defined.name b.module_name b.defined.name p.plain same)
      by false true g h same = absurd (colon_apart b.defined.name a.module_name a.defined.name q.plain (sym same))
      by false false g h same =
          colon_cut a.module_name b.module_name a.defined.name b.defined.name (named_plain modules a.module_file a.module_name apart p.of_module) (named_plain modules b.module_file b.module_name apart q.of_module) same

  -- in an object where no node repeats another, the members differ
  pub distinct_in : (ts : Forest) → AllByRecursion (IsAround modules around) (names_that_differ ts) → ((f : Refusal) → Pair SameBoth (names_that_differ ts) f → ⊥) → AreDistinct (labels (opened_trees ts))
  distinct_in ts are none = λ i k a b lt at_i at_k e.
      let kept_is = kept_opened ts in
      let two = kept_two (names_that_differ ts) i k a b lt (ap (λ (ls : List Label). slice_get ls i) (sym kept_is) ∙ at_i) (ap (λ (ls : List Label). slice_get ls k) (sym kept_is) ∙ at_k) in
      let P : Label → Type 0 = IsAround modules around in
      let same : SameBoth a b = member_both a b (each_in P (names_that_differ ts) two.0 a are two.3) (each_in P (names_that_differ ts) two.1 b are two.4) e in
      none (duplicate_at b) (record { i = two.0; k = two.1; a = a; b = b; before = two.2; at_i = two.3; at_k = two.4; alike = same; is = refl })

  -- a member without a colon is the name of a node whose module is around
  pub bare_is : (member : List ℕ) (l : Label) → HasNoColon member → IsAround modules around l → bytes_eq l.member member ≡ is_called around None member l
  bare_is member l plain h = ap (λ (text : List ℕ). bytes_eq text member) h.member ∙ by (is_module_file l.module_file around)
    where
      by : (b : Bool) → bytes_eq (member_of (cond b false true) l.module_name l.defined.name) member ≡ (is_front (cond b None (Some l.module_file)) None && bytes_eq l.defined.name member)
      by true = refl
      by false = false_from_ne_true _ (λ e. colon_apart member l.module_name l.defined.name plain (sym ((bytes_eq-Decides (l.module_name ++ 58 ∷ l.defined.name) member).0 e)))

  -- behind the name of a module is that of a node of this module, where another one is around
  pub fronted_is : (owner name : List ℕ) (module_file : ℕ) (l : Label) → module_file_named modules owner ≡ Some module_file → IsAround modules around l → bytes_eq l.member (owner ++ 58 ∷ name) ≡ is_called around (Some module_file) name l
  fronted_is owner name module_file l known h = ap (λ (text : List ℕ). bytes_eq text (owner ++ 58 ∷ name)) h.member ∙ by (is_module_file l.module_file around) (l.module_file == module_file) refl
    where
      of : IsNamed modules module_file owner
      of = named_some modules owner module_file known

      by : (b c : Bool) → (l.module_file == module_file) ≡ c → bytes_eq (member_of (cond b false true) l.module_name l.defined.name) (owner ++ 58 ∷ name) ≡ (is_front (cond b None (Some l.module_file)) (Some module_file) && bytes_eq l.defined.name name)
      by true c e = false_from_ne_true _ (λ is. colon_apart l.defined.name owner name h.plain ((bytes_eq-Decides l.defined.name (owner ++ 58 ∷ name)).0 is))
      by false true e =
          let same : l.module_name ≡ owner = one_name modules l.module_file module_file l.module_name owner apart h.of_module of (equal_is l.module_file module_file e) in
          ap (λ (text : List ℕ). bytes_eq (text ++ 58 ∷ l.defined.name) (owner ++ 58 ∷ name)) same ∙ bytes_eq_front owner (58 ∷ l.defined.name) (58 ∷ name) ∙ sym (ap (λ (d : Bool). d && bytes_eq l.defined.name name) e)
      by false false e =
          false_from_ne_true _ (λ is.
          let cut = colon_cut l.module_name owner l.defined.name name (named_plain modules l.module_file l.module_name apart h.of_module) (named_plain modules module_file owner apart of) ((bytes_eq-Decides (l.module_name ++ 58 ∷ l.defined.name) (owner ++ 58 ∷ name)).0 is) in
          false≢true (sym e ∙ equal l.module_file module_file (one_module_file modules l.module_file module_file l.module_name owner apart h.of_module of cut.0)))
          ∙ sym (ap (λ (d : Bool). d && bytes_eq l.defined.name name) e)

  -- behind what is the name of no module there is none
  pub unknown_is : (owner name : List ℕ) (l : Label) → HasNoColon owner → module_file_named modules owner ≡ None → IsAround modules around l → bytes_eq l.member (owner ++ 58 ∷ name) ≡ false
  unknown_is owner name l plain unknown h = ap (λ (text : List ℕ). bytes_eq text (owner ++ 58 ∷ name)) h.member ∙ by (is_module_file l.module_file around)
    where
      by : (b : Bool) → bytes_eq (member_of (cond b false true) l.module_name l.defined.name) (owner ++ 58 ∷ name) ≡ false
      by true = false_from_ne_true _ (λ is. colon_apart l.defined.name owner name h.plain ((bytes_eq-Decides l.defined.name (owner ++ 58 ∷ name)).0 is))
      by false =
          false_from_ne_true _ (λ is.
          let cut = colon_cut l.module_name owner l.defined.name name (named_plain modules l.module_file l.module_name apart h.of_module) plain ((bytes_eq-Decides (l.module_name ++ 58 ∷ l.defined.name) (owner ++ 58 ∷ name)).0 is) in
          named_not modules owner h.of_module.place h.of_module.found h.of_module.at unknown (h.of_module.name_is ∙ cut.0))
