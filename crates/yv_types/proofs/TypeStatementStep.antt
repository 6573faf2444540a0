-- What one type statement has.
use Rattle.std.proofs.Common.{◌≡◌, ℕ, ◌<◌, ◌≤◌, ◌↔◌, inr, zero, suc, length, get_or, ◌&&◌, Bool, true, false, not, List, [], ◌∷◌, map, refl, sym, ◌∙◌, ap, subst, arith, Option, Some, None, codes}
use Rattle.std.specs.Prelude.{Result, Ok, Err, IfOk}
use Rattle.std.specs.List.{Contains, slice_get}
use Rattle.std.specs.Str.{bytes_eq}
use Rattle.std.proofs.lemmas.Bool.{false≢true}
use Rattle.std.specs.Option.{option_map}
use Rattle.std.proofs.lemmas.Option.{same_Some, slice_get-map, slice_get_read}
use Rattle.std.proofs.lemmas.Slice.Eq.{bytes_eq-Decides}
use Rattle.yv_base_tables.specs.declared.table.Table.{Table}
use Rattle.yv_text_statement.specs.Selection.{ModuleChoice}
use Rattle.yv_link_scopes.specs.Files.{Files, brief_of}
use Rattle.yv_link_scopes.specs.Rows.{Row, name_in}
use Rattle.yv_link_scopes.specs.RowList.{rows_of}
use Rattle.yv_link_definitions.specs.BuiltIn.{is_built_in}
use Rattle.yv_link_definitions.specs.Refers.{is_type}
use Rattle.yv_type_chains.specs.Types.{Follows, is_kind, types_in, RestsOn}
use Rattle.yv_values.specs.Types.{Plain}
use Rattle.yv_type_enums.specs.Types.{HasNames, NamesView, Truth}
use Rattle.yv_type_restrictions.specs.Types.{HasPlainType}
use Rattle.yv_types.specs.Spaces.{Space, Spaces, plain_type, names_type, identityref, leafref, union, through_typedef}
use Rattle.yv_types.specs.InnerTables.{AreKnown, FollowsNone, IsBare, IsSpace, joined_from, plains_at}
use Rattle.yv_types.specs.declared.table.SharedTypes.{SharedTypes}
use Rattle.yv_types.proofs.UnionMembers.{joined_full, joined_sound, member_in}

no_list : (ps : List Plain) → None ≡ Some ps → ⊥
no_list ps e = cc

some_list : (ps : List Plain) → Some ps ≡ None → ⊥
some_list ps e = cc

-- what holds of each answer
pub if_ok : {A E : Type 0} (P Q : A → Type 0) (r : Result A E) → ((s : A) → P s → Q s) → IfOk r P → IfOk r Q
if_ok P Q (Ok s) f h = f s h
if_ok P Q (Err e) f h = h

pub both_true : (a b : Bool) → (a && b) ≡ true → b ≡ true
both_true true b h = h
both_true false b h = absurd (false≢true h)

not_both : (b : Bool) → b ≡ true → not b ≡ true → ⊥
not_both true h g = false≢true g
not_both false h g = false≢true h

pub named_is : (word : List ℕ) (r : Row) → is_built_in word ≡ true → is_kind word r ≡ true → is_built_in (name_in r) ≡ true
named_is word r built is =
    let same : name_in r ≡ word = (bytes_eq-Decides (name_in r) word).0 (both_true (is_type r) (bytes_eq (name_in r) word) is) in
    rw (same) built

pub leafref_built : is_built_in (codes "leafref") ≡ true
unfolding is_built_in
leafref_built = refl

pub identityref_built : is_built_in (codes "identityref") ≡ true
unfolding is_built_in
identityref_built = refl

pub union_built : is_built_in (codes "union") ≡ true
unfolding is_built_in
union_built = refl

no_plain : (p : Plain) → None ≡ Some p → ⊥
no_plain p e = cc

no_told : (t : NamesView) → None ≡ Some t → ⊥
no_told t e = cc

pub no_number : (j : ℕ) → None ≡ Some j → ⊥
no_number j e = cc

-- the view of a list's item
pub row_read : {A B : Type 0} (f : A → B) (xs : List A) (ys : List B) (k : ℕ) (x : A) → map f xs ≡ ys → k < length xs → x ≡ get_or xs k x → slice_get ys k ≡ Some (f x)
row_read f xs ys k x e h is = ap (λ l. slice_get l k) (sym e) ∙ slice_get-map f xs k ∙ ap (option_map f) (slice_get_read xs (length xs) k x refl h is)

past : {A : Type 0} (xs : List A) (k : ℕ) → length xs ≤ k → slice_get xs k ≡ None
past [] k h = refl
past (x ∷ xs) zero h = absurd (omega (arith, h))
past (x ∷ xs) (suc k) h = past xs k (omega (arith, h))

pub row_past : {A B : Type 0} (f : A → B) (xs : List A) (ys : List B) (k : ℕ) → map f xs ≡ ys → length xs ≤ k → slice_get ys k ≡ None
row_past f xs ys k e h = ap (λ l. slice_get l k) (sym e) ∙ slice_get-map f xs k ∙ ap (option_map f) (past xs k h)

-- nothing of its own is known of it
pub bare_by : (files : Files) (truth : Truth) (k : ℕ) → ((p : Plain) → (None ≡ Some p) ↔ HasPlainType files k p) → ((t : NamesView) → (None ≡ Some t) ↔ HasNames files truth k t) → IsBare files truth k
bare_by files truth k plain names = record { plain = λ p h. no_plain p ((plain p).1 h); names = λ t h. no_told t ((names t).1 h) }

-- what names a built-in type follows none
pub apart : (files : Files) (k j : ℕ) (r : Row) (word : List ℕ) → is_built_in word ≡ true → slice_get (rows_of files) k ≡ Some r → is_kind word r ≡ true → Follows (map brief_of files) (rows_of files) k j → ⊥
apart files k j r word known at is f =
    let same : f.refers.statement ≡ r = same_Some f.refers.statement r (sym f.refers.at ∙ at) in
    let built : is_built_in (name_in f.refers.statement) ≡ true = subst (λ (x : Row). is_built_in (name_in x) ≡ true) (sym same) (named_is word r known is) in
    not_both (is_built_in (name_in f.refers.statement)) built (both_true (is_type f.refers.statement) (not (is_built_in (name_in f.refers.statement))) f.refers.names)

module _ (files : Files) (truth : Truth) (choice : ModuleChoice) (k : ℕ) where
  -- what it has is known
  pub has_some : (o : Option (List Plain)) (ps : List Plain) → o ≡ Some ps → Space files truth choice k ps → IsSpace files truth choice k o
  has_some o ps is s = record {
    sound = λ qs e. subst (Space files truth choice k) (same_Some ps qs (sym is ∙ e)) s;
    full = λ e qs h. absurd (some_list ps (sym is ∙ e));
  }

  -- a derived type has what the type has that it follows
  module _ (bare : IsBare files truth k) (j : ℕ) (f : Follows (map brief_of files) (rows_of files) k j) (one : (i : ℕ) → Follows (map brief_of files) (rows_of files) k i → i ≡ j) where
    follows_space : (ps : List Plain) → Space files truth choice k ps → Space files truth choice j ps
    follows_space ps (plain_type h) = absurd (bare.plain _ h)
    follows_space ps (names_type told ns h up same) = absurd (bare.names told h)
    follows_space ps (identityref {r = r} at is up ids) = absurd (apart files k j r (codes "identityref") identityref_built at is f)
    follows_space ps (leafref {r = r} at is) = absurd (apart files k j r (codes "leafref") leafref_built at is f)
    follows_space ps (union {r = r} at is all) = absurd (apart files k j r (codes "union") union_built at is f)
    follows_space ps (through_typedef {j = i} g np nn s) = subst (λ n. Space files truth choice n ps) (one i g) s

    pub has_followed : (o : Option (List Plain)) → IsSpace files truth choice j o → IsSpace files truth choice k o
    has_followed o known = record {
      sound = λ ps e. through_typedef f bare.plain bare.names (known.sound ps e);
      full = λ e ps h. known.full e ps (follows_space ps h);
    }

  module _ (bare : IsBare files truth k) (alone : FollowsNone files k) where
    -- a number without a statement
    out_space : slice_get (rows_of files) k ≡ None → (ps : List Plain) → Space files truth choice k ps → ⊥
    out_space out ps (plain_type h) = bare.plain _ h
    out_space out ps (names_type told ns h up same) = bare.names told h
    out_space out ps (identityref {r = r} at is up ids) = let bad : None ≡ Some r = sym out ∙ at in cc
    out_space out ps (leafref {r = r} at is) = let bad : None ≡ Some r = sym out ∙ at in cc
    out_space out ps (union {r = r} at is all) = let bad : None ≡ Some r = sym out ∙ at in cc
    out_space out ps (through_typedef {j = i} g np nn s) = alone i g

    pub has_out : (o : Option (List Plain)) → o ≡ None → slice_get (rows_of files) k ≡ None → IsSpace files truth choice k o
    has_out o is out = record {
      sound = λ ps e. absurd (no_list ps (sym is ∙ e));
      full = λ e ps h. out_space out ps h;
    }

    module _ (r : Row) (at : slice_get (rows_of files) k ≡ Some r) where
      row_is : (word : List ℕ) (s : Row) → slice_get (rows_of files) k ≡ Some s → is_kind word s ≡ true → is_kind word r ≡ true
      row_is word s there is = subst (λ (x : Row). is_kind word x ≡ true) (same_Some s r (sym there ∙ at)) is

      other_space : is_kind (codes "leafref") r ≡ false → is_kind (codes "identityref") r ≡ false → is_kind (codes "union") r ≡ false → (ps : List Plain) → Space files truth choice k ps → ⊥
      other_space l i u ps (plain_type h) = bare.plain _ h
      other_space l i u ps (names_type told ns h up same) = bare.names told h
      other_space l i u ps (identityref {r = s} there is up ids) = false≢true (sym i ∙ row_is (codes "identityref") s there is)
      other_space l i u ps (leafref {r = s} there is) = false≢true (sym l ∙ row_is (codes "leafref") s there is)
      other_space l i u ps (union {r = s} there is all) = false≢true (sym u ∙ row_is (codes "union") s there is)
      other_space l i u ps (through_typedef {j = j} g np nn s) = alone j g

      -- any other type
      pub has_none : (o : Option (List Plain)) → o ≡ None → is_kind (codes "leafref") r ≡ false → is_kind (codes "identityref") r ≡ false → is_kind (codes "union") r ≡ false → IsSpace files truth choice k o
      has_none o is l i u = record {
        sound = λ ps e. absurd (no_list ps (sym is ∙ e));
        full = λ e ps h. other_space l i u ps h;
      }

      union_space : is_kind (codes "leafref") r ≡ false → is_kind (codes "identityref") r ≡ false → (ps : List Plain) → Space files truth choice k ps → Spaces files truth choice (types_in (rows_of files) k) ps
      union_space l i ps (plain_type h) = absurd (bare.plain _ h)
      union_space l i ps (names_type told ns h up same) = absurd (bare.names told h)
      union_space l i ps (identityref {r = s} there is up ids) = absurd (false≢true (sym i ∙ row_is (codes "identityref") s there is))
      union_space l i ps (leafref {r = s} there is) = absurd (false≢true (sym l ∙ row_is (codes "leafref") s there is))
      union_space l i ps (union {r = s} there is all) = all
      union_space l i ps (through_typedef {j = j} g np nn s) = absurd (alone j g)

      -- a union
      pub has_joined : (spaces : Table SharedTypes) (o : Option (List Plain)) → is_kind (codes "leafref") r ≡ false → is_kind (codes "identityref") r ≡ false → is_kind (codes "union") r ≡ true → AreKnown files truth choice (RestsOn (map brief_of files) (rows_of files) k) spaces → o ≡ joined_from spaces [] (types_in (rows_of files) k) → IsSpace files truth choice k o
      has_joined spaces o l i u known is =
          let members : (m : ℕ) → Contains (types_in (rows_of files) k) m → IsSpace files truth choice m (plains_at spaces m) = λ m c. known m (inr (member_in (rows_of files) k m r at u c)) in
          record {
            sound = λ ps e. let h = joined_sound files truth choice spaces (types_in (rows_of files) k) [] ps members (sym is ∙ e) in
                union at u (subst (Spaces files truth choice (types_in (rows_of files) k)) (sym h.2) h.1);
            full = λ e ps h. joined_full files truth choice spaces (types_in (rows_of files) k) [] ps members (union_space l i ps h) (sym is ∙ e);
          }
