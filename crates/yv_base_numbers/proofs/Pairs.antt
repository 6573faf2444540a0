-- One pair more.
use Rattle.std.proofs.Common.{◌≡◌, ℕ, ℤ, Bool, true, false, not, ◌||◌, cond, List, [], ◌∷◌, ◌++◌, Option, Some, None, refl, sym, ◌∙◌, ap, subst}
use Rattle.std.specs.Prelude.{is_some}
use Rattle.std.specs.Bool.{one_answer}
use Rattle.std.specs.BTreeMap.{BTreeMap, UpdatesBy}
use Rattle.std.specs.BTreeSet.{contains}
use Rattle.std.specs.Cmp.{Equal-is, int_cmp_is}
use Rattle.std.specs.Cmp.Lexicographic.{slice_cmp}
use Rattle.std.specs.Ordering.{int_cmp, int_eq, is_eq, nat_cmp}
use Rattle.std.specs.declared.cmp.Ordering.TheVariants.{Equal}
use Rattle.std.specs.Str.{bytes_eq}
use Rattle.std.proofs.lemmas.Bool.{both_ways}
use Rattle.std.proofs.lemmas.Bool.Decides.{Decides-int_eq}
use Rattle.std.proofs.lemmas.Map.Lookups.{exact_signed}
use Rattle.std.proofs.lemmas.Map.Text.{is_eq-slice_cmp}
use Rattle.std.proofs.lemmas.Slice.Eq.{bytes_eq-Decides}
use denote.Ref.{Bor}
use Rattle.yv_base_numbers.specs.InnerEarlierEntries.{Adds, Gives, Tells, Keeps}
use Rattle.yv_base_numbers.specs.Numberings.{Pair, number_in, is_taken, higher, highest_from, lookup_in, table_of}
use Rattle.yv_base_numbers.specs.declared.numbering.Numbering.{Numbering}
use Rattle.yv_base_numbers.specs.declared.earlier_entries.EarlierEntries.{EarlierEntries}

not_here : (b : Bool) (n : ℤ) (o : Option ℤ) → cond b (Some n) o ≡ None → (b ≡ false) × (o ≡ None)
not_here true n o h = absurd (cc)
not_here false n o h = (refl, h)

swapped : (a b : Bool) (x y : Option ℤ) (o : Option ℤ) → (a ≡ true → b ≡ true → ⊥) → cond a x (cond b y o) ≡ cond b y (cond a x o)
swapped true true x y o h = absurd (h refl refl)
swapped true false x y o h = refl
swapped false b x y o h = refl

pub number_pushed : (ps : List Pair) (p : Pair) (s : List ℕ) → number_in ps p.name ≡ None → number_in (ps ++ p ∷ []) s ≡ cond (bytes_eq p.name s) (Some p.number) (number_in ps s)
number_pushed [] p s h = refl
number_pushed (q ∷ ps) p s h =
    let parts = not_here (bytes_eq q.name p.name) q.number (number_in ps p.name) h in
    ap (λ o. cond (bytes_eq q.name s) (Some q.number) o) (number_pushed ps p s parts.1)
    ∙ swapped (bytes_eq q.name s) (bytes_eq p.name s) (Some q.number) (Some p.number) (number_in ps s)
    (λ a b. both_ways (bytes_eq q.name p.name) parts.0 ((bytes_eq-Decides q.name p.name).1 ((bytes_eq-Decides q.name s).0 a ∙ sym ((bytes_eq-Decides p.name s).0 b))))

same_int : (a b : ℤ) → is_eq (int_cmp a b) ≡ int_eq a b
same_int a b = one_answer (is_eq (int_cmp a b)) (int_eq a b)
    (λ h. exact_signed a b ((Equal-is (int_cmp a b)).0 h), λ e. (Equal-is (int_cmp a b)).1 (sym (int_cmp_is a b Equal e)))
    (λ h. (Decides-int_eq a b).0 h, λ e. (Decides-int_eq a b).1 e)

or_first : (x c y : Bool) → (x || cond c true y) ≡ cond c true (x || y)
or_first true true y = refl
or_first true false y = refl
or_first false true y = refl
or_first false false y = refl

alone : (c : Bool) → (c || false) ≡ cond c true false
alone true = refl
alone false = refl

pub taken_pushed : (ps : List Pair) (p : Pair) (q : ℤ) → is_taken (ps ++ p ∷ []) q ≡ cond (is_eq (int_cmp p.number q)) true (is_taken ps q)
taken_pushed [] p q = alone (int_eq p.number q) ∙ ap (λ (c : Bool). cond c true false) (sym (same_int p.number q))
taken_pushed (r ∷ ps) p q = ap (λ (t : Bool). int_eq r.number q || t) (taken_pushed ps p q) ∙ or_first (int_eq r.number q) (is_eq (int_cmp p.number q)) (is_taken ps q)

pub highest_pushed : (h : Option ℤ) (ps : List Pair) (p : Pair) → highest_from h (ps ++ p ∷ []) ≡ Some (higher (highest_from h ps) p.number)
highest_pushed h [] p = refl
highest_pushed h (q ∷ ps) p = highest_pushed (Some (higher h q.number)) ps p

pub put_new : (old new : BTreeMap (Bor (List ℕ)) ℤ) (name : Bor (List ℕ)) (n : ℤ) → UpdatesBy (λ x y. slice_cmp nat_cmp x.now y.now) (λ y. slice_cmp nat_cmp name.now y.now) old new (Some n) → (s : List ℕ) → lookup_in new s ≡ cond (bytes_eq name.now s) (Some n) (lookup_in old s)
put_new old new name n u s =
    u.0 (record { ref_ptr = (0, 0); now = s }) ∙ ap (λ (b : Bool). cond b (Some n) (lookup_in old s)) (is_eq-slice_cmp name.now s)

-- an entry that is right is kept
pub takes : {S : Type 0} (holds : S → List Pair → Type 0) (wrong : List Pair → Bool) (pair : List Pair → Pair) (old new : S) → ((ps : List Pair) → holds old ps → (wrong ps ≡ false) × holds new (ps ++ pair ps ∷ [])) → Adds holds wrong pair old new true
takes holds wrong pair old new f = λ ps h.
    let more = f ps h in
    (sym (ap not more.0), subst (λ (b : Bool). holds new (cond b ps (ps ++ pair ps ∷ []))) (sym more.0) more.1)

not_some : (o : Option ℤ) → is_some o ≡ false → o ≡ None
not_some None h = refl
not_some (Some n) h = absurd (cc)

neither : (a b : Bool) → (a || b) ≡ false → (a ≡ false) × (b ≡ false)
neither true b h = absurd (cc)
neither false b h = (refl, h)

pub put_adds : (old new : EarlierEntries) (name : List ℕ) (n : ℤ) → Gives old.names new.names name n → ((q : ℤ) → contains int_cmp new.taken q ≡ cond (is_eq (int_cmp n q)) true (contains int_cmp old.taken q)) → new.highest ≡ Some (higher old.highest n) → (is_some (table_of old.names name) || contains int_cmp old.taken n) ≡ false → Adds Keeps (λ ps. is_some (number_in ps name) || is_taken ps n) (λ ps. record { name = name; number = n }) old new true
put_adds old new name n gives taken top free = takes Keeps (λ ps. is_some (number_in ps name) || is_taken ps n) (λ ps. record { name = name; number = n }) old new (λ ps k.
    let p : Pair = record { name = name; number = n } in
    let both = neither (is_some (table_of old.names name)) (contains int_cmp old.taken n) free in
    let no_name : is_some (number_in ps name) ≡ false = ap (λ (o : Option ℤ). is_some o) (sym (k.names name)) ∙ both.0 in
    let no_number : is_taken ps n ≡ false = sym (k.numbers n) ∙ both.1 in
    let none = not_some (number_in ps name) no_name in (
      ap (λ (t : Bool). t || is_taken ps n) no_name ∙ no_number,
      record {
        names = λ s. gives s ∙ ap (λ o. cond (bytes_eq name s) (Some n) o) (k.names s) ∙ sym (number_pushed ps p s none);
        numbers = λ q. taken q ∙ ap (λ (t : Bool). cond (is_eq (int_cmp n q)) true t) (k.numbers q) ∙ sym (taken_pushed ps p q);
        top = top ∙ ap (λ h. Some (higher h n)) k.top ∙ sym (highest_pushed None ps p);
      },
    ))

pub new_adds : (old new : Numbering) (name : List ℕ) (n : ℤ) → Gives old new name n → is_some (table_of old name) ≡ false → Adds Tells (λ ps. is_some (number_in ps name)) (λ ps. record { name = name; number = n }) old new true
new_adds old new name n gives free = takes Tells (λ ps. is_some (number_in ps name)) (λ ps. record { name = name; number = n }) old new (λ ps t.
    let p : Pair = record { name = name; number = n } in
    let no_name : is_some (number_in ps name) ≡ false = ap (λ (o : Option ℤ). is_some o) (sym (t name)) ∙ free in (
      no_name,
      λ s. gives s ∙ ap (λ o. cond (bytes_eq name s) (Some n) o) (t s) ∙ sym (number_pushed ps p s (not_some (number_in ps name) no_name)),
    ))
