-- Names that are joined split into themselves.
use Rattle.std.proofs.Common.{◌≡◌, ◌<◌, ◌++◌, ℕ, Bool, true, false, ◌&&◌, List, [], ◌∷◌, length, map, refl, sym, ap, ap₂, ◌∙◌, subst, arith, get_or, ◌≢◌, take, zero, suc, MatchOption}
use Rattle.std.specs.declared.option.Option.{Option}
use Rattle.std.specs.declared.option.Option.TheVariants.{None, Some}
use Rattle.std.specs.List.{All, AllByRecursion, AllZip, list_all, slice_split, join_with_byte}
use Rattle.std.proofs.lemmas.List.Elements.{recursion_from_All, All-from_recursion, All-nil, All-cons, All-append}
use Rattle.std.proofs.lemmas.List.Splits.{slice_split_none, slice_split_at, join_with_byte-slice_split, length-slice_split}
use Rattle.std.proofs.lemmas.List.Folds.{list_all-map}
use Rattle.std.proofs.Math.Dec.{eqb}
use Rattle.std.proofs.lemmas.Bool.{eqb-true, eq-eqb}
use Rattle.yv_text_if_feature.specs.Names.{is_identifier, is_part, is_start}
use Rattle.yv_job.specs.Names.{IsIdentifier, IsNames, entry_text, HasIdentifiers, IsEntry, IsSupport}
use Rattle.yv_text_statement.specs.Selection.{Entry}

both : (a b : Bool) → (a && b) ≡ true → (a ≡ true) × (b ≡ true)
both true true h = (refl, refl)
both true false h = cc
both false b h = cc

other_by : (c b : ℕ) → is_part c ≡ false → is_part b ≡ true → (t : Bool) → eqb b c ≡ t → t ≡ false
other_by c b n y true e =
    let h : is_part c ≡ true = subst (λ x. is_part x ≡ true) (eqb-true b c e) y in
    let g : false ≡ true = sym n ∙ h in cc
other_by c b n y false e = refl

-- the byte c stands nowhere in the text
abbrev pub Free : ℕ → List ℕ → Type 0
Free c text = All (λ b. eqb b c ≡ false) text

free_later : (c : ℕ) → is_part c ≡ false → (bs : List ℕ) → list_all is_part bs ≡ true → Free c bs
free_later c n [] h = All-nil (λ x. eqb x c ≡ false)
free_later c n (b ∷ bs) h =
    let p = both (is_part b) (list_all is_part bs) h in
    All-cons (λ x. eqb x c ≡ false) b bs (other_by c b n p.0 (eqb b c) refl) (free_later c n bs p.1)

later_first : (b : ℕ) → is_start b ≡ true → is_part b ≡ true
later_first b h = grind (arith, h)

-- a name lacks each byte that may not stand in one
pub free_name : (c : ℕ) → is_part c ≡ false → (t : List ℕ) → IsIdentifier t → Free c t
free_name c n [] h = cc
free_name c n (b ∷ bs) h =
    let p = both (is_start b) (list_all is_part bs) h in
    All-cons (λ x. eqb x c ≡ false) b bs (other_by c b n (later_first b p.0) (eqb b c) refl) (free_later c n bs p.1)

free_names : (c : ℕ) → is_part c ≡ false → (ns : List (List ℕ)) → AllByRecursion IsIdentifier ns → AllByRecursion (Free c) ns
free_names c n [] a = tt
free_names c n (t ∷ ns) a = (free_name c n t a.0, free_names c n ns a.1)

free_joined : (c d : ℕ) → eqb d c ≡ false → (ns : List (List ℕ)) → AllByRecursion (Free c) ns → Free c (join_with_byte d ns)
free_joined c d e [] a = All-nil (λ x. eqb x c ≡ false)
free_joined c d e (t ∷ []) a = a.0
free_joined c d e (t ∷ u ∷ ns) a = All-append (λ x. eqb x c ≡ false) t _ a.0 (All-cons (λ x. eqb x c ≡ false) d _ e (free_joined c d e (u ∷ ns) a.1))

-- parts that lack the byte, joined by it, split into themselves
split_joined : (c : ℕ) (ns : List (List ℕ)) → 0 < length ns → AllByRecursion (Free c) ns → slice_split (λ b. eqb b c) (join_with_byte c ns) ≡ ns
split_joined c [] h a = absurd (omega arith)
split_joined c (t ∷ []) h a = slice_split_none _ t a.0
split_joined c (t ∷ u ∷ ns) h a =
    slice_split_at _ t c (join_with_byte c (u ∷ ns)) a.0 (eq-eqb c c refl) ∙ ap (λ l. t ∷ l) (split_joined c (u ∷ ns) (omega arith) a.1)

some_parts : (c : ℕ) (t : List ℕ) → 0 < length (slice_split (λ b. eqb b c) t)
some_parts c t = let e = length-slice_split (λ b. eqb b c) t in omega (arith, e)

identifiers : (ns : List (List ℕ)) → AllByRecursion IsIdentifier ns → list_all is_identifier ns ≡ true
identifiers [] a = refl
identifiers (t ∷ ns) a = rw (a.0, identifiers ns a.1) refl

each_identifier : (ns : List (List ℕ)) → list_all is_identifier ns ≡ true → AllByRecursion IsIdentifier ns
each_identifier [] h = tt
each_identifier (t ∷ ns) h = let p = both (is_identifier t) (list_all is_identifier ns) h in (p.0, each_identifier ns p.1)

-- the parts of a text, seen through a reading, are names, and so they are what it joins
pub names_taken : {X : Type 0} (now : X → List ℕ) (parts : List X) (t : List ℕ) (ns : List (List ℕ)) → map now parts ≡ slice_split (λ b. eqb b 44) t → ns ≡ map now parts
    → list_all (λ p. is_identifier (now p)) parts ≡ true → IsNames t ns
names_taken now parts t ns e f h =
    let all = list_all-map is_identifier now parts ∙ h in
    let each = subst (AllByRecursion IsIdentifier) (sym f) (each_identifier (map now parts) all) in
    let whole : join_with_byte 44 ns ≡ t = ap (join_with_byte 44) (f ∙ e) ∙ join_with_byte-slice_split 44 t in
    record {
      joined = record { spelled = whole; each = All-from_recursion IsIdentifier ns each };
      some = subst (λ l. 0 < length l) (sym (f ∙ e)) (some_parts 44 t);
    }

-- whatever names a text joins, it splits into them
pub split_names : (t : List ℕ) (ns : List (List ℕ)) → IsNames t ns → slice_split (λ b. eqb b 44) t ≡ ns
split_names t ns n =
    let each = recursion_from_All IsIdentifier ns n.joined.each in
    subst (λ x. slice_split (λ b. eqb b 44) x ≡ ns) n.joined.spelled (split_joined 44 ns n.some (free_names 44 refl ns each))

-- a part that is no name refuses the text
pub names_refused : {X : Type 0} (now : X → List ℕ) (parts : List X) (t : List ℕ) → map now parts ≡ slice_split (λ b. eqb b 44) t
    → list_all (λ p. is_identifier (now p)) parts ≡ false → (ns : List (List ℕ)) → IsNames t ns → ⊥
names_refused now parts t f h ns n =
    let each = recursion_from_All IsIdentifier ns n.joined.each in
    let e = split_names t ns n in
    let all : list_all is_identifier (map now parts) ≡ false = list_all-map is_identifier now parts ∙ h in
    let g : true ≡ false = sym (identifiers ns each) ∙ sym (ap (list_all is_identifier) (f ∙ e)) ∙ all in cc

-- things that have texts: each text is that of its thing, and P holds of the thing
zip_texts : {Y : Type 0} (text_of : Y → List ℕ) (P : Y → Type 0) (R : List ℕ → Y → Type 0) → ((y : Y) → P y → R (text_of y) y)
    → (ys : List Y) → AllByRecursion P ys → AllZip R (map text_of ys) ys
zip_texts text_of P R makes [] a = tt
zip_texts text_of P R makes (y ∷ ys) a = (makes y a.0, zip_texts text_of P R makes ys a.1)

texts_zip : {Y : Type 0} (text_of : Y → List ℕ) (P : Y → Type 0) (R : List ℕ → Y → Type 0) → ((t : List ℕ) (y : Y) → R t y → (text_of y ≡ t) × P y)
    → (ts : List (List ℕ)) (ys : List Y) → AllZip R ts ys → (map text_of ys ≡ ts) × AllByRecursion P ys
texts_zip text_of P R takes [] [] z = (refl, tt)
texts_zip text_of P R takes [] (y ∷ ys) z = absurd z
texts_zip text_of P R takes (t ∷ ts) [] z = absurd z
texts_zip text_of P R takes (t ∷ ts) (y ∷ ys) z =
    let r = texts_zip text_of P R takes ts ys z.1 in
    let one = takes t y z.0 in
    (ap (λ l. text_of y ∷ l) r.0 ∙ ap (λ x. x ∷ ts) one.0, (one.1, r.1))

zip_lengths : {Y : Type 0} (R : List ℕ → Y → Type 0) (ts : List (List ℕ)) (ys : List Y) → AllZip R ts ys → length ts ≡ length ys
zip_lengths R [] [] z = refl
zip_lengths R [] (y ∷ ys) z = absurd z
zip_lengths R (t ∷ ts) [] z = absurd z
zip_lengths R (t ∷ ts) (y ∷ ys) z = let r = zip_lengths R ts ys z.1 in omega (arith, r)

-- things of texts that are seen through a reading
pub zip_read : {X Y : Type 0} (now : X → List ℕ) (R : List ℕ → Y → Type 0) (ps : List X) (ys : List Y) → AllZip (λ p y. R (now p) y) ps ys → AllZip R (map now ps) ys
zip_read now R [] [] z = tt
zip_read now R [] (y ∷ ys) z = absurd z
zip_read now R (p ∷ ps) [] z = absurd z
zip_read now R (p ∷ ps) (y ∷ ys) z = (z.0, zip_read now R ps ys z.1)

-- and back
pub read_zip : {X Y : Type 0} (now : X → List ℕ) (R : List ℕ → Y → Type 0) (ps : List X) (ys : List Y) → AllZip R (map now ps) ys → AllZip (λ p y. R (now p) y) ps ys
read_zip now R [] [] z = tt
read_zip now R [] (y ∷ ys) z = absurd z
read_zip now R (p ∷ ps) [] z = absurd z
read_zip now R (p ∷ ps) (y ∷ ys) z = (z.0, read_zip now R ps ys z.1)

-- the thing at a place
pub zip_at : {X Y : Type 0} (now : X → List ℕ) (R : List ℕ → Y → Type 0) (ps : List X) (ys : List Y) (i : ℕ) (d : X) → i < length ps → AllZip (λ p y. R (now p) y) ps ys
    → (y : Y) × R (now (get_or ps i d)) y
zip_at now R [] ys i d h z = absurd (omega arith)
zip_at now R (p ∷ ps) [] i d h z = absurd z
zip_at now R (p ∷ ps) (y ∷ ys) zero d h z = (y, z.0)
zip_at now R (p ∷ ps) (y ∷ ys) (suc i) d h z = zip_at now R ps ys i d (omega arith) z.1

-- one more thing
pub zip_more : {X Y : Type 0} (now : X → List ℕ) (R : List ℕ → Y → Type 0) (ps : List X) (ys : List Y) (i : ℕ) (d : X) (y : Y) → i < length ps → AllZip (λ p x. R (now p) x) (take i ps) ys
    → R (now (get_or ps i d)) y → AllZip (λ p x. R (now p) x) (take (suc i) ps) (ys ++ y ∷ [])
zip_more now R [] ys i d y h z n = absurd (omega arith)
zip_more now R (p ∷ ps) [] zero d y h z n = (n, tt)
zip_more now R (p ∷ ps) (x ∷ ys) zero d y h z n = absurd z
zip_more now R (p ∷ ps) [] (suc i) d y h z n = absurd z
zip_more now R (p ∷ ps) (x ∷ ys) (suc i) d y h z n = (z.0, zip_more now R ps ys i d y (omega arith) z.1 n)

-- the text is that of these things joined by `/`, one or more, and P holds of each
pub record Joins {Y : Type 0} (text_of : Y → List ℕ) (P : Y → Type 0) (text : List ℕ) (ys : List Y) : Type 0 where
  pub spelled : join_with_byte 47 (map text_of ys) ≡ text
  pub each : AllByRecursion P ys
  pub some : 0 < length ys

-- parts that are texts of things are those that the text joins
pub joins_taken : {Y : Type 0} (text_of : Y → List ℕ) (P : Y → Type 0) (R : List ℕ → Y → Type 0) → ((t : List ℕ) (y : Y) → R t y → (text_of y ≡ t) × P y)
    → (t : List ℕ) (ys : List Y) → AllZip R (slice_split (λ b. eqb b 47) t) ys → Joins text_of P t ys
joins_taken text_of P R takes t ys z =
    let r = texts_zip text_of P R takes (slice_split (λ b. eqb b 47) t) ys z in
    let some = some_parts 47 t in
    let alike = zip_lengths R (slice_split (λ b. eqb b 47) t) ys z in
    record {
      spelled = ap (join_with_byte 47) r.0 ∙ join_with_byte-slice_split 47 t;
      each = r.1;
      some = omega (arith, some, alike);
    }

free_texts : {Y : Type 0} (text_of : Y → List ℕ) (P : Y → Type 0) → ((y : Y) → P y → Free 47 (text_of y)) → (ys : List Y) → AllByRecursion P ys → AllByRecursion (Free 47) (map text_of ys)
free_texts text_of P free [] a = tt
free_texts text_of P free (y ∷ ys) a = (free y a.0, free_texts text_of P free ys a.1)

some_texts : {Y : Type 0} (text_of : Y → List ℕ) (ys : List Y) → 0 < length ys → 0 < length (map text_of ys)
some_texts text_of [] h = absurd (omega arith)
some_texts text_of (y ∷ ys) h = omega arith

-- whatever things a text joins, it splits into their texts
pub split_joins : {Y : Type 0} (text_of : Y → List ℕ) (P : Y → Type 0) → ((y : Y) → P y → Free 47 (text_of y)) → (t : List ℕ) (ys : List Y) → Joins text_of P t ys
    → slice_split (λ b. eqb b 47) t ≡ map text_of ys
split_joins text_of P free t ys j =
    subst (λ x. slice_split (λ b. eqb b 47) x ≡ map text_of ys) j.spelled (split_joined 47 _ (some_texts text_of ys j.some) (free_texts text_of P free ys j.each))

-- parts that are no texts of things refuse the text
pub joins_refused : {Y : Type 0} (text_of : Y → List ℕ) (P : Y → Type 0) (R : List ℕ → Y → Type 0) → ((y : Y) → P y → Free 47 (text_of y)) → ((y : Y) → P y → R (text_of y) y)
    → (t : List ℕ) → ((ys : List Y) → AllZip R (slice_split (λ b. eqb b 47) t) ys → ⊥) → (ys : List Y) → Joins text_of P t ys → ⊥
joins_refused text_of P R free makes t f ys j =
    f ys (subst (λ l. AllZip R l ys) (sym (split_joins text_of P free t ys j)) (zip_texts text_of P R makes ys j.each))

-- things that their texts determine are determined by a text that joins them
same_things : {Y : Type 0} (text_of : Y → List ℕ) (P : Y → Type 0) → ((x y : Y) → P x → P y → text_of x ≡ text_of y → x ≡ y)
    → (xs ys : List Y) → AllByRecursion P xs → AllByRecursion P ys → map text_of xs ≡ map text_of ys → xs ≡ ys
same_things text_of P one [] [] h i same = refl
same_things text_of P one [] (y ∷ ys) h i same = cc
same_things text_of P one (x ∷ xs) [] h i same = cc
same_things {Y} text_of P one (x ∷ xs) (y ∷ ys) h i same =
    let firsts : text_of x ≡ text_of y = cc in
    let others : map text_of xs ≡ map text_of ys = cc in
    ap₂ (λ (z : Y) (zs : List Y). z ∷ zs) (one x y h.0 i.0 firsts) (same_things text_of P one xs ys h.1 i.1 others)

pub same_joins : {Y : Type 0} (text_of : Y → List ℕ) (P : Y → Type 0) → ((y : Y) → P y → Free 47 (text_of y)) → ((x y : Y) → P x → P y → text_of x ≡ text_of y → x ≡ y)
    → (t : List ℕ) (xs ys : List Y) → Joins text_of P t xs → Joins text_of P t ys → xs ≡ ys
same_joins text_of P free one t xs ys j k =
    same_things text_of P one xs ys j.each k.each (sym (split_joins text_of P free t xs j) ∙ split_joins text_of P free t ys k)

-- a name before a colon lacks it
pub no_colon : (t : List ℕ) → IsIdentifier t → (i : ℕ) → i < length t → get_or t i 0 ≢ 58
no_colon t h i l e =
    let f : eqb (get_or t i 0) 58 ≡ false = free_name 58 refl t h i 0 l in
    let g : true ≡ false = sym (eq-eqb (get_or t i 0) 58 e) ∙ f in cc

pub free_entry : (e : Entry) → HasIdentifiers e → Free 47 (entry_text e)
free_entry e h =
    All-append (λ x. eqb x 47 ≡ false) e.module _ (free_name 47 refl e.module h.0)
    (All-cons (λ x. eqb x 47 ≡ false) 58 _ refl (free_joined 47 44 refl e.features (free_names 47 refl _ (recursion_from_All _ _ h.1))))

entry_made : (e : Entry) → HasIdentifiers e → IsEntry (entry_text e) e
entry_made e h = record { spelled = refl; names = h }

-- what a list of entries joins, in the words of its clause
support_joins : (t : List ℕ) (es : List Entry) → Joins entry_text HasIdentifiers t es → IsSupport t es
support_joins t es j = record { spelled = j.spelled; each = All-from_recursion HasIdentifiers es j.each; some = j.some }

pub joins_support : (t : List ℕ) (es : List Entry) → IsSupport t es → Joins entry_text HasIdentifiers t es
joins_support t es s = record { spelled = s.spelled; each = recursion_from_All HasIdentifiers es s.each; some = s.some }

-- what the parts of a text are says what the text is
pub support_from : {X V : Type 0} (now : X → List ℕ) (parts : List X) (view : V → List Entry) (t : List ℕ) (o : Option V) → map now parts ≡ slice_split (λ b. eqb b 47) t
    → MatchOption o ((es : List Entry) → AllZip (λ p e. IsEntry (now p) e) parts es → ⊥) (λ v. AllZip (λ p e. IsEntry (now p) e) parts (view v))
    → MatchOption o ((es : List Entry) → IsSupport t es → ⊥) (λ v. IsSupport t (view v))
support_from now parts view t None e h =
    let none = λ (fs : List Entry) (z : AllZip IsEntry (slice_split (λ b. eqb b 47) t) fs). h fs (read_zip now IsEntry parts fs (subst (λ l. AllZip IsEntry l fs) (sym e) z)) in
    λ es s. joins_refused entry_text HasIdentifiers IsEntry free_entry entry_made t none es (joins_support t es s)
support_from now parts view t (Some v) e h =
    support_joins t (view v)
    (joins_taken entry_text HasIdentifiers IsEntry (λ p x i. (i.spelled, i.names)) t (view v)
    (subst (λ l. AllZip IsEntry l (view v)) e (zip_read now IsEntry parts (view v) h)))
