-- Where the pointer of a path leads, a place at a time.
use Rattle.std.proofs.Common.{◌≡◌, ◌∙◌, ℕ, zero, suc, ◌+◌, ◌-◌, ◌^◌, ◌<◌, ◌≤◌, ◌==◌, List, [], ◌∷◌, ◌++◌, Bool, true, false, cond, Option, Some, None, Ordering, Less, Equal, Greater, refl, sym, ap, subst, append_assoc, append-nil, arith}
use Rattle.std.specs.Prelude.{decimal, option_and_then}
use Rattle.std.specs.Ordering.{nat_cmp, match_ordering}
use Rattle.std.specs.Cmp.Lexicographic.{slice_cmp}
use Rattle.std.proofs.lemmas.Grind.{flat_map-append}
use Rattle.std.proofs.lemmas.Option.{option_and_then_some, same_Some}
use Rattle.serde_json.specs.Data.{Data, null, boolean, number, string, array, object, Items, no_items, item, Members, no_members, member}
use Rattle.serde_json.specs.Find.{get_item, get_member}
use Rattle.yv_data_leafrefs.specs.Place.{at_item, Place, under}
use Rattle.yv_validate.specs.Size.{items_size, members_size, size}
use Rattle.yv_json_lines.specs.Pointer.{place_pointer, places_pointer, pointer_name}
use Rattle.yv_json_laws.specs.Resolution.{is_escaped, is_index, name_of, named_in, tokens, value_at, value_by, with_byte}
use Rattle.yv_json_laws.proofs.TokenLemmas.{HasNoSlash, IsPointer, item_back, last_token, member_back, name_slash, place_slash}

-- what the pointer of a path leads to
abbrev pub value_of_path : List Place → Data → Option Data
value_of_path path d = value_at (places_pointer path) d

-- ---- sizes

size_same : (d e : Data) → Some d ≡ Some e → size e ≤ size d
size_same d e h = omega (arith, ap size (same_Some d e h))

item_small : (i : ℕ) (ds : Items) (v : Data) → get_item i ds ≡ Some v → (i < items_size ds) × (size v ≤ items_size ds)
item_small i no_items v h = absurd (cc)
item_small zero (item d ds) v h = (omega arith, omega (arith, size_same d v h))
item_small (suc i) (item d ds) v h = let less = item_small i ds v h in (omega (arith, less.0), omega (arith, less.1))

member_by : (o : Ordering) (name : List ℕ) (d : Data) (ms : Members) (v : Data) → (get_member name ms ≡ Some v → size v ≤ members_size ms)
    → match_ordering o (get_member name ms) (Some d) (get_member name ms) ≡ Some v → size v ≤ 1 + size d + members_size ms
member_by Less name d ms v less h = omega (arith, less h)
member_by Equal name d ms v less h = omega (arith, size_same d v h)
member_by Greater name d ms v less h = omega (arith, less h)

member_small : (name : List ℕ) (ms : Members) (v : Data) → get_member name ms ≡ Some v → size v ≤ members_size ms
member_small name no_members v h = absurd (cc)
member_small name (member k d ms) v h = member_by (slice_cmp nat_cmp name k) name d ms v (member_small name ms v) h

some_if : (c : Bool) (o : Option Data) (v : Data) → cond c o None ≡ Some v → o ≡ Some v
some_if true o v h = h
some_if false o v h = absurd (cc)

named_small : (token : List ℕ) (d v : Data) → named_in token d ≡ Some v → size v ≤ size d
named_small token (object ms) v h = member_small (name_of token) ms v (some_if (is_escaped token) _ v h)
named_small token (array ds) v h = (item_small _ ds v (some_if (is_index token) _ v h)).1
named_small token null v h = absurd (cc)
named_small token (boolean b) v h = absurd (cc)
named_small token (number n) v h = absurd (cc)
named_small token (string s) v h = absurd (cc)

tokens_small : (ts : List (List ℕ)) (d v : Data) → value_by ts d ≡ Some v → size v ≤ size d
tokens_small [] d v h = size_same d v h
tokens_small (t ∷ ts) d v h =
    option_and_then_some (value_by ts) (named_in t d) v h (λ e one more. omega (arith, named_small t d e one, tokens_small ts e v more))

-- what is in a document is no larger than that
value_small : (pointer : List ℕ) (d v : Data) → value_at pointer d ≡ Some v → size v ≤ size d
value_small [] d v h = size_same d v h
value_small (b ∷ text) d v h = tokens_small (tokens text) d v (some_if (b == 47) _ v h)

-- ---- pointers, one after the other

-- there is a token
abbrev HasToken : List (List ℕ) → Type 0
HasToken [] = ⊥
HasToken (t ∷ ts) = Unit {0}

token_before : (c : Bool) (b : ℕ) (ts : List (List ℕ)) → HasToken (cond c ([] ∷ ts) (with_byte b ts))
token_before true b ts = tt
token_before false b [] = tt
token_before false b (t ∷ ts) = tt

has_token : (text : List ℕ) → HasToken (tokens text)
has_token [] = tt
has_token (b ∷ text) = token_before (b == 47) b (tokens text)

byte_join : (c : Bool) (b : ℕ) (ts us : List (List ℕ)) → HasToken ts → cond c ([] ∷ (ts ++ us)) (with_byte b (ts ++ us)) ≡ cond c ([] ∷ ts) (with_byte b ts) ++ us
byte_join true b ts us h = refl
byte_join false b [] us h = absurd h
byte_join false b (t ∷ ts) us h = refl

tokens_join : (text more : List ℕ) → tokens (text ++ 47 ∷ more) ≡ tokens text ++ tokens more
tokens_join [] more = refl
tokens_join (b ∷ text) more =
    ap (λ (ts : List (List ℕ)). cond (b == 47) ([] ∷ ts) (with_byte b ts)) (tokens_join text more)
    ∙ byte_join (b == 47) b (tokens text) (tokens more) (has_token text)

value_from : (o : Option Data) (ts us : List (List ℕ)) → ((e : Data) → value_by (ts ++ us) e ≡ option_and_then (value_by us) (value_by ts e))
    → option_and_then (value_by (ts ++ us)) o ≡ option_and_then (value_by us) (option_and_then (value_by ts) o)
value_from None ts us h = refl
value_from (Some e) ts us h = h e

value_by_join : (ts us : List (List ℕ)) (d : Data) → value_by (ts ++ us) d ≡ option_and_then (value_by us) (value_by ts d)
value_by_join [] us d = refl
value_by_join (t ∷ ts) us d = value_from (named_in t d) ts us (λ e. value_by_join ts us e)

itself : (o : Option Data) → option_and_then (value_at []) o ≡ o
itself None = refl
itself (Some e) = refl

both_at : (text more : List ℕ) (d : Data) → value_at (47 ∷ (text ++ 47 ∷ more)) d ≡ option_and_then (value_at (47 ∷ more)) (value_at (47 ∷ text) d)
both_at text more d = ap (λ (ts : List (List ℕ)). value_by ts d) (tokens_join text more) ∙ value_by_join (tokens text) (tokens more) d

-- a pointer that is added to another leads on from what that leads to
value_at_join : (pointer more : List ℕ) (d : Data) → IsPointer pointer → IsPointer more → value_at (pointer ++ more) d ≡ option_and_then (value_at more) (value_at pointer d)
value_at_join [] more d p q = refl
value_at_join (b ∷ text) [] d p q = ap (λ (l : List ℕ). value_at l d) (append-nil (b ∷ text)) ∙ sym (itself (value_at (b ∷ text) d))
value_at_join (b ∷ text) (c ∷ more) d p q =
    let P : ℕ → ℕ → Type 0 = λ x y. value_at (x ∷ (text ++ y ∷ more)) d ≡ option_and_then (value_at (y ∷ more)) (value_at (x ∷ text) d) in
    subst (λ (x : ℕ). P x c) (sym p) (subst (λ (y : ℕ). P 47 y) (sym q) (both_at text more d))

-- ---- one place more

rest_places : (ps : List Place) → IsPointer (places_pointer ps)
rest_places [] = tt
rest_places (p ∷ ps) = refl

-- one token leads to what it names
one_token : (t : List ℕ) (d : Data) → HasNoSlash t → value_at (47 ∷ t) d ≡ named_in t d
one_token t d h = ap (λ (ts : List (List ℕ)). value_by ts d) (last_token t h) ∙ itself (named_in t d)

each_same : (f g : Data → Option Data) (o : Option Data) → ((e : Data) → f e ≡ g e) → option_and_then f o ≡ option_and_then g o
each_same f g None h = refl
each_same f g (Some e) h = h e

abbrev name_pointer : List ℕ → List ℕ
name_pointer name = 47 ∷ pointer_name name

under_pointer : (path : List Place) (name : List ℕ) → places_pointer (under path name) ≡ places_pointer path ++ name_pointer name
under_pointer path name =
    flat_map-append place_pointer path (record { member = name; item = None } ∷ [])
    ∙ ap (λ (l : List ℕ). places_pointer path ++ l) (append-nil (name_pointer name ++ []) ∙ append-nil (name_pointer name))

-- the path of a member leads on from that of its object
value_under : (path : List Place) (name : List ℕ) (d : Data) → value_of_path (under path name) d ≡ option_and_then (named_in (pointer_name name)) (value_of_path path d)
value_under path name d =
    ap (λ (l : List ℕ). value_at l d) (under_pointer path name)
    ∙ value_at_join (places_pointer path) (name_pointer name) d (rest_places path) refl
    ∙ each_same (value_at (name_pointer name)) (named_in (pointer_name name)) (value_of_path path d) (λ e. one_token (pointer_name name) e (name_slash name))

pub value_of_member : (path : List Place) (name : List ℕ) (d : Data) (ms : Members) → value_of_path path d ≡ Some (object ms) → value_of_path (under path name) d ≡ get_member name ms
value_of_member path name d ms h = value_under path name d ∙ ap (option_and_then (named_in (pointer_name name))) h ∙ member_back name ms

-- nothing is under what isn't there
pub value_of_none : (path : List Place) (name : List ℕ) (d : Data) → value_of_path path d ≡ None → value_of_path (under path name) d ≡ None
value_of_none path name d h = value_under path name d ∙ ap (option_and_then (named_in (pointer_name name))) h

item_pointer : (path : List Place) (name : List ℕ) (i : ℕ) → places_pointer (at_item path name (i + 1)) ≡ places_pointer (under path name) ++ 47 ∷ decimal i
item_pointer path name i =
    let same : i + 1 - 1 ≡ i = omega arith in
    flat_map-append place_pointer path (record { member = name; item = Some (i + 1) } ∷ [])
    ∙ ap (λ (l : List ℕ). places_pointer path ++ l) (append-nil (name_pointer name ++ 47 ∷ decimal (i + 1 - 1)))
    ∙ ap (λ (j : ℕ). places_pointer path ++ (name_pointer name ++ 47 ∷ decimal j)) same
    ∙ sym (append_assoc (places_pointer path) (name_pointer name) (47 ∷ decimal i))
    ∙ ap (λ (l : List ℕ). l ++ 47 ∷ decimal i) (sym (under_pointer path name))

-- the path of an item leads on from that of its array
pub value_of_item : (path : List Place) (name : List ℕ) (i : ℕ) (d e : Data) (ds : Items) → size d < 2 ^ 64 → value_of_path (under path name) d ≡ Some (array ds) → get_item i ds ≡ Some e
    → value_of_path (at_item path name (i + 1)) d ≡ Some e
value_of_item path name i d e ds fits h found =
    let less : i < 2 ^ 64 = omega (arith, (item_small i ds e found).0, value_small (places_pointer (under path name)) d (array ds) h, fits) in
    ap (λ (l : List ℕ). value_at l d) (item_pointer path name i)
    ∙ value_at_join (places_pointer (under path name)) (47 ∷ decimal i) d (rest_places (under path name)) refl
    ∙ ap (option_and_then (value_at (47 ∷ decimal i))) h
    ∙ one_token (decimal i) (array ds) (place_slash i less) ∙ item_back i ds less ∙ found
