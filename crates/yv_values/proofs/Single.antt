-- Lists that rise and have the same elements.
use Rattle.std.proofs.Common.{◌≡◌, ℕ, ◌&&◌, Bool, true, List, refl, sym, ◌∙◌}
use Rattle.std.specs.Cmp.{Equal-is}
use Rattle.std.specs.Cmp.Lexicographic.{slice_cmp}
use Rattle.std.specs.List.{list_any}
use Rattle.std.specs.Ordering.{nat_cmp}
use Rattle.std.specs.Str.{bytes_eq}
use Rattle.std.proofs.lemmas.Cmp.{nat_list_cmp_total}
use Rattle.std.proofs.lemmas.Slice.Eq.{bytes_eq-Decides}
use Rattle.yv_values.specs.Identities.{Id, RiseById, id_cmp, is_identity}
use Rattle.yv_values.specs.NameOrder.{Rises, is_named}
use Rattle.yv_values.proofs.IdentitySearch.{compared, ids_total, same_id}
use Rattle.yv_values.proofs.RisingLists.{Among, among_any, any_among, rising_one}

text_moves : (xs ys : List (List ℕ)) → ((s : List ℕ) → is_named xs s ≡ is_named ys s) → (k : List ℕ) → Among xs k → Among ys k
text_moves xs ys same k a = any_among (λ n. bytes_eq n k) k (λ x h. (bytes_eq-Decides x k).0 h) ys (sym (same k) ∙ among_any (λ n. bytes_eq n k) k ((bytes_eq-Decides k k).1 refl) xs a)

pub texts_one : (xs ys : List (List ℕ)) → Rises xs → Rises ys → ((s : List ℕ) → is_named xs s ≡ is_named ys s) → xs ≡ ys
texts_one xs ys f g same = rising_one (slice_cmp nat_cmp) nat_list_cmp_total xs ys f g (text_moves xs ys same) (text_moves ys xs (λ s. sym (same s)))

both_true : (a b : Bool) → a ≡ true → b ≡ true → (a && b) ≡ true
both_true a b e f = rw (e, f) refl

is_itself : (k : Id) → is_identity k.module_name k.name k ≡ true
is_itself k = both_true (bytes_eq k.module_name k.module_name) (bytes_eq k.name k.name) ((bytes_eq-Decides k.module_name k.module_name).1 refl) ((bytes_eq-Decides k.name k.name).1 refl)

is_that : (k x : Id) → is_identity k.module_name k.name x ≡ true → x ≡ k
is_that k x h = same_id k.module_name k.name x ((Equal-is (id_cmp x k)).0 (sym (compared k.module_name k.name x) ∙ h))

abbrev pub SameIds : List Id → List Id → Type 0
SameIds xs ys = (module_name called : List ℕ) → list_any (is_identity module_name called) xs ≡ list_any (is_identity module_name called) ys

id_moves : (xs ys : List Id) → SameIds xs ys → (k : Id) → Among xs k → Among ys k
id_moves xs ys same k a = any_among (is_identity k.module_name k.name) k (is_that k) ys (sym (same k.module_name k.name) ∙ among_any (is_identity k.module_name k.name) k (is_itself k) xs a)

pub ids_one : (xs ys : List Id) → RiseById xs → RiseById ys → SameIds xs ys → xs ≡ ys
ids_one xs ys f g same = rising_one id_cmp ids_total xs ys f g (id_moves xs ys same) (id_moves ys xs (λ module_name called. sym (same module_name called)))
