-- Lists kept by name in a map, as one of them grows.
use Rattle.std.proofs.Common.{◌≡◌, ◌∙◌, ℕ, List, [], ◌++◌, Bool, true, false, cond, refl, sym, ap, if◌then◌else◌, Option, Some, None}
use Rattle.std.specs.BTreeMap.{BTreeMap, UpdatesBy, get_by}
use Rattle.std.specs.Borrow.{Bor}
use Rattle.std.specs.Ordering.{nat_cmp}
use Rattle.std.specs.Cmp.Lexicographic.{slice_cmp}
use Rattle.std.specs.Str.{bytes_eq}
use Rattle.std.proofs.lemmas.Map.Text.{btree_map_updates_str}
use Rattle.std.proofs.lemmas.Slice.Eq.{bytes_eq-Decides}
use Rattle.std.proofs.lemmas.List.{append-nil}

-- a list is taken out of the map, and put back with more
pub put_back : {V R : Type 0} (items : Option V → List R) (m n k : BTreeMap (Bor (List ℕ)) V) (name : List ℕ) (w : V) (more : List R)
    → UpdatesBy (λ x y. slice_cmp nat_cmp x.now y.now) (λ x. slice_cmp nat_cmp name x.now) m n None
    → UpdatesBy (λ x y. slice_cmp nat_cmp x.now y.now) (λ x. slice_cmp nat_cmp name x.now) n k (Some w)
    → items (Some w) ≡ items (get_by (λ x. slice_cmp nat_cmp name x.now) m) ++ more
    → (q : List ℕ) → items (get_by (λ x. slice_cmp nat_cmp q x.now) k) ≡ items (get_by (λ x. slice_cmp nat_cmp q x.now) m) ++ (if bytes_eq name q then more else [])
put_back {V} {R} items m n k name w more taken put grows q =
    ap items (btree_map_updates_str name n k (Some w) put q ∙ ap (λ (o : Option V). cond (bytes_eq name q) (Some w) o) (btree_map_updates_str name m n None taken q))
    ∙ by (bytes_eq name q) refl
  where
    by : (b : Bool) → bytes_eq name q ≡ b → items (cond b (Some w) (cond b None (get_by (λ x. slice_cmp nat_cmp q x.now) m))) ≡ items (get_by (λ x. slice_cmp nat_cmp q x.now) m) ++ (if b then more else [])
    by true e = grows ∙ ap (λ (t : List ℕ). items (get_by (λ x. slice_cmp nat_cmp t x.now) m) ++ more) ((bytes_eq-Decides name q).0 e)
    by false e = sym (append-nil (items (get_by (λ x. slice_cmp nat_cmp q x.now) m)))
