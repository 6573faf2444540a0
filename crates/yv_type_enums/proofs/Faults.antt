-- The refusal of the first wrong entry, and what a derived type has that lists names.
use Rattle.std.proofs.Common.{◌≡◌, ℕ, ◌==◌, length, ℤ, Bool, true, false, ◌&&◌, List, [], ◌∷◌, map, Option, Some, None, refl, sym, subst, suc, zero}
use Rattle.std.specs.Prelude.{slice_get, is_some, Result, Ok, Err, IfOk}
use Rattle.std.specs.Option.{option_map}
use denote.Ref.{Bor}
use Rattle.yv_text_statement.specs.Order.{refusal_at}
use Rattle.yv_text_statement.specs.Tree.{Tree}
use Rattle.yv_text_statement.specs.declared.refusal.Code.TheVariants.{BadNumbering}
use Rattle.yv_base_numbers.specs.Entries.{Entry}
use Rattle.yv_base_numbers.specs.Numberings.{Pair, IsFirstWrong, keep_numbers, number_in}
use Rattle.yv_base_numbers.specs.declared.numbering.NumberKind.{NumberKind}
use Rattle.yv_type_enums.specs.Entries.{entry_of, listing}
use Rattle.yv_type_enums.specs.InnerEntries.{refusal_of_entry, borrow}
use Rattle.yv_type_enums.specs.Names.{IsRefusal, is_value_from, number_from}

line_at : (f : Tree → Entry) (cs : List Tree) (i : ℕ) (e : Entry) → slice_get (map f cs) i ≡ Some e → (c : Tree) × (slice_get cs i ≡ Some c)
line_at f [] i e h = absurd (cc)
line_at f (c ∷ cs) zero e h = (c, refl)
line_at f (c ∷ cs) (suc i) e h = line_at f cs i e h

told : (pairs : List Entry → List Pair) (wrong : List Pair → Entry → Bool) (kind : NumberKind) (file : ℕ) (t : Tree) (o : Option ℕ) → IsFirstWrong pairs wrong (map (entry_of kind) (listing kind t)) o → IsRefusal pairs wrong kind file t (refusal_of_entry file (listing kind t) o)
told pairs wrong kind file t None w = w
told pairs wrong kind file t (Some i) w =
    let x = line_at (entry_of kind) (listing kind t) i w.0.0 w.0.1 in
    subst (λ (o : Option Tree). IsRefusal pairs wrong kind file t (option_map (λ c. refusal_at BadNumbering file c.head) o)) (sym x.1) (i, x.0, w, x.1, refl)

pub fault_is : (pairs : List Entry → List Pair) (wrong : List Pair → Entry → Bool) (kind : NumberKind) (file : ℕ) (t : Tree) (cs : List Tree) (o : Option ℕ) → cs ≡ listing kind t → IsFirstWrong pairs wrong (map (entry_of kind) cs) o → IsRefusal pairs wrong kind file t (refusal_of_entry file cs o)
fault_is pairs wrong kind file t cs o e w =
    subst (λ ds. IsRefusal pairs wrong kind file t (refusal_of_entry file ds o)) (sym e)
    (told pairs wrong kind file t o (subst (λ ds. IsFirstWrong pairs wrong (map (entry_of kind) ds) o) e w))

pub of_both : {X E : Type 0} (r : Result X E) (P Q R : X → Type 0) → ((x : X) → P x → Q x → R x) → IfOk r P → IfOk r Q → IfOk r R
of_both (Ok x) P Q R f p q = f x p q
of_both (Err e) P Q R f p q = tt

grouped : (a b c : Bool) → ((a && b) && c) ≡ (a && (b && c))
grouped true b c = refl
grouped false b c = refl

-- a type that lists names
pub values_listed : (base : List ℕ → Bool) (number : List ℕ → Option ℤ) (listed : List Tree → List ℕ → Bool) (cs : List Tree) (s : List ℕ) → (cs ≡ [] → ⊥) → ((is_some (number s) && base s) && listed cs s) ≡ is_value_from base number listed cs s
values_listed base number listed [] s h = absurd (h refl)
values_listed base number listed (c ∷ cs) s h = grouped (is_some (number s)) (base s) (listed (c ∷ cs) s)

pub lists_some : (ls : List (Bor Tree)) (b : Bool) → b ≡ (length ls == 0) → b ≡ false → borrow ls ≡ [] → ⊥
lists_some [] b e f h = let t : b ≡ true = e in cc
lists_some (l ∷ ls) b e f h = cc

-- the numbers of a type that lists names
pub number_listed : (base : List ℕ → Option ℤ) (kind : NumberKind) (cs : List Tree) (s : List ℕ) → (cs ≡ [] → ⊥) → number_in (keep_numbers base (map (entry_of kind) cs)) s ≡ number_from base (map (entry_of kind) cs) s
number_listed base kind [] s h = absurd (h refl)
number_listed base kind (c ∷ cs) s h = refl
