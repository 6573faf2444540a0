-- Only private clauses cite this: the values of a key, and the order of keys.
use Rattle.std.specs.Prelude.{ℕ, List, [], ◌∷◌, map}
use Rattle.std.specs.Cmp.{IsTotalOrder, on_total, then_total, nat_cmp_total}
use Rattle.std.specs.Cmp.Lexicographic.{slice_cmp, lists_total}
use Rattle.std.specs.Ordering.{nat_cmp, ordering_then}
use Rattle.std.specs.declared.cmp.Ordering.{Ordering}
use Rattle.yv_base_numbers.specs.declared.integer.Integer.TheVariants.{Natural}
use Rattle.yv_values.specs.contracts.value.AtomOrd.TheImpl.{cmp-value}
use Rattle.yv_values.specs.contracts.value.AtomOrd.TheImpl.Laws.{total-law}
use Rattle.yv_values.specs.Values.{Val, value_of}
use Rattle.yv_values.specs.declared.key.Key.{Key}
use Rattle.yv_values.specs.declared.key.Key.TheVariants.{Nothing, One, Many}
use Rattle.yv_values.specs.declared.value.Atom.{Atom}
use Rattle.yv_values.specs.declared.value.Atom.TheVariants as atom

-- they, one alone or in a list
abbrev pub atoms_of : Key → List Atom
atoms_of Nothing = []
atoms_of (One atom) = atom ∷ []
atoms_of (Many atoms) = atoms.items

-- what they mean
abbrev pub key_of : Key → List Val
key_of key = map value_of (atoms_of key)

-- the number of a value that is a whole number from zero on, and 0 of any other
abbrev pub number_of : Atom → ℕ
number_of (atom.Whole (Natural n)) = n
number_of _ = 0

abbrev pub numbers_of : List Atom → List ℕ
numbers_of atoms = map number_of atoms

-- the order of values in a row: by their numbers, and where these are the same, by all that they
-- are
abbrev pub row_cmp : List Atom → List Atom → Ordering
row_cmp xs ys =
    ordering_then (slice_cmp nat_cmp (numbers_of xs) (numbers_of ys)) (slice_cmp cmp-value.it xs ys)

abbrev pub key_cmp : Key → Key → Ordering
key_cmp x y = row_cmp (atoms_of x) (atoms_of y)

pub key_total : IsTotalOrder key_cmp
key_total = on_total atoms_of
    (then_total (on_total numbers_of (lists_total nat_cmp_total)) (lists_total total-law))
