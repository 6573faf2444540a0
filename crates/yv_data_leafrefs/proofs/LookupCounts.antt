-- An index is asked as often as a value of a leafref is looked up.
use Rattle.std.proofs.Common.{◌≡◌, ℕ, ◌+◌, List, [], ◌∷◌, ◌++◌, Option, Some, None, refl, ap, arith}
use Rattle.std.proofs.lemmas.List.Sums.{sum_by-cons}
use Rattle.std.specs.List.{sum_by}
use Rattle.yv_values.specs.Values.{Val}
use Rattle.yv_nodes.specs.Link.{Link}
use Rattle.yv_data_leafrefs.specs.Findings.{first_of, LeafrefValue, notes_at, notes_in, value_notes}
use Rattle.yv_data_leafrefs.specs.InnerAnswers.{count_leafrefs, asked_once}
use Rattle.yv_data_leafrefs.specs.InUse.{value_of}
use Rattle.yv_data_leafrefs.specs.Meetings.{Meeting, stand, at_value, at_end, at_node}
use Rattle.yv_data_leafrefs.specs.References.{lookups_at, number_of, value_lookups}

both_asked : (links : ℕ → Option Link) (xs ys : List LeafrefValue) → count_leafrefs links (xs ++ ys) ≡ count_leafrefs links xs + count_leafrefs links ys
both_asked links [] ys = omega arith
both_asked links (x ∷ xs) ys = omega (arith, both_asked links xs ys)

once_asked : (links : ℕ → Option Link) (link : Option Link) (here n : ℕ) (i : Option ℕ) (v : Option Val) → links n ≡ link → count_leafrefs links (value_notes link here n i v) ≡ value_lookups link v
once_asked links None here n i None e = refl
once_asked links None here n i (Some v) e = refl
once_asked links (Some link) here n i None e = refl
once_asked links (Some link) here n i (Some v) e = ap (λ x. asked_once x + 0) e

at_asked : (links : ℕ → Option Link) (m : Meeting) → count_leafrefs links (notes_at links m) ≡ lookups_at links m
at_asked links (stand m) = refl
at_asked links (at_value m) = once_asked links (links m.node.0) (first_of m.spot.around) m.node.0 (number_of m.before) (value_of m.label m.found) refl
at_asked links (at_end m) = refl
at_asked links (at_node m) = refl

pub all_asked : (links : ℕ → Option Link) (ms : List Meeting) → count_leafrefs links (notes_in links ms) ≡ sum_by (lookups_at links) ms
all_asked links [] = refl
all_asked links (m ∷ ms) = omega (arith, both_asked links (notes_at links m) (notes_in links ms), at_asked links m, all_asked links ms, sum_by-cons (lookups_at links) m ms)
