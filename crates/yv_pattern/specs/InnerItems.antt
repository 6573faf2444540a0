-- Only private clauses cite this: how a pattern is read part by part.
use Rattle.std.specs.Prelude.{◌≡◌, ℕ, List, [], ◌∷◌, take, drop, Option, Some, option_to_list}
use Rattle.std.specs.List.{flat_map}
use Rattle.yv_pattern.specs.declared.mark.Mark.{Mark}
use Rattle.yv_pattern.specs.declared.part.FoundPart.{FoundPart}
use Rattle.yv_pattern.specs.declared.place.Place.{Place}
use Rattle.yv_pattern.specs.declared.place.Place.TheVariants.{Outside}
use Rattle.yv_pattern.specs.InnerGrammar.{IsPattern}
use Rattle.yv_pattern.specs.InnerParts.{part_at, place_after, mark_of, translation}

-- what a part is in the form, if anything, and the bytes that are written for it
pub record Item : Type 0 where
  pub mark : Option Mark
  pub bytes : List ℕ

-- the part that these characters begin with
abbrev pub item_of : Place → FoundPart → List ℕ → Item
item_of p f cs = record { mark = mark_of p f.part; bytes = translation f.part (take f.size cs) }

-- from this place on the characters are these parts, one after the other, and each class is closed
pub data ReadsAs : Place → List ℕ → List Item → Type 0 where
  nothing : ReadsAs Outside [] []
  more : (p : Place) (cs : List ℕ) (f : FoundPart) (is : List Item) → part_at p cs ≡ Some f
      → ReadsAs (place_after p f.part) (drop f.size cs) is → ReadsAs p cs (item_of p f cs ∷ is)

-- the form of these parts
abbrev pub marks : List Item → List Mark
marks is = flat_map (λ i. option_to_list i.mark) is

-- the characters are a pattern, with groups at most 64 deep, and the bytes are what is written for
-- it
pub record IsReadAs (cs bytes : List ℕ) : Type 0 where
  pub parts : List Item
  pub cut : ReadsAs Outside cs parts
  pub form : IsPattern 64 (marks parts)
  pub bytes_are : bytes ≡ flat_map (λ i. i.bytes) parts
