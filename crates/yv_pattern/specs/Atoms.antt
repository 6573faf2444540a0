-- The atoms of a pattern that hold no pattern: which characters spell them, and what is written for
-- them.
use Rattle.std.specs.Prelude.{◌≡◌, ℕ, ◌==◌, Bool, true, false, List, [], ◌∷◌, ◌++◌, codes, encode_utf8_all}
use Rattle.std.specs.List.{list_any}
use Rattle.yv_pattern.specs.Categories.{is_category}
use Rattle.yv_pattern.specs.Characters.{Escapes, literal}
use Rattle.yv_pattern.specs.Classes.{AreItems}

-- a circumflex comes first
abbrev pub begins_turned : List ℕ → Bool
begins_turned [] = false
begins_turned (c ∷ cs) = c == 94

-- a part of a pattern that matches one character, and its translation
pub data IsSingle : List ℕ → List ℕ → Type 0 where
  plain : (c : ℕ) → list_any (λ x. c == x) (codes ".\\?*+{}()[]|") ≡ false
      → IsSingle (c ∷ []) (literal c)
  escape : (c d : ℕ) → Escapes c d → IsSingle (92 ∷ c ∷ []) (literal d)
  any : IsSingle (codes ".") (codes "[^\\n\\r]")
  digit : IsSingle (codes "\\d") (codes "\\p{Nd}")
  not_digit : IsSingle (codes "\\D") (codes "\\P{Nd}")
  space : IsSingle (codes "\\s") (codes "[ \\t\\n\\r]")
  not_space : IsSingle (codes "\\S") (codes "[^ \\t\\n\\r]")
  word : IsSingle (codes "\\w") (codes "[^\\p{P}\\p{Z}\\p{C}]")
  not_word : IsSingle (codes "\\W") (codes "[\\p{P}\\p{Z}\\p{C}]")
  category : (name : List ℕ) → is_category name ≡ true →
      IsSingle (codes "\\p{" ++ name ++ codes "}")
      (encode_utf8_all (codes "\\p{" ++ name ++ codes "}"))
  not_category : (name : List ℕ) → is_category name ≡ true →
      IsSingle (codes "\\P{" ++ name ++ codes "}")
      (encode_utf8_all (codes "\\P{" ++ name ++ codes "}"))
  class : (cs bs : List ℕ) → AreItems true cs bs → begins_turned cs ≡ false →
      IsSingle (codes "[" ++ cs ++ codes "]") (codes "[" ++ bs ++ codes "]")
  inverted_class : (cs bs : List ℕ) → AreItems true cs bs
      → IsSingle (codes "[^" ++ cs ++ codes "]") (codes "[^" ++ bs ++ codes "]")
