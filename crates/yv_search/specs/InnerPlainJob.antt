-- Only private clauses cite this: the texts of files, and a list of names as it grows.
use Rattle.std.specs.Prelude.{◌≡◌, ℕ, Bool, List, [], ◌∷◌, map, Option, Some, string_bytes}
use Rattle.std.specs.declared.string.String.{String}
use Rattle.std.specs.declared.alloc.Global.{Global}
use Rattle.std.specs.List.{AllZip}
use Rattle.yv_base_streams.specs.Files.{File}
use Rattle.yv_source.specs.File.{File as Text}
use Rattle.yv_text_statement.specs.Words.{is_among}
use Rattle.yv_search.specs.Roots.{HoldsText}
use Rattle.yv_search.specs.PlainJob.{with_module}
use Rattle.yv_search.specs.InnerNames.{has}
use Rattle.yv_search.specs.declared.modules.Names.{Names}

-- the texts of files, one by one
abbrev pub AreTexts : List File → List (Option Text) → Type 0
AreTexts files texts = AllZip (λ f text. HoldsText f.bytes text) files texts

-- a set has the names of a list
abbrev pub AreKnown : Names → List (String Global) → Type 0
AreKnown known names = (q : List ℕ) → has known q ≡ is_among (map string_bytes names) q

-- a module was added to a list of names, if it has to be
pub record AddsModule (is_required : List ℕ → Bool) (m : List ℕ)
    (old : List (String Global)) (known : Names) (new : List (String Global)) : Type 0 where
  pub names : map string_bytes new ≡ with_module is_required (map string_bytes old) (Some m)
  pub all_known : AreKnown known new
