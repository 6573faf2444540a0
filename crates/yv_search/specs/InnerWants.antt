-- Only private clauses cite this: wants of the code.
use Rattle.std.specs.Prelude.{ℕ, List, Option, string_bytes}
use Rattle.std.specs.Option.{option_map}
use Rattle.std.specs.declared.string.String.{String}
use Rattle.std.specs.declared.alloc.Global.{Global}
use Rattle.yv_search.specs.declared.wants.Want.{Want as WantValue}
use Rattle.yv_search.specs.Wants.{Want}

-- an owned text that may be there
abbrev pub owned_text : Option (String Global) → Option (List ℕ)
owned_text text = option_map (λ (s : String Global). string_bytes s) text

-- a want of the code
abbrev pub want : WantValue → Want
want w = record { name = string_bytes w.name; date = owned_text w.date }
