-- Numbers that stop at the largest that a count has.
use Rattle.std.specs.Prelude.{ℕ, ◌+◌, ◌-◌, ◌^◌, min}
use Rattle.yv_text_conditions.specs.declared.counts.Unevaluated.{Unevaluated}

-- a number, up to 2^64 - 1
abbrev pub cap_of : ℕ → ℕ
cap_of n = min n (2 ^ 64 - 1)

-- the sums of two, up to that
abbrev pub sum_of : Unevaluated → Unevaluated → Unevaluated
sum_of a b = record {
  must = cap_of (a.must + b.must);
  when = cap_of (a.when + b.when);
  path = cap_of (a.path + b.path);
  instance = cap_of (a.instance + b.instance);
}

-- nothing was found
abbrev pub nothing : Unevaluated
nothing = record { must = 0; when = 0; path = 0; instance = 0 }
