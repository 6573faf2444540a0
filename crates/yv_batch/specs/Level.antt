-- How good a document is, as a number.
use Rattle.std.specs.Prelude.{ℕ}
use Rattle.yv_batch.specs.declared.level.Level.{Level}
use Rattle.yv_batch.specs.declared.level.Level.TheVariants as is

-- 0 for a valid one, 1 for faults, 2 for bad input, 3 where it could not be read
abbrev pub level_number : Level → ℕ
level_number is.Valid = 0
level_number is.Faulty = 1
level_number is.BadInput = 2
level_number is.Unread = 3
