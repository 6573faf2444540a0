-- A child has fewer statements below it than its parent.
use Rattle.std.proofs.Common.{◌≡◌, ℕ, zero, suc, ◌<◌, Some, arith}
use Rattle.std.specs.List.{slice_get}
use Rattle.yv_text_statement.specs.Tree.{Tree, Forest, End, Then, trees, count}

pub fewer : (f : Forest) (k : ℕ) (c : Tree) → slice_get (trees f) k ≡ Some c → count c.children < count f
fewer End k c h = cc
fewer (Then head inner others) zero c h =
    let one : record { head = head; children = inner } ≡ c = cc in
    rw (← one) (omega arith)
fewer (Then head inner others) (suc k) c h = let later : count c.children < count others = fewer others k c h in omega arith
