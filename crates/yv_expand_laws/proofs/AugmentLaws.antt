-- The laws of augments by number that tell where items stand in the end.
use Rattle.yv_expand_laws.proofs.CopiesGive as copies
use Rattle.yv_expand_laws.proofs.Parents as parents

pub record Laws : Type 0 where
  pub stand : parents.Stand
  pub room : parents.Room
  pub many : parents.Many
  pub enters : parents.Enters
  pub stays : parents.Stays
  pub turned : parents.Turned
  pub applied : parents.Applied
  pub below : parents.Below
  pub one : parents.One
  pub given_turned : copies.Turned
  pub given_applied : copies.Applied
