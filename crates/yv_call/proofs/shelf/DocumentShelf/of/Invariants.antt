use Rattle.std.proofs.Common.{◌≡◌, ℕ, List, Option, Some, map, string_bytes, take}
use Rattle.yv_call.specs.Documents.{AreNamed}
use Rattle.yv_call.specs.ShelfDocuments.{document_of}
use Rattle.yv_call.proofs.shelf.DocumentShelf.of.Given as goal

abbrev pub invariant-loop-place : goal.invariant-loop-place
invariant-loop-place l = record {
  are : AreNamed (document_of l.shelf) (map string_bytes (take l.place l.names))
      (map (λ d. d.now) (take l.place l.documents));
  forced : (lookup : List ℕ → Option (List ℕ))
      → AreNamed lookup (map string_bytes (take l.place l.names))
      (map (λ d. d.now) (take l.place l.documents))
      → (n x : List ℕ) → document_of l.shelf n ≡ Some x → lookup n ≡ Some x;
}
