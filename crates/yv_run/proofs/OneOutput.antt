-- Files come to one thing, and a run has one output.
use Rattle.std.proofs.Common.{◌≡◌, ℕ, zero, suc, ◌<◌, List, [], ◌∷◌, take, Option, Some, None, sym, ◌∙◌, ap, ap₂, subst, refl, arith, inl, inr}
use Rattle.std.specs.List.{AllZip, slice_get}
use Rattle.std.proofs.lemmas.Bool.{cases_lt}
use Rattle.yv_text_statement.specs.Tree.{Tree}
use Rattle.yv_text_statement.specs.Order.{IsUpTo, IsLeast}
use Rattle.yv_text_statement.specs.declared.refusal.Refusal.{Refusal}
use Rattle.yv_source.specs.Answer.{IsBadFile, IsSpelled, IsRefused}
use Rattle.yv_source.specs.Legal.{IsLegalFile}
use Rattle.yv_text_statement.specs.Selection.{ModuleChoice}
use Rattle.yv_schema.specs.Refuses.{Refuses}
use Rattle.yv_schema.specs.Module.{modules_of}
use Rattle.yv_schema.specs.Notes.{AreNotes}
use Rattle.yv_schema.specs.Schema.{AreReferences, IsSchema}
use Rattle.yv_nodes.specs.Link.{Link}
use Rattle.yv_nodes.specs.Tree.{Forest}
use Rattle.yv_nodes.specs.Rows.{Note, Rows, whole}
use Rattle.yv_nodes.specs.Numbers.{rows_of}
use Rattle.yv_job.specs.Jobs.{Task}
use Rattle.yv_source.specs.FileStatements.{IsRead, IsUnread, in_file}
use Rattle.yv_run.specs.Compiles.{Compilation, RefusedAt, HasSchema, FilesCompile, IsGiven, bad_syntax, refuses, gives_schema}
use Rattle.yv_base_streams.specs.Files.{File}
use Rattle.yv_run.specs.Output.{Page, IsOutput, compiled_printed}
use Rattle.yv_lint.specs.Findings.{findings}
use Rattle.yv_lint.specs.RuleChoice.{RuleChoice}
use Rattle.yv_run.specs.Lints.{FilesLint, Finds, LintResult, RefusedBy, are_refused, have_findings, named_paths}

-- what stands at a place of the first list has its like in the second
zip_back : {A B : Type 0} (R : A → B → Type 0) (xs : List A) (ys : List B) (n : ℕ) (x : A) → AllZip R xs ys → slice_get xs n ≡ Some x → (y : B) × (slice_get ys n ≡ Some y) × R x y
zip_back R [] [] n x h at = cc
zip_back R [] (z ∷ ys) n x h at = absurd h
zip_back R (z ∷ xs) [] n x h at = absurd h
zip_back R (z ∷ xs) (y ∷ ys) zero x h at = let same : z ≡ x = cc in (y, refl, subst (λ a. R a y) same h.0)
zip_back R (z ∷ xs) (y ∷ ys) (suc n) x h at = zip_back R xs ys n x h.1 at

-- the laws of the layers below
pub record Once : Type 0 where
  pub bad : (bytes : List ℕ) (r s : Refusal) → IsBadFile bytes r → IsBadFile bytes s → r ≡ s
  pub legal : (bytes : List ℕ) (r : Refusal) → IsBadFile bytes r → IsLegalFile bytes → ⊥
  pub spelled : (text : List ℕ) (t u : Tree) → IsSpelled text t → IsSpelled text u → t ≡ u
  pub refused : (text : List ℕ) (r s : Refusal) → IsRefused text r → IsRefused text s → r ≡ s
  pub apart : (text : List ℕ) (t : Tree) (r : Refusal) → IsSpelled text t → IsRefused text r → ⊥
  pub schema : (choice : ModuleChoice) (files : List Tree) (limit : ℕ) (a b : Forest) → IsLeast (Refuses choice files limit) None → IsSchema choice files a → IsSchema choice files b → a ≡ b
  pub augments : (choice : ModuleChoice) (files : List Tree) (limit : ℕ) (a b : List Note) → IsLeast (Refuses choice files limit) None → AreNotes choice files a → AreNotes choice files b → a ≡ b
  pub references : (choice : ModuleChoice) (files : List Tree) (limit : ℕ) (a b : List (Option Link)) → IsLeast (Refuses choice files limit) None → AreReferences choice files a → AreReferences choice files b → a ≡ b
  pub order : (r s : Refusal) → IsUpTo r s → IsUpTo s r → r ≡ s

one_least : Once → (choice : ModuleChoice) (ts : List Tree) (limit : ℕ) (r s : Refusal) → IsLeast (Refuses choice ts limit) (Some r) → IsLeast (Refuses choice ts limit) (Some s) → r ≡ s
one_least once choice ts limit r s p q = once.order r s (p.1 s q.0) (q.1 r p.0)

-- a file isn't both read and unread, and is unread in one way
clash : Once → (f : File) (t : Tree) (r : Refusal) → IsRead f t → IsUnread f r → ⊥
clash once f t r p (inl bad) = once.legal f.bytes r bad p.0
clash once f t r p (inr q) = once.apart f.bytes t r p.1 q.1

one_unread : Once → (f : File) (r s : Refusal) → IsUnread f r → IsUnread f s → r ≡ s
one_unread once f r s (inl a) (inl b) = once.bad f.bytes r s a b
one_unread once f r s (inl a) (inr b) = absurd (once.legal f.bytes r a b.0)
one_unread once f r s (inr a) (inl b) = absurd (once.legal f.bytes s b a.0)
one_unread once f r s (inr a) (inr b) = once.refused f.bytes r s a.1 b.1

-- files are read as one list of statements
one_list : Once → (fs : List File) (ts us : List Tree) → AllZip IsRead fs ts → AllZip IsRead fs us → ts ≡ us
one_list once [] [] [] p q = refl
one_list once [] [] (u ∷ us) p q = absurd q
one_list once [] (t ∷ ts) us p q = absurd p
one_list once (f ∷ fs) [] us p q = absurd p
one_list once (f ∷ fs) (t ∷ ts) [] p q = absurd q
one_list once (f ∷ fs) (t ∷ ts) (u ∷ us) p q =
    ap (λ x. x ∷ ts) (once.spelled f.bytes t u p.0.1 q.0.1) ∙ ap (λ xs. u ∷ xs) (one_list once fs ts us p.1 q.1)

-- a file that is unread stands behind those that are read
not_read : Once → (files : List File) (ts : List Tree) (n : ℕ) (f : File) (r : Refusal) → AllZip IsRead files ts → slice_get files n ≡ Some f → IsUnread f r → ⊥
not_read once files ts n f r read at bad =
    let t = zip_back IsRead files ts n f read at in
    clash once f t.0 r t.2 bad

not_before : Once → (files : List File) (us : List Tree) (n m : ℕ) (f : File) (r : Refusal) → AllZip IsRead (take m files) us → slice_get files n ≡ Some f → IsUnread f r → n < m → ⊥
not_before once files us n m f r read at bad less = not_read once (take m files) us n f r read (front_get m n files f less at) bad
  where
    front_get : (m n : ℕ) (xs : List File) (x : File) → n < m → slice_get xs n ≡ Some x → slice_get (take m xs) n ≡ Some x
    front_get zero n xs x h at = absurd (omega (arith, h))
    front_get (suc m) n [] x h at = at
    front_get (suc m) zero (y ∷ ys) x h at = at
    front_get (suc m) (suc n) (y ∷ ys) x h at = front_get m n ys x (omega (arith, h)) at

-- there is one first unread file
one_place : Once → (files : List File) (ts us : List Tree) (n m : ℕ) (f g : File) (r s : Refusal)
    → AllZip IsRead (take n files) ts → slice_get files n ≡ Some f → IsUnread f r
    → AllZip IsRead (take m files) us → slice_get files m ≡ Some g → IsUnread g s → in_file n r ≡ in_file m s
one_place once files ts us n m f g r s p at a q at' b =
    elim (cases_lt n m) [
      | inl less ↦ absurd (not_before once files us n m f r q at a less)
      | inr up ↦ elim (cases_lt m n) [
        | inl less ↦ absurd (not_before once files ts m n g s p at' b less)
        | inr down ↦
            let same : n ≡ m = omega (arith, up, down) in
            let file : f ≡ g = cc in
            ap (λ k. in_file k r) same ∙ ap (in_file m) (one_unread once g r s (subst (λ x. IsUnread x r) file a) b)
      ]
    ]

-- statements of which nothing is refused give one schema
one_given : Once → (choice : ModuleChoice) (ts : List Tree) (limit : ℕ) (a b : Rows) → IsLeast (Refuses choice ts limit) None → IsGiven choice ts limit a → IsGiven choice ts limit b → a ≡ b
one_given once choice ts limit a b clear p q =
    p.rows
    ∙ ap₂ (λ (notes : List Note) (links : List (Option Link)). rows_of limit (modules_of choice ts) notes links (whole a)) (once.augments choice ts limit a.augments b.augments clear p.augments q.augments)
    (once.references choice ts limit a.links b.links clear p.references q.references)
    ∙ ap (rows_of limit (modules_of choice ts) b.augments b.links) (once.schema choice ts limit (whole a) (whole b) clear p.tree q.tree)
    ∙ sym q.rows

files_once : Once → (choice : ModuleChoice) (limit : ℕ) (files : List File) (c d : Compilation) → FilesCompile choice limit files c → FilesCompile choice limit files d → c ≡ d
files_once once choice limit files _ _ (bad_syntax {r} n f ts p at a) (bad_syntax {r = s} m g us q at' b) = ap RefusedAt (one_place once files ts us n m f g r s p at a q at' b)
files_once once choice limit files _ _ (bad_syntax {r} n f ts p at a) (refuses us q b) = absurd (not_read once files us n f r q at a)
files_once once choice limit files _ _ (bad_syntax {r} n f ts p at a) (gives_schema us q b is) = absurd (not_read once files us n f r q at a)
files_once once choice limit files _ _ (refuses ts p a) (bad_syntax {r = s} m g us q at' b) = absurd (not_read once files ts m g s p at' b)
files_once once choice limit files _ _ (refuses {r} ts p a) (refuses {r = s} us q b) =
    ap RefusedAt (one_least once choice us limit r s (subst (λ xs. IsLeast (Refuses choice xs limit) (Some r)) (one_list once files ts us p q) a) b)
files_once once choice limit files _ _ (refuses {r} ts p a) (gives_schema us q b is) =
    absurd (b r (subst (λ xs. Refuses choice xs limit r) (one_list once files ts us p q) a.0))
files_once once choice limit files _ _ (gives_schema ts p a is) (bad_syntax {r = s} m g us q at' b) = absurd (not_read once files ts m g s p at' b)
files_once once choice limit files _ _ (gives_schema ts p a is) (refuses {r = s} us q b) =
    absurd (a s (subst (λ xs. Refuses choice xs limit s) (sym (one_list once files ts us p q)) b.0))
files_once once choice limit files _ _ (gives_schema {schema} ts p a is) (gives_schema {schema = other} us q b is') =
    ap HasSchema (one_given once choice us limit schema other b (subst (λ xs. IsGiven choice xs limit schema) (one_list once files ts us p q) is) is')

pub one_output : Once → (task : Task) (files : List File) (given : List ℕ) (p q : Page) → IsOutput task files given p → IsOutput task files given q → p ≡ q
one_output once task files given p q a b =
    let one : a.0 ≡ b.0 = files_once once task.choice task.limit files a.0 b.0 a.1 b.1 in
    sym a.2 ∙ ap (λ c. compiled_printed task files c given) one ∙ b.2

-- files that are linted come to one thing
pub one_result : Once → (choice : ModuleChoice) (limit : ℕ) (asked : RuleChoice) (named : ℕ) (files : List File) (a b : LintResult) → FilesLint choice limit asked named files a → FilesLint choice limit asked named files b → a ≡ b
one_result once choice limit asked named files _ _ (are_refused {r} p) (are_refused {r = s} q) =
    let e : RefusedAt r ≡ RefusedAt s = files_once once choice limit files _ _ p q in
    let same : r ≡ s = cc in ap (λ (x : Refusal). RefusedBy x) same
one_result once choice limit asked named files _ _ (are_refused {r} p) (have_findings s ts q read) =
    let e : RefusedAt r ≡ HasSchema s = files_once once choice limit files _ _ p q in cc
one_result once choice limit asked named files _ _ (have_findings s ts p read) (are_refused {r} q) =
    let e : HasSchema s ≡ RefusedAt r = files_once once choice limit files _ _ p q in cc
one_result once choice limit asked named files _ _ (have_findings s ts p read) (have_findings t us q read') =
    ap (λ (xs : List Tree). Finds (findings asked choice (named_paths named files) xs)) (one_list once files ts us read read')
