use Rattle.std.proofs.Common.{◌≡◌, ◌||◌, ℕ, List, [], Option, Some, None, refl, rules, subst, sym}
use Rattle.yv_batch.specs.AskedDocument.{AskedDocument, asked_of, ReadResult}
use Rattle.yv_batch.specs.NamesLeft.{last_of, list_left, names_left}
use Rattle.yv_batch.specs.PiecesLeft.{left_of}
use Rattle.yv_batch.specs.Supply.{Takes}
use Rattle.yv_batch.specs.FileStore.{StayKnown}
use Rattle.yv_batch.proofs.NameLemmas.{stay_named, stay_same, name_read}
use Rattle.yv_batch.proofs.SupplyLemmas.{same_start, takes_after}
use Rattle.yv_batch.proofs.names.NameList.fetch.Goals as goal

pub loop-init : goal.loop-init
loop-init g c = record { same = same_start (list_left g.R.Read.remaining (g.F.Files.files c.args.files.now) c.args.self.now); files = refl }

pub returns-then-not-is_empty-clause-fetches : goal.returns-then-not-is_empty-clause-fetches
returns-then-not-is_empty-clause-fetches g c =
    let l = c.loop.self in
    let lost = l.has_lost || l.is_broken in
    let name = c.in-Ok-Some.name.items in
    let files = g.F.Files.files c.loop.files in
    let others = g.F.Files.files c.fetch_named.new.files in
    let left = left_of g.R.Read.remaining l.pieces in
    let rest = left_of g.R.Read.remaining c.next.new.self in
    let some : name ≡ [] → ⊥ = λ none. search rules in
    let document = c.fetch_named.result in
    let read = name_read l.end lost files others left rest name document (rw c.in-Ok-Some.field-0-is at c.in-Ok-Some.ensures.gives) some c.fetch_named.ensures.file in
    let by_name = subst (λ (n : List ℕ). Takes (names_left l.end lost files left) (names_left l.end lost others rest) (Some (asked_of n document))) (sym c.fetch_named.ensures.last) read in
    let new = last_of c.fetch_named.new.self in
    takes_after (list_left g.R.Read.remaining (g.F.Files.files c.args.files.now) c.args.self.now) (names_left l.end lost files left) (list_left g.R.Read.remaining others c.fetch_named.new.self) (Some (asked_of new document)) c.loop.invariant.same
    (subst (λ (o : Option (List AskedDocument)). Takes (names_left l.end lost files left) o (Some (asked_of new document))) (sym (c.fetch_named.ensures.list others)) by_name)

pub returns-then-not-is_empty-clause-keeps : goal.returns-then-not-is_empty-clause-keeps
returns-then-not-is_empty-clause-keeps g c =
    subst (λ (known : Option (List ℕ → ReadResult)). StayKnown known (g.F.Files.files c.fetch_named.new.files) (Some c.fetch_named.result)) c.loop.invariant.files
    (stay_named (g.F.Files.files c.loop.files) (g.F.Files.files c.fetch_named.new.files) c.in-Ok-Some.name.items c.fetch_named.result c.fetch_named.ensures.file)

pub returns-then-self-clause-keeps : goal.returns-then-self-clause-keeps
returns-then-self-clause-keeps g c = stay_same (g.F.Files.files c.args.files.now) (g.F.Files.files c.args.files.now) None refl

pub returns-in-Ok-None-clause-keeps : goal.returns-in-Ok-None-clause-keeps
returns-in-Ok-None-clause-keeps g c = stay_same (g.F.Files.files c.args.files.now) (g.F.Files.files c.loop.files) None c.loop.invariant.files

pub returns-in-Err-clause-keeps : goal.returns-in-Err-clause-keeps
returns-in-Err-clause-keeps g c = stay_same (g.F.Files.files c.args.files.now) (g.F.Files.files c.loop.files) _ c.loop.invariant.files

pub returns-clause-keeps : goal.returns-clause-keeps
returns-clause-keeps g c = stay_same (g.F.Files.files c.args.files.now) (g.F.Files.files c.loop.files) _ c.loop.invariant.files
