use Rattle.std.proofs.Common.{[], ◌∷◌, ap, map, rules, string_bytes}
use Rattle.yv_batch.specs.SourcesLeft.{both_left, part_left, part_name, sources_left, unopened_left}
use Rattle.yv_batch.proofs.SourceLemmas.{names_ended_of, next_source, none_popped, steps_none, steps_some}
use Rattle.yv_batch.proofs.sources.Sources.fetch.Goals as goal

pub loop-name-preserved : goal.loop-name-preserved
loop-name-preserved g c =
    let remaining = g.R.Read.remaining in
    let contents = g.O.Opener.contents in
    let files = g.F.Files.files in
    let s = c.loop-name.self in
    let source = string_bytes c.in-Some-pop_front.name in
    let was = part_left remaining (files s.files) s.part in
    let rest = unopened_left s.kind s.has_lost (contents s.opener) (files s.files) in
    let here = c.open.new.self in
    let start = sources_left remaining contents files c.args.self.now in
    let end = sources_left remaining contents files here in
    let part = part_left remaining (files here.files) here.part in
    steps_none start end part (part_name here.part) [] c.open.result
    (next_source start (sources_left remaining contents files s) (both_left was (rest (source ∷ map string_bytes c.pop_front.new.self.items))) end was part [] (part_name here.part) c.open.result c.loop-name.invariant
    (ap (λ l. both_left was (rest (map string_bytes l))) c.in-Some-pop_front.ensures.items) (λ done. c.open.ensures.steps done))
    (search rules)

pub returns-in-Some-open : goal.returns-in-Some-open
returns-in-Some-open g c =
    let remaining = g.R.Read.remaining in
    let contents = g.O.Opener.contents in
    let files = g.F.Files.files in
    let s = c.loop-name.self in
    let source = string_bytes c.in-Some-pop_front.name in
    let was = part_left remaining (files s.files) s.part in
    let rest = unopened_left s.kind s.has_lost (contents s.opener) (files s.files) in
    let here = c.open.new.self in
    let start = sources_left remaining contents files c.args.self.now in
    let end = sources_left remaining contents files here in
    let part = part_left remaining (files here.files) here.part in
    steps_some start end part (part_name here.part) c.open.result c.in-Some-open.fetched
    (next_source start (sources_left remaining contents files s) (both_left was (rest (source ∷ map string_bytes c.pop_front.new.self.items))) end was part [] (part_name here.part) c.open.result c.loop-name.invariant
    (ap (λ l. both_left was (rest (map string_bytes l))) c.in-Some-pop_front.ensures.items) (λ done. c.open.ensures.steps done))
    c.in-Some-open.is

pub returns : goal.returns
returns g c =
    let remaining = g.R.Read.remaining in
    let files = g.F.Files.files in
    let s = c.loop-name.self in
    let none = none_popped s.names.items c.pop_front.new.self.items c.pop_front.result (λ name e. c.in_default-pop_front.not-Some name e) c.pop_front.ensures.items c.pop_front.ensures.rest in
    names_ended_of s.kind s.has_lost (g.O.Opener.contents s.opener) (files s.files) (sources_left remaining g.O.Opener.contents files c.args.self.now) (part_left remaining (files s.files) s.part) []
    (map string_bytes s.names.items) (map string_bytes c.pop_front.new.self.items) (ap (map string_bytes) none.0) (ap (map string_bytes) none.1) c.loop-name.invariant
