-- What is reported of a whole document.
use Rattle.std.proofs.Common.{◌≡◌, ℕ, ◌+◌, List, ap, arith, ◌∙◌}
use Rattle.std.specs.List.{sum_by}
use Rattle.serde_json.specs.Data.{Members, object}
use Rattle.yv_text_statement.specs.declared.document_kind.Kind.{Kind}
use Rattle.yv_values.specs.Count.{count_up}
use Rattle.yv_nodes.specs.Link.{is_target, link_in}
use Rattle.yv_nodes.specs.Numbers.{rows_from}
use Rattle.yv_nodes.specs.Rows.{Rows, whole}
use Rattle.yv_data_leafrefs.specs.Findings.{Findings, HasMet, LeafrefValue, Position, positions_in}
use Rattle.yv_data_leafrefs.specs.InnerAnswers.{count_leafrefs, judge_all, Marks}
use Rattle.yv_data_leafrefs.specs.Meetings.{all_met, Meeting}
use Rattle.yv_data_leafrefs.specs.References.{all_references, lookups_at}
use Rattle.yv_data_leafrefs.proofs.IndexAnswers.{all_answered, marks_in}
use Rattle.yv_data_leafrefs.proofs.LookupCounts.{all_asked}
use Rattle.yv_data_leafrefs.proofs.LinkTargets.{are_targets}
use Rattle.yv_data_leafrefs.proofs.RowLabels.{all_rows}

pub told : (k : Kind) (s : Rows) (ms : Members) (found : Findings) → s.nodes ≡ rows_from 0 (whole s) → HasMet k s ms found
    → judge_all s (link_in s.links) (marks_in (is_target s.links) (all_met k s (object ms))) found.positions found.notes ≡ all_references k s (object ms)
told k s ms found rows met =
    let all : List Meeting = all_met k s (object ms) in
    let ks : Marks = marks_in (is_target s.links) all in
    ap (λ (ps : List Position). judge_all s (link_in s.links) ks ps found.notes) met.positions
    ∙ ap (λ (ns : List LeafrefValue). judge_all s (link_in s.links) ks (positions_in all) ns) met.notes
    ∙ all_answered k s (link_in s.links) (is_target s.links) ms (all_rows s rows) (are_targets s.links)

pub shown : (k : Kind) (s : Rows) (ms : Members) (found : Findings) (first now : ℕ) → HasMet k s ms found → count_up now ≡ count_up (first + count_leafrefs (link_in s.links) found.notes)
    → count_up now ≡ count_up (first + sum_by (lookups_at (link_in s.links)) (all_met k s (object ms)))
shown k s ms found first now met e =
    e ∙ ap (λ (n : ℕ). count_up (first + n))
    (ap (λ (ns : List LeafrefValue). count_leafrefs (link_in s.links) ns) met.notes ∙ all_asked (link_in s.links) (all_met k s (object ms)))

-- steps that were counted apart
pub added : (first start own more now n : ℕ) → start ≡ 0 → count_up own ≡ count_up (start + n) → more ≡ own → now ≡ count_up (first + more) → count_up now ≡ count_up (first + n)
added first start own more now n e f g h = omega (arith, e, f, g, h)
