use Rattle.std.proofs.Common.{sym, ◌∙◌, ap}
use Rattle.std.specs.List.{slice_get}
use Rattle.yv_link_scopes.specs.Rows.{row}
use Rattle.yv_link_scopes.specs.Views.{files_in, lent_in, rows_in}
use Rattle.yv_type_chains.proofs.Blocks.{type_within}
use Rattle.yv_type_chains.proofs.FollowedTypes.{follows_none, follows_out, follows_some}
use Rattle.yv_type_chains.proofs.follows.next_type.Goals as goal

pub returns-then-not-is_type-clause-exact : goal.returns-then-not-is_type-clause-exact
returns-then-not-is_type-clause-exact c given j =
    follows_out (files_in c.args.rows.now) (rows_in c.args.rows.now) c.args.number (row c.args.entry.now) c.requires.at (sym c.is_type.ensures ∙ c.if-not-is_type.true) j

pub returns-in-None-clause-exact : goal.returns-in-None-clause-exact
returns-in-None-clause-exact c given j =
    follows_none (files_in c.args.rows.now) (rows_in c.args.rows.now) c.args.number (row c.args.entry.now) c.requires.at c.meaning.result (c.meaning.ensures (lent_in c.args.rows.now) given) c.in-None.is j

pub returns-in-Some-clause-exact : goal.returns-in-Some-clause-exact
returns-in-Some-clause-exact c given j =
    follows_some (files_in c.args.rows.now) (rows_in c.args.rows.now) c.args.number (row c.args.entry.now) c.requires.at c.meaning.result _ c.in-Some.definition (sym c.is_type.ensures ∙ c.if-not-is_type.false) (c.meaning.ensures (lent_in c.args.rows.now) given) c.in-Some.is (c.first_inside.ensures ∙ ap (λ l. slice_get l 0) (c.requires.inside c.in-Some.definition)) j

pub returns-in-Some-clause-within : goal.returns-in-Some-clause-within
returns-in-Some-clause-within c j e =
    type_within c.in-Some.definition (rows_in c.args.rows.now) j (sym (c.first_inside.ensures ∙ ap (λ l. slice_get l 0) (c.requires.inside c.in-Some.definition)) ∙ e)
