use Rattle.std.proofs.Common.{rules, ◌≡◌, ℕ, sym, ◌∙◌, subst}
use Rattle.yv_link_scopes.specs.Rows.{row}
use Rattle.yv_link_definitions.specs.Places.{placed_in}
use Rattle.yv_link_definitions.specs.InnerPlaces.{keep_first}
use Rattle.yv_link_definitions.specs.declared.place.Place.{Place}
use Rattle.yv_link_definitions.proofs.FirstStatements.{places_more, places_same, with_word}
use Rattle.yv_link_definitions.proofs.references.add_place.Goals as goal

pub returns-in_ok-add : goal.returns-in_ok-add
returns-in_ok-add c = with_word c.args.keyword c.is.ensures.text (λ word is rows at before.
    places_more rows word c.args.number (row c.args.entry.now) _ _ at (sym is ∙ c.if-is.true) before
    (subst (λ (p : Place). (f o : ℕ) → placed_in c.add.new.self f o ≡ keep_first (placed_in c.args.list.now) p.file p.offset p.number f o) c.place_of.ensures c.in_ok-add.ensures))

pub returns-else-is : goal.returns-else-is
returns-else-is c = with_word c.args.keyword c.is.ensures.text (λ word is rows at before.
    places_same rows word c.args.number (row c.args.entry.now) _ at (sym is ∙ c.if-is.false) before)

pub returns-in_err-add : goal.returns-in_err-add
returns-in_err-add c = with_word c.args.keyword c.is.ensures.text (λ word is rows at before. search rules)
