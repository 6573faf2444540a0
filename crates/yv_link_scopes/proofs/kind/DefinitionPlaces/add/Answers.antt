use Rattle.std.proofs.Common.{refl, sym, ◌∙◌}
use Rattle.yv_text_statement.specs.declared.keyword.Keyword.TheVariants as word
use Rattle.yv_link_scopes.specs.Rows.{Row, row}
use Rattle.yv_link_scopes.specs.declared.kind.NameKind.TheVariants as kind
use Rattle.yv_link_scopes.proofs.Keywords.{differs, on_ok, other_word}
use Rattle.yv_link_scopes.proofs.kind.DefinitionPlaces.add.Goals as goal

pub returns-in-Feature : goal.returns-in-Feature
returns-in-Feature c = λ rows at before.
    let e : Row = row c.args.entry.now in
    let is = sym c.in-Feature.is ∙ c.kind.ensures in
    on_ok c.keep_name.result (c.keep_name.ensures rows at before.features) (λ kept. record {
      features = kept;
      identities = other_word kind.Identity word.Identity word.Feature rows c.args.number e c.args.self.now.identities refl is refl at before.identities;
      extensions = other_word kind.Extension word.Extension word.Feature rows c.args.number e c.args.self.now.extensions refl is refl at before.extensions;
      typedefs = other_word kind.Typedef word.Typedef word.Feature rows c.args.number e c.args.self.now.typedefs refl is refl at before.typedefs;
      groupings = other_word kind.Grouping word.Grouping word.Feature rows c.args.number e c.args.self.now.groupings refl is refl at before.groupings;
    })

pub returns-in-Identity : goal.returns-in-Identity
returns-in-Identity c = λ rows at before.
    let e : Row = row c.args.entry.now in
    let is = sym c.in-Identity.is ∙ c.kind.ensures in
    on_ok c.keep_name-in-Identity.result (c.keep_name-in-Identity.ensures rows at before.identities) (λ kept. record {
      features = other_word kind.Feature word.Feature word.Identity rows c.args.number e c.args.self.now.features refl is refl at before.features;
      identities = kept;
      extensions = other_word kind.Extension word.Extension word.Identity rows c.args.number e c.args.self.now.extensions refl is refl at before.extensions;
      typedefs = other_word kind.Typedef word.Typedef word.Identity rows c.args.number e c.args.self.now.typedefs refl is refl at before.typedefs;
      groupings = other_word kind.Grouping word.Grouping word.Identity rows c.args.number e c.args.self.now.groupings refl is refl at before.groupings;
    })

pub returns-in-Extension : goal.returns-in-Extension
returns-in-Extension c = λ rows at before.
    let e : Row = row c.args.entry.now in
    let is = sym c.in-Extension.is ∙ c.kind.ensures in
    on_ok c.keep_name-in-Extension.result (c.keep_name-in-Extension.ensures rows at before.extensions) (λ kept. record {
      features = other_word kind.Feature word.Feature word.Extension rows c.args.number e c.args.self.now.features refl is refl at before.features;
      identities = other_word kind.Identity word.Identity word.Extension rows c.args.number e c.args.self.now.identities refl is refl at before.identities;
      extensions = kept;
      typedefs = other_word kind.Typedef word.Typedef word.Extension rows c.args.number e c.args.self.now.typedefs refl is refl at before.typedefs;
      groupings = other_word kind.Grouping word.Grouping word.Extension rows c.args.number e c.args.self.now.groupings refl is refl at before.groupings;
    })

pub returns-in-Typedef : goal.returns-in-Typedef
returns-in-Typedef c = λ rows at before.
    let e : Row = row c.args.entry.now in
    let is = sym c.in-Typedef.is ∙ c.kind.ensures in
    on_ok c.keep_name-in-Typedef.result (c.keep_name-in-Typedef.ensures rows at before.typedefs) (λ kept. record {
      features = other_word kind.Feature word.Feature word.Typedef rows c.args.number e c.args.self.now.features refl is refl at before.features;
      identities = other_word kind.Identity word.Identity word.Typedef rows c.args.number e c.args.self.now.identities refl is refl at before.identities;
      extensions = other_word kind.Extension word.Extension word.Typedef rows c.args.number e c.args.self.now.extensions refl is refl at before.extensions;
      typedefs = kept;
      groupings = other_word kind.Grouping word.Grouping word.Typedef rows c.args.number e c.args.self.now.groupings refl is refl at before.groupings;
    })

pub returns-in-Grouping : goal.returns-in-Grouping
returns-in-Grouping c = λ rows at before.
    let e : Row = row c.args.entry.now in
    let is = sym c.in-Grouping.is ∙ c.kind.ensures in
    on_ok c.keep_name-in-Grouping.result (c.keep_name-in-Grouping.ensures rows at before.groupings) (λ kept. record {
      features = other_word kind.Feature word.Feature word.Grouping rows c.args.number e c.args.self.now.features refl is refl at before.features;
      identities = other_word kind.Identity word.Identity word.Grouping rows c.args.number e c.args.self.now.identities refl is refl at before.identities;
      extensions = other_word kind.Extension word.Extension word.Grouping rows c.args.number e c.args.self.now.extensions refl is refl at before.extensions;
      typedefs = other_word kind.Typedef word.Typedef word.Grouping rows c.args.number e c.args.self.now.typedefs refl is refl at before.typedefs;
      groupings = kept;
    })

pub returns-in_default : goal.returns-in_default
returns-in_default c = λ rows at before.
    let e : Row = row c.args.entry.now in
    record {
      features = other_word kind.Feature word.Feature c.kind.result rows c.args.number e c.args.self.now.features refl c.kind.ensures (differs c.kind.result word.Feature c.in_default.not-Feature) at before.features;
      identities = other_word kind.Identity word.Identity c.kind.result rows c.args.number e c.args.self.now.identities refl c.kind.ensures (differs c.kind.result word.Identity c.in_default.not-Identity) at before.identities;
      extensions = other_word kind.Extension word.Extension c.kind.result rows c.args.number e c.args.self.now.extensions refl c.kind.ensures (differs c.kind.result word.Extension c.in_default.not-Extension) at before.extensions;
      typedefs = other_word kind.Typedef word.Typedef c.kind.result rows c.args.number e c.args.self.now.typedefs refl c.kind.ensures (differs c.kind.result word.Typedef c.in_default.not-Typedef) at before.typedefs;
      groupings = other_word kind.Grouping word.Grouping c.kind.result rows c.args.number e c.args.self.now.groupings refl c.kind.ensures (differs c.kind.result word.Grouping c.in_default.not-Grouping) at before.groupings;
    }
