use Rattle.std.proofs.Common.{ℕ, List, take, Option, Some, None, sym, ◌∙◌, ap, arith}
use Rattle.std.specs.Option.{option_map}
use Rattle.std.proofs.lemmas.Str.Pattern.{split_once_first}
use Rattle.yv_link_scopes.proofs.Colons.{colon_found, no_colon}
use Rattle.yv_link_scopes.proofs.names.prefix_of.Goals as goal

cut : List ℕ → Option ℕ → Option (List ℕ)
cut text o = option_map (λ i. take i text) o

pub returns-in_err-prefix : goal.returns-in_err-prefix
unfolding cut
returns-in_err-prefix c =
    ap (option_map (λ p. p.now)) c.from_residual.ensures
    ∙ sym (ap (cut c.args.name.now) (no_colon c.args.name.now (split_once_first 58 c.args.name.now None c.in_err-prefix.ensures.cases (omega arith))))

pub returns : goal.returns
unfolding cut
returns c =
    let parts = split_once_first 58 c.args.name.now (Some (c.in_ok-prefix.prefix, c.in_ok-prefix._rest)) c.in_ok-prefix.ensures.cases (omega arith) in
    ap (λ (t : List ℕ). Some t) parts.1 ∙ sym (ap (cut c.args.name.now) (colon_found c.args.name.now parts.0))
