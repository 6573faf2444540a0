use Rattle.std.proofs.Common.{◌≡◌}
use Rattle.yv_link_scopes.proofs.Keywords.{on_ok}
use Rattle.yv_search.specs.InnerModules.{lookup}
use Rattle.yv_search.proofs.FileEdges.{edges_of_file}
use Rattle.yv_search.proofs.edges.add_file.Goals as goal

pub returns : goal.returns
returns c =
    on_ok c.add_places.result c.add_places.ensures
    (λ e. edges_of_file (lookup c.args.modules.now) c.args.root.now c.in-Some.module c.module_ref.result (lookup c.in_ok-prefixes.prefixes) c.args.edges.now.items c.add_augments.new.edges.items c.add_places.new.edges.items c.in-Some.is c.module_ref.ensures c.in_ok-prefixes.ensures c.in_ok-add_augments.ensures e)
