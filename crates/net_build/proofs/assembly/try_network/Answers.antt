use Rattle.std.proofs.Common.{ℕ, List, [], ◌∷◌, Ok, Err, arith}
use Rattle.std.proofs.lemmas.Result.{on_ok_weaker}
use Rattle.net_model.specs.Validity.{IsValid}
use Rattle.net_rules.specs.Sites.{full_names}
use Rattle.net_rules.specs.Rows.{IsLinkRow}
use Rattle.net_build.specs.Order.{Overlap, LinkSubnets, ListStopsSession, AdjacencyForm, Interfaces, Entries, Endpoint, AreClear, RefusesWithin}
use Rattle.net_rules.proofs.LinksApart.{names_distinct, links_apart, sites_long, a_within, b_within}
use Rattle.net_build.proofs.NetworkTried.{valid_network, subnets_tried, endpoints_tried}
use Rattle.net_build.proofs.Tries.{fails_after, clear_before, one_decides}
use Rattle.arc_base.proofs.Zips.{AllZip-length}
use Rattle.net_build.proofs.assembly.try_network.Goals as goal
use Rattle.net_build.proofs.assembly.try_network.Goals.{In_ok-try_adjacency}

abbrev Done : Unit {0} → Type 0
Done done = Unit {0}

pub try_overlap-requires-clause-apart : goal.try_overlap-requires-clause-apart
try_overlap-requires-clause-apart c = links_apart c.args.doc.now c.args.configs.now c.requires.joined c.args.net.now c.requires.rows.base

pub try_overlap-requires-clause-named : goal.try_overlap-requires-clause-named
try_overlap-requires-clause-named c = names_distinct c.args.configs.now c.requires.named c.requires.well_formed

pub try_overlap-requires-clause-sites : goal.try_overlap-requires-clause-sites
try_overlap-requires-clause-sites c = sites_long c.args.doc.now c.args.configs.now c.requires.joined c.args.net.now c.requires.rows.base

pub try_overlap-requires-clause-a_within : goal.try_overlap-requires-clause-a_within
try_overlap-requires-clause-a_within c = a_within c.args.doc.now c.args.configs.now c.requires.joined c.args.net.now c.requires.rows.base

pub try_overlap-requires-clause-b_within : goal.try_overlap-requires-clause-b_within
try_overlap-requires-clause-b_within c = b_within c.args.doc.now c.args.configs.now c.requires.joined c.args.net.now c.requires.rows.base

pub try_subnets-requires : goal.try_subnets-requires
try_subnets-requires c = omega (arith, AllZip-length (IsLinkRow (full_names c.args.configs.now)) c.args.doc.now.links c.args.net.now.links c.requires.rows.base.links, c.requires.links)

pub try_lists-requires-clause-named : goal.try_lists-requires-clause-named
try_lists-requires-clause-named c = names_distinct c.args.configs.now c.requires.named c.requires.well_formed

pub try_adjacency-requires-clause-links : goal.try_adjacency-requires-clause-links
try_adjacency-requires-clause-links c = omega (arith, AllZip-length (IsLinkRow (full_names c.args.configs.now)) c.args.doc.now.links c.args.net.now.links c.requires.rows.base.links, c.requires.links)

pub try_adjacency-requires-clause-named : goal.try_adjacency-requires-clause-named
try_adjacency-requires-clause-named c = names_distinct c.args.configs.now c.requires.named c.requires.well_formed

pub try_endpoints-requires-clause-valid : goal.try_endpoints-requires-clause-valid
try_endpoints-requires-clause-valid c =
    valid_network c.args.doc.now c.args.configs.now c.args.net.now c.requires.rows c.requires.well_formed c.requires.named c.requires.joined
    c.in_ok-try_interfaces.ensures.0 c.in_ok-try_overlap.ensures.clear c.requires.few c.requires.links

-- the tries of links, lists and adjacencies refuse nothing
four_clear : (down : List ℕ) (c : In_ok-try_adjacency) →
    AreClear (RefusesWithin down c.args.most_entries c.args.doc.now c.args.configs.now) (Overlap ∷ LinkSubnets ∷ ListStopsSession ∷ AdjacencyForm ∷ [])
four_clear down c = (
  (c.in_ok-try_overlap.ensures.tried c.args.doc.now c.requires.rows).0,
  (
    (subnets_tried c.args.doc.now c.args.configs.now c.args.net.now c.requires.rows c.requires.named c.requires.well_formed (Ok tt) c.in_ok-try_subnets.ensures).0,
    ((c.in_ok-try_lists.ensures c.args.doc.now c.requires.rows).0, ((c.in_ok-try_adjacency.ensures c.args.doc.now c.requires.rows).0, tt)),
  ),
)

pub returns-in_err-try_overlap-clause-answer : goal.returns-in_err-try_overlap-clause-answer
returns-in_err-try_overlap-clause-answer c = λ down.
    fails_after (RefusesWithin down c.args.most_entries c.args.doc.now c.args.configs.now) [] Overlap (LinkSubnets ∷ ListStopsSession ∷ AdjacencyForm ∷ Interfaces ∷ Entries ∷ Endpoint ∷ [])
    Done Done c.from_residual.result c.in_err-try_overlap.field-0.0 c.from_residual.ensures.1
    tt (c.in_err-try_overlap.ensures.tried c.args.doc.now c.requires.rows)

pub returns-in_err-try_subnets-clause-answer : goal.returns-in_err-try_subnets-clause-answer
returns-in_err-try_subnets-clause-answer c = λ down.
    fails_after (RefusesWithin down c.args.most_entries c.args.doc.now c.args.configs.now) (Overlap ∷ []) LinkSubnets (ListStopsSession ∷ AdjacencyForm ∷ Interfaces ∷ Entries ∷ Endpoint ∷ [])
    Done Done c.from_residual-in_err-try_subnets.result c.in_err-try_subnets.field-0.0 c.from_residual-in_err-try_subnets.ensures.1
    ((c.in_ok-try_overlap.ensures.tried c.args.doc.now c.requires.rows).0, tt)
    (subnets_tried c.args.doc.now c.args.configs.now c.args.net.now c.requires.rows c.requires.named c.requires.well_formed (Err c.in_err-try_subnets.field-0.0) c.in_err-try_subnets.ensures)

pub returns-in_err-try_lists-clause-answer : goal.returns-in_err-try_lists-clause-answer
returns-in_err-try_lists-clause-answer c = λ down.
    let subnets = (subnets_tried c.args.doc.now c.args.configs.now c.args.net.now c.requires.rows c.requires.named c.requires.well_formed (Ok tt) c.in_ok-try_subnets.ensures).0 in
    fails_after (RefusesWithin down c.args.most_entries c.args.doc.now c.args.configs.now) (Overlap ∷ LinkSubnets ∷ []) ListStopsSession (AdjacencyForm ∷ Interfaces ∷ Entries ∷ Endpoint ∷ [])
    Done Done c.from_residual-in_err-try_lists.result c.in_err-try_lists.field-0.0 c.from_residual-in_err-try_lists.ensures.1
    ((c.in_ok-try_overlap.ensures.tried c.args.doc.now c.requires.rows).0, (subnets, tt))
    (c.in_err-try_lists.ensures c.args.doc.now c.requires.rows)

pub returns-in_err-try_adjacency-clause-answer : goal.returns-in_err-try_adjacency-clause-answer
returns-in_err-try_adjacency-clause-answer c = λ down.
    let subnets = (subnets_tried c.args.doc.now c.args.configs.now c.args.net.now c.requires.rows c.requires.named c.requires.well_formed (Ok tt) c.in_ok-try_subnets.ensures).0 in
    fails_after (RefusesWithin down c.args.most_entries c.args.doc.now c.args.configs.now) (Overlap ∷ LinkSubnets ∷ ListStopsSession ∷ []) AdjacencyForm (Interfaces ∷ Entries ∷ Endpoint ∷ [])
    Done Done c.from_residual-in_err-try_adjacency.result c.in_err-try_adjacency.field-0.0 c.from_residual-in_err-try_adjacency.ensures.1
    ((c.in_ok-try_overlap.ensures.tried c.args.doc.now c.requires.rows).0, (subnets, ((c.in_ok-try_lists.ensures c.args.doc.now c.requires.rows).0, tt)))
    (c.in_err-try_adjacency.ensures c.args.doc.now c.requires.rows)

pub returns-in_err-try_interfaces-clause-answer : goal.returns-in_err-try_interfaces-clause-answer
returns-in_err-try_interfaces-clause-answer c = λ down.
    fails_after (RefusesWithin down c.args.most_entries c.args.doc.now c.args.configs.now) (Overlap ∷ LinkSubnets ∷ ListStopsSession ∷ AdjacencyForm ∷ []) Interfaces (Entries ∷ Endpoint ∷ [])
    Done Done c.from_residual-in_err-try_interfaces.result c.in_err-try_interfaces.field-0.0 c.from_residual-in_err-try_interfaces.ensures.1
    (four_clear down (goal.at.returns-in_err-try_interfaces-clause-answer c).In_ok-try_adjacency) c.in_err-try_interfaces.ensures

pub returns-in_err-try_entries-clause-answer : goal.returns-in_err-try_entries-clause-answer
returns-in_err-try_entries-clause-answer c = λ down.
    let Makes = RefusesWithin down c.args.most_entries c.args.doc.now c.args.configs.now in
    clear_before Makes (Overlap ∷ LinkSubnets ∷ ListStopsSession ∷ AdjacencyForm ∷ []) (Interfaces ∷ Entries ∷ Endpoint ∷ []) Done c.from_residual-in_err-try_entries.result
    (four_clear down (goal.at.returns-in_err-try_entries-clause-answer c).In_ok-try_adjacency)
    (fails_after Makes (Interfaces ∷ []) Entries (Endpoint ∷ []) Done Done c.from_residual-in_err-try_entries.result c.in_err-try_entries.field-0.0
    c.from_residual-in_err-try_entries.ensures.1 (c.in_ok-try_interfaces.ensures.0, tt) c.in_err-try_entries.ensures)

pub returns-clause-answer : goal.returns-clause-answer
returns-clause-answer c = λ down.
    let Makes = RefusesWithin down c.args.most_entries c.args.doc.now c.args.configs.now in
    clear_before Makes (Overlap ∷ LinkSubnets ∷ ListStopsSession ∷ AdjacencyForm ∷ []) (Interfaces ∷ Entries ∷ Endpoint ∷ []) Done c.try_endpoints.result
    (four_clear down (goal.at.returns-clause-answer c).In_ok-try_adjacency)
    (clear_before Makes (Interfaces ∷ Entries ∷ []) (Endpoint ∷ []) Done c.try_endpoints.result (c.in_ok-try_interfaces.ensures.0, (c.in_ok-try_entries.ensures.0, tt))
    (one_decides Makes Endpoint Done c.try_endpoints.result (endpoints_tried c.args.doc.now c.args.configs.now c.args.net.now c.requires.rows c.requires.named c.requires.well_formed
    c.try_endpoints.result c.try_endpoints.ensures.tried)))

pub returns-clause-valid : goal.returns-clause-valid
returns-clause-valid c =
    let is : IsValid c.args.net.now = valid_network c.args.doc.now c.args.configs.now c.args.net.now c.requires.rows c.requires.well_formed c.requires.named c.requires.joined
    c.in_ok-try_interfaces.ensures.0 c.in_ok-try_overlap.ensures.clear c.requires.few c.requires.links in
    on_ok_weaker c.try_endpoints.result (λ ends. is) c.try_endpoints.ensures.ends

pub returns-clause-ends : goal.returns-clause-ends
returns-clause-ends c = c.try_endpoints.ensures.ends
