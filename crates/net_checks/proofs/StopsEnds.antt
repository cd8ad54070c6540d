-- The ends of links at which a list stops the protocol: of the network's rows, and of the files.
use Rattle.std.proofs.Common.{◌≡◌, ℕ, ◌+◌, Option, Some, None, List, refl, sym, ◌∙◌, ap, subst, Bool}
use Rattle.std.specs.Prelude.{IsSomeAnd, slice_get, option_map, unwrap_or, map}
use Rattle.std.proofs.lemmas.Option.{same_Some, slice_get-get_or, slice_get_within, get_or_from_slice_get}
use Rattle.arc_base.specs.declared.place.ListId.{ListId}
use Rattle.arc_base.specs.declared.refusal.Kind.TheVariants as kinds
use Rattle.net_doc.specs.declared.fault.Refusal.{Refusal}
use Rattle.net_model.specs.declared.policies.Document.{Document}
use Rattle.net_model.specs.declared.rows.FaceRow.{FaceRow}
use Rattle.net_model.specs.declared.rows.LinkRow.{LinkRow}
use Rattle.net_model.specs.declared.rows.Network.{Network}
use Rattle.net_model.specs.Routing.{Arc, head_end}
use Rattle.ios_config.specs.declared.settings.Config.{Config}
use Rattle.ios_config.specs.declared.settings.Given.{Given}
use Rattle.net_rules.specs.Settings.{value}
use Rattle.net_rules.specs.Sites.{Site, sites, full_names, ends_of}
use Rattle.arc_base.specs.Lists.{AreDistinct}
use Rattle.net_rules.specs.Lists.{IsPlaceAmong, packet_list_key}
use Rattle.net_rules.specs.Rows.{IsFaceRow, AreRows}
use Rattle.net_rules.specs.Reasons.{NoRefusal, IsEarliest}
use Rattle.net_rules.specs.Stops.{RefusesListStopsSession}
use Rattle.net_checks.specs.FarEnds.{FindsOnly}
use Rattle.net_checks.specs.Stopping.{list_line, StopsBetween, IsRefusalAt, StopsAt, StopsAtSome}
use Rattle.arc_base.proofs.Zips.{AllZip-left}
use Rattle.net_rules.proofs.SameNetwork.{same_rows}

-- the refusal at a place
abbrev at_site : Site → Refusal
at_site site = record { file = site.router + 1; number = list_line site.face; kind = kinds.ListStopsSession }

module _ (net : Network) (configs : List Config) (link : LinkRow) (from_a : Bool) where
  pub stops_here : (tail head : FaceRow) → StopsBetween net link from_a tail head → (found : Option Refusal) → FindsOnly (IsRefusalAt configs (head_end link from_a).0) found →
      FindsOnly (StopsAt net configs link from_a) found
  stops_here tail head between None none = λ r bad. none r bad.refusal
  stops_here tail head between (Some x) only = (record { tail = tail; head = head; between = between; refusal = only.0 }, λ r bad. only.1 r bad.refusal)

-- a list that stands at a place is bound at a line
bound_line : (D : ListId → Type 0) (keys : List (ℕ × List ℕ)) (router : ℕ) (o : Option ListId) (given : Option (Given (List ℕ))) → IsSomeAnd o D → IsPlaceAmong keys router (value given) o →
    IsSomeAnd given (λ g. g.line ≡ unwrap_or (option_map (λ (g : Given (List ℕ)). g.line) given) 0)
bound_line D keys router None given h k = absurd h
bound_line D keys router (Some id) None h k = absurd k
bound_line D keys router (Some id) (Some g) h k = refl

line_bound : (line : ℕ) (given : Option (Given (List ℕ))) → IsSomeAnd given (λ g. g.line ≡ line) → line ≡ unwrap_or (option_map (λ (g : Given (List ℕ)). g.line) given) 0
line_bound line None h = absurd h
line_bound line (Some g) h = sym h

module _ (doc : Document) (configs : List Config) (net : Network) (distinct : AreDistinct (full_names configs)) (rows : AreRows doc configs net) where
  abbrev Row : Site → FaceRow → Type 0
  Row = IsFaceRow net.protocol (ends_of doc.links) (map packet_list_key net.packet_lists)

  made : (r : Refusal) → StopsAtSome net configs net.links r → RefusesListStopsSession doc configs r
  made r (k, link, l, e, (from_a, s)) =
      let at_k : slice_get net.links k ≡ Some link = slice_get-get_or net.links k link l ∙ ap Some e in
      let arc : Arc = record { link = k; from_a = from_a; row = link; tail = s.tail; head = s.head } in
      let f = AllZip-left Row (sites configs) net.faces rows.base.faces (head_end link from_a).0 s.head s.between.at_head in
      let site_is : f.0 ≡ s.refusal.site = same_Some f.0 s.refusal.site (sym f.1 ∙ s.refusal.at_place) in
      let row : Row s.refusal.site s.head = subst (λ (t : Site). Row t s.head) site_is f.2 in
      record {
        net = net;
        rows = rows;
        arc = arc;
        is_arc = record { link = at_k; tail = s.between.at_tail; head = s.between.at_head };
        able = record { tail = s.between.able_tail; head = s.between.able_head };
        stops = s.between.stops;
        site = s.refusal.site;
        at_head = s.refusal.at_place;
        line = list_line s.refusal.site.face;
        binds = bound_line _ (map packet_list_key net.packet_lists) s.refusal.site.router s.head.list_in s.refusal.site.face.list_in s.between.stops.denies row.list_in;
        told = s.refusal.told;
      }

  here : (r : Refusal) → RefusesListStopsSession doc configs r → StopsAtSome net configs net.links r
  here r bad =
      let number : bad.line ≡ list_line bad.site.face = line_bound bad.line bad.site.face.list_in bad.binds in
      let Told : Refusal → Type 0 = λ q. r ≡ q in
      let told : Told (at_site bad.site) = subst (λ (n : ℕ). Told (record { file = bad.site.router + 1; number = n; kind = kinds.ListStopsSession })) number bad.told in
      let stops : StopsAt bad.net configs bad.arc.row bad.arc.from_a r = record {
        tail = bad.arc.tail;
        head = bad.arc.head;
        between = record { at_tail = bad.is_arc.tail; at_head = bad.is_arc.head; able_tail = bad.able.tail; able_head = bad.able.head; stops = bad.stops };
        refusal = record { site = bad.site; at_place = bad.at_head; told = told };
      } in
      let there : StopsAtSome bad.net configs bad.net.links r = (
        bad.arc.link,
        bad.arc.row,
        slice_get_within bad.net.links bad.arc.link bad.arc.row bad.is_arc.link,
        get_or_from_slice_get bad.net.links bad.arc.link bad.arc.row bad.arc.row bad.is_arc.link,
        (bad.arc.from_a, stops),
      ) in
      subst (λ (m : Network). StopsAtSome m configs m.links r) (same_rows doc configs distinct bad.net net bad.rows rows) there

  pub clear_stops : ((r : Refusal) → ¬ StopsAtSome net configs net.links r) → NoRefusal (RefusesListStopsSession doc configs)
  clear_stops clear r bad = clear r (here r bad)

  pub first_stops : (r : Refusal) → IsEarliest (StopsAtSome net configs net.links) r → IsEarliest (RefusesListStopsSession doc configs) r
  first_stops r first = record { made = made r first.made; first = λ other bad. first.first other (here other bad) }
