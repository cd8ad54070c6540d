use Rattle.std.proofs.Common.{◌≡◌, ◌+◌, ◌⊎◌, List, [], ◌∷◌, Option, Some, None, length, length-append, take, ap, refl, ◌∙◌, subst, arith}
use Rattle.std.specs.Prelude.{Contains, MatchOption}
use Rattle.std.specs.List.{AllZip}
use Rattle.arc_base.specs.declared.refusal.Kind.TheVariants as kinds
use Rattle.net_doc.specs.declared.fault.Refusal.{Refusal}
use Rattle.net_model.specs.declared.policies.LinkText.{LinkText}
use Rattle.net_model.specs.declared.rows.LinkRow.{LinkRow}
use Rattle.net_rules.specs.Names.{names_at}
use Rattle.net_rules.specs.Sites.{FullName, a_end, b_end, ends_of, two_ends, full_names}
use Rattle.net_rules.specs.Rows.{IsLinkRow}
use Rattle.net_rules.specs.Linking.{JoinsNamed, JoinsFree, RefusesLinkFace}
use Rattle.net_rules.proofs.Cases.{at_true, at_false}
use Rattle.net_rules.proofs.Firsts.{tried_refused, first_item, none_more, none_all}
use Rattle.row_making.proofs.LinkFaces.{IsNoLink, not_free, refused_link, clear_links}
use Rattle.arc_base.proofs.Items.{pieces_more}
use Rattle.arc_base.proofs.Zips.{AllZip-more}
use Rattle.std.proofs.lemmas.List.{take_all}
use Rattle.row_making.proofs.links.try_links.Goals as goal

-- a link without a row joins no interfaces
no_row : (names : List FullName) (link : LinkText) (found : Option LinkRow) →
    MatchOption found (¬ JoinsNamed names link) (λ row. JoinsNamed names link × IsLinkRow names link row) → ((row : LinkRow) → ¬ (found ≡ Some row)) → ¬ JoinsNamed names link
no_row names link None said none = said
no_row names link (Some row) said none = absurd (none row refl)

pub returns-in_default-clause-tried : goal.returns-in_default-clause-tried
returns-in_default-clause-tried c =
    let names : List FullName = names_at c.args.names.now.keys in
    let items : List LinkText = c.slice-link-items.result.now in
    let r : Refusal = record { file = 0; number = c.loop-place.place + 1; kind = kinds.LinkFace } in
    let bad : ¬ JoinsNamed names c.link-item.result = no_row names c.link-item.result c.in_ok-row.field-0 c.in_ok-row.ensures (λ row. c.in_default.not-Some row) in
    tried_refused (RefusesLinkFace c.args.doc.now c.args.configs.now)
    (λ (rows : List LinkRow). AllZip (IsLinkRow (full_names c.args.configs.now)) c.args.doc.now.links rows) c.in_document.result r c.in_document.ensures
    (refused_link c.args.doc.now c.args.configs.now names items r c.requires.names c.slice-link-items.ensures.items
    (first_item kinds.LinkFace (IsNoLink names items) items c.loop-place.place c.link-item.result c.loop-place-test.true c.link-item.is c.loop-place.invariant.clear (λ free. bad free.joins)))

pub returns-then-not-branch-clause-tried : goal.returns-then-not-branch-clause-tried
returns-then-not-branch-clause-tried c =
    let names : List FullName = names_at c.args.names.now.keys in
    let items : List LinkText = c.slice-link-items.result.now in
    let r : Refusal = record { file = 0; number = c.loop-place.place + 1; kind = kinds.LinkFace } in
    let used : Contains (names_at c.loop-place.ends.keys) (a_end c.link-item.result) ⊎ Contains (names_at c.loop-place.ends.keys) (b_end c.link-item.result) =
    at_false _ _ _ c.if-not-branch.true c.in_ok-add_ends.ensures in
    let earlier : Contains (ends_of (take c.loop-place.place items)) (a_end c.link-item.result) ⊎ Contains (ends_of (take c.loop-place.place items)) (b_end c.link-item.result) =
    subst (λ (ends : List FullName). Contains ends (a_end c.link-item.result) ⊎ Contains ends (b_end c.link-item.result)) c.loop-place.invariant.ends used in
    tried_refused (RefusesLinkFace c.args.doc.now c.args.configs.now)
    (λ (rows : List LinkRow). AllZip (IsLinkRow (full_names c.args.configs.now)) c.args.doc.now.links rows) c.in_document-then-not-branch.result r c.in_document-then-not-branch.ensures
    (refused_link c.args.doc.now c.args.configs.now names items r c.requires.names c.slice-link-items.ensures.items
    (first_item kinds.LinkFace (IsNoLink names items) items c.loop-place.place c.link-item.result c.loop-place-test.true c.link-item.is c.loop-place.invariant.clear
    (not_free names (take c.loop-place.place items) c.link-item.result earlier)))

pub loop-place-preserved : goal.loop-place-preserved
loop-place-preserved c =
    let names : List FullName = names_at c.args.names.now.keys in
    let items : List LinkText = c.slice-link-items.result.now in
    let said = at_true _ _ _ c.if-not-branch.false c.in_ok-add_ends.ensures in
    let row = subst (λ (o : Option LinkRow). MatchOption o (¬ JoinsNamed names c.link-item.result) (λ row. JoinsNamed names c.link-item.result × IsLinkRow names c.link-item.result row))
    c.in-Some.is c.in_ok-row.ensures in
    let free : JoinsFree names (take c.loop-place.place items) c.link-item.result = record {
      joins = row.0;
      a_free = subst (λ (ends : List FullName). ¬ Contains ends (a_end c.link-item.result)) c.loop-place.invariant.ends said.0;
      b_free = subst (λ (ends : List FullName). ¬ Contains ends (b_end c.link-item.result)) c.loop-place.invariant.ends said.1;
    } in
    record {
      rows = AllZip-more (IsLinkRow names) items c.loop-place.place c.link-item.result c.loop-place.rows c.push.new.self c.in-Some.row c.loop-place-test.true c.link-item.is
          c.loop-place.invariant.rows c.in_ok-push.ensures.ok row.1;
      ends = pieces_more two_ends (names_at c.loop-place.ends.keys)
          (names_at c.add_ends.new.ends.keys) items c.loop-place.place c.link-item.result c.loop-place-test.true c.link-item.is c.loop-place.invariant.ends said.2;
      long = omega (arith, ap length c.in_ok-push.ensures.ok, length-append c.loop-place.rows (c.in-Some.row ∷ []), c.loop-place.invariant.long);
      clear = none_more kinds.LinkFace (IsNoLink names items) items c.loop-place.place c.link-item.result c.loop-place-test.true c.link-item.is c.loop-place.invariant.clear (λ bad. bad free);
    }

pub returns-clause-tried : goal.returns-clause-tried
returns-clause-tried c =
    let names : List FullName = names_at c.args.names.now.keys in
    let items : List LinkText = c.slice-link-items.result.now in
    let whole : take c.loop-place.place items ≡ c.args.doc.now.links = take_all c.loop-place.place items c.loop-place-test.false ∙ c.slice-link-items.ensures.items in (
      clear_links c.args.doc.now c.args.configs.now names items c.requires.names c.slice-link-items.ensures.items
          (none_all kinds.LinkFace (IsNoLink names items) items c.loop-place.place c.loop-place-test.false c.loop-place.invariant.clear),
      subst (λ (ls : List LinkText). AllZip (IsLinkRow (full_names c.args.configs.now)) ls c.loop-place.rows) whole
          (subst (λ (ns : List FullName). AllZip (IsLinkRow ns) (take c.loop-place.place items) c.loop-place.rows) c.requires.names c.loop-place.invariant.rows),
    )
