use Rattle.std.proofs.Common.{◌≡◌, ◌<◌, ℕ, List, Some, length, get_or, set, false, ap, sym, ◌∙◌, subst, arith}
use Rattle.std.specs.Prelude.{All, AllPairs, Ok, slice_get}
use Rattle.std.specs.List.{range_with_len}
use Rattle.std.proofs.lemmas.Iterator.{items_from_collect, YieldsList-from_range}
use Rattle.std.proofs.lemmas.List.{length-set}
use Rattle.std.proofs.lemmas.List.FromFn.{length-range_with_len}
use Rattle.std.proofs.lemmas.Option.{slice_get-get_or}
use Rattle.net_model.specs.declared.rows.LinkRow.{LinkRow}
use Rattle.net_model.specs.Validity.{AreLinksApart}
use Rattle.net_checks.specs.Claims.{ArePartners}
use Rattle.net_checks.proofs.Partners.{own_themselves, partners_more}
use Rattle.net_checks.proofs.overlap.partners.Goals as goal

pub loop-link-init : goal.loop-link-init
loop-link-init c =
    let own : c.in_ok-partners.partners.items ≡ range_with_len 0 c.args.faces =
    items_from_collect {E = ℕ} (Ok c.in_ok-partners.partners) c.in_ok-partners.ensures.ran (YieldsList-from_range 0 c.args.faces c.args.faces (cc) (omega arith)) in
    record {
      partners = subst (λ (l : List ℕ). ArePartners 0 c.slice-link-items.result.now l) (sym own) (own_themselves c.slice-link-items.result.now c.args.faces);
      long = ap length own ∙ length-range_with_len 0 c.args.faces;
    }

pub loop-link-preserved : goal.loop-link-preserved
loop-link-preserved c =
    let d : LinkRow = record { a = record { 0 = 0 }; b = record { 0 = 0 }; waypoint = false } in
    let items : List LinkRow = c.slice-link-items.result.now in
    let row : LinkRow = get_or items c.loop-link.link-index d in
    let read : slice_get items c.loop-link.link-index ≡ Some row = slice_get-get_or items c.loop-link.link-index d c.loop-link-test.true in
    let apart : AllPairs AreLinksApart items = subst (λ (l : List LinkRow). AllPairs AreLinksApart l) (sym c.slice-link-items.ensures.items) c.requires.apart in
    let a_all : All (λ (l : LinkRow). l.a.0 < c.args.faces) items =
    subst (λ (l : List LinkRow). All (λ (x : LinkRow). x.a.0 < c.args.faces) l) (sym c.slice-link-items.ensures.items) c.requires.a_within in
    let b_all : All (λ (l : LinkRow). l.b.0 < c.args.faces) items =
    subst (λ (l : List LinkRow). All (λ (x : LinkRow). x.b.0 < c.args.faces) l) (sym c.slice-link-items.ensures.items) c.requires.b_within in
    let a_in : row.a.0 < length c.loop-link.partners.items = omega (arith, a_all c.loop-link.link-index d c.loop-link-test.true, c.loop-link.invariant.long) in
    let b_in : row.b.0 < length c.loop-link.partners.items = omega (arith, b_all c.loop-link.link-index d c.loop-link-test.true, c.loop-link.invariant.long) in
    record {
      partners = partners_more c.loop-link.link-index items c.loop-link.partners.items row read apart a_in b_in c.loop-link.invariant.partners;
      long = length-set (set c.loop-link.partners.items row.a.0 row.b.0) row.b.0 row.a.0 ∙ length-set c.loop-link.partners.items row.a.0 row.b.0 ∙ c.loop-link.invariant.long;
    }
