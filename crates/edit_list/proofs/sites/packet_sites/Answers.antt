use Rattle.std.proofs.Common.{◌≡◌, ◌<◌, ◌^◌, ◌∙◌, ◌++◌, ℕ, List, Vec, Global, length, ap, arith}
use Rattle.std.proofs.lemmas.Result.{IfOk-weaker}
use Rattle.edit_list.specs.declared.sites.Site.{Site}
use Rattle.arc_base.specs.Numbered.{by_number}
use Rattle.edit_list.specs.Sites.{packet_sites}
use Rattle.edit_list.proofs.Counts.{few_packet_sites, packet_sites_are}
use Rattle.edit_list.proofs.sites.packet_sites.Goals as goal

pub returns-clause-sites : goal.returns-clause-sites
returns-clause-sites c =
    let things : List (ℕ × Site) = c.deref-2.result.now in
    let joined : things ≡ c.in_ok-sites.sites.items ++ c.in_ok-faces.faces.items = c.deref-2.ensures.value ∙ c.in_ok-append.ensures ∙ ap (λ l. c.in_ok-sites.sites.items ++ l) c.deref.ensures.value in
    IfOk-weaker c.by_number.result (λ (sites : Vec Site Global). sites.items ≡ by_number c.len.result things) (λ (sites : Vec Site Global). sites.items ≡ packet_sites c.args.net.now)
    (λ sites are. packet_sites_are c.args.net.now things c.in_ok-sites.sites.items c.in_ok-faces.faces.items sites.items c.slice.result.now c.slice-2.result.now c.slice.ensures.items
    c.slice-2.ensures.items c.in_ok-sites.ensures c.in_ok-faces.ensures joined c.len.result c.len.ensures are) c.by_number.ensures

pub returns-clause-few : goal.returns-clause-few
returns-clause-few c =
    let things : List (ℕ × Site) = c.deref-2.result.now in
    let joined : things ≡ c.in_ok-sites.sites.items ++ c.in_ok-faces.faces.items = c.deref-2.ensures.value ∙ c.in_ok-append.ensures ∙ ap (λ l. c.in_ok-sites.sites.items ++ l) c.deref.ensures.value in
    IfOk-weaker c.by_number.result (λ (sites : Vec Site Global). sites.items ≡ by_number c.len.result things) (λ (sites : Vec Site Global). length sites.items < 2 ^ 33)
    (λ sites are. few_packet_sites things c.in_ok-sites.sites.items c.in_ok-faces.faces.items sites.items c.slice.result.now c.slice-2.result.now
    (omega (arith, ap length c.slice.ensures.items, c.slice.ensures.limit))
    (omega (arith, ap length c.slice-2.ensures.items, c.slice-2.ensures.limit)) c.in_ok-sites.ensures c.in_ok-faces.ensures joined c.len.result are) c.by_number.ensures
