-- The lines of a witness, as words: what is written is read back, and what is read is written so.
use Rattle.std.proofs.Common.{◌≡◌, ℕ, ◌+◌, ◌<◌, ◌≤◌, ◌==◌, Bool, true, if◌then◌else◌, List, [], ◌∷◌, ◌++◌}
use Rattle.std.proofs.Common.{length, refl, ap, ap₂, sym, subst, ◌∙◌, arith, append-nil, Option, Some, None, option_and_then, decimal, codes}
use Rattle.std.proofs.lemmas.Bool.{eqb-true}
use Rattle.std.proofs.lemmas.Option.{none-some, same_Some}
use Rattle.std.proofs.lemmas.Slice.Eq.{bytes_eq-Decides}
use Rattle.std.proofs.NetLemmas.Options.{and_then_some, cond_some}
use Rattle.arc_base.specs.declared.place.Link.{Link}
use Rattle.net_model.specs.declared.lists.Packet.{Packet}
use Rattle.net_model.specs.declared.policies.Class.{Class}
use Rattle.net_model.specs.declared.rows.Network.{Network}
use Rattle.net_model.specs.declared.verdicts.ClassSide.{ClassSide}
use Rattle.net_model.specs.declared.verdicts.LinkPath.{LinkPath}
use Rattle.net_model.specs.Validity.{IsValid}
use Rattle.policy_report.specs.Readings.{after_word, all_links, class_at, side_of, side_shown, closed_of, path_of, walk_shown}
use Rattle.policy_report.specs.Readings.{walk_of, class_shown, denied_of, cut_of, side_line_of, packet_at, lone_link, packet_shown, refused_of}
use Rattle.policy_report.specs.Reports.{class_words, report_packet_words, link_words, router_side_words}
use Rattle.policy_report.specs.Rereading.{AreLinks}
use Rattle.policy_report.proofs.LineWords.{closed_words, path_words, walk_words, denied_words, cut_words, side_line_words, refused_words, IsSide, FitsRefused}
use Rattle.policy_report.proofs.Parts.{links_read, links_told, link_read, link_told}
use Rattle.policy_report.proofs.ServiceParts.{links_name_none, sides_name_none, class_read, lone_class_read, class_told, packet_read, packet_told}
use Rattle.policy_report.proofs.ServiceTexts.{no_service, number_lacks}
use Rattle.policy_report.proofs.Sides.{side_read, side_told}

after_told : (first : List ℕ) (ws rest : List (List ℕ)) → after_word first ws ≡ Some rest → ws ≡ first ∷ rest
after_told first [] rest e = absurd (none-some rest e)
after_told first (w ∷ ws) rest e =
    let (test, same) = cond_some _ ws rest e in
    ap₂ (λ v vs. v ∷ vs) ((bytes_eq-Decides w first).0 test) same

lone_link_told : (n : ℕ) (ws : List (List ℕ)) (link : Link) → lone_link n ws ≡ Some link → (ws ≡ decimal (link.0 + 1) ∷ []) × (link.0 < n)
lone_link_told n [] link e = absurd (none-some link e)
lone_link_told n (w ∷ v ∷ ws) link e = absurd (none-some link e)
lone_link_told n (w ∷ []) link e = let (told, within) = link_told n w link e in (ap (λ u. u ∷ []) told, within)

-- what is written is read back
module _ (net : Network) (valid : IsValid net) where
  few : length net.links ≤ 1024
  few = valid.few_links

  pub closed_read : (shown : ClassSide) → IsSide net shown.side → closed_of net (closed_words net shown) ≡ Some shown
  closed_read shown size =
      let f : Class × List (List ℕ) → Option ClassSide = λ found. option_and_then (λ side. Some (record { class = found.0; side = side })) (side_of net.routers found.1) in
      ap (option_and_then f) (class_read shown.class (router_side_words net.routers shown.side) (sides_name_none net.routers shown.side valid.router_names)) ∙
      ap (option_and_then (λ side. Some (record { class = shown.class; side = side }))) (side_read net.routers shown.side valid.routers_named_apart size)

  pub path_read : (path : LinkPath) → AreLinks net path.links → path_of net (path_words path) ≡ Some path
  path_read path h =
      let f : List Link → Option LinkPath = λ links. Some (record { links = links }) in
      ap (option_and_then f) (links_read (length net.links) path.links few h)

  pub walk_read : (class : Class) (path : LinkPath) → AreLinks net path.links → walk_of net (walk_words class path) ≡ Some (class, path)
  walk_read class path h =
      let f : Class → List Link → Option (Class × LinkPath) = λ class links. Some (class, record { links = links }) in
      ap (option_and_then (λ (found : Class × List (List ℕ)). option_and_then (f found.0) (all_links (length net.links) found.1)))
      (class_read class (link_words path.links) (links_name_none (length net.links) path.links few h)) ∙
      ap (option_and_then (f class)) (links_read (length net.links) path.links few h)

  pub cut_read : (links : List Link) → AreLinks net links → cut_of net (cut_words links) ≡ Some links
  cut_read links h = links_read (length net.links) links few h

  pub side_line_read : (side : List Bool) → IsSide net side → side_line_of net (side_line_words net side) ≡ Some side
  side_line_read side size = side_read net.routers side valid.routers_named_apart size

  pub refused_read : (packet : Packet) (link : Link) → FitsRefused net (packet, link) → refused_of net (refused_words packet link) ≡ Some (packet, link)
  refused_read packet link fits =
      let number : List (List ℕ) = decimal (link.0 + 1) ∷ [] in
      let f : Packet → Link → Option (Packet × Link) = λ packet link. Some (packet, link) in
      let none = no_service (decimal (link.0 + 1)) (number_lacks (link.0 + 1) (omega (arith, fits.0))) in
      ap (option_and_then (λ (found : Packet × List (List ℕ)). option_and_then (f found.0) (lone_link (length net.links) found.1)))
      (packet_read packet number fits.1.0 fits.1.1 fits.1.2 none) ∙
      ap (option_and_then (f packet)) (link_read (length net.links) link few fits.0)

pub denied_read : (class : Class) → denied_of (denied_words class) ≡ Some class
denied_read class =
    let f : Class × List (List ℕ) → Option Class = λ found. if length found.1 == 0 then Some found.0 else None in
    ap (option_and_then f) (lone_class_read class)

-- what is read is written so
module _ (net : Network) where
  side_shown_told : (ws : List (List ℕ)) (shown : ClassSide) → side_shown net ws ≡ Some shown →
      (ws ≡ class_words shown.class ++ router_side_words net.routers shown.side) × IsSide net shown.side
  side_shown_told ws shown e =
      and_then_some _ (class_at ws) shown e λ found found_is e₁.
      and_then_some _ (side_of net.routers found.1) shown e₁ λ side side_is e₂.
      let same = same_Some _ shown e₂ in
      let (told, size) = side_told net.routers found.1 side side_is in (
        class_told ws found found_is ∙ ap (λ vs. class_words found.0 ++ vs) told ∙ ap (λ (s : ClassSide). class_words s.class ++ router_side_words net.routers s.side) same,
        ap (λ (s : ClassSide). length s.side) (sym same) ∙ size,
      )

  pub closed_told : (ws : List (List ℕ)) (shown : ClassSide) → closed_of net ws ≡ Some shown → (ws ≡ closed_words net shown) × IsSide net shown.side
  closed_told ws shown e =
      and_then_some _ (after_word (codes "closed") ws) shown e λ rest rest_is shown_is.
      let (told, size) = side_shown_told rest shown shown_is in
      (after_told _ ws rest rest_is ∙ ap (λ vs. codes "closed" ∷ vs) told, size)

  pub path_told : (ws : List (List ℕ)) (path : LinkPath) → path_of net ws ≡ Some path → (ws ≡ path_words path) × AreLinks net path.links
  path_told ws path e =
      and_then_some _ (after_word (codes "path") ws) path e λ rest rest_is e₁.
      and_then_some _ (all_links (length net.links) rest) path e₁ λ links links_is e₂.
      let same = same_Some _ path e₂ in
      let (told, all) = links_told (length net.links) rest links links_is in
      (after_told _ ws rest rest_is ∙ ap (λ vs. codes "path" ∷ vs) told ∙ ap path_words same, subst (λ (p : LinkPath). AreLinks net p.links) same all)

  walk_shown_told : (ws : List (List ℕ)) (walk : Class × LinkPath) → walk_shown net ws ≡ Some walk →
      (ws ≡ class_words walk.0 ++ link_words walk.1.links) × AreLinks net walk.1.links
  walk_shown_told ws walk e =
      and_then_some _ (class_at ws) walk e λ found found_is e₁.
      and_then_some _ (all_links (length net.links) found.1) walk e₁ λ links links_is e₂.
      let same = same_Some _ walk e₂ in
      let (told, all) = links_told (length net.links) found.1 links links_is in (
        class_told ws found found_is ∙ ap (λ vs. class_words found.0 ++ vs) told ∙ ap (λ (w : Class × LinkPath). class_words w.0 ++ link_words w.1.links) same,
        subst (λ (w : Class × LinkPath). AreLinks net w.1.links) same all,
      )

  pub walk_told : (ws : List (List ℕ)) (walk : Class × LinkPath) → walk_of net ws ≡ Some walk → (ws ≡ walk_words walk.0 walk.1) × AreLinks net walk.1.links
  walk_told ws walk e =
      and_then_some _ (after_word (codes "walk") ws) walk e λ rest rest_is walk_is.
      let (told, all) = walk_shown_told rest walk walk_is in
      (after_told _ ws rest rest_is ∙ ap (λ vs. codes "walk" ∷ vs) told, all)

  pub cut_told : (ws : List (List ℕ)) (links : List Link) → cut_of net ws ≡ Some links → (ws ≡ cut_words links) × AreLinks net links
  cut_told ws links e =
      and_then_some _ (after_word (codes "cut") ws) links e λ rest rest_is links_is.
      let (told, all) = links_told (length net.links) rest links links_is in
      (after_told _ ws rest rest_is ∙ ap (λ vs. codes "cut" ∷ vs) told, all)

  pub side_line_told : (ws : List (List ℕ)) (side : List Bool) → side_line_of net ws ≡ Some side → (ws ≡ side_line_words net side) × IsSide net side
  side_line_told ws side e =
      and_then_some _ (after_word (codes "side") ws) side e λ rest rest_is side_is.
      let (told, size) = side_told net.routers rest side side_is in
      (after_told _ ws rest rest_is ∙ ap (λ vs. codes "side" ∷ vs) told, size)

  packet_shown_told : (ws : List (List ℕ)) (r : Packet × Link) → packet_shown net ws ≡ Some r → (ws ≡ report_packet_words r.0 ++ decimal (r.1.0 + 1) ∷ []) × FitsRefused net r
  packet_shown_told ws r e =
      and_then_some _ (packet_at ws) r e λ found found_is e₁.
      and_then_some _ (lone_link (length net.links) found.1) r e₁ λ link link_is e₂.
      let same = same_Some _ r e₂ in
      let (words_are, fits) = packet_told ws found found_is in
      let (number, within) = lone_link_told (length net.links) found.1 link link_is in (
        words_are ∙ ap (λ vs. report_packet_words found.0 ++ vs) number ∙ ap (λ (q : Packet × Link). report_packet_words q.0 ++ decimal (q.1.0 + 1) ∷ []) same,
        subst (FitsRefused net) same (within, fits),
      )

  pub refused_told : (ws : List (List ℕ)) (r : Packet × Link) → refused_of net ws ≡ Some r → (ws ≡ refused_words r.0 r.1) × FitsRefused net r
  refused_told ws r e =
      and_then_some _ (after_word (codes "acl-on-routed-link") ws) r e λ rest rest_is shown_is.
      let (told, fits) = packet_shown_told rest r shown_is in
      (after_told _ ws rest rest_is ∙ ap (λ vs. codes "acl-on-routed-link" ∷ vs) told, fits)

no_items : {X : Type 0} (xs : List X) → (length xs == 0) ≡ true → xs ≡ []
no_items [] e = refl
no_items (x ∷ xs) e = let none : length (x ∷ xs) ≡ 0 = eqb-true _ _ e in absurd (omega arith)

class_shown_told : (ws : List (List ℕ)) (class : Class) → class_shown ws ≡ Some class → ws ≡ class_words class
class_shown_told ws class e =
    and_then_some _ (class_at ws) class e λ found found_is e₁.
    let (none, same) = cond_some (length found.1 == 0) found.0 class e₁ in
    class_told ws found found_is ∙ ap₂ (λ (c : Class) vs. class_words c ++ vs) same (no_items found.1 none) ∙ append-nil (class_words class)

pub denied_told : (ws : List (List ℕ)) (class : Class) → denied_of ws ≡ Some class → ws ≡ denied_words class
denied_told ws class e =
    and_then_some _ (after_word (codes "denied") ws) class e λ rest rest_is shown_is.
    after_told _ ws rest rest_is ∙ ap (λ vs. codes "denied" ∷ vs) (class_shown_told rest class shown_is)
