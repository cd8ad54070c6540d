use Rattle.std.proofs.Common.{◌≡◌, ℕ, Some, sym, ◌∙◌, subst}
use Rattle.std.specs.Prelude.{slice_get}
use Rattle.std.proofs.lemmas.Option.{same_Some}
use Rattle.net_model.specs.Forwarding.{LiesInHostOf, IsHostOf, IsHostFace}
use Rattle.net_model.proofs.Readings.{place_of_item, item_at_place}
use Rattle.net_model.proofs.rows.Network.host_face.Goals as goal

pub unreachable-requires-in-None : goal.unreachable-requires-in-None
unreachable-requires-in-None c =
    let is : IsHostFace c.args.self.now c.args.p c.requires.0 = c.requires.1 in
    let at : (i : ℕ) × (slice_get c.args.self.now.faces i ≡ Some c.requires.0) = place_of_item c.args.self.now.faces c.requires.0 is.is_face in
    c.in-None.ensures.none at.0 (record { face = c.requires.0; at_place = at.1; lies = is.lies })

pub returns : goal.returns
returns c =
    let h : IsHostOf c.args.self.now c.args.p c.in-Some.face.0 = c.in-Some.ensures.found in
    let same : h.face ≡ c.in-Some-get.row.now = same_Some h.face c.in-Some-get.row.now (sym h.at_place ∙ sym c.in-Some-get.ensures.item) in
    record {
      is_face = item_at_place c.args.self.now.faces c.in-Some.face.0 c.in-Some-get.row.now (sym c.in-Some-get.ensures.item);
      lies = subst (LiesInHostOf c.args.p) same h.lies;
    }
