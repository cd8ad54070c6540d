use Rattle.std.proofs.Common.{◌≡◌, ℕ, refl, sym, ◌∙◌, ap, List, Some, subst}
use Rattle.std.specs.Prelude.{slice_get}
use Rattle.std.proofs.lemmas.Bool.{false≢true}
use Rattle.net_rules.specs.Names.{names_at}
use Rattle.net_rules.specs.Kinds.{face_kind, is_loopback}
use Rattle.net_rules.specs.Sites.{FullName, a_end, b_end}
use Rattle.net_rules.proofs.Distinct.{Contains-at}
use Rattle.row_making.proofs.links.link_row.Goals as goal

pub returns : goal.returns
returns c =
    let names : List FullName = names_at c.args.names.now.keys in
    let a_is : (c.bytes-4.result.now, c.bytes-5.result.now) ≡ a_end c.args.link.now = λ i. (c.bytes-4.ensures i, c.bytes-5.ensures i) in
    let b_is : (c.bytes-6.result.now, c.bytes-7.result.now) ≡ b_end c.args.link.now = λ i. (c.bytes-6.ensures i, c.bytes-7.ensures i) in
    let at_a : slice_get names c.in-Some.a ≡ Some (a_end c.args.link.now) = c.in-Some.ensures ∙ ap Some a_is in
    let at_b : slice_get names c.in-Some-place_of.b ≡ Some (b_end c.args.link.now) = c.in-Some-place_of.ensures ∙ ap Some b_is in (
      record {
        a = Contains-at names c.in-Some.a (a_end c.args.link.now) at_a;
        b = Contains-at names c.in-Some-place_of.b (b_end c.args.link.now) at_b;
        a_kind = sym (c.is_loopback.ensures ∙ ap is_loopback (c.of.ensures ∙ ap face_kind c.bytes.ensures)) ∙ c.if-is_loopback.false;
        b_kind = sym (c.is_loopback-2.ensures ∙ ap is_loopback (c.of-2.ensures ∙ ap face_kind c.bytes-2.ensures)) ∙ c.if-is_loopback-2.false;
        routers = λ e. false≢true (sym c.if-is.false ∙ c.is.ensures.1 (e ∙ sym c.bytes-3.ensures));
      },
      record {
        a = subst (λ (k : ℕ). slice_get names k ≡ Some (a_end c.args.link.now)) (sym c.in_ok-narrow.ensures) at_a;
        b = subst (λ (k : ℕ). slice_get names k ≡ Some (b_end c.args.link.now)) (sym c.in_ok-narrow-2.ensures) at_b;
        waypoint = refl;
      },
    )
