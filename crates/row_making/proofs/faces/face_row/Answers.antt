use Rattle.std.proofs.Common.{◌≡◌, refl, ◌∙◌, ap, subst, IsTrue, ◌↔◌, List, Option, ℕ}
use Rattle.std.specs.Prelude.{Contains, option_map, unwrap_or}
use Rattle.arc_base.proofs.Agreement.{false-from}
use Rattle.net_rules.specs.Settings.{value, lines_of, bandwidth_of, is_passive, cost_at}
use Rattle.net_rules.specs.Lists.{keys_at, IsPlaceAmong}
use Rattle.net_rules.specs.Rows.{IsSubnet}
use Rattle.net_rules.specs.Names.{names_at}
use Rattle.net_rules.specs.Sites.{FullName, host_name}
use Rattle.net_rules.proofs.Cases.{at_true, at_false}
use Rattle.row_making.proofs.faces.face_row.Goals as goal

pub returns : goal.returns
returns c =
    let config = c.args.index.now.config.now in
    let face = c.args.face.now in
    let around = c.args.around.now in
    let named : (c.host_name.result.now, c.bytes.result.now) ≡ (host_name config, face.name) = λ i. (c.host_name.ensures i, c.bytes.ensures i) in
    let said : IsTrue c.contains_name-is_end.result ↔ Contains (names_at around.ends.now.keys) (host_name config, face.name) =
    subst (λ (n : FullName). IsTrue c.contains_name-is_end.result ↔ Contains (names_at around.ends.now.keys) n) named c.contains_name-is_end.ensures in
    record {
      router = refl;
      name = c.in_ok-make.ensures ∙ c.bytes-2.ensures;
      addr = c.first_of.ensures ∙ ap (option_map (λ (a : ℕ × ℕ). a.0)) c.address_of-address.ensures;
      subnet = subst (λ (a : Option (ℕ × ℕ)). IsSubnet a c.subnet_of.result) c.address_of-address.ensures c.subnet_of.ensures;
      host = record {
        at_end = λ e. at_true c.contains_name-is_end.result _ _ (said.1 e) c.host_of-host.ensures;
        elsewhere = λ n. at_false c.contains_name-is_end.result _ _ (false-from c.contains_name-is_end.result (λ t. n (said.0 t))) c.host_of-host.ensures;
      };
      up = c.is_up.ensures;
      enabled = c.is_enabled-enabled.ensures;
      told = c.tells.ensures;
      passive = c.is_passive.ensures ∙ ap (λ (name : List ℕ). is_passive around.protocol (lines_of config) name) c.bytes-3.ensures;
      cost = c.cost_of.ensures ∙ ap (λ (reference : ℕ). unwrap_or (value face.cost) (cost_at reference (bandwidth_of face))) c.requires.index.reference;
      bound_in = c.is_some.ensures;
      list_in = subst (λ (o : Option (List ℕ)). IsPlaceAmong (keys_at around.lists.now.keys) c.args.router o c.place_of_list.result) c.bound_name.ensures c.place_of_list.ensures;
      list_out = subst (λ (o : Option (List ℕ)). IsPlaceAmong (keys_at around.lists.now.keys) c.args.router o c.place_of_list-2.result) c.bound_name-2.ensures c.place_of_list-2.ensures;
    }
