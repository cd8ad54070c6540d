use Rattle.std.proofs.Common.{◌≡◌, ℕ, List, true, false, Some, sym, ◌∙◌, ap, cond}
use Rattle.std.specs.Prelude.{option_map, is_some, bytes_eq}
use Rattle.std.specs.BTreeMap.{get_by}
use Rattle.std.specs.Cmp.Lexicographic.{slice_cmp}
use Rattle.std.specs.Ordering.{nat_cmp}
use Rattle.std.proofs.lemmas.Map.Text.{btree_map_updates_str}
use denote.Ref.{Bor}
use Rattle.ios_config.specs.declared.settings.ListText.{ListText}
use Rattle.net_rules.specs.Lists.{is_of_kind}
use Rattle.row_making.specs.ListTables.{list_at}
use Rattle.row_making.proofs.ListsTables.{kept_other, kept_there, put_new, map_cond, is_some-map}
use Rattle.row_making.proofs.lists.add_list.Goals as goal

abbrev seen : Bor ListText → ListText
seen list = list.now

pub returns-then-not-is_of_kind : goal.returns-then-not-is_of_kind
returns-then-not-is_of_kind c = λ name.
    kept_other c.args.packet c.args.list.now (sym c.is_of_kind.ensures ∙ c.if-not-is_of_kind.true) (list_at c.args.lists.now name) name

pub returns-then-contains_key : goal.returns-then-contains_key
returns-then-contains_key c = λ name.
    let there : is_some (list_at c.args.lists.now c.args.list.now.name) ≡ true =
    ap (λ (n : List ℕ). is_some (list_at c.args.lists.now n)) (sym c.bytes.ensures) ∙
    is_some-map seen (get_by (λ (k : Bor (List ℕ)). slice_cmp nat_cmp c.bytes.result.now k.now) c.args.lists.now) ∙ sym c.contains_key.ensures ∙ c.if-contains_key.true in
    kept_there c.args.packet c.args.list.now (list_at c.args.lists.now) there name

pub returns : goal.returns
returns c = λ name.
    let kind : is_of_kind c.args.packet c.args.list.now ≡ true = sym c.is_of_kind.ensures ∙ c.if-not-is_of_kind.false in
    let lacks : is_some (list_at c.args.lists.now c.args.list.now.name) ≡ false =
    ap (λ (n : List ℕ). is_some (list_at c.args.lists.now n)) (sym c.bytes.ensures) ∙
    is_some-map seen (get_by (λ (k : Bor (List ℕ)). slice_cmp nat_cmp c.bytes.result.now k.now) c.args.lists.now) ∙ sym c.contains_key.ensures ∙ c.if-contains_key.false in
    put_new c.args.packet c.args.list.now (list_at c.args.lists.now) kind lacks (list_at c.insert.new.self)
    (λ n. ap (option_map seen) (btree_map_updates_str c.bytes-2.result.now c.args.lists.now c.insert.new.self (Some c.args.list) c.in_ok-insert.ensures.updates n) ∙
    map_cond seen (bytes_eq c.bytes-2.result.now n) (Some c.args.list) (get_by (λ (k : Bor (List ℕ)). slice_cmp nat_cmp n k.now) c.args.lists.now) ∙
    ap (λ (m : List ℕ). cond (bytes_eq m n) (Some c.args.list.now) (list_at c.args.lists.now n)) c.bytes-2.ensures) name
