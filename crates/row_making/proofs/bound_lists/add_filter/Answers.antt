use Rattle.std.proofs.Common.{ℕ, List, Option, Some, sym, ◌∙◌, ap, nat_eq, cond}
use Rattle.std.specs.Prelude.{option_map}
use Rattle.std.specs.Option.{option_or}
use denote.Ref.{Bor}
use Rattle.indexmap.specs.IndexMap.{get}
use Rattle.ios_words.specs.declared.commands.Command.{Command}
use Rattle.net_rules.specs.Neighbors.{says_filter}
use Rattle.row_making.proofs.ListsTables.{filter_put, map_cond}
use Rattle.row_making.proofs.bound_lists.add_filter.Goals as goal

abbrev text : Bor (List ℕ) → List ℕ
text list = list.now

pub returns-in_ok-insert : goal.returns-in_ok-insert
returns-in_ok-insert c = record {
  unique = c.insert.ensures.unique;
  filters = λ peer.
      let before : Option (List ℕ) = option_map text (get nat_eq c.args.filters.now peer) in
      ap (option_map text) (c.in_ok-insert.ensures.updates.0 peer) ∙ map_cond text (nat_eq c.in-NeighborList.peer peer) (Some c.bytes.result) (get nat_eq c.args.filters.now peer) ∙
      ap (λ (n : List ℕ). cond (nat_eq c.in-NeighborList.peer peer) (Some n) before) c.bytes.ensures ∙ filter_put peer c.in-NeighborList.peer c.in-NeighborList.list before ∙
      ap (λ (command : Command). option_or (says_filter peer command) before) (sym c.in-NeighborList.is);
}
