use Rattle.std.proofs.Common.{◌≡◌, ◌≤◌, ◌*◌, ◌^◌, take, sum_by, zip}
use Rattle.std.specs.List.{filter_map}
use Rattle.edit_list.specs.Prices.{if_chosen, weight}
use Rattle.edit_list.proofs.prices.price.Given as goal

abbrev pub invariant-loop-place : goal.invariant-loop-place
invariant-loop-place l = record {
  sum : l.sum ≡ sum_by (weight l.doc.weights) (filter_map if_chosen (take l.place (zip l.edit-items l.chosen)));
  small : l.sum ≤ l.place * 2 ^ 32;
}
