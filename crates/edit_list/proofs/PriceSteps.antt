-- The price of edits, one edit after another.
use Rattle.std.proofs.Common.{◌≡◌, ℕ, zero, suc, ◌+◌, ◌<◌, ◌≤◌, Bool, true, false, Some, None, List, [], ◌∷◌, length, get_or, take, refl, sym, ◌∙◌, ap, arith, if◌then◌else◌}
use Rattle.std.specs.List.{filter_map, cons_option, zip}
use Rattle.std.proofs.lemmas.List.{take_all}
use Rattle.std.proofs.lemmas.List.Sums.{sum_by-append}
use Rattle.net_model.specs.declared.policies.Weights.{Weights}
use Rattle.edit_list.specs.declared.edit_kinds.Edit.{Edit}
use Rattle.edit_list.specs.Prices.{if_chosen, chosen_of, weight, cost_of, price_of}
use Rattle.arc_base.proofs.Grouped.{picked_more}

pub pair_at : {X Y : Type 0} (xs : List X) (ys : List Y) (i : ℕ) (d : X) (e : Y) → i < length xs → i < length ys → get_or (zip xs ys) i (d, e) ≡ (get_or xs i d, get_or ys i e)
pair_at [] ys i d e l m = absurd (omega (arith, l))
pair_at (x ∷ xs) [] i d e l m = absurd (omega (arith, m))
pair_at (x ∷ xs) (y ∷ ys) zero d e l m = refl
pair_at (x ∷ xs) (y ∷ ys) (suc i) d e l m = pair_at xs ys i d e (omega (arith, l)) (omega (arith, m))

pub pairs_length : {X Y : Type 0} (xs : List X) (ys : List Y) → length ys ≡ length xs → length (zip xs ys) ≡ length xs
pairs_length [] ys e = refl
pairs_length (x ∷ xs) [] e = absurd (omega (arith, e))
pairs_length (x ∷ xs) (y ∷ ys) e = ap suc (pairs_length xs ys (omega (arith, e)))

one_cost : (weights : Weights) (flagged : Edit × Bool) → price_of weights (cons_option (if_chosen flagged) []) ≡ cost_of weights flagged
one_cost weights flagged = by flagged.1
  where
    by : (b : Bool) → price_of weights (cons_option (if b then Some flagged.0 else None) []) ≡ (if b then weight weights flagged.0 else 0)
    by true = omega arith
    by false = refl

-- one edit more
pub price_more : (weights : Weights) (edits : List Edit) (flags : List Bool) (i : ℕ) (edit : Edit) (flag : Bool) (sum cost : ℕ) → i < length edits → length flags ≡ length edits →
    edit ≡ get_or edits i edit → flag ≡ get_or flags i flag → cost ≡ cost_of weights (edit, flag) → sum ≡ price_of weights (filter_map if_chosen (take i (zip edits flags))) →
    sum + cost ≡ price_of weights (filter_map if_chosen (take (i + 1) (zip edits flags)))
price_more weights edits flags i edit flag sum cost within same is_edit is_flag costs was =
    let long : i < length (zip edits flags) = omega (arith, within, pairs_length edits flags same) in
    let is : (edit, flag) ≡ get_or (zip edits flags) i (edit, flag) = (λ j. (is_edit j, is_flag j)) ∙ sym (pair_at edits flags i edit flag within (omega (arith, within, same))) in
    ap (λ n. n + cost) was ∙ ap (λ n. price_of weights (filter_map if_chosen (take i (zip edits flags))) + n) (costs ∙ sym (one_cost weights (edit, flag))) ∙
    sym (sum_by-append (weight weights) (filter_map if_chosen (take i (zip edits flags))) (cons_option (if_chosen (edit, flag)) [])) ∙
    ap (price_of weights) (sym (picked_more if_chosen (zip edits flags) i (edit, flag) long is))

pub price_all : (weights : Weights) (edits : List Edit) (flags : List Bool) (i sum : ℕ) → length edits ≤ i → length flags ≡ length edits →
    sum ≡ price_of weights (filter_map if_chosen (take i (zip edits flags))) →
    sum ≡ price_of weights (chosen_of edits flags)
price_all weights edits flags i sum past same was = was ∙ ap (λ l. price_of weights (filter_map if_chosen l)) (take_all i (zip edits flags) (omega (arith, past, pairs_length edits flags same)))
