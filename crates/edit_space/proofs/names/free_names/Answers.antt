use Rattle.std.proofs.Common.{◌≡◌, ◌∙◌, ◌+◌, ◌<◌, ◌^◌, ℕ, List, length, take, filter, map, not, ap, arith}
use Rattle.std.specs.List.{range_with_len}
use Rattle.std.proofs.lemmas.Result.{IfOk-weaker}
use Rattle.edit_list.specs.NewLists.{new_name, is_name_among}
use Rattle.edit_space.proofs.FreeNames.{free_names_found}
use Rattle.edit_space.proofs.names.free_names.Goals as goal

pub returns-clause-count : goal.returns-clause-count
returns-clause-count c =
    let free : List (List ℕ) → List (List ℕ) = λ l. take c.args.count (filter (λ name. not (is_name_among c.args.names.now name)) l) in
    let counted : c.from.result + c.args.count ≡ length c.args.names.now + c.args.count = omega (arith, c.from.ensures, c.len.ensures) in
    let small : length c.args.names.now + c.args.count < 2 ^ 63 = omega (arith, c.requires, c.len.ensures, c.len.type_inv) in
    IfOk-weaker c.first_free.result (λ (l : List (List ℕ)). l ≡ free c.deref.result.now) (λ (l : List (List ℕ)). length l ≡ c.args.count)
    (λ l e. ap length (e ∙ ap free (c.deref.ensures.value ∙ c.in_ok-candidates.ensures ∙ ap (λ n. map new_name (range_with_len 1 n)) counted))
    ∙ free_names_found c.args.names.now c.args.count small) c.first_free.ensures
