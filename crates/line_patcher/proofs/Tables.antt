-- What tables tell of edits: few things, each at its number.
use Rattle.std.proofs.Common.{◌≡◌, ℕ, ◌+◌, ◌<◌, ◌≤◌, ◌++◌, Bool, true, false, not, List, [], ◌∷◌, length, get_or, take, ap, refl, sym, ◌∙◌, ◌==◌, ◌&&◌, arith, map, set, unwrap_or, if◌then◌else◌}
use Rattle.std.specs.Prelude.{Option, Some, None, slice_get}
use Rattle.std.specs.List.{cons_option, filter_map, flat_map, zip, range_with_len}
use Rattle.std.proofs.lemmas.List.{append-nil, get_or_read, length-append, take_all, take_more}
use Rattle.std.proofs.lemmas.List.Concat.{flat_map-append}
use Rattle.std.proofs.lemmas.List.Elements.{filter_map-append}
use Rattle.std.proofs.lemmas.Option.{slice_get_read}
use Rattle.std.specs.Option.{option_map_or}
use Rattle.net_model.specs.declared.rows.Network.{Network}
use Rattle.net_build.specs.declared.built.ListPlace.{ListPlace}
use Rattle.ios_lines.specs.declared.line.Line.{Line}
use Rattle.ios_words.specs.declared.commands.Command.{Command}
use Rattle.edit_list.specs.declared.edit_kinds.Edit.{Edit}
use Rattle.arc_base.specs.Numbered.{if_number, of_number, is_empty, placed, IsTableOf}
use Rattle.edit_list.specs.Prices.{if_chosen, chosen_of}
use Rattle.edit_list.proofs.Counts.{few_picked}
use Rattle.edit_list.specs.declared.list_kinds.NewList.{NewList}
use Rattle.edit_list.specs.NewLists.{new_lists, new_lists_of, new_names_of, named_lists}
use Rattle.edit_space.specs.Working.{AreNewNames}
use Rattle.arc_base.proofs.Grouped.{grouped_more, things_told, told_or, told_within}
use Rattle.edit_list.proofs.Placing.{placed_at, placed_length}
use Rattle.edit_list.proofs.PriceSteps.{pairs_length}
use Rattle.line_patcher.specs.declared.additions.NewNumber.{NewNumber}
use Rattle.line_patcher.specs.declared.texts.Table.{Table}
use Rattle.line_patcher.specs.EntryLines.{edited_by, edited_lists, for_list}
use Rattle.line_patcher.specs.Patches.{end_of, row_bytes, ended, following, patched_row}
use Rattle.line_patcher.specs.Working.{for_edited, row_around}
use Rattle.line_patcher.specs.Written.{line_of, lines_at}
use Rattle.line_patcher.proofs.Growing.{grown}

-- edits put no more things anywhere than there are edits
pub few_put : {X : Type 0} (change : Edit → Option (ℕ × X)) (chosen : List Edit) (number : ℕ) → length (of_number number (filter_map change chosen)) ≤ length chosen
few_put change chosen number = omega (arith, few_picked (if_number number) (filter_map change chosen), few_picked change chosen)

-- no more edits are chosen than there are
pub few_chosen : (edits : List Edit) (flags : List Bool) → length flags ≡ length edits → length edits ≤ 8192 → length (chosen_of edits flags) ≤ 8192
few_chosen edits flags same few = omega (arith, few_picked if_chosen (zip edits flags), pairs_length edits flags same, few)

-- the item at a place, by a list of the same items
pub item_at : {X : Type 0} (whole items : List X) (i : ℕ) (x : X) → items ≡ whole → i < length whole → x ≡ get_or items i x → slice_get whole i ≡ Some x
item_at whole items i x same low is = ap (λ l. slice_get l i) (sym same) ∙ slice_get_read items (length items) i x refl (omega (arith, low, ap length same)) is

-- a list of a network, one after another, and what edits add to it
module _ {L X : Type 0} (change : Edit → Option (ℕ × X)) (chosen : List Edit) (whole lists : List L) (i : ℕ) (list : L) (groups : List (List X)) (xs : List X) (all : lists ≡ whole)
    (within : i < length lists) (is : list ≡ get_or lists i list)
    (told : IsTableOf (length whole) (λ k. of_number k (filter_map change chosen)) groups) (are : xs ≡ unwrap_or (slice_get groups i) []) where
  xs_are : xs ≡ of_number i (filter_map change chosen)
  xs_are = things_told groups (λ k. of_number k (filter_map change chosen)) (length whole) i xs told (omega (arith, within, ap length all)) are

  pub few_added : length chosen ≤ 8192 → length xs ≤ 8192
  few_added few = omega (arith, ap length xs_are, few_put change chosen i, few)

  module _ {Y : Type 0} (router : L → ℕ) (place : L → Option ListPlace) (made : L → ListPlace → List X → List Y) (number : ℕ) where
    abbrev piece : ℕ → List Y
    piece id = for_list whole place (λ (l : L) (there : ListPlace). made l there (of_number id (filter_map change chosen))) id

    abbrev pieces : List (ℕ × L) → List Y
    pieces ls = flat_map piece (edited_lists ls router change chosen number)

    pieces-append : (ls ms : List (ℕ × L)) → pieces (ls ++ ms) ≡ pieces ls ++ pieces ms
    pieces-append ls ms =
        let h : ℕ × L → Option (ℕ × ℕ) = edited_by router change chosen in
        ap (λ l. flat_map piece (of_number number l)) (filter_map-append h ls ms)
        ∙ ap (flat_map piece) (filter_map-append (if_number number) (filter_map h ls) (filter_map h ms))
        ∙ flat_map-append piece (of_number number (filter_map h ls)) (of_number number (filter_map h ms))

    at : slice_get whole i ≡ Some list
    at = item_at whole lists i list all (omega (arith, within, ap length all)) is

    own : (b : Bool) → flat_map piece
        (cons_option (if b then Some i else None) []) ≡ (if b then option_map_or (λ (there : ListPlace). made list there (of_number i (filter_map change chosen))) (place list) [] else [])
    own true = append-nil (piece i)
        ∙ ap (λ (o : Option L). option_map_or (λ (l : L). option_map_or (λ (there : ListPlace). made l there (of_number i (filter_map change chosen))) (place l) []) o []) at
    own false = refl

    one : (none : Bool) → flat_map piece (of_number number (cons_option (if none then None else Some (router list, i)) [])) ≡
        (if not none && (router list == number) then option_map_or (λ (there : ListPlace). made list there (of_number i (filter_map change chosen))) (place list) [] else [])
    one true = refl
    one false = own (router list == number)

    pub list_more : (old was next : List Y) → was ≡ old ++ pieces (take i (placed lists)) → next ≡ was ++ for_edited (router list) number (place list) (made list) xs →
        next ≡ old ++ pieces (take (i + 1) (placed lists))
    list_more old was next before added =
        let front : List (ℕ × L) = take i (placed lists) in
        let more : take (i + 1) (placed lists) ≡ front ++ (i, list) ∷ [] =
        take_more (placed lists) i (i, list) (omega (arith, within, placed_length lists)) ∙ ap (λ (x : ℕ × L). front ++ x ∷ []) (sym (placed_at lists i list within is)) in
        grown old (pieces front) (pieces (take (i + 1) (placed lists))) (for_edited (router list) number (place list) (made list) xs) was next before added
        (ap pieces more ∙ pieces-append front ((i, list) ∷ []) ∙ ap (λ l. pieces front ++ l)
        (one (is_empty (of_number i (filter_map change chosen))) ∙ ap (for_edited (router list) number (place list) (made list)) (sym xs_are)))

-- all lists of a network
pub lists_all : {L Y : Type 0} (f : List (ℕ × L) → List Y) (whole lists : List L) (i : ℕ) (old was : List Y) → lists ≡ whole → length lists ≤ i →
    was ≡ old ++ f (take i (placed lists)) → was ≡ old ++ f (placed whole)
lists_all f whole lists i old was all past is = is ∙ ap (λ l. old ++ f l) (take_all i (placed lists) (omega (arith, past, placed_length lists)) ∙ ap placed all)

-- the lines of the commands at a number
pub lines-number : (n : ℕ) (commands : List (ℕ × Command)) → of_number n (lines_at commands) ≡ map line_of (of_number n commands)
lines-number n [] = refl
lines-number n (c ∷ commands) = by (c.0 == n) (lines-number n commands)
  where
    by : (b : Bool) → of_number n (lines_at commands) ≡ map line_of (of_number n commands) →
        cons_option (if b then Some (line_of c.1) else None) (of_number n (lines_at commands)) ≡ map line_of (cons_option (if b then Some c.1 else None) (of_number n commands))
    by true rest = ap (λ (ls : List (List ℕ)). line_of c.1 ∷ ls) rest
    by false rest = rest

-- one thing more, in its group
pub grouped_next : {X : Type 0} (count : ℕ) (things : List (ℕ × X)) (number : ℕ) (x : X) (now next : List (List X)) →
    now ≡ map (λ k. of_number k things) (range_with_len 0 count) → next ≡ set now number (get_or now number [] ++ x ∷ []) →
    next ≡ map (λ k. of_number k (things ++ (number, x) ∷ [])) (range_with_len 0 count)
grouped_next {X} count things number x now next was put =
    let whole : List (ℕ × X) = things ++ (number, x) ∷ [] in
    let long : length whole ≡ length things + 1 = length-append things ((number, x) ∷ []) in
    grouped_more count whole (length things) number x now next (omega (arith, long)) (sym (get_or-seam things (number, x)))
    (was ∙ (λ i. map (λ (k : ℕ). of_number k (sym (take-front things ((number, x) ∷ [])) i)) (range_with_len 0 count))) put ∙
    (λ i. map (λ (k : ℕ). of_number k (take_all (length things + 1) whole (omega (arith, long)) i)) (range_with_len 0 count))
  where
    get_or-seam : (xs : List (ℕ × X)) (y : ℕ × X) → get_or (xs ++ y ∷ []) (length xs) y ≡ y
    get_or-seam [] y = refl
    get_or-seam (z ∷ xs) y = get_or-seam xs y

    take-front : (xs ys : List (ℕ × X)) → take (length xs) (xs ++ ys) ≡ xs
    take-front [] ys = refl
    take-front (z ∷ xs) ys = ap (λ (l : List (ℕ × X)). z ∷ l) (take-front xs ys)

-- what is around a row, as the table has it
pub around : (text end : List ℕ) (table : Table) (count : ℕ) (before after : List (ℕ × Command)) (numbers : List (ℕ × NewNumber)) (number : ℕ) (row : Line) →
    IsTableOf count (λ k. of_number k before) table.before.items →
    IsTableOf count (λ k. of_number k numbers) table.numbers.items → IsTableOf count (λ k. of_number k after) table.after.items → number < count →
    row_around text end table number row ≡ patched_row text end (lines_at before) numbers (lines_at after) (number, row)
around text end table count before after numbers number row b n a low =
    let eb = ap (map line_of) (things_told table.before.items (λ k. of_number k before) count number (unwrap_or (slice_get table.before.items number) []) b low refl)
    ∙ sym (lines-number number before) in
    let en = things_told table.numbers.items (λ k. of_number k numbers) count number (unwrap_or (slice_get table.numbers.items number) []) n low refl in
    let ea = ap (map line_of) (things_told table.after.items (λ k. of_number k after) count number (unwrap_or (slice_get table.after.items number) []) a low refl) ∙ sym (lines-number number after) in
    λ i. ended end (eb i) ++ row_bytes text row (en i) ++ end_of text row ++ following end row.end (ea i)

-- a table of groups, by the things that it was made of
pub grouped_are : {X : Type 0} (count number : ℕ) (things all : List (ℕ × X)) (groups : List (List X)) → count ≡ number → things ≡ all →
    IsTableOf count (λ k. of_number k things) groups → IsTableOf number (λ k. of_number k all) groups
grouped_are count number things all groups same are told = told ∙ (λ i. map (λ (k : ℕ). of_number k (are i)) (range_with_len 0 (same i)))

-- the new lists of a router and their names, as the tables have them
module _ (net : Network) (chosen : List Edit) (router : ℕ) (names : List (List (List ℕ))) (own : List (List ℕ)) (groups : List (List NewList)) (lists : List NewList)
    (are : AreNewNames net (new_lists net chosen) names)
    (low : router < length net.routers) (is : own ≡ get_or names router own) (told : IsTableOf (length net.routers) (new_lists_of net chosen) groups)
    (there : lists ≡ unwrap_or (slice_get groups router) []) where
  own_is : own ≡ get_or names router []
  own_is = get_or_read names router own (told_within (new_names_of net chosen) (length net.routers) router names are.told low) is []

  names_are : own ≡ new_names_of net chosen router
  names_are = own_is ∙ told_or (new_names_of net chosen) (length net.routers) router names [] are.told low

  lists_are : lists ≡ new_lists_of net chosen router
  lists_are = things_told groups (new_lists_of net chosen) (length net.routers) router lists told low there

  -- there are as many names as lists
  pub names_counted : length own ≡ length lists
  names_counted = ap length own_is ∙ are.counted router low ∙ ap length (sym lists_are)

  pub named_are : zip lists own ≡ named_lists net chosen router
  named_are = λ i. zip (lists_are i) (names_are i)
