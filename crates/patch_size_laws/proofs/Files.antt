-- Router files after edits are within the limits of files that are read.
use Rattle.std.proofs.Common.{◌≡◌, ℕ, Bool, zero, suc, ◌+◌, ◌*◌, ◌<◌, ◌≤◌, List, [], ◌∷◌, length, map, refl, ap, subst, ◌∙◌, arith, get_or}
use Rattle.std.specs.Prelude.{Option, Some, slice_get, Contains, IsSomeAnd, option_map}
use Rattle.std.specs.List.{AllByRecursion, range_with_len, zip}
use Rattle.std.proofs.lemmas.List.{length-map}
use Rattle.std.proofs.lemmas.Option.{slice_get-get_or, slice_get-map}
use Rattle.arc_base.proofs.Items.{Contains-head, Contains-tail}
use Rattle.arc_base.proofs.Zips.{AllZip-length, AllZip-right}
use Rattle.ios_lines.specs.declared.line.Lines.{Lines}
use Rattle.ios_lines.specs.Lines.{AreLinesOf}
use Rattle.ios_config.specs.declared.settings.Config.{Config}
use Rattle.ios_config.specs.declared.settings.ListText.{ListText}
use Rattle.ios_config.specs.Texts.{config_of}
use Rattle.net_build.specs.declared.built.Built.{Built}
use Rattle.net_build.specs.declared.built.ListPlace.{ListPlace}
use Rattle.net_build.specs.declared.built.Places.{Places}
use Rattle.net_build.specs.Networks.{IsBuilt, HasSettings}
use Rattle.net_build.specs.Places.{list_place, places_of}
use Rattle.net_model.specs.declared.rows.Network.{Network}
use Rattle.net_rules.specs.Rows.{IsRouterRow}
use Rattle.edit_list.specs.declared.edit_kinds.Edit.{Edit}
use Rattle.edit_list.specs.Prices.{chosen_of, if_chosen}
use Rattle.edit_list.proofs.Counts.{few_picked}
use Rattle.line_patcher.specs.Patches.{patched_file, patched_text}
use Rattle.line_patcher.specs.Additions.{lines_after, lines_before, numbers_at}
use Rattle.settings_edit_laws.specs.Premises.{HasRoom}
use Rattle.settings_edit_laws.proofs.Room.{few_zipped, room_within}
use Rattle.patch_laws.specs.EditFiles.{IsEditedFile}
use Rattle.patch_laws.proofs.EditPremises.{edited-files}
use Rattle.patch_laws.proofs.EditTops.{have-list-lines}
use Rattle.file_copies.proofs.Patched.{no_long_list, still_clear}
use Rattle.patch_size_laws.specs.Sizes.{PatchedFilesAreShort}
use Rattle.patch_size_laws.proofs.Keyed.{total, total-sum}
use Rattle.patch_size_laws.proofs.RowSizes.{text-few}
use Rattle.patch_size_laws.proofs.Costs.{HasRoomAt, numbers-small, router-few, weight}
use Rattle.patch_size_laws.proofs.Weights.{lists-filled, weights-few}

-- what holds of each place of lists
all-places : (P : ListPlace → Type 0) (lists : List ListText) → ((list : ListText) → Contains lists list → P (list_place list)) → AllByRecursion P (map list_place lists)
all-places P [] each = tt
all-places P (l ∷ ls) each = (each l (Contains-head l ls), all-places P ls (λ m there. each m (Contains-tail l m ls there)))

-- one file
module _ (net : Network) (places : List Places) (chosen : List Edit) (few : length chosen ≤ 8192) where
  pub file-few : (built : Built) (router : ℕ) (text new : List ℕ) (lines : Lines) (config : Config) (says : HasSettings text config) → built.net ≡ net → built.places ≡ places → AreLinesOf text lines →
      IsEditedFile net places chosen router text lines says.is_config.commands → new ≡ patched_file built chosen router text lines (places_of config) →
      2 * length new ≤ 7 * length text + 5 + 1024 * weight net chosen router
  file-few built router text new lines config says same_net same_places are file is =
      let own : Places = places_of config in
      let set : config ≡ config_of says.is_config.commands = says.is_config.set in
      let rooms : AllByRecursion (HasRoomAt net file.valid file.writable chosen few) own.lists =
      all-places (HasRoomAt net file.valid file.writable chosen few) config.lists
      (λ list there. let room = file.room list (subst (λ (c : Config). Contains c.lists list) set there) in omega (arith, room, length-map list.entries (λ g. g.line))) in
      let size : length new ≡ length (patched_text text lines (lines_before net own chosen router) (numbers_at net own chosen router) (lines_after net places own chosen router)) =
      ap length (is ∙ (λ i. patched_text text lines (lines_before (same_net i) own chosen router) (numbers_at (same_net i) own chosen router)
      (lines_after (same_net i) (same_places i) own chosen router))) in
      omega (
        arith,
        size,
        text-few text lines (lines_before net own chosen router) (numbers_at net own chosen router) (lines_after net places own chosen router) are
            (numbers-small net file.valid file.writable chosen few own router rooms),
        router-few net file.valid file.writable chosen few places own router file.names (lists-filled net file.valid chosen router),
      )

-- all files
sums : (w : ℕ → ℕ) (a : ℕ) (files new : List (List ℕ)) → length new ≡ length files →
    ((place : ℕ) (x y : List ℕ) → slice_get files place ≡ Some x → slice_get new place ≡ Some y → 2 * length y ≤ 7 * length x + 5 + 1024 * w (a + place)) →
    2 * total length new ≤ 7 * total length files + 5 * length files + 1024 * total w (range_with_len a (length files))
sums w a [] [] same each = omega arith
sums w a [] (y ∷ new) same each = absurd (omega (arith, same))
sums w a (x ∷ files) [] same each = absurd (omega (arith, same))
sums w a (x ∷ files) (y ∷ new) same each =
    let start : a + 0 ≡ a = omega arith in
    omega (
      arith,
      each 0 x y refl refl,
      ap w start,
      sums w (a + 1) files new (omega (arith, same))
          (λ place u v at_u at_v. let here = each (suc place) u v at_u at_v in let shift : a + suc place ≡ a + 1 + place = omega arith in omega (arith, here, ap w shift)),
    )

-- one of a range is no more than all
in-range : (w : ℕ → ℕ) (a n k : ℕ) → k < n → w (a + k) ≤ total w (range_with_len a n)
in-range w a zero k low = absurd (omega (arith, low))
in-range w a (suc n) zero low = let start : a + 0 ≡ a = omega arith in omega (arith, ap w start)
in-range w a (suc n) (suc k) low = let shift : a + suc k ≡ a + 1 + k = omega arith in omega (arith, ap w shift, in-range w (a + 1) n k (omega (arith, low)))

chosen-few : (list : List Edit) (flags : List Bool) → length list ≤ 8192 → length (chosen_of list flags) ≤ 8192
chosen-few list flags few = omega (arith, few_picked if_chosen (zip list flags), few_zipped list flags, few)

pub patched_files_are_short : PatchedFilesAreShort
patched_files_are_short doc built olds new list flags editable are few total_few patched =
    let within = editable.is_built.network in
    let configs : List Config = within.configs in
    let net : Network = built.net in
    let chosen : List Edit = chosen_of list flags in
    let was : IsBuilt doc olds built = record {
      network = record { configs = configs; said = within.said; rows = within.rows; clear = still_clear doc configs within.clear };
      lines = editable.is_built.lines;
      places = editable.is_built.places;
    } in
    let room : HasRoom chosen configs = room_within configs list flags (no_long_list doc configs within.clear) few in
    let few_chosen : length chosen ≤ 8192 = chosen-few list flags few in
    let each : (place : ℕ) (x y : List ℕ) → slice_get olds place ≡ Some x → slice_get new place ≡ Some y → 2 * length y ≤ 7 * length x + 5 + 1024 * weight net chosen place =
    λ place x y at_x at_y.
    let (config, at_c, says) = AllZip-right HasSettings olds configs within.said place x at_x in
    let (lines, at_l, are_lines) = AllZip-right AreLinesOf olds built.lines editable.is_built.lines place x at_x in
    let at_p : slice_get built.places place ≡ Some (places_of config) =
    ap (λ (ps : List Places). slice_get ps place) editable.is_built.places ∙ slice_get-map places_of configs place ∙ ap (option_map places_of) at_c in
    let file : IsEditedFile net built.places chosen place x lines says.is_config.commands =
    edited-files (λ text ls cs are_ls stand. have-list-lines text ls cs are_ls stand) doc olds built was list flags editable.fit.valid editable.countable editable.fit.ends
    are room place config x says lines at_c at_x are_lines in
    let is = patched.each place x y at_x at_y in
    let of_lines = subst (λ (o : Option Lines). IsSomeAnd o (λ ls. IsSomeAnd (slice_get built.places place) (λ own. y ≡ patched_file built chosen place x ls own))) at_l is in
    let of_places = subst (λ (o : Option Places). IsSomeAnd o (λ own. y ≡ patched_file built chosen place x lines own)) at_p of_lines in
    file-few net built.places chosen few_chosen built place x y lines config says refl refl are_lines file of_places in
    let weights = weights-few net editable.fit.valid chosen (length olds) in
    let routers : length olds ≤ 256 =
    (let said = AllZip-length HasSettings olds configs within.said in let rows = AllZip-length (IsRouterRow net.protocol) configs net.routers within.rows.base.routers in let most =
    editable.fit.valid.few_routers in omega (arith, said, rows, most)) in
    record {
      each = λ k d low.
          let y : List ℕ = get_or new k d in
          let x : List ℕ = get_or olds k d in
          let inside : k < length olds = omega (arith, low, patched.whole) in
          let short : length x ≤ 1048576 = editable.bytes k d inside in
          let first : 0 + k ≡ k = omega arith in
          omega (
            arith,
            short,
            few_chosen,
            weights,
            ap (weight net chosen) first,
            in-range (weight net chosen) 0 (length olds) k inside,
            each k x y (slice_get-get_or olds k d inside) (slice_get-get_or new k d low),
          );
      all = omega (
        arith,
        total_few,
        few_chosen,
        weights,
        routers,
        total-sum length new,
        total-sum length olds,
        sums (weight net chosen) 0 olds new patched.whole
            (λ place x y at_x at_y. let first : 0 + place ≡ place = omega arith in omega (arith, ap (weight net chosen) first, each place x y at_x at_y)),
      );
    }
