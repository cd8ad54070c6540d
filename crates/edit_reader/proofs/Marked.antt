-- The edits that are marked after one more line.
use Rattle.std.proofs.Common.{◌≡◌, ◌≢◌, ℕ, ◌-◌, ◌<◌, ◌==◌, inl, inr, Bool, true, false, cond, Option, Some}
use Rattle.std.proofs.Common.{None, List, [], ◌∷◌, ◌++◌, length, length-append, get_or, set, refl, sym, ◌∙◌, ap, subst, arith}
use Rattle.std.specs.Prelude.{not, ◌||◌, bytes_eq, All, AllPairs, IsSome, map, filter}
use Rattle.std.specs.List.{list_any, range_with_len}
use Rattle.std.proofs.Math.Bool.{or-true}
use Rattle.std.proofs.lemmas.Bool.{false≢true, cases_eq, eqb-true, eq-eqb, ne_eqb}
use Rattle.std.proofs.lemmas.List.{map-append, length-set, get_or-set_same, get_or-set_other, get_or_append_left, get_or-append_right}
use Rattle.std.proofs.lemmas.List.Elements.{filter-append, All-append, All-cons}
use Rattle.std.proofs.lemmas.List.Folds.{list_any-append, list_any_at, Any-from_list_any}
use Rattle.std.proofs.lemmas.List.FromFn.{fill_by_all, length-map-range_with_len, get_or-map-range_with_len}
use Rattle.std.proofs.lemmas.List.Quantifiers.{all_pairs_push, position-Some}
use Rattle.net_model.specs.declared.rows.Network.{Network}
use Rattle.edit_list.specs.declared.edit_kinds.Edit.{Edit}
use Rattle.edit_list.specs.declared.edit_kinds.Edit.TheVariants.{Session}
use Rattle.policy_report.specs.Edits.{edit_of, edit_text}
use Rattle.edit_reader.specs.EditFiles.{is_blank_line, named_by, is_at, AreEditLines, AreMarked}

pub last_of : {X : Type 0} (xs : List X) (x d : X) → get_or (xs ++ x ∷ []) (length xs) d ≡ x
last_of xs x d = get_or-append_right xs (x ∷ []) (length xs) (length xs) d refl (omega arith) ∙ ap (λ (n : ℕ). get_or (x ∷ []) n d) (zero_rest (length xs))
  where
    zero_rest : (n : ℕ) → n - n ≡ 0
    zero_rest n = omega arith

-- a place that is marked is one of those that lines name
is_at-Some : (place : ℕ) (o : Option ℕ) → is_at place o ≡ true → o ≡ Some place
is_at-Some place None e = absurd (false≢true e)
is_at-Some place (Some p) e = ap (λ (n : ℕ). Some n) (eqb-true p place e)

module _ (net : Network) (edits : List Edit) where
  kept : (b : Bool) (line : List ℕ) (names : List (Option ℕ)) → b ≡ false → names ++ map (edit_of net edits) (cond (not b) (line ∷ []) []) ≡ names ++ edit_of net edits line ∷ []
  kept true line names e = absurd (false≢true (sym e))
  kept false line names e = refl

  names_more : (before : List (List ℕ)) (line : List ℕ) →
      named_by net edits (before ++ line ∷ []) ≡ named_by net edits before ++ map (edit_of net edits) (cond (not (is_blank_line line)) (line ∷ []) [])
  names_more before line =
      let filled : List ℕ → Bool = λ l. not (is_blank_line l) in
      ap (map (edit_of net edits)) (filter-append filled before (line ∷ []))
      ∙ map-append (edit_of net edits) (filter filled before) (filter filled (line ∷ []))

  filled_names : (before : List (List ℕ)) (line : List ℕ) → is_blank_line line ≡ false → named_by net edits (before ++ line ∷ []) ≡ named_by net edits before ++ edit_of net edits line ∷ []
  filled_names before line filled = names_more before line ∙ kept (is_blank_line line) line (named_by net edits before) filled

  -- a line that names a marked edit names it twice
  twice : (names : List (Option ℕ)) (place : ℕ) → list_any (is_at place) names ≡ true → AllPairs ◌≢◌ (names ++ Some place ∷ []) → ⊥
  twice names place any once =
      let found = Any-from_list_any (is_at place) names any in
      let k : ℕ = found.0 in
      let x : Option ℕ = found.1 in
      let here : get_or (names ++ Some place ∷ []) k x ≡ Some place = get_or_append_left names (Some place ∷ []) x k found.2 ∙ found.3 ∙ is_at-Some place x found.4 in
      once k (length names) x found.2 (omega (arith, length-append names (Some place ∷ []))) (here ∙ sym (last_of names (Some place) x))

  pub names_twice : (before : List (List ℕ)) (line : List ℕ) (flags : List Bool) (place : ℕ) → is_blank_line line ≡ false → edit_of net edits line ≡ Some place → place < length edits →
      get_or flags place false ≡ true → AreMarked net edits before flags → AreEditLines net edits (before ++ line ∷ []) → ⊥
  names_twice before line flags place filled is within flag marked lines =
      let any : list_any (is_at place) (named_by net edits before) ≡ true =
      sym (get_or-map-range_with_len (λ (p : ℕ). list_any (is_at p) (named_by net edits before)) 0 (length edits) place place false within (omega arith))
      ∙ ap (λ (fs : List Bool). get_or fs place false) (sym marked.chosen) ∙ flag in
      let names : named_by net edits (before ++ line ∷ []) ≡ named_by net edits before ++ Some place ∷ [] =
      filled_names before line filled ∙ ap (λ (o : Option ℕ). named_by net edits before ++ o ∷ []) is in
      twice (named_by net edits before) place any (subst (AllPairs ◌≢◌) names lines.once)

  -- none of the lines names the place
  not_there : (names : List (Option ℕ)) (place k : ℕ) (d : Option ℕ) → list_any (is_at place) names ≡ false → k < length names → get_or names k d ≡ Some place → ⊥
  not_there names place k d none within is =
      false≢true (sym none ∙ list_any_at (is_at place) names k d within (ap (is_at place) is ∙ eq-eqb place place refl))

  flag_after : (names : List (Option ℕ)) (flags : List Bool) (place q : ℕ) → place < length flags → q < length flags → get_or flags q false ≡ list_any (is_at q) names →
      get_or (set flags place true) q false ≡ list_any (is_at q) (names ++ Some place ∷ [])
  flag_after names flags place q within inside before =
      let more : list_any (is_at q) (names ++ Some place ∷ []) ≡ (list_any (is_at q) names || (place == q)) =
      list_any-append (is_at q) names (Some place ∷ []) ∙ ap (λ (b : Bool). list_any (is_at q) names || b) (or_false (place == q)) in
      elim (cases_eq q place) [
        | inl same ↦
            ap (λ (n : ℕ). get_or (set flags place true) n false) same ∙ get_or-set_same flags place true false within
            ∙ sym (more ∙ ap (λ (b : Bool). list_any (is_at q) names || b) (eq-eqb place q (sym same)) ∙ or-true (list_any (is_at q) names))
        | inr other ↦
            get_or-set_other flags place q true false other ∙ before
            ∙ sym (more ∙ ap (λ (b : Bool). list_any (is_at q) names || b) (ne_eqb place q (λ e. other (sym e))) ∙ or_false (list_any (is_at q) names))
      ]
    where
      or_false : (b : Bool) → (b || false) ≡ b
      or_false true = refl
      or_false false = refl

  pub one_marked : (before : List (List ℕ)) (line : List ℕ) (flags : List Bool) (place : ℕ) → is_blank_line line ≡ false → edit_of net edits line ≡ Some place → place < length edits →
      get_or flags place false ≡ false → AreMarked net edits before flags → AreMarked net edits (before ++ line ∷ []) (set flags place true)
  one_marked before line flags place filled is within flag marked =
      let names : List (Option ℕ) = named_by net edits before in
      let same : named_by net edits (before ++ line ∷ []) ≡ names ++ Some place ∷ [] =
      filled_names before line filled ∙ ap (λ (o : Option ℕ). names ++ o ∷ []) is in
      let long : length flags ≡ length edits = ap length marked.chosen ∙ length-map-range_with_len (λ (p : ℕ). list_any (is_at p) names) 0 (length edits) in
      let each : (q : ℕ) → q < length edits → get_or flags q false ≡ list_any (is_at q) names =
      λ q inside. ap (λ (fs : List Bool). get_or fs q false) marked.chosen ∙ get_or-map-range_with_len (λ (p : ℕ). list_any (is_at p) names) 0 (length edits) q q false inside (omega arith) in
      let none : list_any (is_at place) names ≡ false = sym (each place within) ∙ flag in
      record {
        lines = record {
          named = subst (All IsSome) (sym same) (All-append IsSome names (Some place ∷ []) marked.lines.named (All-cons IsSome (Some place) [] refl (λ i d l. absurd (omega (arith, l)))));
          once = subst (AllPairs ◌≢◌) (sym same) (all_pairs_push ◌≢◌ names (Some place) marked.lines.once (λ k d inside e. not_there names place k d none inside e));
        };
        chosen =
            fill_by_all (λ (q : ℕ). list_any (is_at q) (names ++ Some place ∷ [])) (set flags place true) (length edits) false (length-set flags place true ∙ long)
            (λ q inside. flag_after names flags place q (omega (arith, within, long)) (omega (arith, inside, long)) (each q inside))
            ∙ ap (λ (ns : List (Option ℕ)). map (λ (p : ℕ). list_any (is_at p) ns) (range_with_len 0 (length edits))) (sym same);
      }

  -- nothing is marked before the first line
  pub none_marked : (flags : List Bool) → length flags ≡ length edits → ((k : ℕ) → k < length edits → get_or flags k false ≡ false) → AreMarked net edits [] flags
  none_marked flags long each = record {
    lines = record {
      named = λ i d l. absurd (omega (arith, l));
      once = λ i j d less l. absurd (omega (arith, l));
    };
    chosen = fill_by_all (λ (q : ℕ). list_any (is_at q) []) flags (length edits) false long each;
  }

  -- an edit that a line names is one of the edits
  pub place_within : (line : List ℕ) (place : ℕ) → edit_of net edits line ≡ Some place → place < length edits
  place_within line place is = (position-Some (λ (edit : Edit). bytes_eq (edit_text net edit) line) edits place (Session (record { 0 = 0 })) is).0
