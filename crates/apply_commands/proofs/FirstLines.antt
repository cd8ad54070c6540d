-- If all lines name edits, each once, so do the first of them, and there is one first wrong line.
use Rattle.std.proofs.Common.{◌≡◌, ◌≢◌, ℕ, Bool, Option, List, ◌++◌, length-append, get_or, take, drop, map, sym, ◌∙◌, ap, subst, arith, ◌+◌, ◌<◌, inl, inr}
use Rattle.std.specs.Prelude.{not, All, AllPairs, IsSome, filter}
use Rattle.std.proofs.lemmas.Bool.{cases_lt}
use Rattle.std.proofs.lemmas.List.{map-append, get_or_append_left, take-append-drop, take-take}
use Rattle.std.proofs.lemmas.List.Elements.{filter-append}
use Rattle.net_model.specs.declared.rows.Network.{Network}
use Rattle.edit_list.specs.declared.edit_kinds.Edit.{Edit}
use Rattle.policy_report.specs.Edits.{edit_of}
use Rattle.edit_reader.specs.EditFiles.{is_blank_line, named_by, AreEditLines, IsWrongLine}

front_all : {X : Type 0} (P : X → Type 0) (xs ys : List X) → All P (xs ++ ys) → All P xs
front_all P xs ys all = λ k d within. subst P (get_or_append_left xs ys d k within) (all k d (omega (arith, length-append xs ys, within)))

front_pairs : {X : Type 0} (R : X → X → Type 0) (xs ys : List X) → AllPairs R (xs ++ ys) → AllPairs R xs
front_pairs {X} R xs ys pairs = λ i j d less within.
    let P : X → Type 0 = λ x. R x (get_or (xs ++ ys) j d) in
    let Q : X → Type 0 = λ y. R (get_or xs i d) y in
    subst Q (get_or_append_left xs ys d j within)
    (subst P (get_or_append_left xs ys d i (omega (arith, less, within))) (pairs i j d less (omega (arith, length-append xs ys, within))))

module _ (net : Network) (edits : List Edit) where
  names_append : (xs ys : List (List ℕ)) → named_by net edits (xs ++ ys) ≡ named_by net edits xs ++ named_by net edits ys
  names_append xs ys =
      let filled : List ℕ → Bool = λ l. not (is_blank_line l) in
      ap (map (edit_of net edits)) (filter-append filled xs ys) ∙ map-append (edit_of net edits) (filter filled xs) (filter filled ys)

  pub first_lines : (ls : List (List ℕ)) (k : ℕ) → AreEditLines net edits ls → AreEditLines net edits (take k ls)
  first_lines ls k lines =
      let xs : List (Option ℕ) = named_by net edits (take k ls) in
      let ys : List (Option ℕ) = named_by net edits (drop k ls) in
      let whole : named_by net edits ls ≡ xs ++ ys = ap (named_by net edits) (sym (take-append-drop k ls)) ∙ names_append (take k ls) (drop k ls) in
      record {
        named = front_all IsSome xs ys (subst (All IsSome) whole lines.named);
        once = front_pairs ◌≢◌ xs ys (subst (AllPairs ◌≢◌) whole lines.once);
      }

  -- a line is not the first wrong one if a later line is
  too_early : (ls : List (List ℕ)) (n m : ℕ) (u : IsWrongLine net edits ls n) (v : IsWrongLine net edits ls m) → u.place < v.place → ⊥
  too_early ls n m u v below =
      u.wrong (subst (AreEditLines net edits) (take-take (u.place + 1) v.place ls (omega (arith, below))) (first_lines (take v.place ls) (u.place + 1) v.right_before))

  pub one_wrong_line : (ls : List (List ℕ)) (n m : ℕ) → IsWrongLine net edits ls n → IsWrongLine net edits ls m → n ≡ m
  one_wrong_line ls n m u v = elim (cases_lt u.place v.place) [
    | inl below ↦ absurd (too_early ls n m u v below)
    | inr above ↦ elim (cases_lt v.place u.place) [
      | inl below ↦ absurd (too_early ls m n v u below)
      | inr same ↦ omega (arith, above, same, u.number_is, v.number_is)
    ]
  ]
