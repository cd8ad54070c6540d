-- A variable is put at the end of a heap.
use Rattle.std.proofs.Common.{◌≡◌, ◌≢◌, ℕ, ◌+◌, ◌<◌, ◌≤◌, ◌↔◌, ◌∷◌, ◌++◌, [], inl, inr, List, length, get_or, set, refl, sym, ap, ◌∙◌, arith}
use Rattle.std.proofs.lemmas.Bool.{cases_eq}
use Rattle.std.proofs.lemmas.List.{get_or-set_same, get_or-set_other, set-get_or}
use Rattle.variable_heap.specs.Heaps.{active_at, IsInverse, IsOrdered, IsOrderedButUp, IsRaised}
use Rattle.variable_heap.proofs.Places.{stands-once}
use Rattle.variable_heap.proofs.Popping.{IsLonger, longer}

-- the places are those of the variables then
pub inverse-pushed : (xs ps : List ℕ) (v : ℕ) → IsInverse xs ps → get_or ps v 0 ≡ 0 → v < length ps → IsInverse (xs ++ v ∷ []) (set ps v (length xs + 1))
inverse-pushed xs ps v o none below =
    let ys = xs ++ v ∷ [] in
    let qs = set ps v (length xs + 1) in
    let l : IsLonger ys xs v = longer ys xs v refl in
    let size = l.size in
    let come : get_or qs v 0 ≡ length xs + 1 = get_or-set_same ps v (length xs + 1) 0 below in
    let rest : (w : ℕ) → w ≢ v → get_or qs w 0 ≡ get_or ps w 0 = λ w ne. get_or-set_other ps v w (length xs + 1) 0 ne in
    record {
      placed = λ k within. elim (cases_eq k (length xs)) [
        | inl e ↦ ap (λ (j : ℕ). get_or qs (get_or ys j 0) 0) e ∙ ap (λ (w : ℕ). get_or qs w 0) l.at_end ∙ come ∙ ap (λ (j : ℕ). j + 1) (sym e)
        | inr ne ↦
            let old : k < length xs = omega arith in
            let at = o.placed k old in
            let other : get_or xs k 0 ≢ v = λ e. let h : get_or ps (get_or xs k 0) 0 ≡ 0 = ap (λ (w : ℕ). get_or ps w 0) e ∙ none in omega arith in
            ap (λ (w : ℕ). get_or qs w 0) (l.front k old) ∙ rest (get_or xs k 0) other ∙ at
      ];
      within = λ w k at. elim (cases_eq w v) [
        | inl e ↦ let h : get_or qs w 0 ≡ length xs + 1 = ap (λ (u : ℕ). get_or qs u 0) e ∙ come in omega arith
        | inr ne ↦ let old : k < length xs = o.within w k (sym (rest w ne) ∙ at) in omega arith
      ];
      stands = λ w k at. elim (cases_eq w v) [
        | inl e ↦
            let h : get_or qs w 0 ≡ length xs + 1 = ap (λ (u : ℕ). get_or qs u 0) e ∙ come in
            let end : k ≡ length xs = omega arith in
            ap (λ (j : ℕ). get_or ys j 0) end ∙ l.at_end ∙ sym e
        | inr ne ↦
            let old = sym (rest w ne) ∙ at in
            l.front k (o.within w k old) ∙ o.stands w k old
      ];
    }

-- and each other variable has a place where it had one
pub pushed-others : (ps : List ℕ) (v n w : ℕ) → w ≢ v → (get_or ps w 0 ≡ 0) ↔ (get_or (set ps v n) w 0 ≡ 0)
pushed-others ps v n w ne =
    let same = get_or-set_other ps v w n 0 ne in
    (λ h. same ∙ h, λ h. sym same ∙ h)

-- all is in order but that the variable may have to move up
pub order-pushed : (activity xs : List ℕ) (v : ℕ) → IsOrdered activity xs → IsOrderedButUp activity (xs ++ v ∷ []) (length xs)
order-pushed activity xs v o =
    let ys = xs ++ v ∷ [] in
    let l : IsLonger ys xs v = longer ys xs v refl in
    let size = l.size in
    let f : ℕ → ℕ = active_at activity xs in
    let g : ℕ → ℕ = active_at activity ys in
    let same : (k : ℕ) → k < length xs → g k ≡ f k = λ k within. ap (λ (w : ℕ). get_or activity w 0) (l.front k within) in
    record {
      others = λ p c pc within ne.
          let gp : g p ≡ f p = same p (omega arith) in
          let gc : g c ≡ f c = same c (omega arith) in
          let h : f c ≤ f p = o p c pc (omega arith) in
          omega arith;
      around = λ p c pl lc within. absurd (omega arith);
    }

-- a variable set where it stands changes nothing
pub set-there : (xs : List ℕ) (k v : ℕ) → get_or xs k 0 ≡ v → set xs k v ≡ xs
set-there xs k v at = ap (λ (w : ℕ). set xs k w) (sym at) ∙ set-get_or xs k 0

-- other variables are as active as before
as-before : (before after xs ps : List ℕ) (v k j : ℕ) → IsInverse xs ps → IsRaised before after v → get_or xs k 0 ≡ v → k < length xs → j < length xs → j ≢ k →
    active_at after xs j ≡ active_at before xs j
as-before before after xs ps v k j o raised at within j_in ne =
    raised.others (get_or xs j 0) (λ e. ne (stands-once xs ps j k o j_in within (e ∙ sym at)))

-- all is in order but that the variable may have to move up
pub order-raised : (before after xs ps : List ℕ) (v k : ℕ) → IsInverse xs ps → IsRaised before after v → get_or xs k 0 ≡ v → k < length xs → IsOrdered before xs → IsOrderedButUp after xs k
order-raised before after xs ps v k o raised at within ordered =
    let f : ℕ → ℕ = active_at before xs in
    let g : ℕ → ℕ = active_at after xs in
    let same : (j : ℕ) → j < length xs → j ≢ k → g j ≡ f j = λ j j_in ne. as-before before after xs ps v k j o raised at within j_in ne in
    let grown : f k ≤ g k =
    let less = raised.raised in
    let was = ap (λ (w : ℕ). get_or before w 0) at in
    let is = ap (λ (w : ℕ). get_or after w 0) at in
    omega arith in
    record {
      others = λ p c pc c_in ne.
          let gc : g c ≡ f c = same c c_in ne in
          let h : f c ≤ f p = ordered p c pc c_in in
          elim (cases_eq p k) [
            | inl e ↦
                let fp : f p ≡ f k = ap f e in
                let gp : g p ≡ g k = ap g e in
                omega arith
            | inr other ↦ let gp : g p ≡ f p = same p (omega arith) other in omega arith
          ];
      around = λ p c pk kc c_in.
          let gc : g c ≡ f c = same c c_in (omega arith) in
          let gp : g p ≡ f p = same p (omega arith) (omega arith) in
          let h : f c ≤ f k = ordered k c kc c_in in
          let h2 : f k ≤ f p = ordered p k pk within in
          omega arith;
    }
