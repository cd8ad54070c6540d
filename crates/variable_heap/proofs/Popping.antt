-- The first variable leaves a heap, and the last one is set in its place.
use Rattle.std.proofs.Common.{◌≡◌, ◌≢◌, ℕ, zero, suc, ◌+◌, ◌-◌, ◌/◌, ◌<◌, ◌≤◌, ◌↔◌, ◌∷◌, ◌++◌, [], inl, inr, List, length, get_or, set, All, refl, sym, ap, ◌∙◌, arith}
use Rattle.std.proofs.lemmas.Bool.{cases_eq}
use Rattle.std.proofs.lemmas.List.{length_push, length-set, get_or-set_same, get_or-set_other, get_or_append_left, get_or_push, get_or_default}
use Rattle.variable_heap.specs.Heaps.{active_at, IsInverse, IsOrdered, IsOrderedButDown}
use Rattle.variable_heap.proofs.Places.{placed-below, stands-once}

-- the variable at the top is one of the most active
top-most : (activity xs : List ℕ) → IsOrdered activity xs → (n k : ℕ) → k ≤ n → k < length xs → active_at activity xs k ≤ active_at activity xs 0
top-most activity xs o zero k le within =
    let f : ℕ → ℕ = active_at activity xs in
    let k0 : k ≡ 0 = omega arith in
    let fk : f k ≡ f 0 = ap f k0 in
    omega arith
top-most activity xs o (suc n) k le within = elim (cases_eq k 0) [
  | inl k0 ↦
      let f : ℕ → ℕ = active_at activity xs in
      let fk : f k ≡ f 0 = ap f k0 in
      omega arith
  | inr risen ↦
      let f : ℕ → ℕ = active_at activity xs in
      let p : ℕ = (k - 1) / 2 in
      let up : f p ≤ f 0 = top-most activity xs o n p (omega arith) (omega arith) in
      let h : f k ≤ f p = o p k (omega arith, omega arith) within in
      omega arith
]

pub most-at-top : (activity xs : List ℕ) → IsOrdered activity xs → All (λ w. get_or activity w 0 ≤ get_or activity (get_or xs 0 0) 0) xs
most-at-top activity xs o k d within =
    let same : get_or activity (get_or xs k d) 0 ≡ get_or activity (get_or xs k 0) 0 = ap (λ (w : ℕ). get_or activity w 0) (get_or_default xs k d 0 within) in
    let most : active_at activity xs k ≤ active_at activity xs 0 = top-most activity xs o k k (omega arith) within in
    omega arith

-- a list is another with one variable more at its end
pub record IsLonger (xs ys : List ℕ) (last : ℕ) : Type 0 where
  pub size : length xs ≡ length ys + 1
  pub front : (k : ℕ) → k < length ys → get_or xs k 0 ≡ get_or ys k 0
  pub at_end : get_or xs (length ys) 0 ≡ last

pub longer : (xs ys : List ℕ) (last : ℕ) → xs ≡ ys ++ last ∷ [] → IsLonger xs ys last
longer xs ys last is = record {
  size = ap length is ∙ length_push ys last;
  front = λ k within. ap (λ (zs : List ℕ). get_or zs k 0) is ∙ get_or_append_left ys (last ∷ []) 0 k within;
  at_end = ap (λ (zs : List ℕ). get_or zs (length ys) 0) is ∙ get_or_push ys last 0 (length ys) refl;
}

-- the places without the first variable's, with the last one at the top
abbrev pub popped_places : List ℕ → List ℕ → ℕ → List ℕ
popped_places ys ps last = set (set ps (get_or ys 0 0) 0) last 1

-- what the places then are: the last variable's, the first one's, and each other one's
pub record ArePopped (ys ps : List ℕ) (last : ℕ) : Type 0 where
  pub last_at : get_or ps last 0 ≡ length ys + 1
  pub apart : get_or ys 0 0 ≢ last
  pub come : get_or (popped_places ys ps last) last 0 ≡ 1
  pub gone : get_or (popped_places ys ps last) (get_or ys 0 0) 0 ≡ 0
  pub rest : (w : ℕ) → w ≢ last → w ≢ get_or ys 0 0 → get_or (popped_places ys ps last) w 0 ≡ get_or ps w 0

pub popped : (xs ys ps : List ℕ) (last : ℕ) → IsLonger xs ys last → 0 < length ys → IsInverse xs ps → ArePopped ys ps last
popped xs ys ps last l some o =
    let size = l.size in
    let first : ℕ = get_or ys 0 0 in
    let first_at : get_or ps first 0 ≡ 0 + 1 = ap (λ (w : ℕ). get_or ps w 0) (sym (l.front 0 some)) ∙ o.placed 0 (omega arith) in
    let last_at : get_or ps last 0 ≡ length ys + 1 = ap (λ (w : ℕ). get_or ps w 0) (sym l.at_end) ∙ o.placed (length ys) (omega arith) in
    let first_in : first < length ps = placed-below ps first 0 first_at in
    let last_in : last < length ps = placed-below ps last (length ys) last_at in
    let cut = set ps first 0 in
    let cut_size : length cut ≡ length ps = length-set ps first 0 in
    let apart : first ≢ last = λ e. let same : get_or ps first 0 ≡ get_or ps last 0 = ap (λ (w : ℕ). get_or ps w 0) e in omega arith in
    record {
      last_at = last_at;
      apart = apart;
      come = get_or-set_same cut last 1 0 (omega arith);
      gone = get_or-set_other cut last first 1 0 apart ∙ get_or-set_same ps first 0 0 first_in;
      rest = λ w from_last from_first. get_or-set_other cut last w 1 0 from_last ∙ get_or-set_other ps first w 0 0 from_first;
    }

-- each other variable has a place where it had one
pub popped-others : (ys ps : List ℕ) (last : ℕ) → ArePopped ys ps last → (w : ℕ) → w ≢ get_or ys 0 0 → (get_or ps w 0 ≡ 0) ↔ (get_or (popped_places ys ps last) w 0 ≡ 0)
popped-others ys ps last p w from_first = elim (cases_eq w last) [
  | inl e ↦
      let old : get_or ps w 0 ≡ length ys + 1 = ap (λ (u : ℕ). get_or ps u 0) e ∙ p.last_at in
      let new : get_or (popped_places ys ps last) w 0 ≡ 1 = ap (λ (u : ℕ). get_or (popped_places ys ps last) u 0) e ∙ p.come in
      (λ h. absurd (omega arith), λ h. absurd (omega arith))
  | inr from_last ↦
      let same = p.rest w from_last from_first in
      (λ h. same ∙ h, λ h. sym same ∙ h)
]

popped-at : (xs ys ps : List ℕ) (last k : ℕ) → IsLonger xs ys last → IsInverse xs ps → ArePopped ys ps last → k ≢ 0 → k < length ys →
    get_or (popped_places ys ps last) (get_or (set ys 0 last) k 0) 0 ≡ k + 1
popped-at xs ys ps last k l o p under within =
    let size = l.size in
    let qs = popped_places ys ps last in
    let here : get_or xs k 0 ≡ get_or ys k 0 = l.front k within in
    let not_last : get_or ys k 0 ≢ last = λ e. let same : k ≡ length ys = stands-once xs ps k (length ys) o (omega arith) (omega arith) (here ∙ e ∙ sym l.at_end) in omega arith in
    let not_first : get_or ys k 0 ≢ get_or ys 0 0 = λ e. under (stands-once xs ps k 0 o (omega arith) (omega arith) (here ∙ e ∙ sym (l.front 0 (omega arith)))) in
    ap (λ (w : ℕ). get_or qs w 0) (get_or-set_other ys 0 k last 0 under) ∙ p.rest (get_or ys k 0) not_last not_first ∙ ap (λ (w : ℕ). get_or ps w 0) (sym here) ∙ o.placed k (omega arith)

-- where a variable that is neither the first nor the last stands
pub record StaysAt (ys : List ℕ) (v k : ℕ) : Type 0 where
  pub under : k ≢ 0
  pub within : k < length ys
  pub here : get_or ys k 0 ≡ v

stays-at : (xs ys ps : List ℕ) (last v k : ℕ) → IsLonger xs ys last → 0 < length ys → IsInverse xs ps → ArePopped ys ps last → v ≢ last → get_or (popped_places ys ps last) v 0 ≡ k + 1 → StaysAt ys v k
stays-at xs ys ps last v k l some o p from_last at =
    let size = l.size in
    let qs = popped_places ys ps last in
    let from_first : v ≢ get_or ys 0 0 = λ e. let none : get_or qs v 0 ≡ 0 = ap (λ (w : ℕ). get_or qs w 0) e ∙ p.gone in omega arith in
    let old : get_or ps v 0 ≡ k + 1 = sym (p.rest v from_last from_first) ∙ at in
    let old_in : k < length xs = o.within v k old in
    let stands : get_or xs k 0 ≡ v = o.stands v k old in
    let not_end : k ≢ length ys = λ e. from_last (sym stands ∙ ap (λ (j : ℕ). get_or xs j 0) e ∙ l.at_end) in
    let within : k < length ys = omega arith in
    let under : k ≢ 0 = λ e. from_first (sym stands ∙ ap (λ (j : ℕ). get_or xs j 0) e ∙ l.front 0 some) in
    record {
      under = under;
      within = within;
      here = sym (l.front k within) ∙ stands;
    }

-- the places are those of the variables then
pub inverse-popped : (xs ys ps : List ℕ) (last : ℕ) → IsLonger xs ys last → 0 < length ys → IsInverse xs ps → IsInverse (set ys 0 last) (popped_places ys ps last)
inverse-popped xs ys ps last l some o =
    let p = popped xs ys ps last l some o in
    let qs = popped_places ys ps last in
    let size : length (set ys 0 last) ≡ length ys = length-set ys 0 last in
    let top : get_or (set ys 0 last) 0 0 ≡ last = get_or-set_same ys 0 last 0 some in
    record {
      placed = λ k within. elim (cases_eq k 0) [
        | inl e ↦ ap (λ (j : ℕ). get_or qs (get_or (set ys 0 last) j 0) 0) e ∙ ap (λ (w : ℕ). get_or qs w 0) top ∙ p.come ∙ ap (λ (j : ℕ). j + 1) (sym e)
        | inr under ↦ popped-at xs ys ps last k l o p under (omega arith)
      ];
      within = λ v k at. elim (cases_eq v last) [
        | inl e ↦ let h : get_or qs v 0 ≡ 1 = ap (λ (w : ℕ). get_or qs w 0) e ∙ p.come in omega arith
        | inr ne ↦ let stays = stays-at xs ys ps last v k l some o p ne at in let within = stays.within in omega arith
      ];
      stands = λ v k at. elim (cases_eq v last) [
        | inl e ↦
            let h : get_or qs v 0 ≡ 1 = ap (λ (w : ℕ). get_or qs w 0) e ∙ p.come in
            let k0 : k ≡ 0 = omega arith in
            ap (λ (j : ℕ). get_or (set ys 0 last) j 0) k0 ∙ top ∙ sym e
        | inr ne ↦ let stays = stays-at xs ys ps last v k l some o p ne at in get_or-set_other ys 0 k last 0 stays.under ∙ stays.here
      ];
    }

-- all is in order but what is below the top
pub order-popped : (activity xs ys : List ℕ) (last : ℕ) → IsLonger xs ys last → IsOrdered activity xs → IsOrderedButDown activity (set ys 0 last) 0
order-popped activity xs ys last l o =
    let size = l.size in
    let size2 : length (set ys 0 last) ≡ length ys = length-set ys 0 last in
    let f : ℕ → ℕ = active_at activity xs in
    let g : ℕ → ℕ = active_at activity (set ys 0 last) in
    let same : (k : ℕ) → k ≢ 0 → k < length ys → g k ≡ f k = λ k under within. ap (λ (w : ℕ). get_or activity w 0) (get_or-set_other ys 0 k last 0 under ∙ sym (l.front k within)) in
    record {
      others = λ p c pc within under.
          let gp : g p ≡ f p = same p under (omega arith) in
          let gc : g c ≡ f c = same c (omega arith) (omega arith) in
          let h : f c ≤ f p = o p c pc (omega arith) in
          omega arith;
      around = λ p c top pc within. absurd (omega arith);
    }

-- where the first variable was alone, none has a place then
pub inverse-last : (xs ys ps : List ℕ) (last : ℕ) → IsLonger xs ys last → length ys ≡ 0 → IsInverse xs ps → IsInverse ys (set ps last 0)
inverse-last xs ys ps last l none o =
    let size = l.size in
    let last_at : get_or ps last 0 ≡ length ys + 1 = ap (λ (w : ℕ). get_or ps w 0) (sym l.at_end) ∙ o.placed (length ys) (omega arith) in
    let last_in : last < length ps = placed-below ps last (length ys) last_at in
    let lost : (v k : ℕ) → get_or (set ps last 0) v 0 ≡ k + 1 → ⊥ = λ v k at. elim (cases_eq v last) [
      | inl e ↦ let h : get_or (set ps last 0) v 0 ≡ 0 = ap (λ (w : ℕ). get_or (set ps last 0) w 0) e ∙ get_or-set_same ps last 0 0 last_in in omega arith
      | inr ne ↦
          let old : get_or ps v 0 ≡ k + 1 = sym (get_or-set_other ps last v 0 0 ne) ∙ at in
          let old_in : k < length xs = o.within v k old in
          let end : k ≡ length ys = omega arith in
          ne (sym (o.stands v k old) ∙ ap (λ (j : ℕ). get_or xs j 0) end ∙ l.at_end)
    ] in
    record {
      placed = λ k within. absurd (omega arith);
      within = λ v k at. absurd (lost v k at);
      stands = λ v k at. absurd (lost v k at);
    }
