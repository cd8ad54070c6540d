-- The order of a heap when a variable moves by one place.
use Rattle.std.proofs.Common.{◌≡◌, ◌≢◌, ℕ, ◌<◌, ◌≤◌, ◌↔◌, inl, inr, Bool, false, IsTrue, List, length, get_or, set, ap, ◌∙◌, arith}
use Rattle.std.proofs.lemmas.Bool.{cases_eq, cases_lt, both_ways}
use Rattle.std.proofs.lemmas.List.{length-set, get_or-set_other}
use Rattle.variable_heap.specs.Heaps.{ComesBefore, active_at, IsAbove, IsOrderedButUp, IsOrderedButDown, IsFirstBelow}
use Rattle.variable_heap.proofs.Exchanges.{IsExchange}

-- what comes before another variable is not less active
pub not-less : (activity : List ℕ) (one other : ℕ) → ComesBefore activity one other → get_or activity other 0 ≤ get_or activity one 0
not-less activity one other before = elim before [
  | inl more ↦ omega arith
  | inr same ↦ omega arith
]

-- and what does not is not more active
pub not-more : (activity : List ℕ) (one other : ℕ) (b : Bool) → (IsTrue b ↔ ComesBefore activity one other) → b ≡ false → get_or activity one 0 ≤ get_or activity other 0
not-more activity one other b tells is = elim (cases_lt (get_or activity other 0) (get_or activity one 0)) [
  | inl more ↦ absurd (both_ways b is (tells.1 (inl more)))
  | inr less ↦ less
]

-- the first below a place is so whatever stands at the place
pub first-set : (activity vars : List ℕ) (v i j : ℕ) → IsFirstBelow activity vars i j → IsFirstBelow activity (set vars i v) i j
first-set activity vars v i j first =
    let size : length (set vars i v) ≡ length vars = length-set vars i v in
    let f : ℕ → ℕ = active_at activity vars in
    let g : ℕ → ℕ = active_at activity (set vars i v) in
    let below = first.below in
    let within = first.within in
    let same : (k : ℕ) → k ≢ i → g k ≡ f k = λ k apart. ap (λ (w : ℕ). get_or activity w 0) (get_or-set_other vars i k v 0 apart) in
    record {
      below = first.below;
      within = omega arith;
      most = λ o under o_in.
          let h : f o ≤ f j = first.most o under (omega arith) in
          let go : g o ≡ f o = same o (omega arith) in
          let gj : g j ≡ f j = same j (omega arith) in
          omega arith;
    }

up-others : (f g : ℕ → ℕ) (n i j : ℕ) → IsExchange f g i j → IsAbove j i → f j ≤ f i → ((p c : ℕ) → IsAbove p c → c < n → c ≢ i → f c ≤ f p) →
    ((p c : ℕ) → IsAbove p i → IsAbove i c → c < n → f c ≤ f p) → (p c : ℕ) → IsAbove p c → c < n → c ≢ j → g c ≤ g p
up-others f g n i j e ji more others around p c pc within apart = elim (cases_eq c i) [
  | inl ci ↦
      let pj : p ≡ j = omega arith in
      let gc : g c ≡ f j = ap g ci ∙ e.low in
      let gp : g p ≡ f i = ap g pj ∙ e.high in
      omega arith
  | inr ci ↦
      let gc : g c ≡ f c = e.rest c ci apart in
      elim (cases_eq p j) [
        | inl pj ↦
            let gp : g p ≡ f i = ap g pj ∙ e.high in
            let fp : f p ≡ f j = ap f pj in
            let h : f c ≤ f p = others p c pc within ci in
            omega arith
        | inr pj ↦ elim (cases_eq p i) [
          | inl pi ↦
              let gp : g p ≡ f j = ap g pi ∙ e.low in
              let h : f c ≤ f j = around j c ji (omega arith, omega arith) within in
              omega arith
          | inr pi ↦
              let gp : g p ≡ f p = e.rest p pi pj in
              let h : f c ≤ f p = others p c pc within ci in
              omega arith
        ]
      ]
]

up-around : (f g : ℕ → ℕ) (n i j : ℕ) → IsExchange f g i j → IsAbove j i → i < n → ((p c : ℕ) → IsAbove p c → c < n → c ≢ i → f c ≤ f p) → (p c : ℕ) → IsAbove p j → IsAbove j c → c < n → g c ≤ g p
up-around f g n i j e ji inside others p c pj jc within =
    let gp : g p ≡ f p = e.rest p (omega arith) (omega arith) in
    let h : f j ≤ f p = others p j pj (omega arith) (omega arith) in
    elim (cases_eq c i) [
      | inl ci ↦
          let gc : g c ≡ f j = ap g ci ∙ e.low in
          omega arith
      | inr ci ↦
          let gc : g c ≡ f c = e.rest c ci (omega arith) in
          let k : f c ≤ f j = others j c jc within ci in
          omega arith
    ]

-- where a variable is at least as active as the one above it, it moves up
pub order-up : (activity xs ys : List ℕ) (i j : ℕ) → length ys ≡ length xs → IsExchange (active_at activity xs) (active_at activity ys) i j → IsAbove j i →
    i < length xs → active_at activity xs j ≤ active_at activity xs i → IsOrderedButUp activity xs i → IsOrderedButUp activity ys j
order-up activity xs ys i j size e ji inside more o =
    let f : ℕ → ℕ = active_at activity xs in
    let g : ℕ → ℕ = active_at activity ys in
    record {
      others = λ p c pc within apart. up-others f g (length xs) i j e ji more o.others o.around p c pc (omega arith) apart;
      around = λ p c pj jc within. up-around f g (length xs) i j e ji inside o.others p c pj jc (omega arith);
    }

down-others : (f g : ℕ → ℕ) (n i j : ℕ) → IsExchange f g i j → IsAbove i j → f i ≤ f j → ((c : ℕ) → IsAbove i c → c < n → f c ≤ f j) →
    ((p c : ℕ) → IsAbove p c → c < n → p ≢ i → f c ≤ f p) → ((p c : ℕ) → IsAbove p i → IsAbove i c → c < n → f c ≤ f p) → j < n → (p c : ℕ) → IsAbove p c → c < n → p ≢ j → g c ≤ g p
down-others f g n i j e ij more most others around inside p c pc within apart = elim (cases_eq p i) [
  | inl pi ↦
      let gp : g p ≡ f j = ap g pi ∙ e.low in
      elim (cases_eq c j) [
        | inl cj ↦
            let gc : g c ≡ f i = ap g cj ∙ e.high in
            omega arith
        | inr cj ↦
            let gc : g c ≡ f c = e.rest c (omega arith) cj in
            let h : f c ≤ f j = most c (omega arith, omega arith) within in
            omega arith
      ]
  | inr pi ↦
      let gp : g p ≡ f p = e.rest p pi apart in
      elim (cases_eq c i) [
        | inl ci ↦
            let gc : g c ≡ f j = ap g ci ∙ e.low in
            let h : f j ≤ f p = around p j (omega arith, omega arith) ij inside in
            omega arith
        | inr ci ↦
            let gc : g c ≡ f c = e.rest c ci (omega arith) in
            let h : f c ≤ f p = others p c pc within pi in
            omega arith
      ]
]

down-around : (f g : ℕ → ℕ) (n i j : ℕ) → IsExchange f g i j → IsAbove i j → ((p c : ℕ) → IsAbove p c → c < n → p ≢ i → f c ≤ f p) → (p c : ℕ) → IsAbove p j → IsAbove j c → c < n → g c ≤ g p
down-around f g n i j e ij others p c pj jc within =
    let pi : p ≡ i = omega arith in
    let gp : g p ≡ f j = ap g pi ∙ e.low in
    let gc : g c ≡ f c = e.rest c (omega arith) (omega arith) in
    let h : f c ≤ f j = others j c jc within (omega arith) in
    omega arith

-- where a variable is at most as active as the first below it, it moves down
pub order-down : (activity xs ys : List ℕ) (i j : ℕ) → length ys ≡ length xs → IsExchange (active_at activity xs) (active_at activity ys) i j →
    IsFirstBelow activity xs i j → active_at activity xs i ≤ active_at activity xs j → IsOrderedButDown activity xs i → IsOrderedButDown activity ys j
order-down activity xs ys i j size e first more o =
    let f : ℕ → ℕ = active_at activity xs in
    let g : ℕ → ℕ = active_at activity ys in
    record {
      others = λ p c pc within apart. down-others f g (length xs) i j e first.below more first.most o.others o.around first.within p c pc (omega arith) apart;
      around = λ p c pj jc within. down-around f g (length xs) i j e first.below o.others p c pj jc (omega arith);
    }
