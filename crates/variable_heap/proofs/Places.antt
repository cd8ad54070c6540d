-- The places of the variables when one moves.
use Rattle.std.proofs.Common.{◌≡◌, ◌≢◌, ℕ, ◌+◌, ◌<◌, inl, inr, List, length, get_or, set, sym, ap, ◌∙◌, arith}
use Rattle.std.proofs.lemmas.Bool.{cases_eq, cases_lt}
use Rattle.std.proofs.lemmas.List.{length-set, get_or-set_same, get_or-set_other, get_or_past}
use Rattle.variable_heap.specs.Heaps.{IsInverse, HaveSamePlaced}
use Rattle.variable_heap.proofs.Exchanges.{IsExchange, moved}

-- a variable that has a place is below the number of places
pub placed-below : (ps : List ℕ) (v k : ℕ) → get_or ps v 0 ≡ k + 1 → v < length ps
placed-below ps v k at = elim (cases_lt v (length ps)) [
  | inl below ↦ below
  | inr past ↦ let none : get_or ps v 0 ≡ 0 = get_or_past ps v 0 past in omega arith
]

-- each variable stands once
pub stands-once : (xs ps : List ℕ) (i j : ℕ) → IsInverse xs ps → i < length xs → j < length xs → get_or xs i 0 ≡ get_or xs j 0 → i ≡ j
stands-once xs ps i j inverse i_in j_in same =
    let at_i = inverse.placed i i_in in
    let at_j = inverse.placed j j_in in
    let e : get_or ps (get_or xs i 0) 0 ≡ get_or ps (get_or xs j 0) 0 = ap (λ (v : ℕ). get_or ps v 0) same in
    omega arith

pub inverse-exchange : (xs ys ps qs : List ℕ) (i j : ℕ) → length ys ≡ length xs → IsExchange (λ k. get_or xs k 0) (λ k. get_or ys k 0) i j → i < length xs →
    j < length xs → get_or qs (get_or xs j 0) 0 ≡ i + 1 → get_or qs (get_or xs i 0) 0 ≡ j + 1 →
    ((v : ℕ) → v ≢ get_or xs i 0 → v ≢ get_or xs j 0 → get_or qs v 0 ≡ get_or ps v 0) → IsInverse xs ps → IsInverse ys qs
inverse-exchange xs ys ps qs i j size e i_in j_in low high rest o = record {
  placed = λ k k_in. elim (cases_eq k i) [
    | inl ki ↦ ap (λ (k : ℕ). get_or qs (get_or ys k 0) 0) ki ∙ ap (λ (v : ℕ). get_or qs v 0) e.low ∙ low ∙ ap (λ (k : ℕ). k + 1) (sym ki)
    | inr ki ↦ elim (cases_eq k j) [
      | inl kj ↦ ap (λ (k : ℕ). get_or qs (get_or ys k 0) 0) kj ∙ ap (λ (v : ℕ). get_or qs v 0) e.high ∙ high ∙ ap (λ (k : ℕ). k + 1) (sym kj)
      | inr kj ↦
          let k_old : k < length xs = omega arith in
          ap (λ (v : ℕ). get_or qs v 0) (e.rest k ki kj) ∙ rest (get_or xs k 0) (λ s. ki (stands-once xs ps k i o k_old i_in s)) (λ s. kj (stands-once xs ps k j o k_old j_in s)) ∙ o.placed k k_old
    ]
  ];
  within = λ v k at. elim (cases_eq v (get_or xs i 0)) [
    | inl vi ↦ let h : get_or qs v 0 ≡ j + 1 = ap (λ (v : ℕ). get_or qs v 0) vi ∙ high in omega arith
    | inr vi ↦ elim (cases_eq v (get_or xs j 0)) [
      | inl vj ↦ let h : get_or qs v 0 ≡ i + 1 = ap (λ (v : ℕ). get_or qs v 0) vj ∙ low in omega arith
      | inr vj ↦ let h = o.within v k (sym (rest v vi vj) ∙ at) in omega arith
    ]
  ];
  stands = λ v k at. elim (cases_eq v (get_or xs i 0)) [
    | inl vi ↦
        let h : get_or qs v 0 ≡ j + 1 = ap (λ (v : ℕ). get_or qs v 0) vi ∙ high in
        let kj : k ≡ j = omega arith in
        ap (λ (k : ℕ). get_or ys k 0) kj ∙ e.high ∙ sym vi
    | inr vi ↦ elim (cases_eq v (get_or xs j 0)) [
      | inl vj ↦
          let h : get_or qs v 0 ≡ i + 1 = ap (λ (v : ℕ). get_or qs v 0) vj ∙ low in
          let ki : k ≡ i = omega arith in
          ap (λ (k : ℕ). get_or ys k 0) ki ∙ e.low ∙ sym vj
      | inr vj ↦
          let old = sym (rest v vi vj) ∙ at in
          let here : get_or xs k 0 ≡ v = o.stands v k old in
          e.rest k (λ s. vi (sym here ∙ ap (λ (k : ℕ). get_or xs k 0) s)) (λ s. vj (sym here ∙ ap (λ (k : ℕ). get_or xs k 0) s)) ∙ here
    ]
  ];
}

-- a variable that is set at a place has one itself
pub own-below : (vars places : List ℕ) (v i : ℕ) → i < length vars → IsInverse (set vars i v) (set places v (i + 1)) → v < length places
own-below vars places v i i_in inverse =
    let xs = set vars i v in
    let ps = set places v (i + 1) in
    let size : length xs ≡ length vars = length-set vars i v in
    let count : length ps ≡ length places = length-set places v (i + 1) in
    let here : get_or xs i 0 ≡ v = get_or-set_same vars i v 0 i_in in
    let at : get_or ps v 0 ≡ i + 1 = ap (λ (w : ℕ). get_or ps w 0) (sym here) ∙ inverse.placed i (omega arith) in
    let below : v < length ps = placed-below ps v i at in
    omega arith

-- a variable moves from one place to another, whose variable moves to the first
pub record IsMove (vars places : List ℕ) (v i j : ℕ) : Type 0 where
  pub from_in : i < length vars
  pub to_in : j < length vars
  pub apart : j ≢ i
  pub inverse : IsInverse (set vars i v) (set places v (i + 1))

-- what then stands there
abbrev pub moved_vars : List ℕ → ℕ → ℕ → ℕ → List ℕ
moved_vars vars v i j = set (set vars i (get_or vars j 0)) j v

-- and the places
abbrev pub moved_places : List ℕ → List ℕ → ℕ → ℕ → ℕ → List ℕ
moved_places vars places v i j = set (set places (get_or vars j 0) (i + 1)) v (j + 1)

-- the variable that gives way is another one, and has a place
pub record GivesWay (vars places : List ℕ) (v i j : ℕ) : Type 0 where
  pub here : get_or (set vars i v) i 0 ≡ v
  pub there : get_or (set vars i v) j 0 ≡ get_or vars j 0
  pub other : get_or vars j 0 ≢ v
  pub own_below : v < length places
  pub other_below : get_or vars j 0 < length places
  pub other_at : get_or places (get_or vars j 0) 0 ≡ j + 1

pub gives-way : (vars places : List ℕ) (v i j : ℕ) → IsMove vars places v i j → GivesWay vars places v i j
gives-way vars places v i j m =
    let xs = set vars i v in
    let ps = set places v (i + 1) in
    let size : length xs ≡ length vars = length-set vars i v in
    let count : length ps ≡ length places = length-set places v (i + 1) in
    let here : get_or xs i 0 ≡ v = get_or-set_same vars i v 0 m.from_in in
    let there : get_or xs j 0 ≡ get_or vars j 0 = get_or-set_other vars i j v 0 m.apart in
    let from_in = m.from_in in
    let to_in = m.to_in in
    let other : get_or vars j 0 ≢ v = λ e. m.apart (stands-once xs ps j i m.inverse (omega arith) (omega arith) (there ∙ e ∙ sym here)) in
    let other_in : get_or ps (get_or vars j 0) 0 ≡ j + 1 = ap (λ (w : ℕ). get_or ps w 0) (sym there) ∙ m.inverse.placed j (omega arith) in
    let other_below : get_or vars j 0 < length ps = placed-below ps (get_or vars j 0) j other_in in
    record {
      here = here;
      there = there;
      other = other;
      own_below = own-below vars places v i m.from_in m.inverse;
      other_below = omega arith;
      other_at = sym (get_or-set_other places v (get_or vars j 0) (i + 1) 0 other) ∙ other_in;
    }

-- the new place of the variable that gives way, that of the one that moves, and of each other one
pub record ArePlacedAfter (vars places : List ℕ) (v i j : ℕ) : Type 0 where
  pub gone : get_or (moved_places vars places v i j) (get_or vars j 0) 0 ≡ i + 1
  pub come : get_or (moved_places vars places v i j) v 0 ≡ j + 1
  pub rest : (w : ℕ) → w ≢ v → w ≢ get_or vars j 0 → get_or (moved_places vars places v i j) w 0 ≡ get_or places w 0

placed-after : (vars places : List ℕ) (v i j : ℕ) → GivesWay vars places v i j → ArePlacedAfter vars places v i j
placed-after vars places v i j g =
    let other : ℕ = get_or vars j 0 in
    let ps = set places other (i + 1) in
    let count : length ps ≡ length places = length-set places other (i + 1) in
    let own_below = g.own_below in
    record {
      gone = get_or-set_other ps v other (j + 1) 0 g.other ∙ get_or-set_same places other (i + 1) 0 g.other_below;
      come = get_or-set_same ps v (j + 1) 0 (omega arith);
      rest = λ w own gone. get_or-set_other ps v w (j + 1) 0 own ∙ get_or-set_other places other w (i + 1) 0 gone;
    }

-- the places stay the inverse
pub inverse-moved : (vars places : List ℕ) (v i j : ℕ) → IsMove vars places v i j → IsInverse (moved_vars vars v i j) (moved_places vars places v i j)
inverse-moved vars places v i j m =
    let xs = set vars i v in
    let ps = set places v (i + 1) in
    let qs = moved_places vars places v i j in
    let g = gives-way vars places v i j m in
    let after = placed-after vars places v i j g in
    let size : length xs ≡ length vars = length-set vars i v in
    let size2 : length (set vars i (get_or vars j 0)) ≡ length vars = length-set vars i (get_or vars j 0) in
    let size3 : length (moved_vars vars v i j) ≡ length (set vars i (get_or vars j 0)) = length-set (set vars i (get_or vars j 0)) j v in
    let from_in = m.from_in in
    let to_in = m.to_in in
    inverse-exchange xs (moved_vars vars v i j) ps qs i j (omega arith) (moved vars i j v m.from_in m.to_in m.apart) (omega arith) (omega arith)
    (ap (λ (w : ℕ). get_or qs w 0) g.there ∙ after.gone)
    (ap (λ (w : ℕ). get_or qs w 0) g.here ∙ after.come)
    (λ w own gone. let own2 : w ≢ v = λ e. own (e ∙ sym g.here) in after.rest w own2 (λ e. gone (e ∙ sym g.there)) ∙ sym (get_or-set_other places v w (i + 1) 0 own2))
    m.inverse

-- and the same variables have one
pub same-moved : (vars places : List ℕ) (v i j : ℕ) → IsMove vars places v i j → HaveSamePlaced (set places v (i + 1)) (moved_places vars places v i j)
same-moved vars places v i j m w =
    let g = gives-way vars places v i j m in
    let after = placed-after vars places v i j g in
    let ps = set places v (i + 1) in
    let qs = moved_places vars places v i j in
    elim (cases_eq w v) [
      | inl own ↦
          let p : get_or ps w 0 ≡ i + 1 = ap (λ (u : ℕ). get_or ps u 0) own ∙ get_or-set_same places v (i + 1) 0 g.own_below in
          let q : get_or qs w 0 ≡ j + 1 = ap (λ (u : ℕ). get_or qs u 0) own ∙ after.come in
          (λ e. omega arith, λ e. omega arith)
      | inr own ↦ elim (cases_eq w (get_or vars j 0)) [
        | inl gone ↦
            let p : get_or ps w 0 ≡ j + 1 = get_or-set_other places v w (i + 1) 0 own ∙ ap (λ (u : ℕ). get_or places u 0) gone ∙ g.other_at in
            let q : get_or qs w 0 ≡ i + 1 = ap (λ (u : ℕ). get_or qs u 0) gone ∙ after.gone in
            (λ e. omega arith, λ e. omega arith)
        | inr gone ↦
            let p : get_or ps w 0 ≡ get_or places w 0 = get_or-set_other places v w (i + 1) 0 own in
            let q : get_or qs w 0 ≡ get_or places w 0 = after.rest w own gone in
            (λ e. q ∙ sym p ∙ e, λ e. p ∙ sym q ∙ e)
      ]
    ]
