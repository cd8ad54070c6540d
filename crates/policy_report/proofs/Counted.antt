-- Items that are written one a line, after a count of them.
use Rattle.std.proofs.Common.{◌≡◌, ℕ, ◌-◌, ◌<◌, ◌≤◌, max, List, [], ◌∷◌, ◌++◌, length, map, refl, ap, ap₂, sym, ◌∙◌, arith, All, append_assoc, ◌⊎◌, inl, inr}
use Rattle.std.proofs.lemmas.List.Elements.{All-nil, All-cons, All-head, All-tail}

module _ {X : Type 0} (text : X → List ℕ) (P : X → Type 0) where
  -- after the items so far these lines hold as many as are left, at least one, and make them all
  pub record Items (left : ℕ) (done all : List X) (front : List (List ℕ)) : Type 0 where
    pub more : List X
    pub whole : all ≡ done ++ more
    pub size : length more ≡ max left 1
    pub told : front ≡ map text more
    pub fit : All P more

  -- there is at least one
  pub no_items : (left : ℕ) (done all : List X) → Items left done all [] → ⊥
  no_items left done all items = go items.more items.size items.told
    where
      go : (more : List X) → length more ≡ max left 1 → [] ≡ map text more → ⊥
      go [] size told = absurd (omega arith)
      go (x ∷ more) size told = cc

  -- the first of the lines holds an item, which is the last one or is followed by others
  pub record First (left : ℕ) (done all : List X) (t : List ℕ) (f : List (List ℕ)) : Type 0 where
    pub item : X
    pub told : t ≡ text item
    pub fits : P item
    pub rest : ((left ≤ 1) × (all ≡ done ++ item ∷ []) × (f ≡ [])) ⊎ ((1 < left) × Items (left - 1) (done ++ item ∷ []) all f)

  -- the first line of such lines holds one
  pub first_item : (left : ℕ) (done all : List X) (t : List ℕ) (f : List (List ℕ)) → Items left done all (t ∷ f) → First left done all t f
  first_item left done all t f items = go items.more items.whole items.size items.told items.fit
    where
      go : (more : List X) → all ≡ done ++ more → length more ≡ max left 1 → t ∷ f ≡ map text more → All P more → First left done all t f
      go [] whole size told fit = absurd (omega arith)
      go (x ∷ []) whole size told fit =
          let one : left ≤ 1 = omega arith in
          record { item = x; told = cc; fits = All-head P x [] fit; rest = inl (one, whole, cc) }
      go (x ∷ y ∷ more) whole size told fit =
          let several : 1 < left = omega arith in
          let rest : Items (left - 1) (done ++ x ∷ []) all f =
          record {
            more = y ∷ more;
            whole = whole ∙ sym (append_assoc done (x ∷ []) (y ∷ more));
            size = omega arith;
            told = cc;
            fit = All-tail P x (y ∷ more) fit;
          } in
          record { item = x; told = cc; fits = All-head P x (y ∷ more) fit; rest = inr (several, rest) }

  -- and one line more before such lines, or alone, makes such lines
  pub last_item : (left : ℕ) (done : List X) (x : X) (t : List ℕ) → left ≤ 1 → t ≡ text x → P x → Items left done (done ++ x ∷ []) (t ∷ [])
  last_item left done x t one told fits =
      record { more = x ∷ []; whole = refl; size = omega arith; told = ap (λ u. u ∷ []) told; fit = All-cons P x [] fits (All-nil P) }

  pub next_item : (left : ℕ) (done all : List X) (x : X) (t : List ℕ) (f : List (List ℕ)) →
      1 < left → t ≡ text x → P x → Items (left - 1) (done ++ x ∷ []) all f → Items left done all (t ∷ f)
  next_item left done all x t f several told fits rest =
      let size = rest.size in
      record {
        more = x ∷ rest.more;
        whole = rest.whole ∙ append_assoc done (x ∷ []) rest.more;
        size = omega arith;
        told = ap₂ (λ u us. u ∷ us) told rest.told;
        fit = All-cons P x rest.more fits rest.fit;
      }
