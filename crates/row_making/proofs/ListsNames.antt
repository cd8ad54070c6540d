-- Names that are added to a set, which holds them by reference and in byte order.
use Rattle.std.proofs.Common.{◌≡◌, ℕ, ◌+◌, ◌<◌, ◌≤◌, ◌⊎◌, inl, inr, List, [], ◌∷◌, ◌++◌, length, get_or, take, refl, sym, ◌∙◌, ap, subst}
use Rattle.std.specs.Prelude.{Contains, AllPairs, Any, ◌↔◌}
use Rattle.std.specs.Cmp.Lexicographic.{slice_cmp}
use Rattle.std.specs.Ordering.{nat_cmp, match_ordering}
use Rattle.std.specs.declared.cmp.Ordering.{Ordering}
use Rattle.std.specs.declared.cmp.Ordering.TheVariants.{Less, Equal, Greater}
use Rattle.std.specs.List.Sorted.{IsStrictlySortedBy}
use Rattle.std.specs.BTreeSet.{insert_key}
use Rattle.std.proofs.lemmas.List.{take_all, append_assoc, append-nil}
use Rattle.std.proofs.lemmas.Map.Keys.{Less-from_sorted}
use Rattle.std.proofs.lemmas.Map.Lookups.{exact_bytes}
use denote.Ref.{Bor}
use Rattle.net_rules.specs.Ordered.{AreInOrder}
use Rattle.arc_base.specs.NameForms.{IsNameBefore, texts_at}
use Rattle.row_making.specs.ListTables.{Adds}
use Rattle.net_rules.proofs.Anys.{Any-none, Any-before, Any-now, Any-either}
use Rattle.arc_base.proofs.Items.{Contains-head, Contains-tail, Contains-cases, Contains-none, AllPairs-map}

abbrev pub text_order : Bor (List ℕ) → Bor (List ℕ) → Ordering
text_order x y = slice_cmp nat_cmp x.now y.now

-- nothing is added where all is there
pub adds_none : (P : List ℕ → Type 0) (ks : List (Bor (List ℕ))) → ((name : List ℕ) → P name → Contains (texts_at ks) name) → Adds P ks ks
adds_none P ks there name = (λ h. inl h, from)
  where
    from : Contains (texts_at ks) name ⊎ P name → Contains (texts_at ks) name
    from (inl h) = h
    from (inr p) = there name p

-- the same names, said otherwise
pub adds_same : (P Q : List ℕ → Type 0) (ks ls : List (Bor (List ℕ))) → ((name : List ℕ) → P name → Q name) → ((name : List ℕ) → Q name → P name) → Adds P ks ls → Adds Q ks ls
adds_same P Q ks ls along back adds name = (to, from)
  where
    to : Contains (texts_at ls) name → Contains (texts_at ks) name ⊎ Q name
    to h = elim ((adds name).0 h) [
      | inl old ↦ inl old
      | inr p ↦ inr (along name p)
    ]

    from : Contains (texts_at ks) name ⊎ Q name → Contains (texts_at ls) name
    from (inl old) = (adds name).1 (inl old)
    from (inr q) = (adds name).1 (inr (back name q))

-- one addition and then another
pub adds_then : (P Q : List ℕ → Type 0) (ks ls ms : List (Bor (List ℕ))) → Adds P ks ls → Adds Q ls ms → Adds (λ name. P name ⊎ Q name) ks ms
adds_then P Q ks ls ms first second name = (to, from)
  where
    middle : Contains (texts_at ls) name → Contains (texts_at ks) name ⊎ (P name ⊎ Q name)
    middle h = elim ((first name).0 h) [
      | inl old ↦ inl old
      | inr p ↦ inr (inl p)
    ]

    to : Contains (texts_at ms) name → Contains (texts_at ks) name ⊎ (P name ⊎ Q name)
    to h = elim ((second name).0 h) [
      | inl before ↦ middle before
      | inr q ↦ inr (inr q)
    ]

    from : Contains (texts_at ks) name ⊎ (P name ⊎ Q name) → Contains (texts_at ms) name
    from (inl old) = (second name).1 (inl ((first name).1 (inl old)))
    from (inr (inl p)) = (second name).1 (inl ((first name).1 (inr p)))
    from (inr (inr q)) = (second name).1 (inr q)

adds_head : (k : Bor (List ℕ)) (ks : List (Bor (List ℕ))) → Adds (λ name. k.now ≡ name) ks (k ∷ ks)
adds_head k ks name = (to, from)
  where
    to : Contains (texts_at (k ∷ ks)) name → Contains (texts_at ks) name ⊎ (k.now ≡ name)
    to h = elim (Contains-cases k.now name (texts_at ks) h) [
      | inl e ↦ inr e
      | inr later ↦ inl later
    ]

    from : Contains (texts_at ks) name ⊎ (k.now ≡ name) → Contains (texts_at (k ∷ ks)) name
    from (inl h) = Contains-tail k.now name (texts_at ks) h
    from (inr e) = subst (λ (n : List ℕ). Contains (k.now ∷ texts_at ks) n) e (Contains-head k.now (texts_at ks))

adds_under : (P : List ℕ → Type 0) (x : Bor (List ℕ)) (ks ls : List (Bor (List ℕ))) → Adds P ks ls → Adds P (x ∷ ks) (x ∷ ls)
adds_under P x ks ls adds name = (to, from)
  where
    rest : Contains (texts_at ls) name → Contains (texts_at (x ∷ ks)) name ⊎ P name
    rest h = elim ((adds name).0 h) [
      | inl old ↦ inl (Contains-tail x.now name (texts_at ks) old)
      | inr p ↦ inr p
    ]

    to : Contains (texts_at (x ∷ ls)) name → Contains (texts_at (x ∷ ks)) name ⊎ P name
    to h = elim (Contains-cases x.now name (texts_at ls) h) [
      | inl e ↦ inl (subst (λ (n : List ℕ). Contains (x.now ∷ texts_at ks) n) e (Contains-head x.now (texts_at ks)))
      | inr later ↦ rest later
    ]

    old : Contains (texts_at (x ∷ ks)) name → Contains (texts_at (x ∷ ls)) name
    old h = elim (Contains-cases x.now name (texts_at ks) h) [
      | inl e ↦ subst (λ (n : List ℕ). Contains (x.now ∷ texts_at ls) n) e (Contains-head x.now (texts_at ls))
      | inr later ↦ Contains-tail x.now name (texts_at ls) ((adds name).1 (inl later))
    ]

    from : Contains (texts_at (x ∷ ks)) name ⊎ P name → Contains (texts_at (x ∷ ls)) name
    from (inl h) = old h
    from (inr p) = Contains-tail x.now name (texts_at ls) ((adds name).1 (inr p))

-- a name goes in, unless it is there
pub adds_key : (ks : List (Bor (List ℕ))) (k : Bor (List ℕ)) → Adds (λ name. k.now ≡ name) ks (insert_key text_order ks k)
adds_key [] k = adds_head k []
adds_key (x ∷ xs) k = by (text_order k x) refl (adds_key xs k)
  where
    by : (o : Ordering) → text_order k x ≡ o → Adds (λ name. k.now ≡ name) xs (insert_key text_order xs k) →
        Adds (λ name. k.now ≡ name) (x ∷ xs) (match_ordering o (k ∷ x ∷ xs) (x ∷ xs) (x ∷ insert_key text_order xs k))
    by Less e rest = adds_head k (x ∷ xs)
    by Equal e rest =
        adds_none (λ name. k.now ≡ name) (x ∷ xs)
        (λ name is. subst (λ (n : List ℕ). Contains (x.now ∷ texts_at xs) n) (sym (exact_bytes k.now x.now e) ∙ is) (Contains-head x.now (texts_at xs)))
    by Greater e rest = adds_under (λ name. k.now ≡ name) x xs (insert_key text_order xs k) rest

-- the same, as a call of `insert` says it
pub adds_inserted : (ks ls : List (Bor (List ℕ))) (k : Bor (List ℕ)) → ls ≡ insert_key text_order ks k → Adds (λ name. k.now ≡ name) ks ls
adds_inserted ks ls k is = subst (λ (l : List (Bor (List ℕ))). Adds (λ name. k.now ≡ name) ks l) (sym is) (adds_key ks k)

module _ {X : Type 0} (P : List ℕ → X → Type 0) (items : List X) where
  -- the names of the first n items
  abbrev pub AddsTo : ℕ → List (Bor (List ℕ)) → List (Bor (List ℕ)) → Type 0
  AddsTo n ks ls = Adds (λ name. Any (P name) (take n items)) ks ls

  pub adds_no_item : (ks : List (Bor (List ℕ))) → AddsTo 0 ks ks
  adds_no_item ks = adds_none (λ name. Any (P name) []) ks (λ name h. absurd (Any-none (P name) h))

  -- one more item
  pub adds_more : (n : ℕ) (x : X) (ks ls ms : List (Bor (List ℕ))) → n < length items → x ≡ get_or items n x → AddsTo n ks ls → Adds (λ name. P name x) ls ms → AddsTo (n + 1) ks ms
  adds_more n x ks ls ms within is before now =
      adds_same (λ name. Any (P name) (take n items) ⊎ P name x) (λ name. Any (P name) (take (n + 1) items)) ks ms (λ name. joined name) (λ name. Any-either (P name) items n x within is)
      (adds_then (λ name. Any (P name) (take n items)) (λ name. P name x) ks ls ms before now)
    where
      joined : (name : List ℕ) → Any (P name) (take n items) ⊎ P name x → Any (P name) (take (n + 1) items)
      joined name (inl h) = Any-before (P name) items n x within is h
      joined name (inr h) = Any-now (P name) items n x within is h

  pub adds_all : (n : ℕ) (ks ls : List (Bor (List ℕ))) → length items ≤ n → AddsTo n ks ls → Adds (λ name. Any (P name) items) ks ls
  adds_all n ks ls past adds = subst (λ (l : List X). Adds (λ name. Any (P name) l) ks ls) (take_all n items past) adds

-- the keys are in byte order
pub in_byte_order : (ks : List (Bor (List ℕ))) → IsStrictlySortedBy text_order ks → AllPairs IsNameBefore (texts_at ks)
in_byte_order ks sorted = AllPairs-map IsNameBefore (λ (key : Bor (List ℕ)). key.now) ks (λ i j d l m. Less-from_sorted text_order ks i j d sorted l m)

-- what was added to no names is all that is there
pub just_added : (P : List ℕ → Type 0) (ks ls : List (Bor (List ℕ))) → ks ≡ [] → Adds P ks ls → AllPairs IsNameBefore (texts_at ls) → AreInOrder IsNameBefore P (texts_at ls)
just_added P ks ls none adds ordered = record { order = ordered; just = λ name. (to name, λ p. (adds name).1 (inr p)) }
  where
    to : (name : List ℕ) → Contains (texts_at ls) name → P name
    to name h = elim ((adds name).0 h) [
      | inl old ↦ absurd (Contains-none name (subst (λ (l : List (Bor (List ℕ))). Contains (texts_at l) name) none old))
      | inr p ↦ p
    ]

-- the names that are left to add, of those that are to be added in all
abbrev pub AddsLeft : List (List ℕ) → List (Bor (List ℕ)) → List (Bor (List ℕ)) → List (List ℕ) → Type 0
AddsLeft whole ks ls left = (name : List ℕ) → (Contains (texts_at ls) name ⊎ Contains left name) ↔ (Contains (texts_at ks) name ⊎ Contains whole name)

pub left_start : (whole : List (List ℕ)) (ks : List (Bor (List ℕ))) (left : List (List ℕ)) → left ≡ whole → AddsLeft whole ks ks left
left_start whole ks left is = subst (λ (l : List (List ℕ)). AddsLeft whole ks ks l) (sym is) (λ name. (λ h. h, λ h. h))

-- one more name
pub left_more : (whole : List (List ℕ)) (ks ls ms : List (Bor (List ℕ))) (x : List ℕ) (left rest : List (List ℕ)) → left ≡ x ∷ rest →
    AddsLeft whole ks ls left → Adds (λ name. x ≡ name) ls ms → AddsLeft whole ks ms rest
left_more whole ks ls ms x left rest is before adds name = (to, from)
  where
    at_start : (Contains (texts_at ls) name ⊎ Contains (x ∷ rest) name) ↔ (Contains (texts_at ks) name ⊎ Contains whole name)
    at_start = subst (λ (l : List (List ℕ)). (Contains (texts_at ls) name ⊎ Contains l name) ↔ (Contains (texts_at ks) name ⊎ Contains whole name)) is (before name)

    back : Contains (texts_at ms) name → Contains (texts_at ls) name ⊎ Contains (x ∷ rest) name
    back h = elim ((adds name).0 h) [
      | inl old ↦ inl old
      | inr e ↦ inr (subst (λ (n : List ℕ). Contains (x ∷ rest) n) e (Contains-head x rest))
    ]

    to : Contains (texts_at ms) name ⊎ Contains rest name → Contains (texts_at ks) name ⊎ Contains whole name
    to (inl h) = at_start.0 (back h)
    to (inr h) = at_start.0 (inr (Contains-tail x name rest h))

    forth : Contains (x ∷ rest) name → Contains (texts_at ms) name ⊎ Contains rest name
    forth h = elim (Contains-cases x name rest h) [
      | inl e ↦ inl ((adds name).1 (inr e))
      | inr later ↦ inr later
    ]

    from : Contains (texts_at ks) name ⊎ Contains whole name → Contains (texts_at ms) name ⊎ Contains rest name
    from h = elim (at_start.1 h) [
      | inl old ↦ inl ((adds name).1 (inl old))
      | inr new ↦ forth new
    ]

-- no name is left
pub left_none : (whole : List (List ℕ)) (ks ls : List (Bor (List ℕ))) (left : List (List ℕ)) → left ≡ [] → AddsLeft whole ks ls left → Adds (λ name. Contains whole name) ks ls
left_none whole ks ls left none adds name = (λ h. (adds name).0 (inl h), from)
  where
    from : Contains (texts_at ks) name ⊎ Contains whole name → Contains (texts_at ls) name
    from h = elim ((adds name).1 h) [
      | inl there ↦ there
      | inr more ↦ absurd (Contains-none name (subst (λ (l : List (List ℕ)). Contains l name) none more))
    ]

-- one more name in a list
pub listed_more : (old next whole : List (List ℕ)) (name : Bor (List ℕ)) (left rest : List (Bor (List ℕ))) → left ≡ name ∷ rest → old ++ texts_at left ≡ whole →
    next ≡ old ++ name.now ∷ [] → next ++ texts_at rest ≡ whole
listed_more old next whole name left rest is was grown =
    ap (λ (l : List (List ℕ)). l ++ texts_at rest) grown ∙ append_assoc old (name.now ∷ []) (texts_at rest) ∙ ap (λ (l : List (Bor (List ℕ))). old ++ texts_at l) (sym is) ∙ was

-- all names
pub listed_all : (old whole : List (List ℕ)) (left : List (Bor (List ℕ))) → left ≡ [] → old ++ texts_at left ≡ whole → old ≡ whole
listed_all old whole left none was = sym (append-nil old) ∙ ap (λ (l : List (Bor (List ℕ))). old ++ texts_at l) (sym none) ∙ was
