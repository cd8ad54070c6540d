-- The walk along the cuts of a range of services.
use Rattle.std.proofs.Common.{◌≡◌, ℕ, ◌+◌, ◌<◌, ◌≤◌, List, [], ◌∷◌, ◌++◌, length, get_or, drop, refl, sym, ◌∙◌, ap, subst, append_assoc}
use Rattle.std.proofs.lemmas.List.{drop_more, drop_all}
use Rattle.net_model.specs.declared.services.Service.{Service}
use Rattle.traffic_classes.specs.ServiceParts.{RiseBetween, ArePartsBetween}

-- the next cut lies above the current part's first service, and the later ones rise from it
pub next_cut : (low high i : ℕ) (cuts : List ℕ) → i < length cuts → RiseBetween low (drop i cuts) high →
    (low < get_or cuts i 0) × RiseBetween (get_or cuts i 0) (drop (i + 1) cuts) high
next_cut low high i cuts h rise = subst (λ (l : List ℕ). RiseBetween low l high) (drop_more cuts i 0 h) rise

-- after the last cut there is one part left
pub last_part : (low high i : ℕ) (cuts : List ℕ) → length cuts ≤ i → RiseBetween low (drop i cuts) high → low ≤ high
last_part low high i cuts h rise = subst (λ (l : List ℕ). RiseBetween low l high) (drop_all i cuts h) rise

module _ (first last low i : ℕ) (cuts : List ℕ) (old new : List Service) (p : Service) (starts : p.low ≡ low) (grown : new ≡ old ++ p ∷ [])
    (with_rest : (rest : List Service) → ArePartsBetween low (drop i cuts) last rest → ArePartsBetween first cuts last (old ++ rest)) where
  -- with the part before the next cut
  pub part_more : i < length cuts → p.high + 1 ≡ get_or cuts i 0 → (rest : List Service) → ArePartsBetween (get_or cuts i 0) (drop (i + 1) cuts) last rest →
      ArePartsBetween first cuts last (new ++ rest)
  part_more h ends rest between =
      subst (λ (l : List Service). ArePartsBetween first cuts last l) (sym (ap (λ (l : List Service). l ++ rest) grown ∙ append_assoc old (p ∷ []) rest))
      (with_rest (p ∷ rest) (subst (λ (l : List ℕ). ArePartsBetween low l last (p ∷ rest)) (sym (drop_more cuts i 0 h)) (starts, ends, between)))

  -- with the part after the last cut
  pub all_parts : length cuts ≤ i → p.high ≡ last → ArePartsBetween first cuts last new
  all_parts h ends =
      subst (λ (l : List Service). ArePartsBetween first cuts last l) (sym grown)
      (with_rest (p ∷ []) (subst (λ (l : List ℕ). ArePartsBetween low l last (p ∷ [])) (sym (drop_all i cuts h)) (starts, ends, refl)))
