-- The first item that passes a test, where all that pass stand in one part of the list, and where sessions stand by router.
use Rattle.std.proofs.Common.{◌≡◌, ℕ, zero, suc, ◌+◌, ◌-◌, ◌≤◌, ◌<◌, Bool, false, Option, Some, None, List, [], ◌∷◌, length, take, drop, get_or, ap, refl, sym, ◌∙◌, ◌≢◌, cond, arith, inl, inr}
use Rattle.std.specs.Prelude.{slice_get, ◌==◌}
use Rattle.std.specs.Option.{option_map_or}
use Rattle.std.specs.List.Sorted.{IsPartitionPoint}
use Rattle.std.proofs.lemmas.Bool.{ne_eqb}
use Rattle.std.proofs.lemmas.Bool.Decides.{leb_tells}
use Rattle.std.specs.List.{find}
use Rattle.net_model.specs.declared.rows.SessionRow.{SessionRow}
use Rattle.net_model.specs.declared.rows.Network.{Network}
use Rattle.arc_base.specs.declared.place.Face.{Face}
use Rattle.net_model.specs.Routing.{session_at}
use Rattle.net_model.specs.Tables.{router_at}
use Rattle.std.proofs.lemmas.List.{length-drop, get_or-drop}

module _ {X : Type 0} (p : X → Bool) where
  -- the items from low up to high fail the test
  abbrev pub Fail : List X → ℕ → ℕ → Type 0
  Fail xs low high = (k : ℕ) (d : X) → low ≤ k → k < high → p (get_or xs k d) ≡ false

  none_passes : (xs : List X) → Fail xs 0 (length xs) → find p xs ≡ None
  none_passes [] h = refl
  none_passes (x ∷ xs) h =
      ap (λ (b : Bool). cond b (Some x) (find p xs)) (h 0 x (omega arith) (omega arith)) ∙
      none_passes xs (λ k d l m. h (suc k) d (omega arith) (omega arith))

  -- items at the front that fail may be left out
  pub find_in_rest : (xs : List X) (low : ℕ) → Fail xs 0 low → low ≤ length xs → find p (drop low xs) ≡ find p xs
  find_in_rest xs zero h l = refl
  find_in_rest [] (suc low) h l = refl
  find_in_rest (x ∷ xs) (suc low) h l =
      find_in_rest xs low (λ k d a b. h (suc k) d (omega arith) (omega arith)) (omega arith) ∙
      sym (ap (λ (b : Bool). cond b (Some x) (find p xs)) (h 0 x (omega arith) (omega arith)))

  -- and so may items at the end
  pub find_in_front : (xs : List X) (high : ℕ) → Fail xs high (length xs) → find p (take high xs) ≡ find p xs
  find_in_front xs zero h = sym (none_passes xs h)
  find_in_front [] (suc high) h = refl
  find_in_front (x ∷ xs) (suc high) h =
      ap (λ (o : Option X). cond (p x) (Some x) o)
      (find_in_front xs high (λ k d a b. h (suc k) d (omega arith) (omega arith)))

  -- so only the part between them is looked through
  pub find_between : (xs : List X) (low high : ℕ) → low ≤ high → high ≤ length xs → Fail xs 0 low → Fail xs high (length xs) →
      find p (take (high - low) (drop low xs)) ≡ find p xs
  find_between xs low high le within before after =
      let rest : length (drop low xs) ≡ length xs - low = length-drop low xs in
      find_in_front (drop low xs) (high - low)
      (λ k d a b. ap p (get_or-drop low xs k d) ∙ after (low + k) d (omega arith) (omega (arith, rest))) ∙
      find_in_rest xs low before (omega arith)

-- where keys rise, those below a key end before those below a greater one
module _ {X : Type 0} (key : X → ℕ) where
  pub points_in_order : (xs : List X) (r low high : ℕ) → low ≤ length xs →
      IsPartitionPoint (λ x. key x < r) (λ x. r ≤ key x) xs low →
      IsPartitionPoint (λ x. key x < r + 1) (λ x. r + 1 ≤ key x) xs high → low ≤ high
  points_in_order [] r low high within p q = omega (arith, within)
  points_in_order (x ∷ xs) r low high within p q = elim (leb_tells low high) [
    | inl is ↦ omega (arith, is.1)
    | inr above ↦
        let before : high < low = omega (arith, above.1) in
        let small : key (get_or (x ∷ xs) high x) < r = p.0 high x (omega arith) before in
        let great : r + 1 ≤ key (get_or (x ∷ xs) high x) = q.1 high x (omega arith) (omega (arith, within)) in
        absurd (omega (arith, small, great))
  ]

-- a session whose interface has another router does not stand at the interface
apart : (net : Network) (s : SessionRow) (face : Face) (r : ℕ) → r ≡ router_at net face → router_at net s.face ≢ r → (s.face.0 == face.0) ≡ false
apart net s face r is other =
    ne_eqb _ _ (λ (same : s.face.0 ≡ face.0). other (ap (λ (k : ℕ). option_map_or (λ row. row.router.0) (slice_get net.faces k) 0) same ∙ sym is))

-- the session of the interface stands among those of the interface's router
pub found_by_router : (net : Network) (face : Face) (r low high : ℕ) → r ≡ router_at net face → low ≤ high → high ≤ length net.sessions →
    IsPartitionPoint (λ s. router_at net s.face < r) (λ s. r ≤ router_at net s.face) net.sessions low →
    IsPartitionPoint (λ s. router_at net s.face < r + 1) (λ s. r + 1 ≤ router_at net s.face) net.sessions high →
    find (λ s. s.face.0 == face.0) (take (high - low) (drop low net.sessions)) ≡ session_at net face
found_by_router net face r low high is le within p q =
    find_between (λ (s : SessionRow). s.face.0 == face.0) net.sessions low high le within
    (λ k d a b. let h : router_at net (get_or net.sessions k d).face < r = p.0 k d a b in
    apart net (get_or net.sessions k d) face r is (λ e. absurd (omega (arith, h, e))))
    (λ k d a b. let h : r + 1 ≤ router_at net (get_or net.sessions k d).face = q.1 k d a b in
    apart net (get_or net.sessions k d) face r is (λ e. absurd (omega (arith, h, e))))
