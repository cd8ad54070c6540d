-- The sessions of a valid network are found by their interfaces and by their peers.
use Rattle.std.proofs.Common.{◌≡◌, ◌≢◌, ℕ, ◌<◌, ◌==◌, inl, inr, Bool, true, false, cond, Some, List, [], ◌∷◌, get_or, refl, sym, ◌∙◌, ap, subst, arith, find}
use Rattle.std.specs.Prelude.{AllPairs, Contains, slice_get}
use Rattle.std.proofs.lemmas.Bool.{eqb-true, cases_lt, false≢true}
use Rattle.std.proofs.lemmas.Option.{none-some, same_Some, slice_get_within, get_or_from_slice_get}
use Rattle.arc_base.specs.declared.place.Face.{Face}
use Rattle.arc_base.proofs.Items.{Contains-head, Contains-tail, Contains-cases, Contains-none}
use Rattle.net_model.specs.declared.rows.FaceRow.{FaceRow}
use Rattle.net_model.specs.declared.rows.SessionRow.{SessionRow}
use Rattle.net_model.specs.declared.rows.Network.{Network}
use Rattle.net_model.specs.Routing.{session_at}
use Rattle.net_model.specs.Validity.{IsValid, AreSessionsApart}
use Rattle.net_model.proofs.Readings.{place_of_item}
use Rattle.edit_list.proofs.Apart.{one_session}

-- what is found is there and passes the test
pub find_in : {X : Type 0} (p : X → Bool) (xs : List X) (x : X) → find p xs ≡ Some x → Contains xs x × (p x ≡ true)
find_in p [] x e = absurd (none-some x e)
find_in {X} p (y ∷ xs) x e = by (p y) refl e (find_in p xs x)
  where
    by : (b : Bool) → p y ≡ b → cond b (Some y) (find p xs) ≡ Some x → (find p xs ≡ Some x → Contains xs x × (p x ≡ true)) → Contains (y ∷ xs) x × (p x ≡ true)
    by true f e later = let same : y ≡ x = same_Some y x e in (subst (λ (z : X). Contains (y ∷ xs) z) same (Contains-head y xs), subst (λ (z : X). p z ≡ true) same f)
    by false f e later = let r = later e in (Contains-tail y x xs r.0, r.1)

-- and the only one that passes is found
pub find_one : {X : Type 0} (p : X → Bool) (xs : List X) (x : X) → Contains xs x → p x ≡ true → ((y : X) → Contains xs y → p y ≡ true → y ≡ x) → find p xs ≡ Some x
find_one p [] x there pass one = absurd (Contains-none x there)
find_one {X} p (y ∷ xs) x there pass one = by (p y) refl (λ later. find_one p xs x later pass (λ z in_xs. one z (Contains-tail y z xs in_xs)))
  where
    by : (b : Bool) → p y ≡ b → (Contains xs x → find p xs ≡ Some x) → cond (p y) (Some y) (find p xs) ≡ Some x
    by true f later = ap (λ c. cond c (Some y) (find p xs)) f ∙ ap Some (one y (Contains-head y xs) f)
    by false f later = ap (λ c. cond c (Some y) (find p xs)) f ∙ elim (Contains-cases y x xs there) [
      | inl same ↦ absurd (false≢true (sym f ∙ ap p same ∙ pass))
      | inr after ↦ later after
    ]

-- what holds of pairs holds of two items at their places
pub pair_at : {X : Type 0} (R : X → X → Type 0) (xs : List X) (i j : ℕ) (x y : X) → AllPairs R xs → i < j → slice_get xs i ≡ Some x → slice_get xs j ≡ Some y → R x y
pair_at {X} R xs i j x y all low at_x at_y =
    subst (λ (w : X). R x w) (get_or_from_slice_get xs j y x at_y) (subst (λ (v : X). R v (get_or xs j x)) (get_or_from_slice_get xs i x x at_x) (all i j x low (slice_get_within xs j y at_y)))

-- two items at places that are not apart are at one place
pub one_place_apart : {X : Type 0} (R : X → X → Type 0) (xs : List X) (j k : ℕ) (x y : X) → AllPairs R xs → slice_get xs j ≡ Some x → slice_get xs k ≡ Some y → ¬ R x y → ¬ R y x → j ≡ k
one_place_apart {X} R xs j k x y all at_x at_y differ back = elim (cases_lt j k) [
  | inl low ↦ absurd (differ (pair_at R xs j k x y all low at_x at_y))
  | inr high ↦ elim (cases_lt k j) [
    | inl low ↦ absurd (back (pair_at R xs k j y x all low at_y at_x))
    | inr same ↦ omega (arith, high, same)
  ]
]

-- two items that are not apart are one
pub pairs_same : {X : Type 0} (R : X → X → Type 0) (xs : List X) (x y : X) → AllPairs R xs → Contains xs x → Contains xs y → ¬ R x y → ¬ R y x → x ≡ y
pairs_same R xs x y all in_x in_y differ back =
    let a = place_of_item xs x in_x in
    let b = place_of_item xs y in_y in
    same_Some x y (sym a.1 ∙ ap (slice_get xs) (one_place_apart R xs a.0 b.0 x y all a.1 b.1 differ back) ∙ b.1)

-- two items of one router with one name are at one place
pub one_named : {X : Type 0} (router : X → ℕ) (name : X → List ℕ) (xs : List X) (j k : ℕ) (x y : X) →
    AllPairs (λ x y. router x ≡ router y → name x ≢ name y) xs → slice_get xs j ≡ Some x → slice_get xs k ≡ Some y → router x ≡ router y → name x ≡ name y → j ≡ k
one_named {X} router name xs j k x y all at_x at_y routers names =
    one_place_apart (λ (x : X) (y : X). router x ≡ router y → name x ≢ name y) xs j k x y all at_x at_y (λ apart. apart routers names) (λ apart. apart (sym routers) (sym names))

module _ (net : Network) (valid : IsValid net) where
  -- interfaces of one router with one name are one
  pub one_face : (j k : ℕ) (f g : FaceRow) → slice_get net.faces j ≡ Some f → slice_get net.faces k ≡ Some g → f.router.0 ≡ g.router.0 → f.name ≡ g.name → j ≡ k
  one_face j k f g at_f at_g routers names = one_named (λ (h : FaceRow). h.router.0) (λ (h : FaceRow). h.name) net.faces j k f g valid.faces_named_apart at_f at_g routers names

  pub one_session_peer : (s t : SessionRow) (f g : FaceRow) → Contains net.sessions s → Contains net.sessions t → slice_get net.faces s.face.0 ≡ Some f → slice_get net.faces t.face.0 ≡ Some g →
      f.router.0 ≡ g.router.0 → s.peer ≡ t.peer → s ≡ t
  one_session_peer s t f g in_s in_t at_f at_g router same =
      pairs_same (AreSessionsApart net) net.sessions s t valid.sessions_apart in_s in_t (λ apart. apart.1 f g at_f at_g router same) (λ apart. apart.1 g f at_g at_f (sym router) (sym same))

  -- the session of an interface
  pub session_found : (face : Face) (s : SessionRow) → session_at net face ≡ Some s → Contains net.sessions s × (s.face.0 ≡ face.0)
  session_found face s e =
      let r = find_in (λ (t : SessionRow). t.face.0 == face.0) net.sessions s e in
      (r.0, eqb-true s.face.0 face.0 r.1)

  pub session_there : (face : Face) (s : SessionRow) → Contains net.sessions s → s.face.0 ≡ face.0 → session_at net face ≡ Some s
  session_there face s there same =
      find_one (λ (t : SessionRow). t.face.0 == face.0) net.sessions s there (grind arith)
      (λ t in_t pass. one_session net valid t s in_t there (eqb-true t.face.0 face.0 pass ∙ sym same))
