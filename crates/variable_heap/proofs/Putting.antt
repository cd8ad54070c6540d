-- What is true after a variable was put in or raised.
use Rattle.std.proofs.Common.{◌≡◌, ◌≢◌, ℕ, ◌+◌, ◌<◌, ◌≤◌, ◌↔◌, ◌⊎◌, ◌∷◌, ◌++◌, [], List, length, get_or, set, Contains, refl, sym, ap, ◌∙◌, subst, arith}
use Rattle.std.proofs.lemmas.List.{length-set, length_push, get_or-set_same, set_at}
use Rattle.variable_heap.specs.Heaps.{IsInverse, IsOrdered, IsOrderedButUp, IsRaised, HaveSamePlaced}
use Rattle.variable_heap.proofs.Pushing.{inverse-pushed, pushed-others, order-pushed, set-there, order-raised}
use Rattle.variable_heap.proofs.Variables.{fits, more-held}

-- a variable that has no place stands at the end, from where it will rise
pub record IsPut (xs ps ds qs : List ℕ) (v n : ℕ) : Type 0 where
  pub old : IsInverse xs ps
  pub none : get_or ps v 0 ≡ 0
  pub below : v < length ps
  pub end : n ≡ length xs
  pub vars : ds ≡ xs ++ v ∷ []
  pub places : qs ≡ ps

-- there is room for it
pub room : (xs ps : List ℕ) (v : ℕ) → IsInverse xs ps → get_or ps v 0 ≡ 0 → v < length ps → length xs + 1 ≤ length ps
room xs ps v o none below =
    let h : length (xs ++ v ∷ []) ≤ length (set ps v (length xs + 1)) = fits (xs ++ v ∷ []) (set ps v (length xs + 1)) (inverse-pushed xs ps v o none below) in
    omega (arith, h, length_push xs v, length-set ps v (length xs + 1))

as-pushed : (xs ps ds qs : List ℕ) (v n : ℕ) → IsPut xs ps ds qs v n → set ds n v ≡ xs ++ v ∷ []
as-pushed xs ps ds qs v n put = ap (λ (zs : List ℕ). set zs n v) put.vars ∙ ap (λ (k : ℕ). set (xs ++ v ∷ []) k v) put.end ∙ set_at xs v [] v (length xs) refl

as-placed : (xs ps ds qs : List ℕ) (v n : ℕ) → IsPut xs ps ds qs v n → set qs v (n + 1) ≡ set ps v (length xs + 1)
as-placed xs ps ds qs v n put = ap (λ (zs : List ℕ). set zs v (n + 1)) put.places ∙ ap (λ (k : ℕ). set ps v (k + 1)) put.end

pub put-inverse : (xs ps ds qs : List ℕ) (v n : ℕ) → IsPut xs ps ds qs v n → IsInverse (set ds n v) (set qs v (n + 1))
put-inverse xs ps ds qs v n put =
    subst (λ (zs : List ℕ). IsInverse zs (set qs v (n + 1))) (sym (as-pushed xs ps ds qs v n put)) (subst (λ (zs : List ℕ). IsInverse (xs ++ v ∷ []) zs)
    (sym (as-placed xs ps ds qs v n put)) (inverse-pushed xs ps v put.old put.none put.below))

pub put-order : (activity xs ps ds qs : List ℕ) (v n : ℕ) → IsPut xs ps ds qs v n → IsOrdered activity xs → IsOrderedButUp activity (set ds n v) n
put-order activity xs ps ds qs v n put o =
    subst (λ (zs : List ℕ). IsOrderedButUp activity zs n) (sym (as-pushed xs ps ds qs v n put)) (subst (λ (k : ℕ). IsOrderedButUp activity (xs ++ v ∷ []) k)
    (sym put.end) (order-pushed activity xs v o))

put-same : (xs ps ds qs rs : List ℕ) (v n : ℕ) → IsPut xs ps ds qs v n → HaveSamePlaced (set qs v (n + 1)) rs → HaveSamePlaced (set ps v (length xs + 1)) rs
put-same xs ps ds qs rs v n put same = subst (λ (zs : List ℕ). HaveSamePlaced zs rs) (as-placed xs ps ds qs v n put) same

put-others : (xs ps ds qs rs : List ℕ) (v n : ℕ) → IsPut xs ps ds qs v n → HaveSamePlaced (set qs v (n + 1)) rs → (w : ℕ) → w ≢ v → (get_or ps w 0 ≡ 0) ↔ (get_or rs w 0 ≡ 0)
put-others xs ps ds qs rs v n put given w ne =
    let same = put-same xs ps ds qs rs v n put given in
    let other = pushed-others ps v (length xs + 1) w ne in
    (λ h. (same w).0 (other.0 h), λ h. other.1 ((same w).1 h))

-- the others stay
pub put-held : (xs ps ds qs ws rs : List ℕ) (v n : ℕ) → IsPut xs ps ds qs v n → IsInverse ws rs → HaveSamePlaced (set qs v (n + 1)) rs → (w : ℕ) → Contains ws w ↔ (Contains xs w ⊎ (w ≡ v))
put-held xs ps ds qs ws rs v n put new given =
    let same = put-same xs ps ds qs rs v n put given in
    let come : get_or (set ps v (length xs + 1)) v 0 ≡ length xs + 1 = get_or-set_same ps v (length xs + 1) 0 put.below in
    let some : get_or rs v 0 ≢ 0 = λ none. let h : get_or (set ps v (length xs + 1)) v 0 ≡ 0 = (same v).1 none in omega arith in
    more-held xs ws ps rs v put.old new some (put-others xs ps ds qs rs v n put given)

-- a variable that has a place rises from there
pub record IsThere (xs ps ds qs : List ℕ) (v n : ℕ) : Type 0 where
  pub old : IsInverse xs ps
  pub at : get_or ps v 0 ≡ n + 1
  pub vars : ds ≡ xs
  pub places : qs ≡ ps

pub there-vars : (xs ps ds qs : List ℕ) (v n : ℕ) → IsThere xs ps ds qs v n → set ds n v ≡ xs
there-vars xs ps ds qs v n there = ap (λ (zs : List ℕ). set zs n v) there.vars ∙ set-there xs n v (there.old.stands v n there.at)

pub there-places : (xs ps ds qs : List ℕ) (v n : ℕ) → IsThere xs ps ds qs v n → set qs v (n + 1) ≡ ps
there-places xs ps ds qs v n there = ap (λ (zs : List ℕ). set zs v (n + 1)) there.places ∙ set-there ps v (n + 1) there.at

pub there-inverse : (xs ps ds qs : List ℕ) (v n : ℕ) → IsThere xs ps ds qs v n → IsInverse (set ds n v) (set qs v (n + 1))
there-inverse xs ps ds qs v n there =
    subst (λ (zs : List ℕ). IsInverse zs (set qs v (n + 1))) (sym (there-vars xs ps ds qs v n there)) (subst (λ (zs : List ℕ). IsInverse xs zs) (sym (there-places xs ps ds qs v n there)) there.old)

pub there-same : (xs ps ds qs rs : List ℕ) (v n : ℕ) → IsThere xs ps ds qs v n → HaveSamePlaced (set qs v (n + 1)) rs → HaveSamePlaced ps rs
there-same xs ps ds qs rs v n there given = subst (λ (zs : List ℕ). HaveSamePlaced zs rs) (there-places xs ps ds qs v n there) given

pub there-order : (before after xs ps ds qs : List ℕ) (v n : ℕ) → IsThere xs ps ds qs v n → IsRaised before after v → IsOrdered before xs → IsOrderedButUp after (set ds n v) n
there-order before after xs ps ds qs v n there raised o =
    subst (λ (zs : List ℕ). IsOrderedButUp after zs n) (sym (there-vars xs ps ds qs v n there)) (order-raised before after xs ps v n there.old raised
    (there.old.stands v n there.at) (there.old.within v n there.at) o)
