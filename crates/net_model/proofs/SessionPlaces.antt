-- The place of each interface's session, as the sessions are gone through.
use Rattle.std.proofs.Common.{◌≡◌, ℕ, suc, ◌+◌, ◌<◌, Bool, true, false, Option, Some, None, List, [], ◌∷◌, ◌++◌, length, take, drop, get_or, ap, refl, sym, ◌∙◌, subst, arith}
use Rattle.std.specs.Prelude.{IfSome, slice_get, ◌==◌, if◌then◌else◌}
use Rattle.std.specs.List.{find}
use Rattle.std.specs.Option.{option_and_then, option_or}
use Rattle.std.proofs.Math.Seq.{take-suc, take-append_seam}
use Rattle.std.proofs.lemmas.List.Folds.{find-append}
use Rattle.std.proofs.lemmas.Option.{slice_get-get_or, get_or_from_slice_get}
use Rattle.net_model.specs.declared.rows.SessionRow.{SessionRow}

-- the session stands at the interface
abbrev pub at : ℕ → SessionRow → Bool
at face s = s.face.0 == face

-- of the sessions before i, the first at the interface is the one at this place, and where there is no place there is none
pub record IsFirst (sessions : List SessionRow) (i face : ℕ) (place : Option ℕ) : Type 0 where
  pub first : find (at face) (take i sessions) ≡ option_and_then (slice_get sessions) place
  pub within : IfSome place (λ q. q < length sessions)

-- one session more
one_more : (xs : List SessionRow) (i k : ℕ) (s : SessionRow) → i < length xs → slice_get xs i ≡ Some s →
    (o : Option SessionRow) → find (at k) (take i xs) ≡ o → find (at k) (take (i + 1) xs) ≡ option_or o (find (at k) (s ∷ []))
one_more xs i k s within is o e =
    let one : i + 1 ≡ suc i = omega arith in
    ap (λ (n : ℕ). find (at k) (take n xs)) one ∙ ap (find (at k)) (take-suc xs i s within) ∙
    ap (λ (x : SessionRow). find (at k) (take i xs ++ (x ∷ []))) (get_or_from_slice_get xs i s s is) ∙ find-append (at k) (take i xs) (s ∷ []) ∙
    ap (λ (p : Option SessionRow). option_or p (find (at k) (s ∷ []))) e

-- the new one counts where it stands at the interface and there is none yet
fresh : (xs : List SessionRow) (i k : ℕ) (s : SessionRow) → i < length xs → slice_get xs i ≡ Some s → IsFirst xs i k None →
    (b : Bool) → (s.face.0 == k) ≡ b → IsFirst xs (i + 1) k (if b then Some i else None)
fresh xs i k s within is was true e =
    record { first = one_more xs i k s within is None was.first ∙ ap (λ (t : Bool). if t then Some s else None) e ∙ sym is; within = within }
fresh xs i k s within is was false e =
    record { first = one_more xs i k s within is None was.first ∙ ap (λ (t : Bool). if t then Some s else None) e; within = tt }

-- a place that is there stays
settled : (xs : List SessionRow) (i k q : ℕ) (s : SessionRow) → i < length xs → slice_get xs i ≡ Some s → IsFirst xs i k (Some q) → IsFirst xs (i + 1) k (Some q)
settled xs i k q s within is was =
    let there : slice_get xs q ≡ Some (get_or xs q s) = slice_get-get_or xs q s was.within in
    record { first = one_more xs i k s within is (Some (get_or xs q s)) (was.first ∙ there) ∙ sym there; within = was.within }

next : (xs : List SessionRow) (i k : ℕ) (old : Option ℕ) (s : SessionRow) → i < length xs → slice_get xs i ≡ Some s → IsFirst xs i k old →
    (b : Bool) → (s.face.0 == k) ≡ b → IsFirst xs (i + 1) k (if b then option_or old (Some i) else old)
next xs i k None s within is was true e = fresh xs i k s within is was true e
next xs i k None s within is was false e = fresh xs i k s within is was false e
next xs i k (Some q) s within is was true e = settled xs i k q s within is was
next xs i k (Some q) s within is was false e = settled xs i k q s within is was

-- a slice written back over a whole list
pub written_back : (new old : List (Option ℕ)) (n : ℕ) → n ≡ length new → take n (new ++ drop (length new) old) ≡ new
written_back new old n e = ap (λ (m : ℕ). take m (new ++ drop (length new) old)) e ∙ take-append_seam new (drop (length new) old)

stays : (xs : List SessionRow) (i : ℕ) (d : SessionRow) (old new : List (Option ℕ)) → i < length xs →
    ((k : ℕ) → k < length old → IsFirst xs i k (get_or old k None)) → length new ≡ length old →
    ((k : ℕ) → k < length old → get_or new k None ≡ (if (get_or xs i d).face.0 == k then option_or (get_or old k None) (Some i) else get_or old k None)) →
    (k : ℕ) → k < length new → IsFirst xs (i + 1) k (get_or new k None)
stays xs i d old new within was same each k l =
    let inside : k < length old = omega (arith, same, l) in
    subst (IsFirst xs (i + 1) k) (sym (each k inside))
    (next xs i k (get_or old k None) (get_or xs i d) within (slice_get-get_or xs i d within) (was k inside) ((get_or xs i d).face.0 == k) refl)

-- what is kept of all interfaces stays true with one session more
pub kept : (xs ys : List SessionRow) (i : ℕ) (d : SessionRow) (old now new : List (Option ℕ)) → ys ≡ xs → now ≡ old → i < length ys →
    ((k : ℕ) → k < length old → IsFirst xs i k (get_or old k None)) → length new ≡ length now →
    ((k : ℕ) → k < length now → get_or new k None ≡ (if (get_or ys i d).face.0 == k then option_or (get_or now k None) (Some i) else get_or now k None)) →
    (k : ℕ) → k < length new → IsFirst xs (i + 1) k (get_or new k None)
kept xs ys i d old now new read at_now within was same each =
    let Each : List SessionRow → List (Option ℕ) → Type 0 = λ zs ps. (k : ℕ) → k < length ps →
    get_or new k None ≡ (if (get_or zs i d).face.0 == k then option_or (get_or ps k None) (Some i) else get_or ps k None) in
    stays xs i d old new (subst (λ (zs : List SessionRow). i < length zs) read within) was (same ∙ ap length at_now)
    (subst (λ (ps : List (Option ℕ)). Each xs ps) at_now (subst (λ (zs : List SessionRow). Each zs now) read each))
