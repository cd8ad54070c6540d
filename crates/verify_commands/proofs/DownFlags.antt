-- Which links the numbers mark as down.
use mathlib.Core.Bool.{or-true, or-false}
use Rattle.std.proofs.Common.{◌≡◌, ℕ, zero, suc, inl, inr, ◌+◌, ◌<◌, ◌≤◌, ◌==◌, ◌||◌, Bool, true, false, List, [], ◌∷◌, length, get_or, take, set, refl, sym, ◌∙◌, ap, subst, arith, lt-ltb}
use Rattle.std.proofs.lemmas.Bool.{false≢true, cases_lt, cases_eq, eq-eqb, ne_eqb}
use Rattle.std.proofs.lemmas.List.{get_or-set_same, get_or-set_other}
use Rattle.std.proofs.lemmas.List.FromFn.{length-map-range_with_len}
use Rattle.std.proofs.lemmas.List.Folds.{list_any_more}
use Rattle.std.specs.Prelude.{Some, None, nat_lt, cond}
use Rattle.std.specs.List.{list_any}
use Rattle.net_rules.specs.Linking.{first_above}
use Rattle.run_inputs.proofs.Determined.{no_value}
use Rattle.verify_commands.specs.Traces.{down_flags}

-- if none of the numbers is above the number of links, each is at most that
pub none_above : (links : ℕ) (numbers : List ℕ) → first_above links numbers ≡ None → (i d : ℕ) → i < length numbers → get_or numbers i d ≤ links
none_above links [] e i d within = absurd (omega (arith, within))
none_above links (n ∷ numbers) e i d within = go (nat_lt links n) refl i within (none_above links numbers)
  where
    go : (t : Bool) → nat_lt links n ≡ t → (i : ℕ) → i < length (n ∷ numbers) →
        (first_above links numbers ≡ None → (j d : ℕ) → j < length numbers → get_or numbers j d ≤ links) → get_or (n ∷ numbers) i d ≤ links
    go true h i within rest = absurd (no_value (first_above links (n ∷ numbers)) n (rw h refl) e)
    go false h zero within rest = elim (cases_lt links n) [ inl above ↦ absurd (false≢true (sym h ∙ lt-ltb links n above)) | inr below ↦ omega arith ]
    go false h (suc i) within rest = rest (subst (λ (t : Bool). cond t (Some n) (first_above links numbers) ≡ None) h e) i d (omega (arith, within))

-- a number leaves the flags of other places as they are
pub flag_kept : (numbers : List ℕ) (i place : ℕ) (flag : Bool) → i < length numbers → (get_or numbers i 0 ≡ place + 1 → ⊥) →
    flag ≡ list_any (λ n. n == place + 1) (take i numbers) → flag ≡ list_any (λ n. n == place + 1) (take (i + 1) numbers)
flag_kept numbers i place flag within other is =
    is ∙ sym (list_any_more (λ n. n == place + 1) numbers i 0 within ∙ ap (λ (b : Bool). list_any (λ n. n == place + 1) (take i numbers) || b)
    (ne_eqb (get_or numbers i 0) (place + 1) other) ∙ or-false (list_any (λ n. n == place + 1) (take i numbers)))

-- a number sets the flag of its place
pub flag_set : (numbers : List ℕ) (i place : ℕ) → i < length numbers → get_or numbers i 0 ≡ place + 1 → true ≡ list_any (λ n. n == place + 1) (take (i + 1) numbers)
flag_set numbers i place within own =
    sym (list_any_more (λ n. n == place + 1) numbers i 0 within ∙ ap (λ (b : Bool). list_any (λ n. n == place + 1) (take i numbers) || b)
    (eq-eqb (get_or numbers i 0) (place + 1) own) ∙ or-true (list_any (λ n. n == place + 1) (take i numbers)))

-- a number sets the flag of its place and no other
pub flags_more : (numbers : List ℕ) (flags : List Bool) (i at place : ℕ) → i < length numbers → get_or numbers i 0 ≡ at + 1 → at < length flags → place < length flags →
    get_or flags place false ≡ list_any (λ n. n == place + 1) (take i numbers) → get_or (set flags at true) place false ≡ list_any (λ n. n == place + 1) (take (i + 1) numbers)
flags_more numbers flags i at place within own inside here is =
    elim (cases_eq place at) [
      | inl same ↦
          ap (λ (p : ℕ). get_or (set flags at true) p false) same ∙ get_or-set_same flags at true false inside ∙ flag_set numbers i place within (own ∙ ap (λ (p : ℕ). p + 1) (sym same))
      | inr other ↦
          get_or-set_other flags at place true false other ∙ flag_kept numbers i place (get_or flags place false) within (λ e. other (omega (arith, own, e))) is
    ]

-- there is one flag for each link
pub length_flags : (links : ℕ) (numbers : List ℕ) → length (down_flags links numbers) ≡ links
length_flags links numbers = length-map-range_with_len (λ place. list_any (λ n. n == place + 1) numbers) 0 links
