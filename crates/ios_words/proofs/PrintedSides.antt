-- A side of an entry that the program writes is read as its prefix, in an extended list and in a standard one.
use Rattle.std.proofs.Common.{◌≡◌, ℕ, ◌+◌, ◌-◌, ◌%◌, ◌^◌, ◌==◌, Bool, true, false, List, [], ◌∷◌, ◌++◌, Ok, refl, sym, ap, subst, ◌∙◌, arith, codes, ⊎_elim}
use Rattle.std.proofs.lemmas.Bool.{cases_Bool, cond-true, cond-false, eqb-true}
use Rattle.std.proofs.Math.Nat.{mod-eq_of_lt}
use Rattle.arc_base.specs.declared.prefix.Prefix.{Prefix}
use Rattle.arc_base.specs.PrefixText.{address_text}
use Rattle.arc_base.proofs.AddressTexts.{address_of-address_text}
use Rattle.ios_words.specs.declared.rows.Form.TheVariants.{Address, Host, Wildcard}
use Rattle.ios_words.specs.Prefixes.{holding, whole}
use Rattle.ios_words.specs.Printed.{side_words, wildcard_text}
use Rattle.ios_words.specs.Readings.{State, alone, begins, after_word, place, stands_alone, then_do, width, side, any, passed}
use Rattle.ios_words.specs.Values.{Values, with_value, with_length}
use Rattle.ios_words.proofs.PrintedSteps.{at, address-word, holding-prefix, wildcard-read}
use Rattle.ios_words.proofs.PlainSteps.{wildcard-small}

-- what follows a side that was read: its prefix is known, and nothing else that counts
pub record SideRead (extended : Bool) (words rest : List (List ℕ)) (p : Prefix) (taken : ℕ) (v : Values) : Type 0 where
  pub after : ℕ
  pub addr : ℕ
  pub len : ℕ
  pub read : side extended (at taken (words ++ rest) v) ≡ Ok (at after rest (record v { address = addr; length = len; to = p }))

-- a prefix of no length is that of all addresses
pub whole-prefix : (p : Prefix) → p.len ≡ 0 → whole ≡ p
whole-prefix p none =
    let clear : p.addr % 2 ^ (32 - p.len) ≡ 0 = p.clear in
    let full : p.addr % 2 ^ 32 ≡ 0 = subst (λ l. p.addr % 2 ^ (32 - l) ≡ 0) none clear in
    let small : p.addr % 2 ^ 32 ≡ p.addr = mod-eq_of_lt p.in_range in
    let first : p.addr ≡ 0 = omega arith in
    sym (ap (λ a. holding a p.len) first ∙ ap (holding 0) none) ∙ holding-prefix p

side-any : (extended : Bool) (p : Prefix) (rest : List (List ℕ)) (taken : ℕ) (v : Values) → p.len ≡ 0 → SideRead extended (codes "any" ∷ []) rest p taken v
side-any extended p rest taken v none = record {
  after = taken + 1;
  addr = v.address;
  len = v.length;
  read = ap (λ (q : Prefix). Ok (at (taken + 1) rest (record v { to = q }))) (whole-prefix p none);
}

side-host : (extended : Bool) (p : Prefix) (rest : List (List ℕ)) (taken : ℕ) (v : Values) → p.len ≡ 32 → SideRead extended (codes "host" ∷ address_text p.addr ∷ []) rest p taken v
side-host extended p rest taken v full = record {
  after = taken + 1 + 1;
  addr = p.addr;
  len = v.length;
  read = ap (λ o. after_word (taken + 1 + 1) rest (with_value (λ a. record v { address = a; to = holding a 32 }) o)) (address_of-address_text p.addr p.in_range)
      ∙ ap (λ (q : Prefix). Ok (at (taken + 1 + 1) rest (record v { address = p.addr; to = q }))) (ap (holding p.addr) (sym full) ∙ holding-prefix p);
}

-- the state after the address of a side that is written with its wildcard
abbrev pub at_wildcard : Prefix → List (List ℕ) → ℕ → Values → State
at_wildcard p rest taken v = at (taken + 1) (address_text (2 ^ (32 - p.len) - 1) ∷ rest) (record v { address = p.addr })

side-wide : (extended : Bool) (p : Prefix) (rest : List (List ℕ)) (taken : ℕ) (v : Values) → width extended (at_wildcard p rest taken v) ≡ place Wildcard (at_wildcard p rest taken v) →
    SideRead extended (address_text p.addr ∷ address_text (2 ^ (32 - p.len) - 1) ∷ []) rest p taken v
side-wide extended p rest taken v wide =
    let words = address_text p.addr ∷ address_text (2 ^ (32 - p.len) - 1) ∷ rest in
    let s = at taken words v in
    let no_any : begins (codes "any") words ≡ false = address-word p.addr 97 (codes "ny") p.in_range (omega arith) in
    let no_host : begins (codes "host") words ≡ false = address-word p.addr 104 (codes "ost") p.in_range (omega arith) in
    let first : place Address s ≡ Ok (at_wildcard p rest taken v) =
    ap (λ o. after_word (taken + 1) (address_text (2 ^ (32 - p.len) - 1) ∷ rest) (with_value (λ a. record v { address = a }) o)) (address_of-address_text p.addr p.in_range) in
    record {
      after = taken + 1 + 1;
      addr = p.addr;
      len = p.len;
      read = cond-false (begins (codes "any") words) (Ok (any s)) _ no_any ∙ cond-false (begins (codes "host") words) (place Host (passed s)) _ no_host
          ∙ ap (then_do (width extended)) first ∙ wide
          ∙ ap (λ r. after_word (taken + 1 + 1) rest (with_length (record v { address = p.addr }) r)) (wildcard-read p.len p.length)
          ∙ ap (λ (q : Prefix). Ok (at (taken + 1 + 1) rest (record v { address = p.addr; length = p.len; to = q }))) (holding-prefix p);
    }

-- a side is read as its prefix where a wildcard is read as one
pub side-by : (extended : Bool) (p : Prefix) (rest : List (List ℕ)) (taken : ℕ) (v : Values) → width extended (at_wildcard p rest taken v) ≡ place Wildcard (at_wildcard p rest taken v) →
    SideRead extended (side_words p) rest p taken v
side-by extended p rest taken v width = ⊎_elim
    (λ none. subst (λ ws. SideRead extended ws rest p taken v) (sym (cond-true (p.len == 0) (codes "any" ∷ []) _ none)) (side-any extended p rest taken v (eqb-true p.len 0 none)))
    (λ some. subst (λ ws. SideRead extended ws rest p taken v) (sym (cond-false (p.len == 0) (codes "any" ∷ []) _ some)) (⊎_elim
    (λ full. subst (λ ws. SideRead extended ws rest p taken v) (sym (cond-true (p.len == 32) (codes "host" ∷ address_text p.addr ∷ []) _ full))
    (side-host extended p rest taken v (eqb-true p.len 32 full)))
    (λ wide. subst (λ ws. SideRead extended ws rest p taken v) (sym (cond-false (p.len == 32) (codes "host" ∷ address_text p.addr ∷ []) _ wide)) (side-wide extended p rest taken v width))
    (cases_Bool (p.len == 32))))
    (cases_Bool (p.len == 0))

-- of an extended list
pub side-read : (p : Prefix) (rest : List (List ℕ)) (taken : ℕ) (v : Values) → SideRead true (side_words p) rest p taken v
side-read p rest taken v = side-by true p rest taken v refl

-- and of a standard one
pub standard-side : (p : Prefix) (rest : List (List ℕ)) (taken : ℕ) (v : Values) → SideRead false (side_words p) rest p taken v
standard-side p rest taken v =
    side-by false p rest taken v
    (cond-false (stands_alone (wildcard_text p ∷ rest)) (Ok (alone (at_wildcard p rest taken v))) _ (address-word (2 ^ (32 - p.len) - 1) 108 (codes "og") (wildcard-small p.len) (omega arith)))
