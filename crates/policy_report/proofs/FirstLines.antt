-- The first line of a block, as it is written and read.
use Rattle.std.proofs.Common.{◌≡◌, ℕ, ◌+◌, ◌≤◌, Bool, true, false, cond, List, [], ◌∷◌, ◌⊎◌, inl, inr, refl, ap, ap₂, sym, ◌∙◌, Option, Some, option_and_then, decimal, codes}
use Rattle.std.specs.Str.{bytes_eq}
use Rattle.std.proofs.lemmas.Bool.{and_parts, and_from, eq-eqb, eqb-true}
use Rattle.std.proofs.lemmas.Option.{none-some, same_Some}
use Rattle.std.proofs.lemmas.Slice.Eq.{bytes_eq-Decides}
use Rattle.std.proofs.NetLemmas.Options.{and_then_some}
use Rattle.net_model.specs.declared.policies.Policy.{Policy}
use Rattle.net_model.specs.declared.policies.PolicyKind.{PolicyKind}
use Rattle.net_model.specs.declared.policies.PolicyKind.TheVariants as kinds
use Rattle.policy_report.specs.declared.drafts.Asked.{Asked}
use Rattle.policy_report.specs.declared.drafts.Asked.TheVariants.{Blocked, Through, Reach}
use Rattle.policy_report.specs.declared.drafts.Block.{Block}
use Rattle.policy_report.specs.declared.drafts.Heading.{Heading}
use Rattle.policy_report.specs.Readings.{count_of, asked_by, asked_of, yes_of, no_of, refusal_block, block_of, heading_of}
use Rattle.policy_report.specs.Reports.{kind_word}
use Rattle.policy_report.specs.Steps.{asks_same, is_of_policy}
use Rattle.policy_report.proofs.Parts.{count_read, count_told}

-- what is asked, as a word
abbrev pub asked_word : Asked → List ℕ
asked_word Blocked = codes "blocked"
asked_word Through = codes "through"
asked_word Reach = codes "reach"

-- what the policy asks is the word of its kind
pub word_of_kind : (kind : PolicyKind) → asked_word (asked_by kind) ≡ kind_word kind
word_of_kind kinds.Blocked = refl
word_of_kind kinds.Through = refl
word_of_kind (kinds.Reach k) = refl

asked_read : (kind : PolicyKind) → asked_of (kind_word kind) ≡ Some (asked_by kind)
asked_read kinds.Blocked = refl
asked_read kinds.Through = refl
asked_read (kinds.Reach k) = refl

-- a value that a test chose, or that was chosen after it
pub choose : {A P : Type 0} (b : Bool) (o p : Option A) (y : A) → cond b o p ≡ Some y → (b ≡ true → o ≡ Some y → P) → (p ≡ Some y → P) → P
choose true o p y e first next = first refl e
choose false o p y e first next = next e

pub is_text : (w text : List ℕ) → bytes_eq w text ≡ true → w ≡ text
is_text w text e = (bytes_eq-Decides w text).0 e

asked_told : (w : List ℕ) (asked : Asked) → asked_of w ≡ Some asked → w ≡ asked_word asked
asked_told w asked e =
    choose _ (Some Blocked) _ asked e (λ test same. is_text w (asked_word Blocked) test ∙ ap asked_word (same_Some Blocked asked same)) λ e₁.
    choose _ (Some Through) _ asked e₁ (λ test same. is_text w (asked_word Through) test ∙ ap asked_word (same_Some Through asked same)) λ e₂.
    choose _ (Some Reach) _ asked e₂ (λ test same. is_text w (asked_word Reach) test ∙ ap asked_word (same_Some Reach asked same)) λ none.
    absurd (none-some asked none)

-- the words of the line
abbrev pub heading_words : ℕ → List ℕ → List ℕ → ℕ → List (List ℕ)
heading_words number asked answer count = decimal number ∷ asked ∷ answer ∷ decimal count ∷ []

-- the line is read as what it was written from
pub heading_read : (number count : ℕ) (kind : PolicyKind) (answer : List ℕ) (block : Block) →
    number ≤ 4294967295 → count ≤ 4294967295 → block_of (asked_by kind) answer count ≡ Some block →
    heading_of (heading_words number (kind_word kind) answer count) ≡ Some (record { number = number; asked = asked_by kind; block = block })
heading_read number count kind answer block small few block_is =
    let whole : ℕ → Asked → Block → Option Heading = λ n a b. Some (record { number = n; asked = a; block = b }) in
    let counted : ℕ → Asked → ℕ → Option Heading = λ n a c. option_and_then (whole n a) (block_of a answer c) in
    let asks : ℕ → Asked → Option Heading = λ n a. option_and_then (counted n a) (count_of (decimal count)) in
    ap (option_and_then (λ n. option_and_then (asks n) (asked_of (kind_word kind)))) (count_read number small) ∙
    ap (option_and_then (asks number)) (asked_read kind) ∙
    ap (option_and_then (counted number (asked_by kind))) (count_read count few) ∙
    ap (option_and_then (whole number (asked_by kind))) block_is

-- the line was read as this
pub record IsHeading (ws : List (List ℕ)) (heading : Heading) : Type 0 where
  pub answer : List ℕ
  pub count : ℕ
  pub few : count ≤ 4294967295
  pub told : ws ≡ heading_words heading.number (asked_word heading.asked) answer count
  pub block : block_of heading.asked answer count ≡ Some heading.block

-- a line that is read was written so
pub heading_told : (ws : List (List ℕ)) (heading : Heading) → heading_of ws ≡ Some heading → IsHeading ws heading
heading_told [] heading e = absurd (none-some heading e)
heading_told (a ∷ []) heading e = absurd (none-some heading e)
heading_told (a ∷ b ∷ []) heading e = absurd (none-some heading e)
heading_told (a ∷ b ∷ c ∷ []) heading e = absurd (none-some heading e)
heading_told (a ∷ b ∷ c ∷ d ∷ x ∷ ws) heading e = absurd (none-some heading e)
heading_told (a ∷ b ∷ c ∷ d ∷ []) heading e =
    and_then_some _ (count_of a) heading e λ number number_is e₁.
    and_then_some _ (asked_of b) heading e₁ λ asked asked_is e₂.
    and_then_some _ (count_of d) heading e₂ λ count count_is e₃.
    and_then_some _ (block_of asked c count) heading e₃ λ block block_is e₄.
    let same = same_Some _ heading e₄ in
    let (first, _) = count_told a number number_is in
    let (last, few) = count_told d count count_is in
    let second = asked_told b asked asked_is in
    record {
      answer = c;
      count = count;
      few = few;
      told = ap₂ (λ u us. u ∷ us) first (ap₂ (λ u us. u ∷ us) second (ap (λ u. c ∷ u ∷ []) last)) ∙
          ap (λ (h : Heading). heading_words h.number (asked_word h.asked) c count) same;
      block = ap (λ (h : Heading). block_of h.asked c count) (sym same) ∙ block_is ∙ ap (λ (h : Heading). Some h.block) same;
    }

-- which answer begins a block
pub answered : (asked : Asked) (answer : List ℕ) (count : ℕ) (block : Block) → block_of asked answer count ≡ Some block →
    ((answer ≡ codes "yes") × (yes_of asked count ≡ block)) ⊎
    (((answer ≡ codes "no") × (no_of asked count ≡ Some block)) ⊎ ((answer ≡ codes "refused") × (refusal_block asked count ≡ Some block)))
answered asked answer count block e =
    choose _ _ _ block e (λ test same. inl (is_text answer _ test, same_Some _ block same)) λ e₁.
    choose _ _ _ block e₁ (λ test same. inr (inl (is_text answer _ test, same))) λ e₂.
    choose _ _ _ block e₂ (λ test same. inr (inr (is_text answer _ test, same))) λ none.
    absurd (none-some block none)

-- whether the block is the policy's
asks_itself : (asked : Asked) → asks_same asked asked ≡ true
asks_itself Blocked = refl
asks_itself Through = refl
asks_itself Reach = refl

same_asked : (a b : Asked) → asks_same a b ≡ true → a ≡ b
same_asked Blocked Blocked e = refl
same_asked Through Through e = refl
same_asked Reach Reach e = refl
same_asked Blocked Through e = absurd (cc)
same_asked Blocked Reach e = absurd (cc)
same_asked Through Blocked e = absurd (cc)
same_asked Through Reach e = absurd (cc)
same_asked Reach Blocked e = absurd (cc)
same_asked Reach Through e = absurd (cc)

pub is_its_policy : (policy : Policy) (which : ℕ) (block : Block) → is_of_policy (Some policy) which (record { number = which + 1; asked = asked_by policy.kind; block = block }) ≡ true
is_its_policy policy which block = and_from _ _ (eq-eqb (which + 1) (which + 1) refl) (asks_itself (asked_by policy.kind))

pub policy_is : (policy : Policy) (which : ℕ) (heading : Heading) → is_of_policy (Some policy) which heading ≡ true →
    (heading.number ≡ which + 1) × (heading.asked ≡ asked_by policy.kind)
policy_is policy which heading e =
    let (number, asked) = and_parts _ _ e in
    (eqb-true _ _ number, same_asked heading.asked (asked_by policy.kind) asked)
