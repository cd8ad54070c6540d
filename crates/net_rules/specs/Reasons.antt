-- Reasons to refuse the input, each as the set of the refusals that it makes, and which of these
-- comes first.
use Rattle.std.specs.Prelude.{◌≡◌, ℕ, ◌+◌, ◌<◌, ◌⊎◌, Some, Result, Ok, Err, List, slice_get}
use Rattle.arc_base.specs.declared.refusal.Kind.{Kind}
use Rattle.net_doc.specs.declared.fault.Refusal.{Refusal}
use Rattle.net_doc.specs.declared.fault.NetFault.{NetFault}
use Rattle.net_doc.specs.declared.fault.NetFault.TheVariants.{Refused, Memory}

-- the refusal comes before the other: in an earlier file, or in the same one at an earlier line or
-- item
abbrev pub IsBefore : Refusal → Refusal → Type 0
IsBefore r s = (r.file < s.file) ⊎ ((r.file ≡ s.file) × (r.number < s.number))

-- for this reason nothing is refused
abbrev pub NoRefusal : (Refusal → Type 0) → Type 0
NoRefusal Reason = (r : Refusal) → ¬ Reason r

-- the refusal is the first that the reason makes
pub record IsEarliest (Reason : Refusal → Type 0) (r : Refusal) : Type 0 where
  pub made : Reason r
  pub first : (other : Refusal) → Reason other → ¬ IsBefore other r

-- the answer of a try: nothing is refused for the reason and the value is right, or it is the first
-- refusal, or out of memory
abbrev pub Tried : {X : Type 0} → (Refusal → Type 0) → (X → Type 0) → Result X NetFault → Type 0
Tried Reason IsRight (Ok value) = NoRefusal Reason × IsRight value
Tried Reason IsRight (Err (Refused r)) = IsEarliest Reason r
Tried Reason IsRight (Err Memory) = Unit {0}

-- the answer of a try that gives no value
abbrev pub TriedAlone : (Refusal → Type 0) → Result (Unit {0}) NetFault → Type 0
TriedAlone Reason result = Tried Reason (λ done. Unit {0}) result

-- a refusal of an item of a list: the item at a place, its number, and what is wrong there; the
-- file is that of the item
pub record InFiles {X : Type 0} (kind : Kind) (Offends : ℕ → X → ℕ → Type 0) (items : List X)
    (r : Refusal) : Type 0 where
  pub place : ℕ
  pub item : X
  pub at_place : slice_get items place ≡ Some item
  pub number : ℕ
  pub offends : Offends place item number
  pub told : r ≡ record { file = place + 1; number = number; kind = kind }

-- a refusal of an item of the document, a link or a policy, by its number
pub record InDocument {X : Type 0} (kind : Kind) (Offends : ℕ → X → Type 0) (items : List X)
    (r : Refusal) : Type 0 where
  pub place : ℕ
  pub item : X
  pub at_place : slice_get items place ≡ Some item
  pub offends : Offends place item
  pub told : r ≡ record { file = 0; number = place + 1; kind = kind }
