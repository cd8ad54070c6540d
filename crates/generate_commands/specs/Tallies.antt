-- How many policies a network meets, how many it breaks, and how many are not clear in it.
use Rattle.std.specs.Prelude.{◌≡◌, ◌⊎◌, ℕ, suc, ◌+◌, Bool, true, false, cond, List, [], ◌∷◌}
use Rattle.std.specs.Prelude.{count_by}
use Rattle.net_model.specs.declared.policies.Policy.{Policy}
use Rattle.net_model.specs.declared.policies.PolicyKind.TheVariants.{Reach}
use Rattle.net_model.specs.declared.rows.Network.{Network}
use Rattle.net_model.specs.declared.verdicts.Verdict.{Verdict}
use Rattle.net_model.specs.declared.verdicts.Verdict.TheVariants.{Refused}
use Rattle.net_model.specs.Forwarding.{Ends, AreEnds}
use Rattle.net_model.specs.Packets.{subject}
use Rattle.net_model.specs.Policies.{IsClear, Meets}
use Rattle.net_model.specs.Witnesses.{is_yes, is_no}
use Rattle.generate_commands.specs.declared.tallies.Tally.{Tally}

-- n of the items have the property, and none of the others has
abbrev pub HasSoMany : {X : Type 0} → (X → Type 0) → List X → ℕ → Type 0
HasSoMany P [] n = n ≡ 0
HasSoMany P (x ∷ xs) n =
    (P x × ((m : ℕ) × (n ≡ suc m) × HasSoMany P xs m)) ⊎ ((¬ P x) × HasSoMany P xs n)

-- a reach policy that is not clear: some routed arc denies packets of it
pub record IsUnclear (net : Network) (policy : Policy) : Type 0 where
  pub failures : ℕ
  pub kind : policy.kind ≡ Reach failures
  pub ends : Ends
  pub are_ends : AreEnds net (subject policy) ends
  pub unclear : ¬ IsClear net ends (subject policy)

-- a policy that is clear where it has to be, and is not met
abbrev pub IsBroken : Network → Policy → Type 0
IsBroken net policy = (¬ Meets net policy) × (¬ IsUnclear net policy)

-- the numbers of the policies that the network meets, that it breaks, and that are not clear in it
pub record IsTally (net : Network) (policies : List Policy) (tally : Tally) : Type 0 where
  pub yes : HasSoMany (Meets net) policies tally.yes
  pub no : HasSoMany (IsBroken net) policies tally.no
  pub refused : HasSoMany (IsUnclear net) policies tally.refused

-- whether the verdict refuses its policy
abbrev pub is_refused : Verdict → Bool
is_refused (Refused p link) = true
is_refused _ = false

-- how many of the verdicts are a yes, a no and a refusal
abbrev pub tally_of : List Verdict → Tally
tally_of verdicts = record {
  yes = count_by is_yes verdicts;
  no = count_by is_no verdicts;
  refused = count_by is_refused verdicts;
}

-- the tally with one more verdict
abbrev pub one_more : Tally → Verdict → Tally
one_more tally v = record {
  yes = tally.yes + cond (is_yes v) 1 0;
  no = tally.no + cond (is_no v) 1 0;
  refused = tally.refused + cond (is_refused v) 1 0;
}
