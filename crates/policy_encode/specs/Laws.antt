-- What the repair formula says: its models are the sets of edits that mend the network within their
-- price.
use Rattle.std.specs.Prelude.{◌≡◌, ◌↔◌, ◌⊎◌, ℕ, ◌+◌, ◌≤◌, Bool, List, length, All, Contains}
use Rattle.net_model.specs.declared.policies.Class.{Class}
use Rattle.net_model.specs.declared.policies.Document.{Document}
use Rattle.net_model.specs.declared.policies.Policy.{Policy}
use Rattle.net_model.specs.declared.rows.Network.{Network}
use Rattle.net_model.specs.Packets.{subject}
use Rattle.net_model.specs.Policies.{Meets, MeetsDocument}
use Rattle.net_model.specs.Forwarding.{Ends, AreEnds, HasEnds}
use Rattle.net_model.specs.Validity.{IsValid}
use Rattle.cnf_types.specs.Formulas.{Satisfies}
use Rattle.cnf_types.specs.declared.literal.Lit.{Lit}
use Rattle.cnf_types.specs.declared.clauses.Formula.{Formula}
use Rattle.condition_formula.specs.declared.network.Question.{Question}
use Rattle.condition_formula.specs.Conditions.{IsMet}
use Rattle.condition_formula.specs.Laws.{BeginsWith, KeepsBound, IsVariableOf, chosen_in}
use Rattle.edit_list.specs.declared.edit_kinds.Edit.{Edit}
use Rattle.edit_list.specs.After.{IsAfter}
use Rattle.edit_list.specs.EditLists.{AreEdits}
use Rattle.edit_list.specs.Prices.{chosen_of, price_of_flags}
use Rattle.traffic_classes.specs.Classes.{AreClasses}
use Rattle.policy_encode.specs.Mirrors.{Mirrors}
use Rattle.policy_encode.specs.Questions.{IsQuestion}
use Rattle.policy_encode.specs.Formulas.{IsRepairFormula}

-- the flags choose edits of the valid network for the document, and this is the network after them
pub record IsEdited (net : Network) (doc : Document) (list : List Edit) (flags : List Bool)
    (after : Network) : Type 0 where
  pub valid : IsValid net
  pub edits : AreEdits net doc list
  pub one_each : length flags ≡ length list
  pub is_after : IsAfter net (chosen_of list flags) after
  pub valid_after : IsValid after

-- some model of the formula begins with the flags and keeps the bound
pub record HasModel (formula : Formula) (tops : List Lit) (flags : List Bool)
    (bound : ℕ) : Type 0 where
  pub assignment : ℕ → Bool
  pub begins : BeginsWith assignment flags
  pub satisfies : Satisfies assignment formula
  pub keeps : KeepsBound assignment tops bound

-- one model that begins with the flags keeps each bound from their price to the greatest
pub record HasOneModel (formula : Formula) (tops : List Lit) (flags : List Bool)
    (price most : ℕ) : Type 0 where
  pub assignment : ℕ → Bool
  pub begins : BeginsWith assignment flags
  pub satisfies : Satisfies assignment formula
  pub keeps : (bound : ℕ) → price ≤ bound → bound ≤ most → KeepsBound assignment tops bound

-- the flags mend the network at no more than this price: the network after them meets the document
pub record IsRepair (doc : Document) (list : List Edit) (flags : List Bool) (after : Network)
    (bound : ℕ) : Type 0 where
  pub met : MeetsDocument after doc
  pub affordable : price_of_flags doc list flags ≤ bound

-- the question of a policy mirrors the network after the edits: each routed arc is in it, under
-- conditions that hold, each of its arcs whose conditions hold is routed, and all else that it asks
-- holds exactly if the network's own lists permit
abbrev pub QuestionsMirrorNetworks : Type 0
QuestionsMirrorNetworks =
    (net : Network) (doc : Document) (list : List Edit) (flags : List Bool) (after : Network) →
    IsEdited net doc list flags after →
    (policy : Policy) (question : Question) → Contains doc.policies policy →
    IsQuestion net doc.policies list policy question →
    (ends : Ends) (classes : List Class) → AreEnds after (subject policy) ends →
    AreClasses net doc.policies policy classes →
    Mirrors after ends classes (chosen_in flags) question

-- the question of a policy is met by a choice of edits exactly where the network after them meets
-- the policy
abbrev pub QuestionsArePolicies : Type 0
QuestionsArePolicies =
    (net : Network) (doc : Document) (list : List Edit) (flags : List Bool) (after : Network) →
    IsEdited net doc list flags after →
    (policy : Policy) (question : Question) → Contains doc.policies policy →
    IsQuestion net doc.policies list policy question →
    IsMet (chosen_in flags) question ↔ Meets after policy

-- the formula under a bound has a model that begins with the flags exactly where they mend the
-- network at no more than that price
abbrev pub ModelsAreRepairs : Type 0
ModelsAreRepairs =
    (net : Network) (doc : Document) (list : List Edit) (most : ℕ) (formula : Formula)
    (tops : List Lit) (flags : List Bool) (after : Network) (bound : ℕ) →
    IsRepairFormula net doc list most formula tops →
    IsEdited net doc list flags after → bound ≤ most →
    HasModel formula tops flags bound ↔ IsRepair doc list flags after bound

-- where the network after the flags' edits meets the document, one model that begins with them
-- keeps each bound from their price on
abbrev pub OneModelServes : Type 0
OneModelServes =
    (net : Network) (doc : Document) (list : List Edit) (most : ℕ) (formula : Formula)
    (tops : List Lit) (flags : List Bool) (after : Network) →
    IsRepairFormula net doc list most formula tops →
    IsEdited net doc list flags after → MeetsDocument after doc →
    HasOneModel formula tops flags (price_of_flags doc list flags) most

-- the formula is fit for a search: its literals and its tops are of its variables, the first of
-- which are the edits', and each bound has a top, if any has
pub record IsSearchable (formula : Formula) (tops : List Lit) (edits most : ℕ) : Type 0 where
  pub clauses : All (λ c. All (IsVariableOf formula.vars) c.lits) formula.clauses
  pub range : All (IsVariableOf formula.vars) tops
  pub edits_first : edits ≤ formula.vars
  pub one_each : (length tops ≡ 0) ⊎ (length tops ≡ most + 1)

-- the repair formula of a valid network is fit for a search
abbrev pub FormulasAreSearchable : Type 0
FormulasAreSearchable =
    (net : Network) (doc : Document) (list : List Edit) (most : ℕ) (formula : Formula)
    (tops : List Lit) → IsValid net → IsRepairFormula net doc list most formula tops →
    IsSearchable formula tops (length list) most

-- a network, a document whose policies have their ends and a list of edits have a repair formula
abbrev pub FormulasAreThere : Type 0
FormulasAreThere =
    (net : Network) (doc : Document) (list : List Edit) (most : ℕ) →
    All (λ policy. HasEnds net (subject policy)) doc.policies →
    (formula : Formula) × (tops : List Lit) × IsRepairFormula net doc list most formula tops

-- a network, a document and a list of edits have at most one repair formula
abbrev pub HaveOneFormula : Type 0
HaveOneFormula =
    (net : Network) (doc : Document) (list : List Edit) (most : ℕ) (formula other : Formula)
    (tops others : List Lit) → IsValid net → IsRepairFormula net doc list most formula tops →
    IsRepairFormula net doc list most other others → (formula ≡ other) × (tops ≡ others)
