-- The command `prefers DOC FROM TO ROUTERS`.
use Rattle.std.specs.Prelude.{◌≡◌, ◌↔◌, ◌⊎◌, ℕ, ◌+◌, ◌<◌, List, [], Option, Some, None, MatchOption}
use Rattle.std.specs.Prelude.{IfSome, slice_get, Result, Ok, Err}
use Rattle.std.specs.List.{AllZip}
use Rattle.arc_base.specs.declared.place.Router.{Router}
use Rattle.arc_base.specs.declared.refusal.Kind.TheVariants.{UnknownRouter}
use Rattle.arc_outside.specs.Files.{Files}
use Rattle.net_model.specs.declared.policies.Document.{Document}
use Rattle.net_model.specs.declared.policies.Policy.{Policy}
use Rattle.net_model.specs.declared.rows.Network.{Network}
use Rattle.net_model.specs.Validity.{IsValid}
use Rattle.net_rules.specs.Addressing.{HasEndpoints}
use Rattle.arc_prefer.specs.declared.answers.Preferred.{Preferred}
use Rattle.arc_prefer.specs.declared.answers.Stray.{Stray}
use Rattle.arc_prefer.specs.Preferred.{Prefers}
use Rattle.arc_prefer.specs.Answers.{IsRightPreferred}
use Rattle.arc_prefer.specs.Firsts.{IsOfFirstClass}
use Rattle.arc_prefer.specs.PreferText.{prefers_text}
use Rattle.command_words.specs.declared.commands.PrefersWords.{PrefersWords}
use Rattle.run_files.specs.declared.limits.Limits.TheVariants.{Judging}
use Rattle.run_files.specs.declared.outcome.Done.{Done}
use Rattle.run_files.specs.declared.outcome.FileRefusal.{FileRefusal}
use Rattle.run_files.specs.declared.outcome.Stop.{Stop}
use Rattle.run_files.specs.declared.outcome.Stop.TheVariants as stops
use Rattle.run_inputs.specs.Counts.{PoliciesHaveFewClasses}
use Rattle.run_inputs.specs.Inputs.{HoldsInput, IsInputRefusal}
use Rattle.run_files.specs.Refusals.{refusal_of}
use Rattle.reach_commands.specs.Added.{policies_with, reach_policy, RefusesEnds, RefusesClassesWith}

-- the policy that the words make, of which only the prefixes count
abbrev pub prefers_policy : PrefersWords → Policy
prefers_policy words = reach_policy words.from words.to 0

-- the router of the network has this name
abbrev pub IsNamed : Network → List ℕ → Router → Type 0
IsNamed net name router = MatchOption (slice_get net.routers router.0) ⊥ (λ row. row.name ≡ name)

-- no router of the network has this name
abbrev pub NamesNoRouter : Network → List ℕ → Type 0
NamesNoRouter net name = (router : Router) → ¬ IsNamed net name router

-- the name at this place is the first that no router of the network has
pub record IsFirstUnknown (net : Network) (names : List (List ℕ)) (place : ℕ) : Type 0 where
  pub name : List ℕ
  pub at_place : slice_get names place ≡ Some name
  pub unknown : NamesNoRouter net name
  pub before : (k : ℕ) (other : List ℕ) → k < place → slice_get names k ≡ Some other →
      (router : Router) × IsNamed net other router

-- these are the routers of the names, one for each in order
abbrev pub AreNamed : Network → List (List ℕ) → List Router → Type 0
AreNamed net names wanted = AllZip (IsNamed net) names wanted

-- a name is that of no router: the refusal has the place of the first such name, counted from 1
pub record RefusesRouter (words : PrefersWords) (files : Files) (r : FileRefusal) : Type 0 where
  pub doc : Document
  pub net : Network
  pub input : HoldsInput Judging [] words.document files doc net
  pub ends : HasEndpoints net words.from words.to
  pub place : ℕ
  pub first : IsFirstUnknown net words.routers place
  pub told : r ≡ refusal_of words.document (place + 1) UnknownRouter

-- each name is that of a router, and there are too many classes
pub record RefusesPreferClasses (words : PrefersWords) (files : Files)
    (r : FileRefusal) : Type 0 where
  pub many : RefusesClassesWith words.document (prefers_policy words) files r
  pub wanted : List Router
  pub named : AreNamed many.net words.routers wanted

-- The first refusal: of the input; that the prefixes do not lie in two different host networks;
-- that a name is that of no router; or that there are too many classes.
abbrev pub IsPrefersRefusal : PrefersWords → Files → FileRefusal → Type 0
IsPrefersRefusal words files r =
    IsInputRefusal Judging [] words.document files r ⊎
    (RefusesEnds words.document (prefers_policy words) files r ⊎
    (RefusesRouter words files r ⊎ RefusesPreferClasses words files r))

-- 0 if there is no fault, else 1
abbrev pub prefers_status : Option Stray → ℕ
prefers_status None = 0
prefers_status (Some stray) = 1

-- the text of a right answer for a policy among these, whose fault is of the first class that has
-- one
pub record IsPrefersOf (net : Network) (policies : List Policy) (policy : Policy)
    (wanted : List Router) (done : Done) : Type 0 where
  pub answer : Preferred
  pub right : IsRightPreferred net policy wanted answer
  pub first : IfSome answer.fault (IsOfFirstClass net policies policy wanted)
  pub text : done.text ≡ prefers_text net answer
  pub writes : done.writes ≡ []
  pub status : done.status ≡ prefers_status answer.fault

-- the text of a right answer for the policy that the words make
pub record IsPrefersAnswer (words : PrefersWords) (files : Files) (done : Done) : Type 0 where
  pub doc : Document
  pub net : Network
  pub input : HoldsInput Judging [] words.document files doc net
  pub valid : IsValid net
  pub ends : HasEndpoints net words.from words.to
  pub wanted : List Router
  pub named : AreNamed net words.routers wanted
  pub classes : PoliciesHaveFewClasses net (policies_with doc (prefers_policy words))
  pub answer : IsPrefersOf net (policies_with doc (prefers_policy words)) (prefers_policy words)
      wanted done

-- the input has a network with these ends and routers and not too many classes, which prefers the
-- list
pub record PrefersSaysYes (words : PrefersWords) (files : Files) : Type 0 where
  pub doc : Document
  pub net : Network
  pub input : HoldsInput Judging [] words.document files doc net
  pub ends : HasEndpoints net words.from words.to
  pub wanted : List Router
  pub named : AreNamed net words.routers wanted
  pub classes : PoliciesHaveFewClasses net (policies_with doc (prefers_policy words))
  pub prefers : Prefers net (prefers_policy words) wanted

-- the input has a network with these ends and routers and not too many classes, which does not
-- prefer the list
pub record PrefersSaysNo (words : PrefersWords) (files : Files) : Type 0 where
  pub doc : Document
  pub net : Network
  pub input : HoldsInput Judging [] words.document files doc net
  pub ends : HasEndpoints net words.from words.to
  pub wanted : List Router
  pub named : AreNamed net words.routers wanted
  pub classes : PoliciesHaveFewClasses net (policies_with doc (prefers_policy words))
  pub prefers_not : ¬ Prefers net (prefers_policy words) wanted

-- the input, the prefixes, a name of a router or the number of classes is refused
pub record PrefersIsRefused (words : PrefersWords) (files : Files) : Type 0 where
  pub refusal : FileRefusal
  pub refused : IsPrefersRefusal words files refusal

-- The status says which of the three it is: 0 for yes, 1 for no, and 5 for refused.
pub record TellsPrefers (words : PrefersWords) (status : ℕ) (files : Files) : Type 0 where
  pub yes_exactly : (status ≡ 0) ↔ PrefersSaysYes words files
  pub no_exactly : (status ≡ 1) ↔ PrefersSaysNo words files
  pub refused_exactly : (status ≡ 5) ↔ PrefersIsRefused words files
  pub nothing_else : (status ≡ 0) ⊎ ((status ≡ 1) ⊎ (status ≡ 5))

-- the answer of looking up routers by name: the routers, or the refusal of the first unknown name
abbrev pub FindsRouters : List ℕ → Network → List (List ℕ) → Result (List Router) Stop → Type 0
FindsRouters document net names (Ok wanted) = AreNamed net names wanted
FindsRouters document net names (Err (stops.Refused r)) =
    (place : ℕ) × IsFirstUnknown net names place ×
    (r ≡ refusal_of document (place + 1) UnknownRouter)
FindsRouters document net names (Err stops.Memory) = Unit {0}
FindsRouters document net names (Err stops.Failed) = ⊥
