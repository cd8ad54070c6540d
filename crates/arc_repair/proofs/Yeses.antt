-- All policies with a yes, and why no policy has too many classes.
use Rattle.std.proofs.Common.{◌≡◌, Bool, true, Option, Some, None, List, [], ◌∷◌, refl, arith}
use Rattle.std.specs.Prelude.{IsNone}
use Rattle.std.specs.List.{AllZip, list_all}
use Rattle.std.proofs.lemmas.Bool.{and_parts}
use Rattle.net_model.specs.declared.policies.Document.{Document}
use Rattle.net_model.specs.declared.policies.Policy.{Policy}
use Rattle.net_model.specs.declared.rows.Network.{Network}
use Rattle.net_model.specs.declared.verdicts.Verdict.{Verdict}
use Rattle.net_model.specs.Witnesses.{is_yes, IsRight}
use Rattle.traffic_classes.specs.Classes.{AreClasses}
use Rattle.traffic_classes.proofs.EachPolicy.{no_more}
use Rattle.traffic_classes.proofs.Unions.{have_one_list}
use Rattle.verdicts.specs.Judged.{HasFewClassesEach}
use Rattle.edit_list.specs.declared.edit_kinds.Edit.{Edit}
use Rattle.edit_list.specs.After.{IsAfter}
use Rattle.edit_list.specs.EditLists.{AreEdits, DocumentHasFewClasses}
use Rattle.network_edit_laws.specs.Kept.{ClassesStay}
use Rattle.edit_list.specs.Prices.{chosen_of}
use Rattle.arc_repair.specs.Claims.{IsRightYes}

-- right verdicts that are all yes
pub right_yeses : (net : Network) (policies : List Policy) (verdicts : List Verdict) → AllZip (IsRight net) policies verdicts →
    list_all is_yes verdicts ≡ true → AllZip (IsRightYes net) policies verdicts
right_yeses net [] [] right positive = tt
right_yeses net [] (v ∷ vs) right positive = absurd right
right_yeses net (p ∷ ps) [] right positive = absurd right
right_yeses net (p ∷ ps) (v ∷ vs) right positive =
    let both = and_parts (is_yes v) (list_all is_yes vs) positive in
    (record { yes = both.0; right = right.0 }, right_yeses net ps vs right.1 both.1)

-- if the document has few classes, each policy has few after edits too
pub few_after : ClassesStay → (net after : Network) (doc : Document) (list : List Edit) (flags : List Bool) → AreEdits net doc list →
    IsAfter net (chosen_of list flags) after → DocumentHasFewClasses net doc → HasFewClassesEach after doc.policies
few_after stay net after doc list flags edits is few policy one classes are =
    let before : AreClasses net doc.policies policy classes = (stay net after doc list flags edits is policy classes).1 are in
    let all = (have_one_list net doc.policies doc.policies).0 in
    omega (arith, no_more net doc.policies policy classes all.0 one before all.1, few all.0 all.1)

-- an option without a value is None
pub never_some : {X : Type 0} (o : Option X) → ((x : X) → o ≡ Some x → ⊥) → IsNone o
never_some None never = refl
never_some (Some x) never = absurd (never x refl)
