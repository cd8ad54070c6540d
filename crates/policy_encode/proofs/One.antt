-- There is one network of conditions, and so one repair formula.
use Rattle.std.proofs.Common.{◌≡◌, ℕ, Some, List, [], ◌∷◌, length, map, refl, sym, ◌∙◌, ap}
use Rattle.std.specs.Prelude.{All, slice_get}
use Rattle.std.specs.List.{AllZip}
use Rattle.std.proofs.lemmas.List.Elements.{All-head, All-tail}
use Rattle.std.proofs.lemmas.Option.{same_Some}
use Rattle.arc_base.specs.declared.place.Face.{Face}
use Rattle.arc_base.specs.declared.prefix.Prefix.{Prefix}
use Rattle.net_model.specs.declared.policies.Class.{Class}
use Rattle.net_model.specs.declared.policies.Document.{Document}
use Rattle.net_model.specs.declared.policies.Policy.{Policy}
use Rattle.net_model.specs.declared.policies.PolicyKind.{PolicyKind}
use Rattle.net_model.specs.declared.rows.FaceRow.{FaceRow}
use Rattle.net_model.specs.declared.rows.Network.{Network}
use Rattle.net_model.specs.Forwarding.{HasEnds, IsHostFace}
use Rattle.net_model.specs.Packets.{subject}
use Rattle.net_model.specs.Validity.{IsValid}
use Rattle.net_model.proofs.Hosts.{one_host, source_face, target_face}
use Rattle.net_model.proofs.Readings.{place_of_item}
use Rattle.traffic_classes.proofs.MakingUp.{has_one_list}
use Rattle.condition_formula.specs.declared.network.ConditionNet.{ConditionNet}
use Rattle.condition_formula.specs.declared.network.Question.{Question}
use Rattle.condition_formula.specs.Formulas.{repair_formula, tops_of}
use Rattle.edit_list.specs.declared.edit_kinds.Edit.{Edit}
use Rattle.edit_list.specs.Prices.{weight}
use Rattle.policy_encode.specs.Laws.{FormulasAreThere, HaveOneFormula}
use Rattle.policy_encode.specs.Questions.{question_of, IsQuestion, AreConditions}

same_parts : (net : Network) (list : List Edit) (kind : PolicyKind) (s t : Face) (f g h k : FaceRow) (p q : Prefix) (cs ds : List Class) → s ≡ t → f ≡ g → h ≡ k → p ≡ q → cs ≡ ds →
    question_of net list kind s f h p cs ≡ question_of net list kind t g k q ds
same_parts net list kind s t f g h k p q cs ds a b c d e =
    ap (λ (x : Face). question_of net list kind x f h p cs) a ∙ ap (λ (x : FaceRow). question_of net list kind t x h p cs) b ∙ ap (λ (x : FaceRow). question_of net list kind t g x p cs) c ∙
    ap (λ (x : Prefix). question_of net list kind t g k x cs) d ∙ ap (λ (x : List Class). question_of net list kind t g k q x) e

one_row : (net : Network) (i j : ℕ) (f g : FaceRow) → i ≡ j → slice_get net.faces i ≡ Some f → slice_get net.faces j ≡ Some g → f ≡ g
one_row net i j f g same at_i at_j = same_Some f g (sym at_i ∙ ap (λ n. slice_get net.faces n) same ∙ at_j)

one_question : (net : Network) (policies : List Policy) (list : List Edit) (policy : Policy) (x y : Question) → IsValid net →
    IsQuestion net policies list policy x → IsQuestion net policies list policy y → x ≡ y
one_question net policies list policy x y valid a b =
    let source : a.source.0 ≡ b.source.0 = one_host net valid policy.from a.source.0 b.source.0 a.source_is b.source_is in
    let target : a.target.0 ≡ b.target.0 = one_host net valid policy.to a.target.0 b.target.0 a.target_is b.target_is in
    let s : a.source_is.face ≡ b.source_is.face = one_row net a.source.0 b.source.0 a.source_is.face b.source_is.face source a.source_is.at_place b.source_is.at_place in
    let t : a.target_is.face ≡ b.target_is.face = one_row net a.target.0 b.target.0 a.target_is.face b.target_is.face target a.target_is.at_place b.target_is.at_place in
    let to : a.to ≡ b.to = same_Some a.to b.to (sym a.to_is ∙ ap (λ (f : FaceRow). f.host) t ∙ b.to_is) in
    let face : a.source ≡ b.source = let face_of : ℕ → Face = λ n. record { 0 = n } in ap face_of source in
    let classes : a.classes ≡ b.classes = (has_one_list net policies policy).1 a.classes b.classes a.classes_are b.classes_are in
    a.is ∙ same_parts net list policy.kind a.source b.source a.source_is.face b.source_is.face a.target_is.face b.target_is.face a.to b.to a.classes b.classes face s t to classes ∙ sym b.is

one_list : (net : Network) (policies some : List Policy) (list : List Edit) (xs ys : List Question) → IsValid net →
    AllZip (IsQuestion net policies list) some xs → AllZip (IsQuestion net policies list) some ys → xs ≡ ys
one_list net policies [] list [] [] valid a b = refl
one_list net policies [] list [] (y ∷ ys) valid a b = absurd b
one_list net policies [] list (x ∷ xs) ys valid a b = absurd a
one_list net policies (p ∷ ps) list [] ys valid a b = absurd a
one_list net policies (p ∷ ps) list (x ∷ xs) [] valid a b = absurd b
one_list net policies (p ∷ ps) list (x ∷ xs) (y ∷ ys) valid a b =
    let head : x ≡ y = one_question net policies list p x y valid a.0 b.0 in
    let tail : xs ≡ ys = one_list net policies ps list xs ys valid a.1 b.1 in
    ap (λ (z : Question). z ∷ xs) head ∙ ap (λ (zs : List Question). y ∷ zs) tail

pub one_net : (net : Network) (doc : Document) (list : List Edit) (x y : ConditionNet) → IsValid net → AreConditions net doc list x → AreConditions net doc list y → x ≡ y
one_net net doc list x y valid a b =
    let nodes : x.nodes ≡ y.nodes = a.nodes ∙ sym b.nodes in
    let links : x.links ≡ y.links = a.links ∙ sym b.links in
    let weights : x.weights ≡ y.weights = a.weights ∙ sym b.weights in
    let questions : x.questions ≡ y.questions = one_list net doc.policies doc.policies list x.questions y.questions valid a.questions b.questions in
    λ i. record { nodes = nodes i; links = links i; weights = weights i; questions = questions i }

pub one_formula : HaveOneFormula
one_formula net doc list most formula other tops others valid a b =
    let same : a.conditions ≡ b.conditions = one_net net doc list a.conditions b.conditions valid a.are b.are in (
      a.formula_is ∙ ap (λ (c : ConditionNet). repair_formula c most) same ∙ sym b.formula_is,
      a.tops_are ∙ ap (λ (c : ConditionNet). tops_of c most) same ∙ sym b.tops_are,
    )

-- a policy with ends has a question
some_question : (net : Network) (policies : List Policy) (list : List Edit) (policy : Policy) → HasEnds net (subject policy) → (q : Question) × IsQuestion net policies list policy q
some_question net policies list policy has =
    let from : IsHostFace net policy.from has.ends.source = source_face net (subject policy) has.ends has.are_ends in
    let to : IsHostFace net policy.to has.ends.target = target_face net (subject policy) has.ends has.are_ends in
    let i = place_of_item net.faces has.ends.source from.is_face in
    let j = place_of_item net.faces has.ends.target to.is_face in
    let face : ℕ → Face = λ n. record { 0 = n } in
    let classes = (has_one_list net policies policy).0 in (
      question_of net list policy.kind (face i.0) has.ends.source has.ends.target has.ends.to classes.0,
      record {
        source = face i.0;
        target = face j.0;
        to = has.ends.to;
        classes = classes.0;
        source_is = record { face = has.ends.source; at_place = i.1; lies = from.lies };
        target_is = record { face = has.ends.target; at_place = j.1; lies = to.lies };
        to_is = has.are_ends.host;
        classes_are = classes.1;
        is = refl;
      },
    )

some_questions : (net : Network) (policies some : List Policy) (list : List Edit) → All (λ policy. HasEnds net (subject policy)) some →
    (qs : List Question) × AllZip (IsQuestion net policies list) some qs
some_questions net policies [] list has = ([], tt)
some_questions net policies (p ∷ ps) list has =
    let first = some_question net policies list p (All-head (λ (q : Policy). HasEnds net (subject q)) p ps has) in
    let rest = some_questions net policies ps list (All-tail (λ (q : Policy). HasEnds net (subject q)) p ps has) in
    (first.0 ∷ rest.0, (first.1, rest.1))

pub formulas_are_there : FormulasAreThere
formulas_are_there net doc list most has =
    let questions = some_questions net doc.policies doc.policies list has in
    let conditions : ConditionNet = record { nodes = length net.routers; links = length net.links; weights = map (weight doc.weights) list; questions = questions.0 } in
    let are : AreConditions net doc list conditions = record { nodes = refl; links = refl; weights = refl; questions = questions.1 } in
    (repair_formula conditions most, tops_of conditions most, record { conditions = conditions; are = are; formula_is = refl; tops_are = refl })
