-- The laws of the repair formula over network, document and edits.
use Rattle.std.proofs.Common.{◌≡◌, ℕ, zero, suc, ◌≤◌, ◌+◌, ◌↔◌, ◌==◌, ◌⊎◌, inl, inr, Bool, true, false, List, [], ◌∷◌, length, map, sum_by, refl, sym, ◌∙◌, ap, subst, arith}
use Rattle.std.specs.Prelude.{Contains, All, if◌then◌else◌}
use Rattle.std.specs.List.{AllZip}
use Rattle.std.proofs.lemmas.List.{length-map}
use Rattle.std.proofs.lemmas.List.Elements.{All-nil, All-cons, All-head, All-tail}
use Rattle.std.proofs.lemmas.List.Sums.{sum_by-append, sum_by-cons}
use Rattle.arc_base.proofs.Items.{Contains-head, Contains-tail}
use Rattle.cnf_types.specs.declared.literal.Lit.{Lit}
use Rattle.cnf_types.specs.declared.clauses.Formula.{Formula}
use Rattle.cnf_types.specs.Formulas.{Satisfies}
use Rattle.net_model.specs.declared.policies.Document.{Document}
use Rattle.net_model.specs.declared.policies.Policy.{Policy}
use Rattle.net_model.specs.declared.rows.Network.{Network}
use Rattle.net_model.specs.Policies.{Meets}
use Rattle.net_model.specs.Validity.{IsValid}
use Rattle.condition_formula.specs.declared.network.ConditionNet.{ConditionNet}
use Rattle.condition_formula.specs.declared.network.Question.{Question}
use Rattle.condition_formula.specs.Conditions.{IsMet, IsSound}
use Rattle.condition_formula.specs.Formulas.{repair_formula, variable_count}
use Rattle.condition_formula.specs.Laws as formulas
use Rattle.condition_formula.specs.Lists.{upto}
use Rattle.condition_formula.specs.Prices.{share, price}
use Rattle.condition_formula.proofs.Joined as joined
use Rattle.condition_formula.proofs.Within as within
use Rattle.condition_formula.proofs.Distinct.{length-upto}
use Rattle.edit_list.specs.declared.edit_kinds.Edit.{Edit}
use Rattle.edit_list.specs.Prices.{chosen_of, weight, price_of_flags}
use Rattle.policy_encode.specs.Laws.{IsEdited, QuestionsMirrorNetworks, QuestionsArePolicies, ModelsAreRepairs, OneModelServes, IsSearchable, FormulasAreSearchable}
use Rattle.policy_encode.specs.Questions.{IsQuestion, AreConditions}
use Rattle.policy_encode.proofs.Built.{is_sound, question_is_policy, question_mirrors}

-- prices

front : (f : ℕ → ℕ) (n : ℕ) → sum_by f (upto (suc n)) ≡ f 0 + sum_by (λ k. f (suc k)) (upto n)
front f zero = sum_by-cons f 0 []
front f (suc n) =
    let g : ℕ → ℕ = λ k. f (suc k) in
    let one = sum_by-append f (upto (suc n)) (suc n ∷ []) in
    let two = sum_by-cons f (suc n) [] in
    let three = sum_by-append g (upto n) (n ∷ []) in
    let four = sum_by-cons g n [] in
    omega (arith, one, two, three, four, front f n)

more : (w : Edit → ℕ) (e : Edit) (b : Bool) (es : List Edit) (fs : List Bool) (n : ℕ) → n ≡ sum_by w (chosen_of es fs) → (if b then w e else 0) + n ≡ sum_by w (chosen_of (e ∷ es) (b ∷ fs))
more w e true es fs n is = ap (λ m. w e + m) is ∙ sym (sum_by-cons w e (chosen_of es fs))
more w e false es fs n is = omega (arith, is)

pub prices_agree : (w : Edit → ℕ) (list : List Edit) (flags : List Bool) → length flags ≡ length list →
    sum_by (share (formulas.chosen_in flags) (map w list)) (upto (length (map w list))) ≡ sum_by w (chosen_of list flags)
prices_agree w [] flags same = refl
prices_agree w (e ∷ es) [] same = absurd (omega (arith, same))
prices_agree w (e ∷ es) (b ∷ fs) same =
    front (share (formulas.chosen_in (b ∷ fs)) (map w (e ∷ es))) (length (map w es)) ∙
    more w e b es fs (sum_by (share (formulas.chosen_in fs) (map w es)) (upto (length (map w es)))) (prices_agree w es fs (omega (arith, same)))

-- questions and policies, one by one

sound_all : (net : Network) (policies some : List Policy) (list : List Edit) (qs : List Question) → IsValid net →
    AllZip (IsQuestion net policies list) some qs → All (IsSound (length net.routers) (length net.links) (length list)) qs
sound_all net policies [] list [] valid are = All-nil _
sound_all net policies [] list (q ∷ qs) valid are = absurd are
sound_all net policies (p ∷ ps) list [] valid are = absurd are
sound_all net policies (p ∷ ps) list (q ∷ qs) valid are = All-cons (IsSound (length net.routers) (length net.links) (length list)) q qs (is_sound net policies list p q valid are.0)
    (sound_all net policies ps list qs valid are.1)

module _ (net : Network) (doc : Document) (list : List Edit) (flags : List Bool) (after : Network) (ed : IsEdited net doc list flags after) where
  met_all : (some : List Policy) (qs : List Question) → ((p : Policy) → Contains some p → Contains doc.policies p) → AllZip (IsQuestion net doc.policies list) some qs →
      All (IsMet (formulas.chosen_in flags)) qs ↔ All (Meets after) some
  met_all [] [] there are = (λ h. All-nil _, λ h. All-nil _)
  met_all [] (q ∷ qs) there are = absurd are
  met_all (p ∷ ps) [] there are = absurd are
  met_all (p ∷ ps) (q ∷ qs) there are =
      let one = question_is_policy net doc list flags after ed p (there p (Contains-head p ps)) q are.0 in
      let rest = met_all ps qs (λ r m. there r (Contains-tail p r ps m)) are.1 in (
        λ h. All-cons (Meets after) p ps (one.0 (All-head (IsMet (formulas.chosen_in flags)) q qs h)) (rest.0 (All-tail (IsMet (formulas.chosen_in flags)) q qs h)),
        λ h. All-cons (IsMet (formulas.chosen_in flags)) q qs (one.1 (All-head (Meets after) p ps h)) (rest.1 (All-tail (Meets after) p ps h)),
      )

sound_net : (net : Network) (doc : Document) (list : List Edit) (conditions : ConditionNet) → IsValid net → AreConditions net doc list conditions → formulas.IsSoundNet conditions
sound_net net doc list conditions valid are =
    let S : ℕ → ℕ → ℕ → Type 0 = λ n l e. All (IsSound n l e) conditions.questions in
    let many : length conditions.weights ≡ length list = ap length are.weights ∙ length-map list (weight doc.weights) in
    subst (λ n. S n conditions.links (length conditions.weights)) (sym are.nodes)
    (subst (λ l. S (length net.routers) l (length conditions.weights)) (sym are.links)
    (subst (λ e. S (length net.routers) (length net.links) e) (sym many) (sound_all net doc.policies doc.policies list conditions.questions valid are.questions)))

price_is : (net : Network) (doc : Document) (list : List Edit) (conditions : ConditionNet) (flags : List Bool) → AreConditions net doc list conditions → length flags ≡ length list →
    price (formulas.chosen_in flags) conditions.weights ≡ price_of_flags doc list flags
price_is net doc list conditions flags are same =
    ap (λ (ws : List ℕ). price (formulas.chosen_in flags) ws) are.weights ∙ prices_agree (weight doc.weights) list flags same

many_weights : (net : Network) (doc : Document) (list : List Edit) (conditions : ConditionNet) → AreConditions net doc list conditions → length conditions.weights ≡ length list
many_weights net doc list conditions are = ap length are.weights ∙ length-map list (weight doc.weights)

pub questions_mirror_networks : QuestionsMirrorNetworks
questions_mirror_networks net doc list flags after ed policy question member is ends classes are_ends are_classes =
    question_mirrors net doc list flags after ed policy member question is ends classes are_ends are_classes

pub questions_are_policies : QuestionsArePolicies
questions_are_policies net doc list flags after ed policy question member is = question_is_policy net doc list flags after ed policy member question is

pub models_are_repairs : ModelsAreRepairs
models_are_repairs net doc list most formula tops flags after bound is ed within =
    let cs = is.conditions in
    let sound : formulas.IsSoundNet cs = sound_net net doc list cs ed.valid is.are in
    let law = joined.models_are_repairs cs most flags bound sound (ed.one_each ∙ sym (many_weights net doc list cs is.are)) within in
    let met = met_all net doc list flags after ed doc.policies cs.questions (λ p m. m) is.are.questions in
    let costs = price_is net doc list cs flags is.are ed.one_each in (
      λ has.
          let repair = law.0 (record {
            assignment = has.assignment;
            begins = has.begins;
            satisfies = subst (λ (f : Formula). Satisfies has.assignment f) is.formula_is has.satisfies;
            keeps = subst (λ (t : List Lit). formulas.KeepsBound has.assignment t bound) is.tops_are has.keeps;
          }) in
          record { met = met.0 repair.met; affordable = subst (λ n. n ≤ bound) costs repair.affordable },
      λ repair.
          let has = law.1 (record { met = met.1 repair.met; affordable = subst (λ n. n ≤ bound) (sym costs) repair.affordable }) in
          record {
            assignment = has.assignment;
            begins = has.begins;
            satisfies = subst (λ (f : Formula). Satisfies has.assignment f) (sym is.formula_is) has.satisfies;
            keeps = subst (λ (t : List Lit). formulas.KeepsBound has.assignment t bound) (sym is.tops_are) has.keeps;
          },
    )

pub one_model_serves : OneModelServes
one_model_serves net doc list most formula tops flags after is ed meets =
    let cs = is.conditions in
    let sound : formulas.IsSoundNet cs = sound_net net doc list cs ed.valid is.are in
    let met = met_all net doc list flags after ed doc.policies cs.questions (λ p m. m) is.are.questions in
    let costs = price_is net doc list cs flags is.are ed.one_each in
    let one = joined.one_model_serves cs most flags sound (ed.one_each ∙ sym (many_weights net doc list cs is.are)) (met.1 meets) in
    record {
      assignment = one.assignment;
      begins = one.begins;
      satisfies = subst (λ (f : Formula). Satisfies one.assignment f) (sym is.formula_is) one.satisfies;
      keeps = λ bound low high. subst (λ (t : List Lit). formulas.KeepsBound one.assignment t bound) (sym is.tops_are) (one.keeps bound (subst (λ n. n ≤ bound) (sym costs) low) high);
    }

none_or_each : (b : Bool) (f : ℕ → Lit) (most : ℕ) → (length (if b then [] else map f (upto (most + 1))) ≡ 0) ⊎ (length (if b then [] else map f (upto (most + 1))) ≡ most + 1)
none_or_each true f most = inl refl
none_or_each false f most = inr (length-map (upto (most + 1)) f ∙ length-upto (most + 1))

pub formulas_are_searchable : FormulasAreSearchable
formulas_are_searchable net doc list most formula tops valid is =
    let cs = is.conditions in
    let over = within.formulas_are_over_variables cs most (sound_net net doc list cs valid is.are) in
    let many : length cs.weights ≡ length list = many_weights net doc list cs is.are in
    let first : length list ≤ variable_count cs most = omega (arith, many) in
    subst (λ (f : Formula). IsSearchable f tops (length list) most) (sym is.formula_is)
    (subst (λ (t : List Lit). IsSearchable (repair_formula cs most) t (length list) most) (sym is.tops_are)
    (record { clauses = over.clauses; range = over.tops; edits_first = first; one_each = none_or_each (length cs.weights == 0) _ most }))
