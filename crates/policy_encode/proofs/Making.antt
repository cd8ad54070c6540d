-- Steps of the code that makes the network of conditions.
use Rattle.std.proofs.Common.{◌≡◌, ℕ, ◌+◌, ◌*◌, ◌<◌, ◌≤◌, append_assoc, Bool, true, false, cond, not, Option, Some}
use Rattle.std.proofs.Common.{None, List, [], ◌∷◌, ◌++◌, length, get_or, take, filter, refl, sym, ◌∙◌, ap, subst, arith}
use Rattle.std.specs.Prelude.{All, slice_get, if◌then◌else◌}
use Rattle.std.specs.List.{flat_map, list_any, AllZip}
use Rattle.std.specs.Option.{option_map_or}
use Rattle.std.proofs.lemmas.List.{length-append, get_or_default}
use Rattle.std.proofs.lemmas.List.Elements.{All-nil, All-cons}
use Rattle.std.proofs.lemmas.Option.{same_Some}
use Rattle.arc_base.specs.declared.prefix.Prefix.{Prefix}
use Rattle.arc_base.proofs.Items.{pieces_more, pieces_all}
use Rattle.net_model.specs.declared.policies.Class.{Class}
use Rattle.net_model.specs.declared.policies.Document.{Document}
use Rattle.net_model.specs.declared.policies.Policy.{Policy}
use Rattle.net_model.specs.declared.rows.FaceRow.{FaceRow}
use Rattle.net_model.specs.declared.rows.LinkRow.{LinkRow}
use Rattle.net_model.specs.declared.rows.Network.{Network}
use Rattle.net_model.specs.Decided.{is_told}
use Rattle.net_model.specs.Forwarding.{IsHostOf, LiesInHostOf}
use Rattle.net_model.specs.Validity.{IsValid}
use Rattle.condition_formula.specs.declared.network.ConditionArc.{ConditionArc}
use Rattle.condition_formula.specs.declared.network.ConditionNet.{ConditionNet}
use Rattle.condition_formula.specs.declared.network.Question.{Question}
use Rattle.condition_formula.specs.declared.network.Demand.{Demand}
use Rattle.condition_formula.specs.declared.condition.ClassEnds.{ClassEnds}
use Rattle.condition_formula.specs.Limits.{IsSmallNet}
use Rattle.edit_list.specs.declared.edit_kinds.Edit.{Edit}
use Rattle.arc_base.specs.Numbered.{placed}
use Rattle.arc_base.proofs.Zips.{AllZip-length}
use Rattle.edit_list.proofs.Placing.{placed_length, placed_at}
use Rattle.policy_encode.specs.Questions.{is_able, is_never, arc_over, able_arcs, link_arcs, arcs_to, IsQuestion, AreConditions}

front : (test : ConditionArc → Bool) (x y : ConditionArc) → filter test (x ∷ []) ++ filter test (y ∷ []) ≡ filter test (x ∷ y ∷ [])
front test x y = by (test x)
  where
    by : (b : Bool) → cond b (x ∷ []) [] ++ filter test (y ∷ []) ≡ cond b (x ∷ filter test (y ∷ [])) (filter test (y ∷ []))
    by true = refl
    by false = refl

-- two arcs, of which those are added that pass
pub two_added : (test : ConditionArc → Bool) (a b x y : ConditionArc) (p q r : List ConditionArc) → q ≡ p ++ filter test (a ∷ []) →
    r ≡ q ++ filter test (b ∷ []) → a ≡ x → b ≡ y → r ≡ p ++ filter test (x ∷ y ∷ [])
two_added test a b x y p q r one two forth back =
    two ∙ ap (λ l. l ++ filter test (b ∷ [])) one ∙ append_assoc p (filter test (a ∷ [])) (filter test (b ∷ [])) ∙
    ap (λ z. p ++ (filter test (z ∷ []) ++ filter test (b ∷ []))) forth ∙ ap (λ z. p ++ (filter test (x ∷ []) ++ filter test (z ∷ []))) back ∙ ap (λ l. p ++ l) (front test x y)

-- one link more
pub link_more : (net : Network) (list : List Edit) (to : Prefix) (classes : List Class) (now next : List ConditionArc) (i : ℕ) (row : LinkRow) → i < length net.links → row ≡ get_or net.links i row →
    now ≡ flat_map (link_arcs net list to classes) (take i (placed net.links)) → next ≡ now ++ link_arcs net list to classes (i, row) →
    next ≡ flat_map (link_arcs net list to classes) (take (i + 1) (placed net.links))
link_more net list to classes now next i row within is was grown =
    pieces_more (link_arcs net list to classes) now next (placed net.links) i (i, row) (omega (arith, within, placed_length net.links)) (placed_at net.links i row within is) was grown

-- the same, where the links are read from a slice of them
pub link_step : (net : Network) (list : List Edit) (to : Prefix) (classes : List Class) (items : List LinkRow) (d : LinkRow) (now next : List ConditionArc) (i : ℕ) → items ≡ net.links →
    i < length items →
    now ≡ flat_map (link_arcs net list to classes) (take i (placed net.links)) → next ≡ now ++ link_arcs net list to classes (i, get_or items i d) →
    next ≡ flat_map (link_arcs net list to classes) (take (i + 1) (placed net.links))
link_step net list to classes items d now next i same within was grown =
    let low : i < length net.links = omega (arith, within, ap length same) in
    link_more net list to classes now next i (get_or items i d) low (ap (λ (l : List LinkRow). get_or l i d) same ∙ get_or_default net.links i d (get_or items i d) low) was grown

-- all links
pub links_all : (net : Network) (list : List Edit) (to : Prefix) (classes : List Class) (now : List ConditionArc) (i : ℕ) (told : Bool) → told ≡ is_told net to → told ≡ true → length net.links ≤ i →
    now ≡ flat_map (link_arcs net list to classes) (take i (placed net.links)) → now ≡ arcs_to net list to classes
links_all net list to classes now i told is yes_told past was =
    pieces_all (link_arcs net list to classes) now (placed net.links) i (omega (arith, past, placed_length net.links)) was ∙
    sym (ap (λ b. if b then flat_map (link_arcs net list to classes) (placed net.links) else []) (sym is ∙ yes_told))

-- the interface at a place that holds the prefix has the row that is read there
pub host_row : (net : Network) (p : Prefix) (place : ℕ) (row : FaceRow) → IsHostOf net p place → slice_get net.faces place ≡ Some row → LiesInHostOf p row
host_row net p place row is at = subst (λ (f : FaceRow). LiesInHostOf p f) (same_Some is.face row (sym is.at_place ∙ at)) is.lies

pub same_question : (d e : Demand) (s t : ℕ) (arcs others : List ConditionArc) (ends more : List ClassEnds) → d ≡ e → arcs ≡ others → ends ≡ more →
    ◌≡◌ {A = Question} (record { demand = d; source = s; target = t; arcs = arcs; classes = ends }) (record { demand = e; source = s; target = t; arcs = others; classes = more })
same_question d e s t arcs others ends more a b c = λ i. record { demand = a i; source = s; target = t; arcs = b i; classes = c i }

-- the network of conditions is small

or_few : {X : Type 0} (f : X → List ConditionArc) (o : Option X) → ((x : X) → length (f x) ≤ 2) → length (option_map_or f o []) ≤ 2
or_few f None h = omega arith
or_few f (Some x) h = h x

if_few : (b : Bool) (xs : List ConditionArc) → length xs ≤ 2 → length (if b then xs else []) ≤ 2
if_few true xs h = h
if_few false xs h = omega arith

kept_few : (b c : Bool) (x y : ConditionArc) → length (cond b (x ∷ cond c (y ∷ []) []) (cond c (y ∷ []) [])) ≤ 2
kept_few true true x y = omega arith
kept_few true false x y = omega arith
kept_few false true x y = omega arith
kept_few false false x y = omega arith

link_few : (net : Network) (list : List Edit) (to : Prefix) (classes : List Class) (link : ℕ × LinkRow) → length (link_arcs net list to classes link) ≤ 2
link_few net list to classes link =
    or_few (λ (a : FaceRow). option_map_or (λ (b : FaceRow). if is_able net link.1 a b then able_arcs net list to classes link a b else []) (slice_get net.faces link.1.b.0) [])
    (slice_get net.faces link.1.a.0)
    (λ a. or_few (λ (b : FaceRow). if is_able net link.1 a b then able_arcs net list to classes link a b else []) (slice_get net.faces link.1.b.0)
    (λ b. if_few (is_able net link.1 a b) (able_arcs net list to classes link a b)
    (let x = arc_over net list to classes link a b true in let y =
    arc_over net list to classes link a b false in kept_few (not (list_any is_never x.routing)) (not (list_any is_never y.routing)) x y)))

links_few : (net : Network) (list : List Edit) (to : Prefix) (classes : List Class) (links : List (ℕ × LinkRow)) → length (flat_map (link_arcs net list to classes) links) ≤ 2 * length links
links_few net list to classes [] = omega arith
links_few net list to classes (link ∷ links) =
    omega (arith, length-append (link_arcs net list to classes link) (flat_map (link_arcs net list to classes) links), link_few net list to classes link, links_few net list to classes links)

arcs_few : (net : Network) (list : List Edit) (to : Prefix) (classes : List Class) (b : Bool) → length net.links ≤ 1024 →
    length (if b then flat_map (link_arcs net list to classes) (placed net.links) else []) ≤ 65536
arcs_few net list to classes true few = omega (arith, links_few net list to classes (placed net.links), placed_length net.links, few)
arcs_few net list to classes false few = omega arith

all_few : (net : Network) (policies some : List Policy) (list : List Edit) (qs : List Question) → length net.links ≤ 1024 →
    AllZip (IsQuestion net policies list) some qs → All (λ q. length q.arcs ≤ 65536) qs
all_few net policies [] list [] few are = All-nil _
all_few net policies [] list (q ∷ qs) few are = absurd are
all_few net policies (p ∷ ps) list [] few are = absurd are
all_few net policies (p ∷ ps) list (q ∷ qs) few are =
    All-cons (λ (x : Question). length x.arcs ≤ 65536) q qs
    (subst (λ (x : Question). length x.arcs ≤ 65536) (sym are.0.is) (arcs_few net list are.0.to are.0.classes (is_told net are.0.to) few))
    (all_few net policies ps list qs few are.1)

pub small_net : (net : Network) (doc : Document) (list : List Edit) (conditions : ConditionNet) → IsValid net → length doc.policies ≤ 256 →
    AreConditions net doc list conditions → IsSmallNet conditions
small_net net doc list conditions valid few are =
    let many = AllZip-length (IsQuestion net doc.policies list) doc.policies conditions.questions are.questions in
    record {
      nodes = omega (arith, are.nodes, valid.few_routers);
      arcs = all_few net doc.policies doc.policies list conditions.questions valid.few_links are.questions;
      questions = omega (arith, many, few);
    }
