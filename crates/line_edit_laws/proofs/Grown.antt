-- The groups of commands of which each has others of its part around it, and of which some new parts stand among the old ones.
use Rattle.std.proofs.Common.{◌≡◌, ◌||◌, not, Bool, true, false, cond, List, [], ◌∷◌, ◌++◌, map, refl, sym, ap, subst, ◌∙◌, ⊎_elim, append_assoc, append-nil, Contains}
use Rattle.std.specs.List.{AllByRecursion, flat_map, list_any}
use Rattle.std.proofs.lemmas.Bool.{cond-true, cond-false}
use Rattle.std.proofs.lemmas.List.{map-append}
use Rattle.std.proofs.lemmas.List.Elements.{filter-append}
use Rattle.std.proofs.lemmas.List.Elements as elements
use Rattle.arc_base.proofs.Items.{Contains-head, Contains-tail, Contains-cases, from_filter, from_map}
use Rattle.ios_config.specs.declared.commands.FileCommand.{FileCommand}
use Rattle.ios_config.specs.Groups.{Part, is_same, part_of, distinct, members}
use Rattle.ios_config.proofs.JoinedParts.{others-none, distinct-next, other-way, any-distinct}
use Rattle.ios_config.proofs.PartLists.{others}
use Rattle.line_edit_laws.specs.Grown.{IsGrown, AreFreshParts, HasGrownGroups}

-- the same part more than once in a row counts once
repeats : (xs : List Part) (y : Part) (rs zs : List Part) → AllByRecursion (λ (r : Part). r ≡ y) rs → distinct (xs ++ (y ∷ (rs ++ zs))) ≡ distinct (xs ++ y ∷ zs)
repeats xs y [] zs all = refl
repeats xs y (r ∷ rs) zs all = ap (λ (z : Part). distinct (xs ++ (y ∷ z ∷ (rs ++ zs)))) all.0 ∙ distinct-next y xs (rs ++ zs) ∙ repeats xs y rs zs all.1

any-none : (y : Part) (ps : List Part) → ((p : Part) → Contains ps p → is_same y p ≡ false) → list_any (is_same y) ps ≡ false
any-none y [] each = refl
any-none y (p ∷ ps) each = ap (λ b. b || list_any (is_same y) ps) (each p (Contains-head p ps)) ∙ any-none y ps (λ q there. each q (Contains-tail p q ps there))

-- parts that are none of the others stand together among them
record StandAmong (ts old new : List Part) : Type 0 where
  before : List Part
  after : List Part
  was : old ≡ before ++ after
  is : new ≡ before ++ (distinct ts ++ after)

others-append : (y : Part) (xs ys : List Part) → others y (xs ++ ys) ≡ others y xs ++ others y ys
others-append y xs ys = filter-append (λ q. not (is_same y q)) xs ys

pub front-fresh : (ts zs : List Part) → ((t p : Part) → Contains ts t → Contains zs p → is_same t p ≡ false) → distinct (ts ++ zs) ≡ distinct ts ++ distinct zs
front-fresh [] zs each = refl
front-fresh (t ∷ ts) zs each =
    let rest = front-fresh ts zs (λ u p there in_zs. each u p (Contains-tail t u ts there) in_zs) in
    let none : list_any (is_same t) zs ≡ false = any-none t zs (λ p in_zs. each t p (Contains-head t ts) in_zs) in
    ap (λ r. t ∷ others t r) rest ∙ ap (λ r. t ∷ r) (others-append t (distinct ts) (distinct zs)) ∙ ap (λ r. t ∷ (others t (distinct ts) ++ r)) (others-none t (distinct zs) (any-distinct t zs none))

fresh-among : (xs ts zs : List Part) → ((t p : Part) → Contains ts t → Contains (xs ++ zs) p → is_same t p ≡ false) → StandAmong ts (distinct (xs ++ zs)) (distinct (xs ++ (ts ++ zs)))
fresh-among [] ts zs each = record { before = []; after = distinct zs; was = refl; is = front-fresh ts zs each }
fresh-among (x ∷ xs) ts zs each =
    let rest = fresh-among xs ts zs (λ t p there in_both. each t p there (Contains-tail x p (xs ++ zs) in_both)) in
    let none : list_any (is_same x) ts ≡ false = any-none x ts (λ t there. other-way x t (each t x there (Contains-head x (xs ++ zs)))) in
    record {
      before = x ∷ others x rest.before;
      after = others x rest.after;
      was = ap (λ r. x ∷ others x r) rest.was ∙ ap (λ r. x ∷ r) (others-append x rest.before rest.after);
      is =
          ap (λ r. x ∷ others x r) rest.is ∙ ap (λ r. x ∷ r) (others-append x rest.before (distinct ts ++ rest.after) ∙ ap (λ r. others x rest.before ++ r)
          (others-append x (distinct ts) rest.after)) ∙
          ap (λ r. x ∷ (others x rest.before ++ (r ++ others x rest.after))) (others-none x (distinct ts) (any-distinct x ts none));
    }

pub from-distinct : (ps : List Part) (p : Part) → Contains (distinct ps) p → Contains ps p
from-distinct [] p there = there
from-distinct (q ∷ ps) p there = ⊎_elim
    (λ (here : q ≡ p). subst (λ (r : Part). Contains (q ∷ ps) r) here (Contains-head q ps))
    (λ later. Contains-tail q p ps (from-distinct ps p (from_filter (λ r. not (is_same q r)) (distinct ps) p later).0))
    (Contains-cases q p (others q (distinct ps)) there)

-- functions that agree on a list
map-on : {A : Type 0} (f g : Part → A) (ps : List Part) → ((p : Part) → Contains ps p → f p ≡ g p) → map f ps ≡ map g ps
map-on f g [] each = refl
map-on f g (p ∷ ps) each = let one = each p (Contains-head p ps) in let rest = map-on f g ps (λ q there. each q (Contains-tail p q ps there)) in λ i. one i ∷ rest i

module _ (grow : FileCommand → List FileCommand) where
  -- the parts
  first-part : (c : FileCommand) → IsGrown grow c → (rs : List Part) × (map part_of (grow c) ≡ part_of c ∷ rs) × AllByRecursion (λ (r : Part). r ≡ part_of c) rs
  first-part c is = by (grow c) is.own is.some
    where
      all-parts : (vs : List FileCommand) → AllByRecursion (λ (v : FileCommand). part_of v ≡ part_of c) vs → AllByRecursion (λ (r : Part). r ≡ part_of c) (map part_of vs)
      all-parts [] all = tt
      all-parts (v ∷ vs) all = (all.0, all-parts vs all.1)

      by : (vs : List FileCommand) → AllByRecursion (λ (v : FileCommand). part_of v ≡ part_of c) vs → (vs ≡ [] → ⊥) →
          (rs : List Part) × (map part_of vs ≡ part_of c ∷ rs) × AllByRecursion (λ (r : Part). r ≡ part_of c) rs
      by [] all some = absurd (some refl)
      by (v ∷ vs) all some = (map part_of vs, ap (λ (p : Part). p ∷ map part_of vs) all.0, all-parts vs all.1)

  parts-grown : (xs : List Part) (cs : List FileCommand) (zs : List Part) → AllByRecursion (IsGrown grow) cs →
      distinct (xs ++ (map part_of (flat_map grow cs) ++ zs)) ≡ distinct (xs ++ (map part_of cs ++ zs))
  parts-grown xs [] zs all = refl
  parts-grown xs (c ∷ cs) zs all =
      let (rs, is, same) = first-part c all.0 in
      let parts : map part_of (grow c ++ flat_map grow cs) ++ zs ≡ part_of c ∷ (rs ++ (map part_of (flat_map grow cs) ++ zs)) =
      ap (λ l. l ++ zs) (map-append part_of (grow c) (flat_map grow cs) ∙ ap (λ l. l ++ map part_of (flat_map grow cs)) is) ∙ append_assoc (part_of c ∷ rs) (map part_of (flat_map grow cs)) zs in
      let split : xs ++ part_of c ∷ (map part_of (flat_map grow cs) ++ zs) ≡ (xs ++ part_of c ∷ []) ++ (map part_of (flat_map grow cs) ++ zs) =
      sym (append_assoc xs (part_of c ∷ []) (map part_of (flat_map grow cs) ++ zs)) in
      ap (λ l. distinct (xs ++ l)) parts ∙ repeats xs (part_of c) rs (map part_of (flat_map grow cs) ++ zs) same ∙ ap distinct split ∙ parts-grown (xs ++ part_of c ∷ []) cs zs all.1 ∙
      ap distinct (append_assoc xs (part_of c ∷ []) (map part_of cs ++ zs))

  -- the members
  all-in : (q : Part) (vs : List FileCommand) (p : Part) → AllByRecursion (λ (v : FileCommand). part_of v ≡ p) vs → (b : Bool) → is_same q p ≡ b → members vs q ≡ cond b vs []
  all-in q [] p all true is = refl
  all-in q [] p all false is = refl
  all-in q (v ∷ vs) p all true is = cond-true (is_same q (part_of v)) (v ∷ members vs q) (members vs q) (ap (is_same q) all.0 ∙ is) ∙ ap (λ r. v ∷ r) (all-in q vs p all.1 true is)
  all-in q (v ∷ vs) p all false is = cond-false (is_same q (part_of v)) (v ∷ members vs q) (members vs q) (ap (is_same q) all.0 ∙ is) ∙ all-in q vs p all.1 false is

  pub members-grown : (q : Part) (cs : List FileCommand) → AllByRecursion (IsGrown grow) cs → members (flat_map grow cs) q ≡ flat_map grow (members cs q)
  members-grown q [] all = refl
  members-grown q (c ∷ cs) all =
      filter-append (λ d. is_same q (part_of d)) (grow c) (flat_map grow cs) ∙ ap (λ r. members (grow c) q ++ r) (members-grown q cs all.1) ∙
      by (is_same q (part_of c)) (all-in q (grow c) (part_of c) all.0.own (is_same q (part_of c)) refl)
    where
      by : (b : Bool) → members (grow c) q ≡ cond b (grow c) [] → members (grow c) q ++ flat_map grow (members cs q) ≡ flat_map grow (cond b (c ∷ members cs q) (members cs q))
      by true is = ap (λ r. r ++ flat_map grow (members cs q)) is
      by false is = ap (λ r. r ++ flat_map grow (members cs q)) is

  none-of : (q : Part) (ts : List FileCommand) → ((t : FileCommand) → Contains ts t → is_same q (part_of t) ≡ false) → members ts q ≡ []
  none-of q [] each = refl
  none-of q (t ∷ ts) each = cond-false (is_same q (part_of t)) (t ∷ members ts q) (members ts q) (each t (Contains-head t ts)) ∙ none-of q ts (λ u there. each u (Contains-tail t u ts there))

  module _ (front back added : List FileCommand) (one : AllByRecursion (IsGrown grow) front) (two : AllByRecursion (IsGrown grow) back) (fresh : AreFreshParts (front ++ back) added) where
    abbrev new : List FileCommand
    new = flat_map grow front ++ (added ++ flat_map grow back)

    parts : distinct (map part_of new) ≡ distinct (map part_of front ++ (map part_of added ++ map part_of back))
    parts =
        ap distinct (map-append part_of (flat_map grow front) (added ++ flat_map grow back) ∙ ap (λ l. map part_of (flat_map grow front) ++ l) (map-append part_of added (flat_map grow back))) ∙
        parts-grown [] front (map part_of added ++ map part_of (flat_map grow back)) one ∙
        ap distinct (sym (append_assoc (map part_of front) (map part_of added) (map part_of (flat_map grow back)))
        ∙ ap (λ l. (map part_of front ++ map part_of added) ++ l) (sym (append-nil (map part_of (flat_map grow back))))) ∙
        parts-grown (map part_of front ++ map part_of added) back [] two ∙
        ap distinct (ap (λ l. (map part_of front ++ map part_of added) ++ l) (append-nil (map part_of back)) ∙ append_assoc (map part_of front) (map part_of added) (map part_of back))

    apart : (t : Part) (p : Part) → Contains (map part_of added) t → Contains (map part_of front ++ map part_of back) p → is_same t p ≡ false
    apart t p there in_old =
        let a = from_map part_of added t there in
        let o = from_map part_of (front ++ back) p (subst (λ (l : List Part). Contains l p) (sym (map-append part_of front back)) in_old) in
        (let t_is = sym a.2 in let p_is = sym o.2 in λ i. is_same (t_is i) (p_is i)) ∙ fresh a.0 o.0 a.1 o.1

    among : StandAmong (map part_of added) (distinct (map part_of front ++ map part_of back)) (distinct (map part_of front ++ (map part_of added ++ map part_of back)))
    among = fresh-among (map part_of front) (map part_of added) (map part_of back) apart

    old-parts : distinct (map part_of (front ++ back)) ≡ among.before ++ among.after
    old-parts = ap distinct (map-append part_of front back) ∙ among.was

    split-members : (q : Part) → members new q ≡ flat_map grow (members front q) ++ (members added q ++ flat_map grow (members back q))
    split-members q =
        filter-append (λ d. is_same q (part_of d)) (flat_map grow front) (added ++ flat_map grow back) ∙ ap (λ r. members (flat_map grow front) q ++ r)
        (filter-append (λ d. is_same q (part_of d)) added (flat_map grow back)) ∙
        (let f = members-grown q front one in let b = members-grown q back two in λ i. f i ++ (members added q ++ b i))

    flat-append : (xs ys : List FileCommand) → flat_map grow (xs ++ ys) ≡ flat_map grow xs ++ flat_map grow ys
    flat-append [] ys = refl
    flat-append (x ∷ xs) ys = ap (λ r. grow x ++ r) (flat-append xs ys) ∙ sym (append_assoc (grow x) (flat_map grow xs) (flat_map grow ys))

    old-member : (q : Part) → Contains (distinct (map part_of (front ++ back))) q → members new q ≡ flat_map grow (members (front ++ back) q)
    old-member q there =
        let o = from_map part_of (front ++ back) q (from-distinct (map part_of (front ++ back)) q there) in
        let none : members added q ≡ [] = none-of q added (λ t in_added. ap (λ (r : Part). is_same r (part_of t)) (sym o.2) ∙ other-way (part_of o.0) (part_of t) (fresh t o.0 in_added o.1)) in
        split-members q ∙ ap (λ r. flat_map grow (members front q) ++ (r ++ flat_map grow (members back q))) none ∙
        sym (ap (flat_map grow) (filter-append (λ d. is_same q (part_of d)) front back) ∙ flat-append (members front q) (members back q))

    new-member : (q : Part) → Contains (distinct (map part_of added)) q → members new q ≡ members added q
    new-member q there =
        let a = from_map part_of added q (from-distinct (map part_of added) q there) in
        let none = λ (cs : List FileCommand) (within : (c : FileCommand) → Contains cs c → Contains (front ++ back) c).
        none-of q cs (λ c in_cs. ap (λ (r : Part). is_same r (part_of c)) (sym a.2) ∙ fresh a.0 c a.1 (within c in_cs)) in
        let f : members front q ≡ [] = none front (λ c in_cs. elements.Contains-append_left front back c in_cs) in
        let b : members back q ≡ [] = none back (λ c in_cs. elements.Contains-append_right front back c in_cs) in
        split-members q ∙ (λ i. flat_map grow (f i) ++ (members added q ++ flat_map grow (b i))) ∙ append-nil (members added q)

    pub has-grown : HasGrownGroups grow front back added
    has-grown = record {
      before = among.before;
      after = among.after;
      old = old-parts;
      new =
          ap (map (members new)) (parts ∙ among.is) ∙ map-append (members new) among.before (distinct (map part_of added) ++ among.after) ∙
          ap (λ r. map (members new) among.before ++ r) (map-append (members new) (distinct (map part_of added)) among.after) ∙
          (let first = map-on (members new) (λ q. flat_map grow (members (front ++ back) q)) among.before
          (λ q there. old-member q (subst (λ (l : List Part). Contains l q) (sym old-parts) (elements.Contains-append_left among.before among.after q there))) in
          let middle = map-on (members new) (members added) (distinct (map part_of added)) new-member in
          let last = map-on (members new) (λ q. flat_map grow (members (front ++ back) q)) among.after
          (λ q there. old-member q (subst (λ (l : List Part). Contains l q) (sym old-parts) (elements.Contains-append_right among.before among.after q there))) in
          λ i. first i ++ (middle i ++ last i));
    }
