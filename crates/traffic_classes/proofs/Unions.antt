-- The classes of several policies together, and how many they are.
use Rattle.std.proofs.Common.{◌≡◌, ℕ, ◌+◌, ◌<◌, ◌≤◌, ◌⊎◌, ◌&&◌, inl, inr, not, Bool, true, false, List, [], ◌∷◌, ◌++◌, length, get_or, take, drop, if◌then◌else◌, refl, sym, ◌∙◌, ap, subst, arith}
use Rattle.std.specs.Prelude.{Contains, AllPairs, fold, count_by, filter, nat_le}
use Rattle.std.specs.List.{flat_map, list_any, AllZip}
use Rattle.std.specs.Set.{is_member}
use Rattle.std.proofs.lemmas.Bool.{false≢true, and_parts, and_from, leb-true, le-leb}
use Rattle.std.proofs.lemmas.List.{append-nil, length-append, take_more, take-append-drop, get_or_default}
use Rattle.std.proofs.lemmas.List.Concat.{flat_map-append}
use Rattle.std.proofs.lemmas.List.Elements.{Contains-append_left, Contains-append_right, Contains-append_cases, Contains-push, All-contains}
use Rattle.std.proofs.lemmas.List.Kept.{AllPairs-filter}
use Rattle.std.proofs.lemmas.List.Quantifiers.{all_pairs_push}
use Rattle.std.proofs.lemmas.List.Sums.{fold-append, length-filter}
use Rattle.std.proofs.lemmas.Map.Keys.{IsDistinct-from_apart}
use Rattle.std.proofs.lemmas.Map.Made.{is_member-Decides, length-from_same_keys}
use Rattle.arc_base.specs.Addresses.{inside}
use Rattle.arc_base.proofs.Agreement.{Holds-first, inside-IsInside}
use Rattle.net_model.specs.declared.policies.Class.{Class}
use Rattle.net_model.specs.declared.policies.Policy.{Policy}
use Rattle.net_model.specs.declared.rows.Network.{Network}
use Rattle.net_model.specs.Packets.{IsOfClass, LiesIn, ShareNoPacket, first_packet, subject}
use Rattle.net_model.specs.Services.{is_service_inside}
use Rattle.net_model.specs.Witnesses.{IsUniformFor}
use Rattle.net_model.proofs.Packets.{first_is_of}
use Rattle.net_model.proofs.ServiceRanges.{first-serves}
use Rattle.traffic_classes.specs.declared.fault.ClassFault.{ClassFault}
use Rattle.traffic_classes.specs.declared.fault.ClassFault.TheVariants.{TooMany, Memory}
use Rattle.traffic_classes.specs.Classes.{AreClasses, CountsMore, told}
use Rattle.traffic_classes.specs.Parts.{MakeUp, HasPacket, IsClassOf}
use Rattle.traffic_classes.specs.AllClasses.{is_same_class, with_class, each_once, AreAllClasses, FirstHaveMore, lies_off}
use Rattle.traffic_classes.specs.Laws.{HaveOneListOfClasses, AllClassesTellApart}
use Rattle.arc_base.proofs.Items.{Contains-head, Contains-tail, Contains-none, Contains-cases, Contains-filter, from_filter}
use Rattle.arc_base.proofs.Items.{Contains-piece, from_piece, All-from, AllPairs-append, AllPairs-among, AllPairs-none}
use Rattle.traffic_classes.proofs.ServiceCuts.{inside_ends, ends_inside}
use Rattle.traffic_classes.proofs.Sameness.{is_same-Decides, is_same-IsEquivalence, alike}
use Rattle.traffic_classes.proofs.MakingUp.{make_up, disjoint_classes, equal_or_disjoint, one_list, some_list}

abbrev pub Differ : Class → Class → Type 0
Differ c d = is_same_class c d ≡ false

differ_unless : (b : Bool) → (b ≡ true → ⊥) → b ≡ false
differ_unless true f = absurd (f refl)
differ_unless false f = refl

differ : (c d : Class) → (c ≡ d → ⊥) → Differ c d
differ c d f = differ_unless (is_same_class c d) (λ t. f ((is_same-Decides c d).0 t))

not_off : (b : Bool) → not b ≡ false → b ≡ true
not_off true e = refl
not_off false e = sym e

zip_push : {A B : Type 0} (R : A → B → Type 0) (xs : List A) (ys : List B) (x : A) (y : B) → AllZip R xs ys → R x y → AllZip R (xs ++ x ∷ []) (ys ++ y ∷ [])
zip_push R [] [] x y z r = (r, z)
zip_push R [] (b ∷ ys) x y z r = absurd z
zip_push R (a ∷ xs) [] x y z r = absurd z
zip_push R (a ∷ xs) (b ∷ ys) x y z r = (z.0, zip_push R xs ys x y (z.1) r)

-- classes that share no packet differ
pub apart_differ : (c d : Class) → ShareNoPacket c d → Differ c d
apart_differ c d none = differ c d (λ e. none (first_packet c) (first_is_of c) (subst (λ (x : Class). IsOfClass x (first_packet c)) e (first_is_of c)))

any_there : (c : Class) (ds : List Class) → list_any (is_same_class c) ds ≡ true → Contains ds c
any_there c ds t = (is_member-Decides is_same-Decides ds c).0 t

-- adding a class to a list
step : (ds : List Class) (c : Class) (b : Bool) → list_any (is_same_class c) ds ≡ b →
    (((q : Class) → Contains (if b then ds else ds ++ c ∷ []) q → Contains ds q ⊎ (c ≡ q)) ×
    ((q : Class) → Contains ds q ⊎ (c ≡ q) → Contains (if b then ds else ds ++ c ∷ []) q)) ×
    (AllPairs Differ ds → AllPairs Differ (if b then ds else ds ++ c ∷ []))
step ds c true e = (
  (λ q h. inl h, λ q h. elim h [ inl there ↦ there | inr f ↦ subst (λ (x : Class). Contains ds x) f (any_there c ds e) ]),
  λ h. h,
)
step ds c false e = (
  (
    λ q h. elim (Contains-append_cases ds (c ∷ []) q h) [
      | inl there ↦ inl there
      | inr last ↦ elim (Contains-cases c q [] last) [ inl f ↦ inr f | inr none ↦ absurd (Contains-none q none) ]
    ],
    λ q h. elim h [
      | inl there ↦ Contains-append_left ds (c ∷ []) q there
      | inr f ↦ subst (λ (x : Class). Contains (ds ++ c ∷ []) x) f (Contains-push ds c)
    ],
  ),
  λ h. all_pairs_push Differ ds c h (λ k d l. differ (get_or ds k d) c
      (λ f. false≢true (sym e ∙ (is_member-Decides is_same-Decides ds c).1 (k, l, get_or_default ds k c d l ∙ f)))),
)

pub to_fold : (ds cs : List Class) (q : Class) → Contains (fold with_class ds cs) q → Contains ds q ⊎ Contains cs q
to_fold ds [] q h = inl h
to_fold ds (c ∷ cs) q h =
    elim (to_fold (with_class ds c) cs q h) [
      | inl there ↦ elim (((step ds c (list_any (is_same_class c) ds) refl).0).0 q there) [
        | inl old ↦ inl old
        | inr e ↦ inr (subst (λ (x : Class). Contains (c ∷ cs) x) e (Contains-head c cs))
      ]
      | inr later ↦ inr (Contains-tail c q cs later)
    ]

pub from_fold : (ds cs : List Class) (q : Class) → Contains ds q ⊎ Contains cs q → Contains (fold with_class ds cs) q
from_fold ds [] q (inl h) = h
from_fold ds [] q (inr h) = absurd (Contains-none q h)
from_fold ds (c ∷ cs) q (inl h) = from_fold (with_class ds c) cs q (inl (((step ds c (list_any (is_same_class c) ds) refl).0).1 q (inl h)))
from_fold ds (c ∷ cs) q (inr h) =
    elim (Contains-cases c q cs h) [
      | inl e ↦ from_fold (with_class ds c) cs q (inl (((step ds c (list_any (is_same_class c) ds) refl).0).1 q (inr e)))
      | inr later ↦ from_fold (with_class ds c) cs q (inr later)
    ]

pub fold_differ : (ds cs : List Class) → AllPairs Differ ds → AllPairs Differ (fold with_class ds cs)
fold_differ ds [] h = h
fold_differ ds (c ∷ cs) h = fold_differ (with_class ds c) cs ((step ds c (list_any (is_same_class c) ds) refl).1 h)

-- with one more policy
pub one_more_policy : (net : Network) (policies some : List Policy) (policy : Policy) (ds cs : List Class) → AreAllClasses net policies some ds → AreClasses net policies policy cs →
    AreAllClasses net policies (some ++ policy ∷ []) (fold with_class ds cs)
one_more_policy net policies some policy ds cs all are = record {
  lists = all.lists ++ cs ∷ [];
  are = zip_push (AreClasses net policies) some all.lists policy cs all.are are;
  once = ap (λ (l : List Class). fold with_class l cs) all.once ∙ sym (fold-append with_class [] (flat_map (λ (l : List Class). l) all.lists) cs) ∙
      ap (λ (l : List Class). each_once (flat_map (λ (x : List Class). x) all.lists ++ l)) (sym (append-nil cs)) ∙
      ap each_once (sym (flat_map-append (λ (l : List Class). l) all.lists (cs ∷ [])));
}

zip_find : (net : Network) (policies some : List Policy) (lists : List (List Class)) → AllZip (AreClasses net policies) some lists → (l : List Class) (c : Class) →
    Contains lists l → Contains l c → IsClassOf net policies some c
zip_find net policies [] [] z l c h k = absurd (Contains-none l h)
zip_find net policies [] (x ∷ xs) z l c h k = absurd z
zip_find net policies (p ∷ ps) [] z l c h k = absurd z
zip_find net policies (p ∷ ps) (x ∷ xs) z l c h k =
    elim (Contains-cases x l xs h) [
      | inl e ↦ record { policy = p; one = Contains-head p ps; classes = x; are = z.0; there = subst (λ (y : List Class). Contains y c) (sym e) k }
      | inr later ↦ let r : IsClassOf net policies ps c = zip_find net policies ps xs (z.1) l c later k in
          record { policy = r.policy; one = Contains-tail p r.policy ps r.one; classes = r.classes; are = r.are; there = r.there }
    ]

pub comes_from : (net : Network) (policies some : List Policy) (ds : List Class) → AreAllClasses net policies some ds → (c : Class) → Contains ds c → IsClassOf net policies some c
comes_from net policies some ds all c h =
    let there : Contains (each_once (flat_map (λ (l : List Class). l) all.lists)) c = subst (λ (l : List Class). Contains l c) all.once h in
    elim (to_fold [] (flat_map (λ (l : List Class). l) all.lists) c there) [
      | inl none ↦ absurd (Contains-none c none)
      | inr inner ↦ let piece = from_piece (λ (l : List Class). l) all.lists c inner in
          zip_find net policies some all.lists all.are (piece.0) c (piece.1) (piece.2)
    ]

zip_there : (net : Network) (policies some : List Policy) (lists : List (List Class)) → AllZip (AreClasses net policies) some lists → (p : Policy) → Contains some p →
    (l : List Class) × Contains lists l × AreClasses net policies p l
zip_there net policies [] [] z p h = absurd (Contains-none p h)
zip_there net policies [] (x ∷ xs) z p h = absurd z
zip_there net policies (q ∷ qs) [] z p h = absurd z
zip_there net policies (q ∷ qs) (x ∷ xs) z p h =
    elim (Contains-cases q p qs h) [
      | inl e ↦ (x, Contains-head x xs, subst (λ (r : Policy). AreClasses net policies r x) e (z.0))
      | inr later ↦ let r = zip_there net policies qs xs (z.1) p later in (r.0, Contains-tail x (r.0) xs (r.1), r.2)
    ]

-- each class of some policies is found
pub is_found : (net : Network) (policies some : List Policy) (ds : List Class) → AreAllClasses net policies some ds → (c : Class) → IsClassOf net policies some c → Contains ds c
is_found net policies some ds all c of =
    let l = zip_there net policies some all.lists all.are of.policy of.one in
    let there : Contains (l.0) c = subst (λ (x : List Class). Contains x c) (one_list net policies of.policy of.classes (l.0) of.are (l.2)) of.there in
    subst (λ (x : List Class). Contains x c) (sym all.once)
    (from_fold [] (flat_map (λ (x : List Class). x) all.lists) c (inr (Contains-piece (λ (x : List Class). x) all.lists (l.0) c (l.1) there)))

-- the classes of all policies differ
pub all_differ : (net : Network) (policies some : List Policy) (ds : List Class) → AreAllClasses net policies some ds → AllPairs Differ ds
all_differ net policies some ds all =
    subst (λ (l : List Class). AllPairs Differ l) (sym all.once) (fold_differ [] (flat_map (λ (l : List Class). l) all.lists) (AllPairs-none Differ))

apart_from : (net : Network) (policies : List Policy) (c d : Class) → IsClassOf net policies policies c → IsClassOf net policies policies d → Differ c d → ShareNoPacket c d
apart_from net policies c d of_c of_d f =
    elim (equal_or_disjoint net policies of_c.policy of_d.policy of_c.classes of_d.classes of_c.one of_d.one of_c.are of_d.are c d of_c.there of_d.there) [
      | inl e ↦ absurd (false≢true (sym f ∙ (is_same-Decides c d).1 e))
      | inr none ↦ none
    ]

pub tell_apart : AllClassesTellApart
tell_apart net policies classes all = record {
  each = λ c. (comes_from net policies policies classes all c, is_found net policies policies classes all c);
  uniform = All-from (IsUniformFor net) classes (λ c h.
      let of : IsClassOf net policies policies c = comes_from net policies policies classes all c h in
      All-contains (IsUniformFor net) of.classes c (make_up net policies of.policy of.classes of.are).uniform of.there);
  disjoint = AllPairs-among Differ ShareNoPacket classes
      (λ c d in_c in_d. apart_from net policies c d (comes_from net policies policies classes all c in_c) (comes_from net policies policies classes all d in_d))
      (all_differ net policies policies classes all);
}

zip_same : (net : Network) (policies some : List Policy) (xs ys : List (List Class)) → AllZip (AreClasses net policies) some xs → AllZip (AreClasses net policies) some ys → xs ≡ ys
zip_same net policies [] [] [] y z = refl
zip_same net policies [] [] (b ∷ bs) y z = absurd z
zip_same net policies [] (a ∷ as_) ys y z = absurd y
zip_same net policies (p ∷ ps) [] ys y z = absurd y
zip_same net policies (p ∷ ps) (a ∷ as_) [] y z = absurd z
zip_same net policies (p ∷ ps) (a ∷ as_) (b ∷ bs) y z =
    ap (λ (l : List Class). l ∷ as_) (one_list net policies p a b (y.0) (z.0)) ∙ ap (λ (l : List (List Class)). b ∷ l) (zip_same net policies ps as_ bs (y.1) (z.1))

one_list_of_all : (net : Network) (policies some : List Policy) (xs ys : List Class) → AreAllClasses net policies some xs → AreAllClasses net policies some ys → xs ≡ ys
one_list_of_all net policies some xs ys one two =
    one.once ∙ ap (λ (l : List (List Class)). each_once (flat_map (λ (x : List Class). x) l)) (zip_same net policies some one.lists two.lists one.are two.are) ∙ sym two.once

some_lists : (net : Network) (policies some : List Policy) → (lists : List (List Class)) × AllZip (AreClasses net policies) some lists
some_lists net policies [] = ([], tt)
some_lists net policies (p ∷ ps) =
    let first = some_list net policies p in
    let rest = some_lists net policies ps in
    (first.0 ∷ rest.0, (first.1, rest.1))

pub have_one_list : HaveOneListOfClasses
have_one_list net policies some =
    let found = some_lists net policies some in
    ((each_once (flat_map (λ (l : List Class). l) found.0), record { lists = found.0; are = found.1; once = refl }), one_list_of_all net policies some)

module _ (net : Network) (policies some : List Policy) (policy : Policy) (ds cs : List Class) (known : (p : Policy) → Contains some p → Contains policies p) (marked : Contains policies policy)
    (all : AreAllClasses net policies some ds) (are : AreClasses net policies policy cs) where
  -- a class that was found before and lies in the policy is one of the policy's
  in_policy : (d : Class) → Contains ds d → lies_off policy d ≡ false → Contains cs d
  in_policy d h off =
      let from : IsClassOf net policies some d = comes_from net policies some ds all d h in
      let all_three = not_off (inside d.from policy.from && inside d.to policy.to && is_service_inside d.service policy.service) off in
      let both = and_parts (inside d.from policy.from && inside d.to policy.to) (is_service_inside d.service policy.service) all_three in
      let prefixes = and_parts (inside d.from policy.from) (inside d.to policy.to) both.0 in
      let ends = and_parts (nat_le policy.service.low d.service.low) (nat_le d.service.high policy.service.high) both.1 in
      let of_d : IsOfClass d (first_packet d) = first_is_of d in
      let whole : MakeUp net (subject policy) cs = make_up net policies policy cs are in
      let has : HasPacket cs (first_packet d) = whole.cover (first_packet d) (
        (inside-IsInside d.from policy.from).0 prefixes.0 d.from.addr (Holds-first d.from),
        (inside-IsInside d.to policy.to).0 prefixes.1 d.to.addr (Holds-first d.to),
        ends_inside d.service policy.service (leb-true _ _ ends.0) (leb-true _ _ ends.1) d.service.low (first-serves d.service),
      ) in
      elim (equal_or_disjoint net policies policy from.policy cs from.classes marked (known from.policy from.one) are from.are has.class d has.one from.there) [
        | inl e ↦ subst (λ (x : Class). Contains cs x) e has.one
        | inr none ↦ absurd (none (first_packet d) has.is_of of_d)
      ]

  -- and the policy's classes lie in it
  lies_in : (c : Class) → Contains cs c → lies_off policy c ≡ false
  lies_in c h =
      let part : LiesIn c (subject policy) = All-contains (λ (x : Class). LiesIn x (subject policy)) cs c (make_up net policies policy cs are).parts h in
      let ends = inside_ends c.service policy.service part.2 in
      ap not (and_from (inside c.from policy.from && inside c.to policy.to) (is_service_inside c.service policy.service)
      (and_from (inside c.from policy.from) (inside c.to policy.to) ((inside-IsInside c.from policy.from).1 part.0) ((inside-IsInside c.to policy.to).1 part.1))
      (and_from (nat_le policy.service.low c.service.low) (nat_le c.service.high policy.service.high) (le-leb _ _ ends.0) (le-leb _ _ ends.1)))

  tests : (d : Class) (b : Bool) → lies_off policy d ≡ b → Contains ds d → Contains (cs ++ filter (lies_off policy) ds) d
  tests d true e h = Contains-append_right cs (filter (lies_off policy) ds) d (Contains-filter (lies_off policy) ds d h e)
  tests d false e h = Contains-append_left cs (filter (lies_off policy) ds) d (in_policy d h e)

  same_members : (q : Class) → is_member is_same_class (fold with_class ds cs) q ≡ is_member is_same_class (cs ++ filter (lies_off policy) ds) q
  same_members q =
      alike (is_member is_same_class (fold with_class ds cs) q) (is_member is_same_class (cs ++ filter (lies_off policy) ds) q)
      (λ t. (is_member-Decides is_same-Decides (cs ++ filter (lies_off policy) ds) q).1
      (elim (to_fold ds cs q ((is_member-Decides is_same-Decides (fold with_class ds cs) q).0 t)) [
        | inl old ↦ tests q (lies_off policy q) refl old
        | inr here ↦ Contains-append_left cs (filter (lies_off policy) ds) q here
      ]))
      (λ t. (is_member-Decides is_same-Decides (fold with_class ds cs) q).1
      (from_fold ds cs q (elim (Contains-append_cases cs (filter (lies_off policy) ds) q ((is_member-Decides is_same-Decides (cs ++ filter (lies_off policy) ds) q).0 t)) [
        | inl here ↦ inr here
        | inr kept ↦ inl ((from_filter (lies_off policy) ds q kept).0)
      ])))

  differ_all : AllPairs Differ ds
  differ_all = all_differ net policies some ds all

  differ_parts : AllPairs Differ (cs ++ filter (lies_off policy) ds)
  differ_parts =
      AllPairs-append Differ cs (filter (lies_off policy) ds)
      (AllPairs-among ShareNoPacket Differ cs (λ c d in_c in_d none. apart_differ c d none) (disjoint_classes net policies policy cs are))
      (AllPairs-filter Differ (lies_off policy) ds differ_all)
      (λ c d in_c in_d. differ c d (λ e. false≢true (sym (lies_in c in_c) ∙ ap (lies_off policy) e ∙ (from_filter (lies_off policy) ds d in_d).1)))

  -- all that were found, and those that lie off the policy
  pub counted : length (fold with_class ds cs) ≡ length cs + count_by (lies_off policy) ds
  counted =
      length-from_same_keys is_same-IsEquivalence (fold with_class ds cs) (cs ++ filter (lies_off policy) ds)
      (IsDistinct-from_apart is_same_class (fold with_class ds cs) (fold_differ ds cs differ_all))
      (IsDistinct-from_apart is_same_class (cs ++ filter (lies_off policy) ds) differ_parts)
      same_members ∙ length-append cs (filter (lies_off policy) ds) ∙ ap (λ (n : ℕ). length cs + n) (length-filter (lies_off policy) ds)

take_next : (xs items : List Policy) (i : ℕ) (x : Policy) → items ≡ xs → i < length items → x ≡ get_or items i x → take i xs ++ x ∷ [] ≡ take (i + 1) xs
take_next xs items i x e h is =
    ap (λ (l : List Policy). take i l ++ x ∷ []) (sym e) ∙ ap (λ (y : Policy). take i items ++ y ∷ []) is ∙ sym (take_more items i x h) ∙
    ap (λ (l : List Policy). take (i + 1) l) e

item_there : (xs items : List Policy) (i : ℕ) (x : Policy) → items ≡ xs → i < length items → x ≡ get_or items i x → Contains xs x
item_there xs items i x e h is = subst (λ (l : List Policy). Contains l x) e (i, h, sym is)

taken_there : (xs : List Policy) (i : ℕ) (p : Policy) → Contains (take i xs) p → Contains xs p
taken_there xs i p h = subst (λ (l : List Policy). Contains l p) (take-append-drop i xs) (Contains-append_left (take i xs) (drop i xs) p h)

module _ (net : Network) (policies items : List Policy) (i : ℕ) (policy : Policy) (e : items ≡ policies) (h : i < length items) (is : policy ≡ get_or items i policy)
    (ds cs : List Class) (all : AreAllClasses net policies (take i policies) ds) (are : AreClasses net policies policy cs) where
  -- the classes up to the next policy
  pub next_classes : AreAllClasses net policies (take (i + 1) policies) (fold with_class ds cs)
  next_classes =
      subst (λ (l : List Policy). AreAllClasses net policies l (fold with_class ds cs)) (take_next policies items i policy e h is)
      (one_more_policy net policies (take i policies) policy ds cs all are)

  pub next_count : length (fold with_class ds cs) ≡ length cs + count_by (lies_off policy) ds
  next_count = counted net policies (take i policies) policy ds cs (taken_there policies i) (item_there policies items i policy e h is) all are

  pub next_have : (count : ℕ) → length ds ≤ 4096 → told (length cs + count_by (lies_off policy) ds) ≡ count → FirstHaveMore net policies count
  next_have count few said = record {
    place = i;
    within = omega (arith, ap (λ (l : List Policy). length l) e, h);
    few = length ds;
    before = record { classes = ds; are = all; counted = omega (arith, few) };
    before_few = few;
    with_it = record { classes = fold with_class ds cs; are = next_classes; counted = ap told next_count ∙ said };
  }

-- a fault that counts what one fact says counts what a weaker one says
pub counts_more : (P Q : ℕ → Type 0) → ((n : ℕ) → P n → Q n) → (f : ClassFault) → CountsMore P f → CountsMore Q f
counts_more P Q weaker (TooMany n) h = (weaker n (h.0), h.1)
counts_more P Q weaker Memory h = tt
