-- The network types of a link's ends, and what is refused for them or for a router id that repeats.
use Rattle.std.proofs.Common.{◌≡◌, ℕ, ◌+◌, inl, inr, Option, Some, None, List, refl, sym, ◌∙◌, ap, subst, arith, Bool, true, false, IsTrue, ◌↔◌, Result, Err}
use Rattle.std.specs.Prelude.{IsSomeAnd, option_map, slice_get}
use Rattle.std.proofs.lemmas.Bool.{false≢true}
use Rattle.std.proofs.lemmas.Option.{same_Some, none-some}
use mathlib.Core.Bool.{not, beq}
use Rattle.arc_base.specs.declared.refusal.Kind.TheVariants as kinds
use Rattle.net_doc.specs.declared.fault.Refusal.{Refusal}
use Rattle.net_doc.specs.declared.fault.NetFault.{NetFault}
use Rattle.net_doc.specs.declared.fault.NetFault.TheVariants.{Refused, Memory}
use Rattle.net_model.specs.declared.policies.Document.{Document}
use Rattle.net_model.specs.declared.rows.LinkRow.{LinkRow}
use Rattle.net_model.specs.declared.rows.Network.{Network}
use Rattle.ios_config.specs.declared.settings.Config.{Config}
use Rattle.arc_base.specs.Lists.{AreDistinct}
use Rattle.net_rules.specs.Settings.{is_point_to_point}
use Rattle.net_rules.specs.Sites.{Site, sites, full_names}
use Rattle.net_rules.specs.Rows.{AreRows}
use Rattle.net_rules.specs.Reasons.{IsBefore, NoRefusal, IsEarliest, TriedAlone, InFiles, InDocument}
use Rattle.net_rules.specs.Routers.{Repeats}
use Rattle.net_rules.specs.Linking.{TypesDiffer, RefusesTypes, router_id_of, RefusesAdjacencyForm}
use Rattle.net_rules.proofs.SameNetwork.{same_rows, tried_same}

-- the network type of an interface that was found
abbrev pub type_of : Option Site → Option Bool
type_of found = option_map (λ (site : Site). is_point_to_point site.face) found

-- the interface that was found has the type
abbrev Has : Option Site → Bool → Type 0
Has found point = IsSomeAnd found (λ site. is_point_to_point site.face ≡ point)

has_type : (found : Option Site) (point : Bool) → Some point ≡ type_of found → Has found point
has_type None point is = absurd (none-some point (sym is))
has_type (Some site) point is = sym (same_Some point (is_point_to_point site.face) is)

one_type : (found : Option Site) (x point : Bool) → Some x ≡ type_of found → Has found point → x ≡ point
one_type None x point is has = absurd (none-some x (sym is))
one_type (Some site) x point is has = same_Some x (is_point_to_point site.face) is ∙ has

-- the test of two types tells whether they differ
pub test_types : (configs : List Config) (link : LinkRow) (x y : Bool) → Some x ≡ type_of (slice_get (sites configs) link.a.0) →
    Some y ≡ type_of (slice_get (sites configs) link.b.0) → IsTrue (not (beq x y)) ↔ TypesDiffer configs link
test_types configs link x y of_a of_b = (there x y (has_type (slice_get (sites configs) link.a.0) x of_a) (has_type (slice_get (sites configs) link.b.0) y of_b), back)
  where
    there : (p q : Bool) → Has (slice_get (sites configs) link.a.0) p → Has (slice_get (sites configs) link.b.0) q → IsTrue (not (beq p q)) → TypesDiffer configs link
    there true true a b t = absurd (false≢true t)
    there true false a b t = inl (a, b)
    there false true a b t = inr (a, b)
    there false false a b t = absurd (false≢true t)

    differ : (p q r s : Bool) → p ≡ r → q ≡ s → IsTrue (not (beq r s)) → IsTrue (not (beq p q))
    differ p q r s e f t = subst (λ (v : Bool). IsTrue (not (beq p v))) (sym f) (subst (λ (v : Bool). IsTrue (not (beq v s))) (sym e) t)

    back : TypesDiffer configs link → IsTrue (not (beq x y))
    back (inl (a, b)) = differ x y true false (one_type (slice_get (sites configs) link.a.0) x true of_a a) (one_type (slice_get (sites configs) link.b.0) y false of_b b) refl
    back (inr (a, b)) = differ x y false true (one_type (slice_get (sites configs) link.a.0) x false of_a a) (one_type (slice_get (sites configs) link.b.0) y true of_b b) refl

-- the links whose ends have different types
abbrev pub DiffersAt : List Config → ℕ → LinkRow → Type 0
DiffersAt configs place link = TypesDiffer configs link

module _ (doc : Document) (configs : List Config) (distinct : AreDistinct (full_names configs)) (net : Network) (rows : AreRows doc configs net) where
  pub to_types : (r : Refusal) → InDocument kinds.AdjacencyForm (DiffersAt configs) net.links r → RefusesTypes doc configs r
  to_types r bad = record { net = net; rows = rows; refuses = bad }

  pub from_types : (r : Refusal) → RefusesTypes doc configs r → InDocument kinds.AdjacencyForm (DiffersAt configs) net.links r
  from_types r bad = subst (λ (n : Network). InDocument kinds.AdjacencyForm (DiffersAt configs) n.links r) (same_rows doc configs distinct bad.net net bad.rows rows) bad.refuses

  -- the first of the links comes before all files
  types_first : (r : Refusal) → IsEarliest (InDocument kinds.AdjacencyForm (DiffersAt configs) net.links) r → IsEarliest (RefusesAdjacencyForm doc configs) r
  types_first r is = record { made = inl (to_types r is.made); first = first }
    where
      in_document : r.file ≡ 0
      in_document = ap (λ (s : Refusal). s.file) is.made.told

      first : (other : Refusal) → RefusesAdjacencyForm doc configs other → ¬ IsBefore other r
      first other (inl bad) before = is.first other (from_types other bad) before
      first other (inr bad) (inl earlier) = absurd (omega (arith, earlier, in_document))
      first other (inr bad) (inr (same, lower)) =
          let file : other.file ≡ bad.place + 1 = ap (λ (s : Refusal). s.file) bad.told in
          absurd (omega (arith, file, same, in_document))

  pub types_fail : (fault : NetFault) → TriedAlone (InDocument kinds.AdjacencyForm (DiffersAt configs) net.links) (Err fault) → TriedAlone (RefusesAdjacencyForm doc configs) (Err fault)
  types_fail (Refused r) said = types_first r said
  types_fail Memory said = tt

  -- where the links are clear, the files decide
  pub ids_decide : NoRefusal (InDocument kinds.AdjacencyForm (DiffersAt configs) net.links) → (result : Result (Unit {0}) NetFault) →
      TriedAlone (InFiles kinds.AdjacencyForm (Repeats router_id_of configs) configs) result → TriedAlone (RefusesAdjacencyForm doc configs) result
  ids_decide clear result said = tried_same (InFiles kinds.AdjacencyForm (Repeats router_id_of configs) configs) (RefusesAdjacencyForm doc configs) (λ (done : Unit {0}). Unit {0}) result to from said
    where
      to : (r : Refusal) → InFiles kinds.AdjacencyForm (Repeats router_id_of configs) configs r → RefusesAdjacencyForm doc configs r
      to r bad = inr bad

      from : (r : Refusal) → RefusesAdjacencyForm doc configs r → InFiles kinds.AdjacencyForm (Repeats router_id_of configs) configs r
      from r (inl bad) = absurd (clear r (from_types r bad))
      from r (inr bad) = bad
