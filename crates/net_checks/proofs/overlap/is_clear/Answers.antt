use Rattle.std.proofs.Common.{Bool, List, take, subst, Result, Ok, Err, MatchBool}
use Rattle.std.specs.Prelude.{AllPairs, IfOk}
use Rattle.arc_base.specs.declared.memory.Memory.{Memory}
use Rattle.net_model.specs.declared.rows.FaceRow.{FaceRow}
use Rattle.net_checks.specs.Claims.{AreClaimsOf, AreLinkedOrApart, ClearBelow}
use Rattle.net_checks.proofs.Overlaps.{of_partners, clear_by_claims}
use Rattle.net_checks.proofs.overlap.is_clear.Goals as goal

-- what follows of a value follows of an answer
in_ok : {X : Type 0} (P Q : X → Type 0) (r : Result X Memory) → ((x : X) → P x → Q x) → IfOk r P → IfOk r Q
in_ok P Q (Ok x) follows h = follows x h
in_ok P Q (Err e) follows h = h

pub are_linked_or_apart-requires : goal.are_linked_or_apart-requires
are_linked_or_apart-requires c =
    of_partners c.args.net.now c.args.partners.now c.requires.partners c.args.count c.in_ok-claims.claims.items
    (subst (λ (l : List FaceRow). AreClaimsOf (take c.args.count l) c.args.partners.now c.in_ok-claims.claims.items) c.slice.ensures.items c.in_ok-claims.ensures)

pub returns : goal.returns
returns c =
    in_ok (λ (free : Bool). MatchBool free (AllPairs AreLinkedOrApart c.in_ok-claims.claims.items) (¬ AllPairs AreLinkedOrApart c.in_ok-claims.claims.items))
    (λ (clear : Bool). MatchBool clear (ClearBelow c.args.net.now c.args.count) (¬ ClearBelow c.args.net.now c.args.count)) c.are_linked_or_apart.result
    (clear_by_claims c.args.net.now c.args.partners.now c.requires.partners c.args.count c.in_ok-claims.claims.items
    (subst (λ (l : List FaceRow). AreClaimsOf (take c.args.count l) c.args.partners.now c.in_ok-claims.claims.items) c.slice.ensures.items c.in_ok-claims.ensures))
    c.are_linked_or_apart.ensures
