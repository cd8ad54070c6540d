use Rattle.std.proofs.Common.{ℕ, ◌<◌, Bool, MatchBool, List, length, subst, rules}
use Rattle.std.specs.List.{HoldsAt, AllWithin}
use Rattle.std.proofs.lemmas.Iterator.{cases_from_all, YieldsList-from_slice}
use Rattle.std.proofs.lemmas.Iterator.Search.{true_from_All}
use Rattle.std.proofs.lemmas.List.Elements.{All-from_all_within}
use Rattle.net_model.specs.declared.lists.PacketList.{PacketList}
use Rattle.net_model.specs.Witnesses.{IsUniform}
use Rattle.witness_check.proofs.sides.are_uniform.Goals as goal

pub returns : goal.returns
returns c =
    let P : PacketList → Type 0 = λ l. IsUniform l.entries c.args.class in
    let xs : List PacketList = c.args.net.now.packet_lists in
    let Off : Type 0 = (k : ℕ) × (k < length xs) × HoldsAt (λ (l : PacketList). P l → ⊥) xs k in
    let said : MatchBool c.all.result (AllWithin P xs 0 (length xs)) Off =
    cases_from_all _ _ c.all.result P (λ l. P l → ⊥) c.all.ensures.ran (YieldsList-from_slice xs (search rules)) (λ x q k. search rules) (λ x q k. search rules) in (
      λ t. All-from_all_within P xs (subst (λ (v : Bool). MatchBool v (AllWithin P xs 0 (length xs)) Off) t said),
      true_from_All P (λ l. P l → ⊥) c.all.result xs (λ l h off. off h) said,
    )
