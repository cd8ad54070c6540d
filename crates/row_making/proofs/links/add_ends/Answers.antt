use Rattle.std.proofs.Common.{◌≡◌, ◌++◌, [], ◌∷◌, List, MatchBool, subst, ◌∙◌, ap}
use Rattle.std.specs.Prelude.{Contains}
use Rattle.net_rules.specs.Names.{names_at}
use Rattle.net_rules.specs.Sites.{FullName, a_end, b_end}
use Rattle.net_rules.proofs.Cases.{at_true}
use Rattle.net_rules.proofs.NameLists.{two_free}
use Rattle.row_making.proofs.links.add_ends.Goals as goal

pub returns : goal.returns
returns c =
    let a_is : (c.bytes.result.now, c.bytes-2.result.now) ≡ a_end c.args.link.now = λ i. (c.bytes.ensures i, c.bytes-2.ensures i) in
    let b_is : (c.bytes-3.result.now, c.bytes-4.result.now) ≡ b_end c.args.link.now = λ i. (c.bytes-3.ensures i, c.bytes-4.ensures i) in
    let old : List FullName = names_at c.args.ends.now.keys in
    let mid : List FullName = names_at c.add_name.new.names.keys in
    let next : List FullName = names_at c.add_name-2.new.names.keys in
    let first = at_true _ _ _ c.if-not-a_new.false c.in_ok-a_new.ensures in
    two_free old mid next (a_end c.args.link.now) (b_end c.args.link.now) c.in_ok-b_new.b_new c.requires
    (subst (λ (n : FullName). ¬ Contains old n) a_is first.0)
    (first.1 ∙ ap (λ (n : FullName). old ++ n ∷ []) a_is)
    (subst (λ (n : FullName). MatchBool c.in_ok-b_new.b_new ((¬ Contains mid n) × (next ≡ mid ++ n ∷ [])) (Contains mid n)) b_is c.in_ok-b_new.ensures)
