use Rattle.std.proofs.Common.{ℕ, ◌<◌, List, length, take, ◌∙◌, subst, arith}
use Rattle.std.specs.Ordering.{nat_cmp}
use Rattle.std.specs.List.Sorted.{IsBinarySearchResult}
use Rattle.std.proofs.lemmas.Option.{slice_get_within}
use Rattle.sat_search.proofs.Rising.{finds_first}
use Rattle.sat_search.proofs.lemmas.Lemmas.place_of.Goals as goal

pub returns-clause-found : goal.returns-clause-found
returns-clause-found c = λ rise place low at.
    let items = c.args.self.now.ids.items in
    let n = c.min.result in
    let within : place < length items = slice_get_within items place c.args.id at in
    let found : IsBinarySearchResult (λ y. nat_cmp y c.args.id) (take n items) c.binary_search.result =
    subst (λ (xs : List ℕ). IsBinarySearchResult (λ y. nat_cmp y c.args.id) (take n xs) c.binary_search.result) c.deref.ensures.value c.binary_search.ensures.position in
    c.ok.ensures.value ∙ finds_first items n c.args.id place c.binary_search.result (omega (arith, c.min.ensures, c.len.ensures)) found rise
    (omega (arith, low, within, c.min.ensures, c.len.ensures)) at
