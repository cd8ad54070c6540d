use Rattle.std.proofs.Common.{◌≡◌, bytes_eq, map, string_bytes, sym, ap, ◌∙◌, rules}
use Rattle.std.specs.BTreeMap.{keys}
use Rattle.std.specs.List.{list_any, list_all}
use Rattle.std.specs.Map.Iter.{deref}
use Rattle.std.proofs.lemmas.Map.Iter.{rest_more, rest_all}
use Rattle.net_doc.proofs.Names.{are_among-keys, tested_true, tested_false}
use Rattle.net_doc.proofs.members.are_among.Goals as goal

pub loop-key-init : goal.loop-key-init
loop-key-init c =
    let from : c.into_iter-key-iterator.result ≡ keys c.args.members.now = search rules in
    are_among-keys (map (λ name. name.now) c.args.names.now) c.args.members.now.entries ∙ ap (list_all _) (sym from)

pub loop-key-preserved : goal.loop-key-preserved
loop-key-preserved c =
    let same : c.as_str.result.now ≡ string_bytes c.in-Some.key.now = c.as_str.ensures.value in
    tested_true _ _ _ _ c.in-Some.key.now c.loop-key.invariant
    (rest_more deref c.loop-key.key-iterator c.next.new.self c.next.result c.in-Some.key c.in-Some.is c.next.ensures.steps)
    (ap (λ key. list_any (λ known. bytes_eq known key) (map (λ name. name.now) c.args.names.now)) (sym same) ∙ sym c.is_among.ensures ∙ c.if-not-is_among.false)

pub returns-then-not-is_among : goal.returns-then-not-is_among
returns-then-not-is_among c =
    let same : c.as_str.result.now ≡ string_bytes c.in-Some.key.now = c.as_str.ensures.value in
    tested_false _ _ _ _ c.in-Some.key.now c.loop-key.invariant
    (rest_more deref c.loop-key.key-iterator c.next.new.self c.next.result c.in-Some.key c.in-Some.is c.next.ensures.steps)
    (ap (λ key. list_any (λ known. bytes_eq known key) (map (λ name. name.now) c.args.names.now)) (sym same) ∙ sym c.is_among.ensures ∙ c.if-not-is_among.true)

pub returns : goal.returns
returns c = sym (c.loop-key.invariant ∙ ap (list_all _) (rest_all deref c.loop-key.key-iterator c.next.new.self c.next.result c.in-None.is c.next.ensures.steps))
