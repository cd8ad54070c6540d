-- What a built network says of one of its files.
use Rattle.std.proofs.Common.{◌≡◌, ℕ, zero, suc, ◌<◌, List, [], ◌∷◌, length, get_or, sym, ap, subst, ◌∙◌, arith}
use Rattle.std.specs.Prelude.{Some, slice_get}
use Rattle.std.specs.List.{AllZip}
use Rattle.std.proofs.lemmas.Option.{none-some, same_Some, slice_get-get_or}
use Rattle.std.proofs.lemmas.List.{length-map}
use Rattle.std.proofs.lemmas.Slice.Zip.{AllZip-long}
use Rattle.net_model.specs.declared.policies.Document.{Document}
use Rattle.ios_lines.specs.Lines.{AreLinesOf}
use Rattle.net_build.specs.declared.built.Built.{Built}
use Rattle.net_build.specs.Networks.{IsBuilt, HasSettings}
use Rattle.net_build.specs.Places.{places_of}
use Rattle.net_rules.specs.Rows.{IsRouterRow}
use Rattle.line_patcher.specs.Working.{IsFileOf}

beside : {X Y : Type 0} (R : X → Y → Type 0) (xs : List X) (ys : List Y) (k : ℕ) (x : X) (y : Y) → AllZip R xs ys → slice_get xs k ≡ Some x → slice_get ys k ≡ Some y → R x y
beside {X} {Y} R [] ys k x y all at_x at_y = absurd (none-some x at_x)
beside {X} {Y} R (u ∷ xs) [] k x y all at_x at_y = absurd all
beside {X} {Y} R (u ∷ xs) (v ∷ ys) zero x y all at_x at_y = subst (λ (w : Y). R x w) (same_Some v y at_y) (subst (λ (w : X). R w v) (same_Some u x at_x) all.0)
beside {X} {Y} R (u ∷ xs) (v ∷ ys) (suc k) x y all at_x at_y = beside R xs ys k x y all.1 at_x at_y

pub is-file : (doc : Document) (files : List (List ℕ)) (built : Built) (router : ℕ) (text : List ℕ) → IsBuilt doc files built → router < length files → text ≡ get_or files router text →
    IsFileOf built router text
is-file doc files built router text is low there =
    let configs = is.network.configs in
    let said = AllZip-long HasSettings files configs is.network.said in
    let routers = AllZip-long (IsRouterRow built.net.protocol) configs built.net.routers is.network.rows.base.routers in
    let lines = AllZip-long AreLinesOf files built.lines is.lines in
    let places : length built.places ≡ length configs = ap length is.places ∙ length-map configs places_of in
    record {
      routed = omega arith;
      placed = omega arith;
      lined = omega arith;
      lines = λ ls at. beside AreLinesOf files built.lines router text ls is.lines (slice_get-get_or files router text low ∙ ap Some (sym there)) at;
    }
