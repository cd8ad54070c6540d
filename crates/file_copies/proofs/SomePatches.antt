-- Files that a network was built from can be patched.
use Rattle.std.proofs.Common.{◌≡◌, ℕ, zero, suc, ◌<◌, Option, Some, List, [], ◌∷◌, length, refl, sym, ap, subst, arith}
use Rattle.std.specs.Prelude.{IsSomeAnd, slice_get}
use Rattle.std.proofs.lemmas.List.{length-map}
use Rattle.std.proofs.lemmas.Option.{none-some, same_Some}
use Rattle.std.proofs.lemmas.Slice.Zip.{AllZip-long}
use Rattle.ios_lines.specs.declared.line.Lines.{Lines}
use Rattle.ios_lines.specs.Lines.{AreLinesOf}
use Rattle.net_rules.proofs.Distinct.{item_at}
use Rattle.net_build.specs.declared.built.Places.{Places}
use Rattle.net_build.specs.Networks.{HasSettings}
use Rattle.net_build.specs.Places.{places_of}
use Rattle.arc_base.specs.Numbered.{EachRow}
use Rattle.line_patcher.specs.Patches.{patched_file, IsPatched}
use Rattle.file_copies.specs.Changes.{PatchesAreThere}

-- one more row in front
each_more : {X Y : Type 0} (Holds : ℕ → X → Y → Type 0) (x : X) (y : Y) (xs : List X) (ys : List Y) → Holds 0 x y
    → ((k : ℕ) (u : X) (v : Y) → slice_get xs k ≡ Some u → slice_get ys k ≡ Some v → Holds (suc k) u v)
    → (k : ℕ) (u : X) (v : Y) → slice_get (x ∷ xs) k ≡ Some u → slice_get (y ∷ ys) k ≡ Some v → Holds k u v
each_more {X} {Y} Holds x y xs ys here later zero u v at_u at_v = subst (λ (w : Y). Holds 0 u w) (same_Some y v at_v) (subst (λ (w : X). Holds 0 w y) (same_Some x u at_u) here)
each_more {X} {Y} Holds x y xs ys here later (suc k) u v at_u at_v = later k u v at_u at_v

-- if each place has its row, there are all rows
rows_are_there : {X Y : Type 0} (xs : List X) (Holds : ℕ → X → Y → Type 0) → ((k : ℕ) (x : X) → k < length xs → (y : Y) × Holds k x y) → (ys : List Y) × EachRow Holds xs ys
rows_are_there {X} {Y} [] Holds make = ([], record { whole = refl; each = λ k x y at there. absurd (none-some x at) })
rows_are_there {X} {Y} (x ∷ xs) Holds make =
    let first = make 0 x (omega arith) in
    let rest = rows_are_there xs (λ k. Holds (suc k)) (λ k z low. make (suc k) z (omega (arith, low))) in
    (first.0 ∷ rest.0, record { whole = omega (arith, rest.1.whole); each = each_more Holds x first.0 xs rest.0 first.1 rest.1.each })

pub patches_are_there : PatchesAreThere
patches_are_there down most doc built olds chosen is =
    let configs = is.network.configs in
    rows_are_there olds (IsPatched built chosen) (λ router text low.
    let lines = item_at built.lines router (omega (arith, low, AllZip-long AreLinesOf olds built.lines is.lines)) in
    let own = item_at built.places router (omega (arith, low, AllZip-long HasSettings olds configs is.network.said, ap length is.places, length-map configs places_of)) in
    let new : List ℕ = patched_file built chosen router text lines.0 own.0 in (
      new,
      subst (λ (o : Option Lines). IsSomeAnd o (λ ls. IsSomeAnd (slice_get built.places router) (λ p. new ≡ patched_file built chosen router text ls p))) (sym lines.1)
          (subst (λ (o : Option Places). IsSomeAnd o (λ p. new ≡ patched_file built chosen router text lines.0 p)) (sym own.1) refl),
    ))
