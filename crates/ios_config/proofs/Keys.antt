-- The keys of the code's indexes, which refer to names, and what they stand for.
use Rattle.std.proofs.Common.{◌≡◌, ◌+◌, ◌||◌, not, Bool, true, false, cond, List, [], ◌∷◌, ◌++◌, map, length, refl, sym, ◌∙◌, ap, arith, Decides, if◌then◌else◌, eq-eqb, eqb-true}
use Rattle.std.specs.List.{list_any, position_or_len}
use Rattle.std.proofs.lemmas.Bool.{false≢true}
use Rattle.std.proofs.lemmas.Slice.Eq.{bytes_eq-Decides}
use Rattle.std.proofs.lemmas.List.{map-append}
use Rattle.indexmap.specs.IndexSet.{insert_key}
use Rattle.ios_config.specs.declared.parts.Part as keys
use Rattle.ios_config.specs.declared.parts.Part.TheVariants as variants
use Rattle.ios_config.specs.declared.twice.Stand as stands
use Rattle.ios_config.specs.declared.twice.Stand.TheVariants as ways
use Rattle.ios_config.specs.contracts.parts.PartPartialEq.TheImpl as part_eq
use Rattle.ios_config.specs.contracts.twice.StandPartialEq.TheImpl as stand_eq
use Rattle.ios_config.specs.Groups.{is_same}
use Rattle.ios_config.specs.Seen.{part_seen, stand_seen}
use Rattle.ios_config.specs.Twice.{Interface, Ospf, Bgp, ListBlock, ListLines}

-- whether two keys are equal, as their index tests it
abbrev pub eq_part : keys.Part → keys.Part → Bool
eq_part = (part_eq.ghosts).eq

abbrev pub eq_stand : stands.Stand → stands.Stand → Bool
eq_stand = (stand_eq.ghosts).eq

-- the test is that of what the keys stand for
pub eq_part-same : (x y : keys.Part) → eq_part x y ≡ is_same (part_seen x) (part_seen y)
eq_part-same (variants.Block a) (variants.Block b) = refl
eq_part-same (variants.Block a) (variants.Lines b) = refl
eq_part-same (variants.Block a) (variants.PrefixLines b) = refl
eq_part-same (variants.Lines a) (variants.Block b) = refl
eq_part-same (variants.Lines a) (variants.Lines b) = refl
eq_part-same (variants.Lines a) (variants.PrefixLines b) = refl
eq_part-same (variants.PrefixLines a) (variants.Block b) = refl
eq_part-same (variants.PrefixLines a) (variants.Lines b) = refl
eq_part-same (variants.PrefixLines a) (variants.PrefixLines b) = refl

pub eq_stand-Decides : (x y : stands.Stand) → Decides (eq_stand x y) (stand_seen x ≡ stand_seen y)
eq_stand-Decides (ways.Interface a) (ways.Interface b) = (λ t. ap Interface ((bytes_eq-Decides a.now b.now).0 t), λ e. let k : a.now ≡ b.now = cc in (bytes_eq-Decides a.now b.now).1 k)
eq_stand-Decides (ways.Ospf a) (ways.Ospf b) = (λ t. ap Ospf (eqb-true a b t), λ e. let k : a ≡ b = cc in eq-eqb a b k)
eq_stand-Decides (ways.Bgp a) (ways.Bgp b) = (λ t. ap Bgp (eqb-true a b t), λ e. let k : a ≡ b = cc in eq-eqb a b k)
eq_stand-Decides (ways.Block a) (ways.Block b) = (λ t. ap ListBlock ((bytes_eq-Decides a.now b.now).0 t), λ e. let k : a.now ≡ b.now = cc in (bytes_eq-Decides a.now b.now).1 k)
eq_stand-Decides (ways.Lines a) (ways.Lines b) = (λ t. ap ListLines ((bytes_eq-Decides a.now b.now).0 t), λ e. let k : a.now ≡ b.now = cc in (bytes_eq-Decides a.now b.now).1 k)
eq_stand-Decides _ _ = (λ t. absurd (false≢true t), λ e. cc)

module _ {K X : Type 0} (eq : K → K → Bool) (seen : K → X) (same : X → X → Bool) (tied : (x y : K) → eq x y ≡ same (seen x) (seen y)) where
  -- what an index finds
  pub any_tied : (ks : List K) (k : K) → list_any (eq k) ks ≡ list_any (same (seen k)) (map seen ks)
  any_tied [] k = refl
  any_tied (x ∷ ks) k = λ i. tied k x i || any_tied ks k i

  -- where it finds it
  pub position_tied : (ks : List K) (k : K) → position_or_len (eq k) ks ≡ position_or_len (same (seen k)) (map seen ks)
  position_tied [] k = refl
  position_tied (x ∷ ks) k = λ i. cond (not (tied k x i)) (1 + position_tied ks k i) 0

  -- and what it is after an insertion
  pub insert_tied : (ks ls : List K) (k : K) → ls ≡ insert_key eq ks k → map seen ls ≡ (if list_any (same (seen k)) (map seen ks) then map seen ks else map seen ks ++ seen k ∷ [])
  insert_tied ks ls k is = ap (map seen) is ∙ by (list_any (eq k) ks) refl ∙ ap (λ b. if b then map seen ks else map seen ks ++ seen k ∷ []) (any_tied ks k)
    where
      by : (b : Bool) → list_any (eq k) ks ≡ b → map seen (if b then ks else ks ++ k ∷ []) ≡ (if b then map seen ks else map seen ks ++ seen k ∷ [])
      by true e = refl
      by false e = map-append seen ks (k ∷ [])

pub position_past : {X : Type 0} (p : X → Bool) (xs : List X) → list_any p xs ≡ false → position_or_len p xs ≡ length xs
position_past p [] e = refl
position_past p (x ∷ xs) e = by (p x) e (position_past p xs)
  where
    by : (b : Bool) → (b || list_any p xs) ≡ false → (list_any p xs ≡ false → position_or_len p xs ≡ length xs) → cond (not b) (1 + position_or_len p xs) 0 ≡ length (x ∷ xs)
    by true h ih = absurd (false≢true (sym h))
    by false h ih = let l : position_or_len p xs ≡ length xs = ih h in omega arith
