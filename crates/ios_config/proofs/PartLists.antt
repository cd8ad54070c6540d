-- Each part of a file once, and its commands, with one more command.
use Rattle.std.proofs.Common.{◌≡◌, suc, ◌+◌, ◌||◌, not, Bool, true, false, cond, List, [], ◌∷◌, ◌++◌, map, get_or, set, filter, refl, sym, ◌∙◌, ap, arith, Decides, if◌then◌else◌, eq-eqb, eqb-true}
use Rattle.std.specs.List.{list_any, position_or_len}
use Rattle.std.proofs.lemmas.Bool.{false≢true, or_parts}
use Rattle.std.proofs.lemmas.Slice.Eq.{bytes_eq-Decides}
use Rattle.std.proofs.lemmas.List.{append-nil, map-append}
use Rattle.std.proofs.lemmas.List.Elements.{filter-append}
use Rattle.ios_config.specs.declared.commands.FileCommand.{FileCommand}
use Rattle.ios_config.specs.Groups.{Part, Block, Lines, PrefixLines, is_same, part_of, distinct, members, groups}

-- the test of parts is right
pub is_same-Decides : (p q : Part) → Decides (is_same p q) (p ≡ q)
is_same-Decides (Block a) (Block b) = (λ t. ap Block (eqb-true a b t), λ e. let k : a ≡ b = cc in eq-eqb a b k)
is_same-Decides (Block a) (Lines b) = (λ t. absurd (false≢true t), λ e. cc)
is_same-Decides (Block a) (PrefixLines b) = (λ t. absurd (false≢true t), λ e. cc)
is_same-Decides (Lines a) (Block b) = (λ t. absurd (false≢true t), λ e. cc)
is_same-Decides (Lines a) (Lines b) = (λ t. ap Lines ((bytes_eq-Decides a b).0 t), λ e. let k : a ≡ b = cc in (bytes_eq-Decides a b).1 k)
is_same-Decides (Lines a) (PrefixLines b) = (λ t. absurd (false≢true t), λ e. cc)
is_same-Decides (PrefixLines a) (Block b) = (λ t. absurd (false≢true t), λ e. cc)
is_same-Decides (PrefixLines a) (Lines b) = (λ t. absurd (false≢true t), λ e. cc)
is_same-Decides (PrefixLines a) (PrefixLines b) = (λ t. ap PrefixLines ((bytes_eq-Decides a b).0 t), λ e. let k : a ≡ b = cc in (bytes_eq-Decides a b).1 k)

-- it does not matter which part comes first
apart : (p q : Part) → is_same p q ≡ false → is_same q p ≡ false
apart p q e = by (is_same q p) refl
  where
    by : (b : Bool) → is_same q p ≡ b → is_same q p ≡ false
    by false h = h
    by true h = absurd (false≢true (sym e ∙ (is_same-Decides p q).1 (sym ((is_same-Decides q p).0 h))))

-- the parts other than one
abbrev pub others : Part → List Part → List Part
others x ps = filter (λ q. not (is_same x q)) ps

any_others : (x p : Part) → is_same p x ≡ false → (ps : List Part) → list_any (is_same p) (others x ps) ≡ list_any (is_same p) ps
any_others x p e [] = refl
any_others x p e (q ∷ ps) = by (is_same x q) refl (any_others x p e ps)
  where
    by : (b : Bool) → is_same x q ≡ b → list_any (is_same p) (others x ps) ≡ list_any (is_same p) ps →
        list_any (is_same p) (cond (not b) (q ∷ others x ps) (others x ps)) ≡ (is_same p q || list_any (is_same p) ps)
    by false h ih = ap (λ c. is_same p q || c) ih
    by true h ih =
        let lacks : is_same p q ≡ false = ap (is_same p) (sym ((is_same-Decides x q).0 h)) ∙ e in
        ih ∙ ap (λ c. c || list_any (is_same p) ps) (sym lacks)

-- one more part stands last, unless it is there already
pub distinct_more : (ps : List Part) (p : Part) → distinct (ps ++ p ∷ []) ≡ (if list_any (is_same p) (distinct ps) then distinct ps else distinct ps ++ p ∷ [])
distinct_more [] p = refl
distinct_more (x ∷ ps) p =
    ap (λ l. x ∷ others x l) (distinct_more ps p) ∙ by (is_same p x) (list_any (is_same p) (distinct ps)) refl refl
  where
    by : (b a : Bool) → is_same p x ≡ b → list_any (is_same p) (distinct ps) ≡ a →
        (x ∷ others x (if a then distinct ps else distinct ps ++ p ∷ [])) ≡
        (if b || list_any (is_same p) (others x (distinct ps)) then x ∷ others x (distinct ps) else (x ∷ others x (distinct ps)) ++ p ∷ [])
    by true true e f = refl
    by true false e f =
        let drops : is_same x p ≡ true = (is_same-Decides x p).1 (sym ((is_same-Decides p x).0 e)) in
        ap (λ l. x ∷ l) (filter-append (λ q. not (is_same x q)) (distinct ps) (p ∷ []) ∙ ap (λ c. others x (distinct ps) ++ cond (not c) (p ∷ []) []) drops ∙ append-nil (others x (distinct ps)))
    by false true e f =
        let there : list_any (is_same p) (others x (distinct ps)) ≡ true = any_others x p e (distinct ps) ∙ f in
        ap (λ c. if c then x ∷ others x (distinct ps) else (x ∷ others x (distinct ps)) ++ p ∷ []) (sym there)
    by false false e f =
        let lacks : list_any (is_same p) (others x (distinct ps)) ≡ false = any_others x p e (distinct ps) ∙ f in
        let keeps : is_same x p ≡ false = apart p x e in
        ap (λ l. x ∷ l) (filter-append (λ q. not (is_same x q)) (distinct ps) (p ∷ []) ∙ ap (λ c. others x (distinct ps) ++ cond (not c) (p ∷ []) []) keeps) ∙
        ap (λ c. if c then x ∷ others x (distinct ps) else (x ∷ others x (distinct ps)) ++ p ∷ []) (sym lacks)

-- no part is there twice
abbrev pub Fresh : List Part → Type 0
Fresh [] = Unit {0}
Fresh (p ∷ ps) = (list_any (is_same p) ps ≡ false) × Fresh ps

kept_lacks : (x p : Part) (ps : List Part) → list_any (is_same p) ps ≡ false → list_any (is_same p) (others x ps) ≡ false
kept_lacks x p [] e = refl
kept_lacks x p (q ∷ ps) e = by (is_same x q) (kept_lacks x p ps) (or_parts (is_same p q) (list_any (is_same p) ps) e)
  where
    by : (b : Bool) → (list_any (is_same p) ps ≡ false → list_any (is_same p) (others x ps) ≡ false) →
        (is_same p q ≡ false) × (list_any (is_same p) ps ≡ false) → list_any (is_same p) (cond (not b) (q ∷ others x ps) (others x ps)) ≡ false
    by true ih h = ih h.1
    by false ih h = ap (λ c. c || list_any (is_same p) (others x ps)) h.0 ∙ ih h.1

pub others_lack : (x : Part) (ps : List Part) → list_any (is_same x) (others x ps) ≡ false
others_lack x [] = refl
others_lack x (q ∷ ps) = by (is_same x q) refl (others_lack x ps)
  where
    by : (b : Bool) → is_same x q ≡ b → list_any (is_same x) (others x ps) ≡ false → list_any (is_same x) (cond (not b) (q ∷ others x ps) (others x ps)) ≡ false
    by true h ih = ih
    by false h ih = ap (λ c. c || list_any (is_same x) (others x ps)) h ∙ ih

others_fresh : (x : Part) (ps : List Part) → Fresh ps → Fresh (others x ps)
others_fresh x [] f = tt
others_fresh x (q ∷ ps) f = by (is_same x q) (others_fresh x ps f.1)
  where
    by : (b : Bool) → Fresh (others x ps) → Fresh (cond (not b) (q ∷ others x ps) (others x ps))
    by true ih = ih
    by false ih = (kept_lacks x q ps f.0, ih)

pub distinct_fresh : (ps : List Part) → Fresh (distinct ps)
distinct_fresh [] = tt
distinct_fresh (p ∷ ps) = (others_lack p (distinct ps), others_fresh p (distinct ps) (distinct_fresh ps))

-- a part is among the distinct ones exactly where it is among all
any_distinct : (p : Part) (ps : List Part) → list_any (is_same p) (distinct ps) ≡ list_any (is_same p) ps
any_distinct p [] = refl
any_distinct p (x ∷ ps) = by (is_same p x) refl (any_distinct p ps)
  where
    by : (b : Bool) → is_same p x ≡ b → list_any (is_same p) (distinct ps) ≡ list_any (is_same p) ps → (b || list_any (is_same p) (others x (distinct ps))) ≡ (b || list_any (is_same p) ps)
    by true e ih = refl
    by false e ih = any_others x p e (distinct ps) ∙ ih

-- no command is a member of a part that none names
pub none_named : (p : Part) (cs : List FileCommand) → list_any (is_same p) (map part_of cs) ≡ false → members cs p ≡ []
none_named p [] e = refl
none_named p (c ∷ cs) e =
    let both = or_parts (is_same p (part_of c)) (list_any (is_same p) (map part_of cs)) e in
    ap (λ b. cond b (c ∷ members cs p) (members cs p)) both.0 ∙ none_named p cs both.1

module _ (cs : List FileCommand) (c : FileCommand) where
  members_more : (p : Part) → members (cs ++ c ∷ []) p ≡ members cs p ++ cond (is_same p (part_of c)) (c ∷ []) []
  members_more p = filter-append (λ d. is_same p (part_of d)) cs (c ∷ [])

  members_gain : (p : Part) → is_same p (part_of c) ≡ true → members (cs ++ c ∷ []) p ≡ members cs p ++ c ∷ []
  members_gain p e = members_more p ∙ ap (λ b. members cs p ++ cond b (c ∷ []) []) e

  members_stay : (p : Part) → is_same p (part_of c) ≡ false → members (cs ++ c ∷ []) p ≡ members cs p
  members_stay p e = members_more p ∙ ap (λ b. members cs p ++ cond b (c ∷ []) []) e ∙ append-nil (members cs p)

  -- the other groups stay
  all_stay : (ps : List Part) → list_any (is_same (part_of c)) ps ≡ false → map (members (cs ++ c ∷ [])) ps ≡ map (members cs) ps
  all_stay [] e = refl
  all_stay (p ∷ ps) e =
      let both = or_parts (is_same (part_of c) p) (list_any (is_same (part_of c)) ps) e in
      let first = members_stay p (apart (part_of c) p both.0) in
      let rest = all_stay ps both.1 in
      λ i. first i ∷ rest i

  -- the command's group gains it
  one_gains : (ps : List Part) → Fresh ps → list_any (is_same (part_of c)) ps ≡ true →
      map (members (cs ++ c ∷ [])) ps ≡ set (map (members cs) ps) (position_or_len (is_same (part_of c)) ps) (get_or (map (members cs) ps) (position_or_len (is_same (part_of c)) ps) [] ++ c ∷ [])
  one_gains [] f e = absurd (false≢true e)
  one_gains (p ∷ ps) f e = by (is_same (part_of c) p) refl (one_gains ps f.1)
    where
      by : (b : Bool) → is_same (part_of c) p ≡ b → (list_any (is_same (part_of c)) ps ≡ true →
          map (members (cs ++ c ∷ [])) ps ≡ set (map (members cs) ps) (position_or_len (is_same (part_of c)) ps)
          (get_or (map (members cs) ps) (position_or_len (is_same (part_of c)) ps) [] ++ c ∷ [])) →
          (members (cs ++ c ∷ []) p ∷ map (members (cs ++ c ∷ [])) ps) ≡
          set (members cs p ∷ map (members cs) ps) (cond (not b) (1 + position_or_len (is_same (part_of c)) ps) 0)
          (get_or (members cs p ∷ map (members cs) ps) (cond (not b) (1 + position_or_len (is_same (part_of c)) ps) 0) [] ++ c ∷ [])
      by true h ih =
          let is : part_of c ≡ p = (is_same-Decides (part_of c) p).0 h in
          let first = members_gain p ((is_same-Decides p (part_of c)).1 (sym is)) in
          let rest = all_stay ps (ap (λ q. list_any (is_same q) ps) is ∙ f.0) in
          λ i. first i ∷ rest i
      by false h ih =
          let k = position_or_len (is_same (part_of c)) ps in
          let up : 1 + k ≡ suc k = omega arith in
          let first = members_stay p (apart (part_of c) p h) in
          let rest = ih (ap (λ d. d || list_any (is_same (part_of c)) ps) (sym h) ∙ e) in
          (λ i. first i ∷ rest i) ∙
          ap (λ n. set (members cs p ∷ map (members cs) ps) n (get_or (members cs p ∷ map (members cs) ps) n [] ++ c ∷ [])) (sym up)

  -- a command of a new part begins a group
  pub groups_new : list_any (is_same (part_of c)) (distinct (map part_of cs)) ≡ false → groups (cs ++ c ∷ []) ≡ groups cs ++ (c ∷ []) ∷ []
  groups_new e =
      let D = distinct (map part_of cs) in
      let parts : distinct (map part_of (cs ++ c ∷ [])) ≡ D ++ part_of c ∷ [] =
      ap distinct (map-append part_of cs (c ∷ [])) ∙ distinct_more (map part_of cs) (part_of c) ∙ ap (λ b. if b then D else D ++ part_of c ∷ []) e in
      let alone : members (cs ++ c ∷ []) (part_of c) ≡ c ∷ [] =
      members_gain (part_of c) ((is_same-Decides (part_of c) (part_of c)).1 refl) ∙ ap (λ l. l ++ c ∷ []) (none_named (part_of c) cs (sym (any_distinct (part_of c) (map part_of cs)) ∙ e)) in
      ap (map (members (cs ++ c ∷ []))) parts ∙ map-append (members (cs ++ c ∷ [])) D (part_of c ∷ []) ∙
      (λ i. all_stay D e i ++ alone i ∷ [])

  -- another joins its group
  pub groups_old : list_any (is_same (part_of c)) (distinct (map part_of cs)) ≡ true →
      groups (cs ++ c ∷ []) ≡ set (groups cs) (position_or_len (is_same (part_of c)) (distinct (map part_of cs)))
      (get_or (groups cs) (position_or_len (is_same (part_of c)) (distinct (map part_of cs))) [] ++ c ∷ [])
  groups_old e =
      let D = distinct (map part_of cs) in
      let parts : distinct (map part_of (cs ++ c ∷ [])) ≡ D =
      ap distinct (map-append part_of cs (c ∷ [])) ∙ distinct_more (map part_of cs) (part_of c) ∙ ap (λ b. if b then D else D ++ part_of c ∷ []) e in
      ap (map (members (cs ++ c ∷ []))) parts ∙ one_gains D (distinct_fresh (map part_of cs)) e
