-- No interface occurs twice in the settings of a router file.
use Rattle.std.proofs.Common.{◌≡◌, ◌≢◌, ℕ, zero, ◌<◌, inl, inr, Bool, true, false, ◌||◌, List, [], ◌∷◌, ◌++◌, length, get_or, map, refl, sym, ◌∙◌, ap, subst, arith}
use Rattle.std.specs.Prelude.{Contains, AllPairs}
use Rattle.std.specs.List.{flat_map, list_any}
use Rattle.std.proofs.lemmas.Bool.{cases_lt, false≢true}
use Rattle.std.proofs.lemmas.List.{get_or_default}
use Rattle.std.proofs.lemmas.List.Kept.{AllPairs-cons}
use Rattle.ios_words.specs.declared.commands.Command.{Command}
use Rattle.ios_words.specs.declared.commands.Command.TheVariants as commands
use Rattle.ios_config.specs.declared.commands.FileCommand.{FileCommand}
use Rattle.ios_config.specs.declared.settings.FaceText.{FaceText}
use Rattle.ios_config.specs.Groups.{Part, is_same, part_of, members}
use Rattle.ios_config.specs.Texts.{face_text, face_of}
use Rattle.ios_config.specs.Twice.{Stand, stand_of, excluded, Clash, StandOnce}
use Rattle.ios_config.specs.Twice as stands
use Rattle.ios_config.proofs.PartLists.{is_same-Decides, Fresh}
use Rattle.arc_base.proofs.Items.{from_filter, from_map, from_piece, Contains-cases, Contains-none}
use Rattle.net_build.proofs.SettingForms.{face_cases}

-- the head of an interface's block
pub record HasHead (cs : List FileCommand) (p : Part) (face : FaceText) : Type 0 where
  pub head : FileCommand
  pub rest : List FileCommand
  pub block : members cs p ≡ head ∷ rest
  pub name : List ℕ
  pub is_interface : head.command ≡ commands.Interface name
  pub face_is : face ≡ face_text name head.line (head ∷ rest)

head_of : (cs : List FileCommand) (p : Part) (block : List FileCommand) (face : FaceText) → members cs p ≡ block → Contains (face_of block) face → HasHead cs p face
head_of cs p [] face is there = absurd (Contains-none face there)
head_of cs p (h ∷ t) face is there = elim (face_cases h.command h.line (h ∷ t)) [
  | inl of ↦
      let one : Contains (face_text of.name h.line (h ∷ t) ∷ []) face = subst (λ (fs : List FaceText). Contains fs face) of.gives there in
      elim (Contains-cases (face_text of.name h.line (h ∷ t)) face [] one) [
        | inl same ↦ record { head = h; rest = t; block = is; name = of.name; is_interface = of.is_interface; face_is = sym same }
        | inr none ↦ absurd (Contains-none face none)
      ]
  | inr none ↦ absurd (Contains-none face (subst (λ (fs : List FaceText). Contains fs face) none there))
]

head_member : (cs : List FileCommand) (p : Part) (face : FaceText) (h : HasHead cs p face) → Contains cs h.head × (is_same p (part_of h.head) ≡ true)
head_member cs p face h =
    let P : List FileCommand → Type 0 = λ ds. Contains ds h.head in
    from_filter (λ c. is_same p (part_of c)) cs h.head (subst P (sym h.block) (zero, omega arith, refl))

-- a part that is not among others is the same as none of them
not_among : (p : Part) (ps : List Part) (q : Part) → list_any (is_same p) ps ≡ false → Contains ps q → is_same p q ≡ false
not_among p [] q none there = absurd (Contains-none q there)
not_among p (r ∷ ps) q none there = go (is_same p r) refl (not_among p ps q)
  where
    go : (t : Bool) → is_same p r ≡ t → (list_any (is_same p) ps ≡ false → Contains ps q → is_same p q ≡ false) → is_same p q ≡ false
    go true h later = absurd (false≢true (sym (subst (λ (t : Bool). (t || list_any (is_same p) ps) ≡ false) h none)))
    go false h later = elim (Contains-cases r q ps there) [
      | inl same ↦ ap (is_same p) (sym same) ∙ h
      | inr more ↦ later (subst (λ (t : Bool). (t || list_any (is_same p) ps) ≡ false) h none) more
    ]

-- two interfaces of one name clash
clash_of : (a b : Command) (m n : List ℕ) → a ≡ commands.Interface m → b ≡ commands.Interface n → m ≡ n → Clash a b
clash_of a b m n of_a of_b same =
    let here : Clash (commands.Interface n) (commands.Interface n) = (zero, stands.Interface n, omega arith, refl, refl) in
    let P : Command → Type 0 = λ c. Clash c (commands.Interface n) in
    let Q : Command → Type 0 = λ c. Clash a c in
    subst Q (sym of_b) (subst P (sym (of_a ∙ ap commands.Interface same)) here)

one_part : (p q r : Part) → is_same p r ≡ true → is_same q r ≡ true → is_same p q ≡ true
one_part p q r of_p of_q = (is_same-Decides p q).1 ((is_same-Decides p r).0 of_p ∙ sym ((is_same-Decides q r).0 of_q))

clash_at : (cs : List FileCommand) → StandOnce cs → (h k : FileCommand) (i j : ℕ) → i < j → j < length cs → get_or cs i h ≡ h → get_or cs j k ≡ k → Clash h.command k.command → ⊥
clash_at cs once h k i j below within at_i at_j clash =
    let P : FileCommand → Type 0 = λ c. ¬ Clash c.command (get_or cs j h).command in
    let Q : FileCommand → Type 0 = λ c. ¬ Clash h.command c.command in
    let no : ¬ Clash h.command (get_or cs j h).command = subst P at_i (once i j h below within) in
    subst Q (get_or_default cs j h k within ∙ at_j) no clash

heads_apart : (cs : List FileCommand) → StandOnce cs → (p q : Part) → is_same p q ≡ false → (f g : FaceText) → HasHead cs p f → HasHead cs q g → f.name ≢ g.name
heads_apart cs once p q apart f g of_f of_g same =
    let names : of_f.name ≡ of_g.name = sym (ap (λ (x : FaceText). x.name) of_f.face_is) ∙ same ∙ ap (λ (x : FaceText). x.name) of_g.face_is in
    let at_f = head_member cs p f of_f in
    let at_g = head_member cs q g of_g in
    let i = at_f.0.0 in
    let j = at_g.0.0 in
    elim (cases_lt i j) [
      | inl below ↦ clash_at cs once of_f.head of_g.head i j below at_g.0.1 at_f.0.2 at_g.0.2
          (clash_of of_f.head.command of_g.head.command of_f.name of_g.name of_f.is_interface of_g.is_interface names)
      | inr above ↦ elim (cases_lt j i) [
        | inl below ↦ clash_at cs once of_g.head of_f.head j i below at_f.0.1 at_g.0.2 at_f.0.2
            (clash_of of_g.head.command of_f.head.command of_g.name of_f.name of_g.is_interface of_f.is_interface (sym names))
        | inr other ↦
            let places : i ≡ j = omega (arith, above, other) in
            let heads : of_f.head ≡ of_g.head = sym at_f.0.2 ∙ ap (λ (n : ℕ). get_or cs n of_f.head) places ∙ get_or_default cs j of_f.head of_g.head at_g.0.1 ∙ at_g.0.2 in
            let part : is_same p (part_of of_g.head) ≡ true = ap (λ (c : FileCommand). is_same p (part_of c)) (sym heads) ∙ at_f.1 in
            false≢true (sym apart ∙ one_part p q (part_of of_g.head) part at_g.1)
      ]
    ]

abbrev pub NamesApart : FaceText → FaceText → Type 0
NamesApart f g = f.name ≢ g.name

pub piece_head : (cs : List FileCommand) (ps : List Part) (g : FaceText) → Contains (flat_map face_of (map (members cs) ps)) g → (q : Part) × Contains ps q × HasHead cs q g
piece_head cs ps g there =
    let piece = from_piece face_of (map (members cs) ps) g there in
    let part = from_map (members cs) ps piece.0 piece.1 in
    (part.0, part.1, head_of cs part.0 piece.0 g part.2 piece.2)

pub faces_apart : (cs : List FileCommand) → StandOnce cs → (ps : List Part) → Fresh ps → AllPairs NamesApart (flat_map face_of (map (members cs) ps))
faces_apart cs once [] fresh = λ i j d below within. absurd (omega (arith, within))
faces_apart cs once (p ∷ ps) fresh = go (members cs p) refl (faces_apart cs once ps fresh.1)
  where
    rest : List FaceText
    rest = flat_map face_of (map (members cs) ps)

    go : (block : List FileCommand) → members cs p ≡ block → AllPairs NamesApart (flat_map face_of (map (members cs) ps)) →
        AllPairs NamesApart (face_of block ++ flat_map face_of (map (members cs) ps))
    go [] is later = later
    go (h ∷ t) is later = elim (face_cases h.command h.line (h ∷ t)) [
      | inl of ↦
          let f = face_text of.name h.line (h ∷ t) in
          let of_f : HasHead cs p f = record { head = h; rest = t; block = is; name = of.name; is_interface = of.is_interface; face_is = refl } in
          let P : List FaceText → Type 0 = λ fs. AllPairs NamesApart (fs ++ flat_map face_of (map (members cs) ps)) in
          subst P (sym of.gives) (AllPairs-cons NamesApart f (flat_map face_of (map (members cs) ps)) (λ k d within.
          let g = get_or (flat_map face_of (map (members cs) ps)) k d in
          let found = piece_head cs ps g (k, within, get_or_default (flat_map face_of (map (members cs) ps)) k g d within) in
          heads_apart cs once p found.0 (not_among p ps found.0 fresh.0 found.1) f g of_f found.2) later)
      | inr none ↦
          let P : List FaceText → Type 0 = λ fs. AllPairs NamesApart (fs ++ flat_map face_of (map (members cs) ps)) in
          subst P (sym none) later
    ]
