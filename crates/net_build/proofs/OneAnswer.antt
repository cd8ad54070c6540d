-- A document and its files have one answer: their network, or their first refusal.
use Rattle.std.proofs.Common.{◌≡◌, ℕ, zero, suc, ◌+◌, ◌<◌, inl, inr, Some, None, Option, List, [], ◌∷◌, length, take, sym, ◌∙◌, ap, subst, arith}
use Rattle.std.specs.Prelude.{slice_get, All, IsSome}
use Rattle.std.specs.List.{AllZip}
use Rattle.std.proofs.lemmas.Bool.{cases_lt, false≢true}
use Rattle.arc_base.specs.declared.refusal.Kind.{Kind}
use Rattle.net_doc.specs.declared.fault.Refusal.{Refusal}
use Rattle.net_model.specs.declared.policies.Document.{Document}
use Rattle.net_model.specs.declared.rows.Network.{Network}
use Rattle.ios_lines.specs.declared.line.Lines.{Lines}
use Rattle.ios_lines.specs.Blocks.{IsFirstOrphan, IsUnclosed}
use Rattle.ios_lines.specs.Kinds.{open_banner}
use Rattle.ios_lines.specs.Texts.{text_lines}
use Rattle.ios_lines.proofs.OneList.{one-list}
use Rattle.ios_config.specs.declared.settings.Config.{Config}
use Rattle.ios_config.specs.Configs.{IsConfigOf, IsRefused}
use Rattle.ios_config.proofs.Unique.{config_one}
use Rattle.ios_config.proofs.OneAnswer.{refusal_one, refused_alone}
use Rattle.net_rules.specs.Forms.{IsWellFormed}
use Rattle.arc_base.specs.Lists.{AreDistinct}
use Rattle.net_build.specs.Networks.{HasSettings, IsFaulty, IsFirstFaulty, IsNetworkWithin, IsFirstRefusalWithin}
use Rattle.net_build.specs.Order.{tries, RefusesWithin, IsFirstOf}
use Rattle.net_rules.specs.Rows.{AreRows}
use Rattle.net_rules.specs.Sites.{full_names}
use Rattle.std.proofs.lemmas.List.Elements.{All-cons}
use Rattle.std.proofs.lemmas.Option.{none-some, same_Some}
use Rattle.net_rules.proofs.HostNames.{hosts_differ}
use Rattle.net_rules.proofs.NamesDiffer.{full_names_distinct}
use Rattle.net_build.proofs.OneRefusal.{one_first_of, clear_or_first}
use Rattle.net_rules.proofs.SameNetwork.{same_rows}
use Rattle.net_rules.proofs.SameRows.{one_partner}
use Rattle.net_build.proofs.WellFormed.{well_formed_config}

-- a text has one list of settings
one_said : (text : List ℕ) (c d : Config) → HasSettings text c → HasSettings text d → c ≡ d
one_said text c d a b =
    let lines : a.lines ≡ b.lines = one-list text a.lines b.lines a.are_lines b.are_lines in
    let P : Lines → Type 0 = λ l. IsConfigOf text l c in
    config_one text b.lines c d (subst P lines a.is_config) b.is_config

-- a text that has settings is not faulty
said_or_faulty : (text : List ℕ) (c : Config) (line : ℕ) (kind : Kind) → HasSettings text c → IsFaulty text line kind → ⊥
said_or_faulty text c line kind says (inl orphan) = says.has_blocks.no_orphan line orphan.1
said_or_faulty text c line kind says (inr (inl banner)) = says.has_blocks.no_open_banner line banner.1
said_or_faulty text c line kind says (inr (inr wrong)) =
    let lines : says.lines ≡ wrong.lines = one-list text says.lines wrong.lines says.are_lines wrong.are_lines in
    let P : Lines → Type 0 = λ l. IsConfigOf text l c in
    refused_alone text wrong.lines c line kind (subst P lines says.is_config) wrong.refused

-- a text has one first orphan and one unclosed banner
one_orphan : (lines : List (List ℕ)) (n m : ℕ) → IsFirstOrphan lines n → IsFirstOrphan lines m → n ≡ m
one_orphan lines zero m a b = absurd a
one_orphan lines (suc n) zero a b = absurd b
one_orphan lines (suc n) (suc m) a b = elim (cases_lt n m) [
  | inl below ↦ absurd (b.1 n below a.0)
  | inr above ↦ elim (cases_lt m n) [ inl below ↦ absurd (a.1 m below b.0) | inr other ↦ omega (arith, above, other) ]
]

open_or_not : {A : Type 0} (o : Option A) → o ≡ None → IsSome o → ⊥
open_or_not None e some = false≢true some
open_or_not (Some x) e some = absurd (cc)

one_unclosed : (lines : List (List ℕ)) (count n m : ℕ) → IsUnclosed lines count n → IsUnclosed lines count m → n ≡ m
one_unclosed lines count zero m a b = absurd a
one_unclosed lines count (suc n) zero a b = absurd b
one_unclosed lines count (suc n) (suc m) a b = elim (cases_lt n m) [
  | inl below ↦ absurd (open_or_not (open_banner (take m lines)) b.new (a.stays m below (omega (arith, b.within))))
  | inr above ↦ elim (cases_lt m n) [
    | inl below ↦ absurd (open_or_not (open_banner (take n lines)) a.new (b.stays n below (omega (arith, a.within))))
    | inr other ↦ omega (arith, above, other)
  ]
]

-- a faulty text is faulty at one line for one reason
record OneFault (n m : ℕ) (k l : Kind) : Type 0 where
  line : n ≡ m
  kind : k ≡ l

one_fault : (text : List ℕ) (n m : ℕ) (k l : Kind) → IsFaulty text n k → IsFaulty text m l → OneFault n m k l
one_fault text n m k l (inl a) (inl b) = record { line = one_orphan (text_lines text) n m a.1 b.1; kind = a.0 ∙ sym b.0 }
one_fault text n m k l (inl a) (inr (inl b)) = absurd (b.2 n a.1)
one_fault text n m k l (inl a) (inr (inr b)) = absurd (b.has_blocks.no_orphan n a.1)
one_fault text n m k l (inr (inl a)) (inl b) = absurd (a.2 m b.1)
one_fault text n m k l (inr (inl a)) (inr (inl b)) = record { line = one_unclosed (text_lines text) (length (text_lines text)) n m a.1 b.1; kind = a.0 ∙ sym b.0 }
one_fault text n m k l (inr (inl a)) (inr (inr b)) = absurd (b.has_blocks.no_open_banner n a.1)
one_fault text n m k l (inr (inr a)) (inl b) = absurd (a.has_blocks.no_orphan m b.1)
one_fault text n m k l (inr (inr a)) (inr (inl b)) = absurd (a.has_blocks.no_open_banner m b.1)
one_fault text n m k l (inr (inr a)) (inr (inr b)) =
    let lines : a.lines ≡ b.lines = one-list text a.lines b.lines a.are_lines b.are_lines in
    let P : Lines → Type 0 = λ x. IsRefused text x n k in
    let same = refusal_one text b.lines n m k l (subst P lines a.refused) b.refused in
    record { line = same.0; kind = same.1 }

-- each text before a place has settings
said_before : (files : List (List ℕ)) (configs : List Config) (i j : ℕ) (text : List ℕ) → i < j → slice_get files i ≡ Some text → AllZip HasSettings (take j files) configs → (c : Config) ×
    HasSettings text c
said_before files configs i zero text below at all = absurd (omega (arith, below))
said_before [] configs i (suc j) text below at all = absurd (none-some text at)
said_before (f ∷ files) [] i (suc j) text below at all = absurd all
said_before (f ∷ files) (c ∷ configs) zero (suc j) text below at all = (c, subst (λ (t : List ℕ). HasSettings t c) (same_Some f text at) all.0)
said_before (f ∷ files) (c ∷ configs) (suc i) (suc j) text below at all = said_before files configs i j text (omega (arith, below)) at all.1

said_at : (files : List (List ℕ)) (configs : List Config) (i : ℕ) (text : List ℕ) → slice_get files i ≡ Some text → AllZip HasSettings files configs → (c : Config) × HasSettings text c
said_at [] configs i text at all = absurd (none-some text at)
said_at (f ∷ files) [] i text at all = absurd all
said_at (f ∷ files) (c ∷ configs) zero text at all = (c, subst (λ (t : List ℕ). HasSettings t c) (same_Some f text at) all.0)
said_at (f ∷ files) (c ∷ configs) (suc i) text at all = said_at files configs i text at all.1

faulty_or_said : (files : List (List ℕ)) (configs : List Config) (r : Refusal) → IsFirstFaulty files r → AllZip HasSettings files configs → ⊥
faulty_or_said files configs r faulty all =
    let says = said_at files configs faulty.place faulty.text faulty.at_place all in
    said_or_faulty faulty.text says.0 r.number r.kind says.1 faulty.faulty

one_faulty : (files : List (List ℕ)) (r s : Refusal) → IsFirstFaulty files r → IsFirstFaulty files s → r ≡ s
one_faulty files r s a b = elim (cases_lt a.place b.place) [
  | inl below ↦
      let says = said_before files b.configs a.place b.place a.text below a.at_place b.earlier in
      absurd (said_or_faulty a.text says.0 r.number r.kind says.1 a.faulty)
  | inr above ↦ elim (cases_lt b.place a.place) [
    | inl below ↦
        let says = said_before files a.configs b.place a.place b.text below b.at_place a.earlier in
        absurd (said_or_faulty b.text says.0 s.number s.kind says.1 b.faulty)
    | inr other ↦
        let places : a.place ≡ b.place = omega (arith, above, other) in
        let texts : a.text ≡ b.text = same_Some a.text b.text (sym a.at_place ∙ ap (slice_get files) places ∙ b.at_place) in
        let P : List ℕ → Type 0 = λ t. IsFaulty t r.number r.kind in
        let same = one_fault b.text r.number s.number r.kind s.kind (subst P texts a.faulty) b.faulty in
        let file : r.file ≡ s.file = a.file ∙ ap (λ (n : ℕ). n + 1) places ∙ sym b.file in
        let line : r.number ≡ s.number = same.line in
        let kind : r.kind ≡ s.kind = same.kind in
        λ i. record { file = file i; number = line i; kind = kind i }
  ]
]

one_configs : (files : List (List ℕ)) (cs ds : List Config) → AllZip HasSettings files cs → AllZip HasSettings files ds → cs ≡ ds
one_configs files cs ds a b = one_partner HasSettings one_said files cs ds a b

pub all_well_formed : (files : List (List ℕ)) (configs : List Config) → AllZip HasSettings files configs → All IsWellFormed configs
all_well_formed [] [] said = λ k d l. absurd (omega (arith, l))
all_well_formed [] (config ∷ configs) said = absurd said
all_well_formed (text ∷ files) [] said = absurd said
all_well_formed (text ∷ files) (config ∷ configs) said = All-cons IsWellFormed config configs (well_formed_config text said.0.lines config said.0.is_config) (all_well_formed files configs said.1)

-- the interfaces of a network's files have distinct names
names_apart : (down : List ℕ) (most : ℕ) (doc : Document) (files : List (List ℕ)) (net : Network) (is : IsNetworkWithin down most doc files net) → AreDistinct (full_names is.configs)
names_apart down most doc files net is =
    let formed : All IsWellFormed is.configs = all_well_formed files is.configs is.said in
    full_names_distinct is.configs (hosts_differ is.configs is.clear.0) (λ k d within. (formed k d within).faces_differ)

pub one_network : (down : List ℕ) (most : ℕ) (doc : Document) (files : List (List ℕ)) (net other : Network) → IsNetworkWithin down most doc files net →
    IsNetworkWithin down most doc files other → net ≡ other
one_network down most doc files net other a b =
    let configs : a.configs ≡ b.configs = one_configs files a.configs b.configs a.said b.said in
    let P : List Config → Type 0 = λ cs. AreRows doc cs net in
    same_rows doc b.configs (names_apart down most doc files other b) net other (subst P configs a.rows) b.rows

pub one_refusal : (down : List ℕ) (most : ℕ) (doc : Document) (files : List (List ℕ)) (r s : Refusal) → IsFirstRefusalWithin down most doc files r → IsFirstRefusalWithin down most doc files s → r ≡ s
one_refusal down most doc files r s (inl a) (inl b) = one_faulty files r s a b
one_refusal down most doc files r s (inl a) (inr b) = absurd (faulty_or_said files b.configs r a b.said)
one_refusal down most doc files r s (inr a) (inl b) = absurd (faulty_or_said files a.configs s b a.said)
one_refusal down most doc files r s (inr a) (inr b) =
    let configs : a.configs ≡ b.configs = one_configs files a.configs b.configs a.said b.said in
    let P : List Config → Type 0 = λ cs. IsFirstOf (RefusesWithin down most doc cs) tries r in
    one_first_of down most doc b.configs tries r s (subst P configs a.first) b.first

pub network_or_refused : (down : List ℕ) (most : ℕ) (doc : Document) (files : List (List ℕ)) (net : Network) (r : Refusal) →
    IsNetworkWithin down most doc files net → IsFirstRefusalWithin down most doc files r → ⊥
network_or_refused down most doc files net r is (inl faulty) = faulty_or_said files is.configs r faulty is.said
network_or_refused down most doc files net r is (inr tried) =
    let configs : tried.configs ≡ is.configs = one_configs files tried.configs is.configs tried.said is.said in
    let P : List Config → Type 0 = λ cs. IsFirstOf (RefusesWithin down most doc cs) tries r in
    clear_or_first (RefusesWithin down most doc is.configs) tries r is.clear (subst P configs tried.first)
