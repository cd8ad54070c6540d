-- The lines that are left of a block, and the verdict that they make.
use Rattle.std.proofs.Common.{◌≡◌, ℕ, ◌-◌, ◌==◌, nat_le, Bool, if◌then◌else◌, List, [], ◌∷◌, ◌++◌, Option, Some, None, option_and_then, refl}
use Rattle.std.proofs.lemmas.Option.{none-some}
use Rattle.arc_base.specs.declared.place.Link.{Link}
use Rattle.net_model.specs.declared.lists.Packet.{Packet}
use Rattle.net_model.specs.declared.policies.Class.{Class}
use Rattle.net_model.specs.declared.rows.Network.{Network}
use Rattle.net_model.specs.declared.verdicts.LinkPath.{LinkPath}
use Rattle.net_model.specs.declared.verdicts.Verdict.{Verdict}
use Rattle.net_model.specs.declared.verdicts.Verdict.TheVariants as verdicts
use Rattle.policy_report.specs.declared.drafts.Block.{Block}
use Rattle.policy_report.specs.declared.drafts.Block.TheVariants.{Open, Whole}
use Rattle.policy_report.specs.declared.drafts.Draft.{Draft}
use Rattle.policy_report.specs.declared.drafts.Draft.TheVariants as drafts
use Rattle.policy_report.specs.Rereading.{AreLinks}
use Rattle.policy_report.proofs.Counted.{Items}
use Rattle.policy_report.proofs.LineWords.{closed_text, path_text, walk_words, denied_words, cut_words, side_line_words, refused_words, IsSide, FitsRefused}
use Rattle.policy_report.proofs.Spaced.{joined}

-- items of which these lines are left make the verdict
abbrev pub MakeAll : {X : Type 0} → (List X → Verdict) → (X → List ℕ) → (X → Type 0) → ℕ → List X → Verdict → List (List ℕ) → Type 0
MakeAll {X} verdict_of text P left done v front = (all : List X) × (v ≡ verdict_of all) × Items text P left done all front

-- the block, and after it these lines, make the verdict
abbrev pub Makes : Network → Block → Verdict → List (List ℕ) → Type 0
Makes net (Whole w) v front = (v ≡ w) × (front ≡ [])
Makes net (Open (drafts.Sides left sides)) v front = MakeAll verdicts.Closed (closed_text net) (λ s. IsSide net s.side) left sides v front
Makes net (Open (drafts.Paths left paths)) v front = MakeAll verdicts.Paths path_text (λ p. AreLinks net p.links) left paths v front
Makes net (Open drafts.Walk) v front =
    (class : Class) × (path : LinkPath) × (v ≡ verdicts.Walk class path) × (front ≡ joined (walk_words class path) ∷ []) × AreLinks net path.links
Makes net (Open drafts.Denied) v front = (class : Class) × (v ≡ verdicts.Denied class) × (front ≡ joined (denied_words class) ∷ [])
Makes net (Open drafts.Cut) v front =
    (links : List Link) × (side : List Bool) × (v ≡ verdicts.Cut links side) ×
    (front ≡ joined (cut_words links) ∷ joined (side_line_words net side) ∷ []) × AreLinks net links × IsSide net side
Makes net (Open (drafts.Side links)) v front =
    (side : List Bool) × (v ≡ verdicts.Cut links side) × (front ≡ joined (side_line_words net side) ∷ []) × IsSide net side
Makes net (Open drafts.Refused) v front =
    (packet : Packet) × (link : Link) × (v ≡ verdicts.Refused packet link) × (front ≡ joined (refused_words packet link) ∷ []) × FitsRefused net (packet, link)

-- a block of items after their count, and after one more of them
abbrev pub counted : {X : Type 0} → (List X → Verdict) → (ℕ → List X → Draft) → ℕ → Block
counted verdict_of draft_of count = if count == 0 then Whole (verdict_of []) else Open (draft_of count [])

abbrev pub with_item : {X : Type 0} → (List X → Verdict) → (ℕ → List X → Draft) → ℕ → List X → X → Block
with_item verdict_of draft_of left done x = if nat_le left 1 then Whole (verdict_of (done ++ x ∷ [])) else Open (draft_of (left - 1) (done ++ x ∷ []))

-- what a line adds to the draft, where it is read
abbrev pub added : {A : Type 0} → Option A → (A → Option Block) → Option Block
added o add = option_and_then add o

pub added_some : {A P : Type 0} (add : A → Option Block) (o : Option A) (block : Block) → added o add ≡ Some block → ((a : A) → o ≡ Some a → add a ≡ Some block → P) → P
added_some add None block e use_it = absurd (none-some block e)
added_some add (Some a) block e use_it = use_it a refl e
