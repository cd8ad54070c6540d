-- What is asked of each file by itself holds after the edits as before them.
use Rattle.std.proofs.Common.{◌≡◌, ◌≢◌, ℕ, zero, suc, ◌+◌, ◌<◌, ◌==◌, ◌⊎◌, inl, inr, Bool, true, false, Option, Some, None, List, [], ◌∷◌, length, refl, sym, ◌∙◌, ap, subst, arith, unwrap_or, take}
use Rattle.std.specs.Prelude.{Any, Contains, IsSomeAnd, MatchOption, is_some, slice_get, option_map, option_and_then}
use Rattle.std.specs.Option.{option_map_or}
use Rattle.std.specs.List.{AllZip, filter_map, last_or, cons_option}
use Rattle.std.proofs.lemmas.Bool.{eqb-true, false≢true, cases_lt}
use Rattle.std.proofs.lemmas.Option.{none-some, same_Some}
use Rattle.std.proofs.lemmas.List.Elements.{Contains-append_cases, Contains-append_left, Contains-append_right}
use Rattle.arc_base.specs.declared.refusal.Kind.{Kind}
use Rattle.arc_base.specs.declared.refusal.Kind.TheVariants as kinds
use Rattle.arc_base.proofs.Items.{Contains-head, Contains-tail, Contains-cases, Contains-none}
use Rattle.net_model.specs.declared.policies.Document.{Document}
use Rattle.net_model.specs.declared.rows.Network.{Network}
use Rattle.net_model.specs.declared.rows.Protocol.TheVariants.{Ospf}
use Rattle.net_model.proofs.Readings.{item_at_place, place_of_item}
use Rattle.ios_words.specs.declared.commands.Command.{Command}
use Rattle.ios_words.specs.declared.commands.Command.TheVariants as commands
use Rattle.ios_words.specs.declared.commands.AreaText.{AreaText}
use Rattle.ios_config.specs.declared.settings.Config.{Config}
use Rattle.ios_config.specs.declared.settings.Given.{Given}
use Rattle.ios_config.specs.declared.settings.Setting.{Setting}
use Rattle.ios_config.specs.declared.settings.FaceText.{FaceText}
use Rattle.ios_config.specs.declared.settings.ProcessText.{ProcessText}
use Rattle.ios_config.specs.declared.settings.ProcessKind.{ProcessKind}
use Rattle.ios_config.specs.declared.settings.ProcessKind.TheVariants as processes
use Rattle.ios_config.specs.Bare.{bare_process, bare_setting}
use Rattle.net_rules.specs.Linking.{says_router_id, router_id_line, router_id_of}
use Rattle.net_rules.specs.Reasons.{NoRefusal, InFiles}
use Rattle.net_rules.specs.Routers.{NamesRouter, HasNoOwnName, RefusesHostname, protocol_of_kind, protocol_of, NamesOtherProcess, RunsOther, MixesProcesses, HasNoOwnProcess, RefusesProtocol}
use Rattle.net_rules.specs.Routers.{area_of_command}
use Rattle.net_rules.specs.Routers.{line_area, face_area, areas_of, IsFirstArea, IsOther, NamesOtherArea, RefusesTwoAreas, GivesNumber, Repeats, as_of_process, as_of, RefusesSameAs}
use Rattle.net_rules.specs.Settings.{value, process_of, lines_of, last_said}
use Rattle.net_rules.specs.Sites.{host_name}
use Rattle.net_rules.proofs.HostNames.{hosts_differ}
use Rattle.edit_list.specs.declared.edit_kinds.Edit.{Edit}
use Rattle.edit_list.proofs.NewListFacts.{picked_from, picks}
use Rattle.settings_edit_laws.specs.SettingsAfter.{process_with, AreSettingsAfter}
use Rattle.settings_edit_laws.proofs.Edited.{AreEdited, FileWas, file_was, face_text_was}
use Rattle.settings_edit_laws.proofs.FaceRows.{any_was}
use Rattle.settings_edit_laws.proofs.Lines.{IsAdded, ProcessAfter, process_after, host_stays, same_said}
use Rattle.settings_edit_laws.proofs.Pairs.{any_of, of_any}
use Rattle.settings_edit_laws.proofs.Pairs.{maps_agree}
use Rattle.arc_base.proofs.Zips.{AllZip-left}
use Rattle.settings_edit_laws.proofs.SessionFacts.{pair_at}
use Rattle.settings_edit_laws.proofs.Sites.{given_of_value}

-- an item that offends is refused
pub offends_not : {X : Type 0} (kind : Kind) (Offends : ℕ → X → ℕ → Type 0) (items : List X) → NoRefusal (InFiles kind Offends items) →
    (place : ℕ) (item : X) (number : ℕ) → slice_get items place ≡ Some item → Offends place item number → ⊥
offends_not kind Offends items clear place item number at bad =
    clear (record { file = place + 1; number = number; kind = kind }) (record { place = place; item = item; at_place = at; number = number; offends = bad; told = refl })

-- an item before a place stands there, and the other way round
pub taken_any : {X : Type 0} (P : X → Type 0) (xs : List X) (n : ℕ) → Any P (take n xs) → (k : ℕ) × (x : X) × (k < n) × (slice_get xs k ≡ Some x) × P x
taken_any {X} P xs n h =
    let r = of_any P (take n xs) h in
    let p = place_of_item (take n xs) r.0 r.1 in
    let t = at_taken xs n p.0 r.0 p.1 in
    (p.0, r.0, t.0, t.1, r.2)
  where
    at_taken : (ys : List X) (m k : ℕ) (x : X) → slice_get (take m ys) k ≡ Some x → (k < m) × (slice_get ys k ≡ Some x)
    at_taken ys zero k x e = absurd (none-some x e)
    at_taken [] (suc m) k x e = absurd (none-some x e)
    at_taken (y ∷ ys) (suc m) zero x e = (omega arith, e)
    at_taken (y ∷ ys) (suc m) (suc k) x e = let r = at_taken ys m k x e in (omega (arith, r.0), r.1)

pub any_taken : {X : Type 0} (P : X → Type 0) (xs : List X) (n k : ℕ) (x : X) → k < n → slice_get xs k ≡ Some x → P x → Any P (take n xs)
any_taken {X} P xs n k x low at p = any_of P (take n xs) x (item_at_place (take n xs) k x (earlier xs n k low at)) p
  where
    earlier : (ys : List X) (m j : ℕ) → j < m → slice_get ys j ≡ Some x → slice_get (take m ys) j ≡ Some x
    earlier [] m j l e = absurd (none-some x e)
    earlier (y ∷ ys) zero j l e = absurd (omega (arith, l))
    earlier (y ∷ ys) (suc m) zero l e = e
    earlier (y ∷ ys) (suc m) (suc j) l e = earlier ys m j (omega (arith, l)) e

no_area : (c : Command) → IsAdded c → area_of_command c ≡ None
no_area (commands.Covers prefix area) h = absurd h
no_area other h = refl

no_router_id : (c : Command) → IsAdded c → says_router_id c ≡ None
no_router_id (commands.RouterId id) h = absurd h
no_router_id other h = refl

-- the first of some areas by their lines
first_given : (xs : List (Given ℕ)) → (xs ≡ []) ⊎ ((g : Given ℕ) × Contains xs g × ((o : Given ℕ) → Contains xs o → ¬ (o.line < g.line)))
first_given [] = inl refl
first_given (x ∷ xs) = by (first_given xs)
  where
    by : (xs ≡ []) ⊎ ((g : Given ℕ) × Contains xs g × ((o : Given ℕ) → Contains xs o → ¬ (o.line < g.line))) →
        (x ∷ xs ≡ []) ⊎ ((g : Given ℕ) × Contains (x ∷ xs) g × ((o : Given ℕ) → Contains (x ∷ xs) o → ¬ (o.line < g.line)))
    by (inl none) = inr (
      x,
      Contains-head x xs,
      λ o there low. elim (Contains-cases x o xs there) [
        | inl same ↦ let line : x.line ≡ o.line = ap (λ (h : Given ℕ). h.line) same in omega (arith, line, low)
        | inr later ↦ Contains-none o (subst (λ (l : List (Given ℕ)). Contains l o) none later)
      ],
    )
    by (inr (g, there, least)) = elim (cases_lt x.line g.line) [
      | inl low ↦ inr (
        x,
        Contains-head x xs,
        λ o in_all less. elim (Contains-cases x o xs in_all) [
          | inl same ↦ let line : x.line ≡ o.line = ap (λ (h : Given ℕ). h.line) same in omega (arith, line, less)
          | inr later ↦ least o later (omega (arith, low, less))
        ],
      )
      | inr high ↦ inr (
        g,
        Contains-tail x g xs there,
        λ o in_all less. elim (Contains-cases x o xs in_all) [
          | inl same ↦ let line : x.line ≡ o.line = ap (λ (h : Given ℕ). h.line) same in omega (arith, line, less, high)
          | inr later ↦ least o later less
        ],
      )
    ]

-- there is a first area, or there is none
first_area : (configs : List Config) → ((k : ℕ) (c : Config) (o : Given ℕ) → slice_get configs k ≡ Some c → Contains (areas_of c) o → ⊥) ⊎ ((area : ℕ) × IsFirstArea configs area)
first_area [] = inl (λ k c o at there. none-some c at)
first_area (c ∷ cs) = by (first_given (areas_of c)) (first_area cs)
  where
    by : (areas_of c ≡ []) ⊎ ((g : Given ℕ) × Contains (areas_of c) g × ((o : Given ℕ) → Contains (areas_of c) o → ¬ (o.line < g.line))) →
        ((k : ℕ) (d : Config) (o : Given ℕ) → slice_get cs k ≡ Some d → Contains (areas_of d) o → ⊥) ⊎ ((area : ℕ) × IsFirstArea cs area) →
        ((k : ℕ) (d : Config) (o : Given ℕ) → slice_get (c ∷ cs) k ≡ Some d → Contains (areas_of d) o → ⊥) ⊎ ((area : ℕ) × IsFirstArea (c ∷ cs) area)
    by (inr (g, there, least)) later = inr (g.value, record { place = 0; config = c; at_place = refl; given = g; named = there; is_area = refl; first = first })
      where
        first : (k : ℕ) (d : Config) (o : Given ℕ) → slice_get (c ∷ cs) k ≡ Some d → Contains (areas_of d) o → ¬ ((k < 0) ⊎ ((k ≡ 0) × (o.line < g.line)))
        first k d o at in_d (inl low) = omega (arith, low)
        first k d o at in_d (inr (here, low)) =
            let same : c ≡ d = same_Some c d (sym (ap (slice_get (c ∷ cs)) here) ∙ at) in
            least o (subst (λ (x : Config). Contains (areas_of x) o) (sym same) in_d) low
    by (inl none) (inl no_later) = inl no_any
      where
        no_any : (k : ℕ) (d : Config) (o : Given ℕ) → slice_get (c ∷ cs) k ≡ Some d → Contains (areas_of d) o → ⊥
        no_any zero d o at there = Contains-none o (subst (λ (l : List (Given ℕ)). Contains l o) none (subst (λ (x : Config). Contains (areas_of x) o) (sym (same_Some c d at)) there))
        no_any (suc k) d o at there = no_later k d o at there
    by (inl none) (inr (area, f)) = inr (area, record { place = suc f.place; config = f.config; at_place = f.at_place; given = f.given; named = f.named; is_area = f.is_area; first = first })
      where
        first : (k : ℕ) (d : Config) (o : Given ℕ) → slice_get (c ∷ cs) k ≡ Some d → Contains (areas_of d) o → ¬ ((k < suc f.place) ⊎ ((k ≡ suc f.place) × (o.line < f.given.line)))
        first zero d o at there before = Contains-none o (subst (λ (l : List (Given ℕ)). Contains l o) none (subst (λ (x : Config). Contains (areas_of x) o) (sym (same_Some c d at)) there))
        first (suc k) d o at there (inl low) = f.first k d o at there (inl (omega (arith, low)))
        first (suc k) d o at there (inr (here, low)) = f.first k d o at there (inr (omega (arith, here), low))

module _ (doc : Document) (net : Network) (old new : List Config) (chosen : List Edit) (g : AreEdited doc net old new chosen) where
  -- names of routers
  pub clear_hostname : NoRefusal (RefusesHostname old) → NoRefusal (RefusesHostname new)
  clear_hostname clear r bad = by bad.item.hostname refl bad.offends
    where
      was : FileWas net chosen old bad.place bad.item
      was = file_was doc net old new chosen g bad.place bad.item bad.at_place

      refused : (line : ℕ) → line ≡ 0 → was.config.hostname ≡ None → ⊥
      refused line none e =
          offends_not kinds.Hostname (HasNoOwnName old) old clear bad.place was.config line was.at
          (subst (λ (p : Option Setting). MatchOption p (line ≡ 0) (λ s. (line ≡ s.line) × Any (NamesRouter s.name) (take bad.place old))) (sym e) none)

      unnamed : (o : Option Setting) → was.config.hostname ≡ o → option_map bare_setting o ≡ None → ⊥
      unnamed None e f = let line : ℕ = 0 in refused line refl e
      unnamed (Some s) e f = none-some (bare_setting s) (sym f)

      named : (o : Option Setting) (name : List ℕ) → IsSomeAnd o (λ s. s.name ≡ name) → option_map_or (λ (s : Setting). s.name) o [] ≡ name
      named None name h = absurd h
      named (Some s) name h = h

      by : (o : Option Setting) → bad.item.hostname ≡ o → MatchOption o (bad.number ≡ 0) (λ s. (bad.number ≡ s.line) × Any (NamesRouter s.name) (take bad.place new)) → ⊥
      by None e line = unnamed was.config.hostname refl (sym was.after.hostname ∙ ap (option_map bare_setting) e)
      by (Some s) e (line, again) =
          let t = taken_any (NamesRouter s.name) new bad.place again in
          let first = file_was doc net old new chosen g t.0 t.1 t.3 in
          let host_first : host_name first.config ≡ s.name = sym (host_stays net chosen t.0 first.config t.1 first.after) ∙ named t.1.hostname s.name t.4 in
          let host_this : host_name was.config ≡ s.name = sym (host_stays net chosen bad.place was.config bad.item was.after) ∙ ap (λ o. option_map_or (λ (x : Setting). x.name) o []) e in
          pair_at (λ (f : Config) (h : Config). host_name f ≢ host_name h) old t.0 bad.place first.config was.config (hosts_differ old clear) t.2 first.at was.at (host_first ∙ sym host_this)

  -- processes
  kind_stays : (router : ℕ) (o n : Option ProcessText) → ProcessAfter net chosen router o n →
      option_map (λ (p : ProcessText). protocol_of_kind p.kind) n ≡ option_map (λ (p : ProcessText). protocol_of_kind p.kind) o
  kind_stays router None None h = refl
  kind_stays router (Some p) (Some q) h = ap (λ (x : ProcessText). Some (protocol_of_kind x.kind)) h
  kind_stays router o n h = absurd h

  pub protocol_stays : protocol_of new ≡ protocol_of old
  protocol_stays = by old new (λ c d at_c at_d. (g.settings).each 0 c d at_c at_d) g.settings.whole
    where
      by : (cs ds : List Config) → ((c d : Config) → slice_get cs 0 ≡ Some c → slice_get ds 0 ≡ Some d → AreSettingsAfter net chosen 0 c d) → length ds ≡ length cs → protocol_of ds ≡ protocol_of cs
      by [] [] each whole = refl
      by (c ∷ cs) (d ∷ ds) each whole = ap (λ o. unwrap_or o Ospf) (kind_stays 0 (process_of c) (process_of d) (process_after net chosen 0 c d (each c d refl refl)))
      by cs ds each whole = absurd (omega (arith, whole))

  pub clear_protocol : NoRefusal (RefusesProtocol old) → NoRefusal (RefusesProtocol new)
  clear_protocol clear r bad = by (process_of bad.item) refl bad.offends (process_of was.config) refl (process_after net chosen bad.place was.config bad.item was.after)
    where
      was : FileWas net chosen old bad.place bad.item
      was = file_was doc net old new chosen g bad.place bad.item bad.at_place

      pairs : AllZip (λ (p q : ProcessText). bare_process q ≡ process_with net chosen bad.place (bare_process p)) was.config.process bad.item.process
      pairs = maps_agree bare_process (process_with net chosen bad.place) bare_process was.config.process bad.item.process was.after.process

      mixes_not : (p : ProcessText) → process_of was.config ≡ Some p → (line : ℕ) → MixesProcesses (protocol_of old) was.config p line → ⊥
      mixes_not p e line m =
          offends_not kinds.Protocol (HasNoOwnProcess old) old clear bad.place was.config line was.at
          (subst (λ (o : Option ProcessText). MatchOption o (line ≡ 0) (λ process. MixesProcesses (protocol_of old) was.config process line)) (sym e) m)

      second_not : (p : ProcessText) → process_of was.config ≡ Some p → (o : Option ProcessText) → slice_get bad.item.process 1 ≡ o → IsSomeAnd o (λ second. bad.number ≡ second.head) → ⊥
      second_not p e None at h = h
      second_not p e (Some q) at h =
          let first = AllZip-left (λ (p q : ProcessText). bare_process q ≡ process_with net chosen bad.place (bare_process p)) was.config.process bad.item.process pairs 1 q at in
          mixes_not p e first.0.head (inl (subst (λ (o : Option ProcessText). IsSomeAnd o (λ second. first.0.head ≡ second.head)) (sym first.1) refl))

      other_area : (p q : ProcessText) → process_of was.config ≡ Some p → p.number ≡ q.number → (f h : FaceText) → Contains was.config.faces f →
          value h.area ≡ value f.area → NamesOtherProcess q bad.number h → ⊥
      other_area p q e number f h there area named = inner h.area refl named
        where
          inner : (o : Option (Given AreaText)) → h.area ≡ o → IsSomeAnd o (λ x. (bad.number ≡ x.line) × (x.value.process ≢ q.number)) → ⊥
          inner None is k = k
          inner (Some x) is k =
              let given = given_of_value f.area x.value (sym area ∙ ap value is) in
              let differs : given.0.value.process ≢ p.number = λ same. k.1 (ap (λ (a : AreaText). a.process) (sym given.2) ∙ same ∙ number) in
              mixes_not p e given.0.line
              (inr (inl (any_of (NamesOtherProcess p given.0.line) was.config.faces f there
              (subst (λ (o : Option (Given AreaText)). IsSomeAnd o (λ y. (given.0.line ≡ y.line) × (y.value.process ≢ p.number))) (sym given.1) (refl, differs)))))

      by : (n : Option ProcessText) → process_of bad.item ≡ n →
          MatchOption n (bad.number ≡ 0) (λ process. MixesProcesses (protocol_of new) bad.item process bad.number) → (o : Option ProcessText) →
          process_of was.config ≡ o → ProcessAfter net chosen bad.place o n → ⊥
      by n en m None eo h = absurd (false≢true (sym (ap is_some eo) ∙ g.processes bad.place was.config was.at))
      by None en m (Some p) eo h = h
      by (Some q) en (inl second) (Some p) eo h = second_not p eo (slice_get bad.item.process 1) refl second
      by (Some q) en (inr (inl area)) (Some p) eo h =
          let a = of_any (NamesOtherProcess q bad.number) bad.item.faces area in
          let f = face_text_was doc net old new chosen g bad.place was.config bad.item was.after a.0 a.1 in
          other_area p q eo (ap (λ (x : ProcessText). x.number) (sym h)) f.0 a.0 f.1 f.2.stays.area a.2
      by (Some q) en (inr (inr runs)) (Some p) eo h =
          let a = of_any (RunsOther (protocol_of new) bad.number) bad.item.process runs in
          let at = place_of_item bad.item.process a.0 a.1 in
          let first = AllZip-left (λ (p q : ProcessText). bare_process q ≡ process_with net chosen bad.place (bare_process p)) was.config.process bad.item.process pairs at.0 a.0 at.1 in
          let kind : a.0.kind ≡ first.0.kind = ap (λ (x : ProcessText). x.kind) first.2 in
          mixes_not p eo first.0.head (inr (inr (any_of (RunsOther (protocol_of old) first.0.head) was.config.process first.0 (item_at_place was.config.process at.0 first.0 first.1)
          (refl, λ same. a.2.1 (ap protocol_of_kind kind ∙ same ∙ sym protocol_stays)))))

  -- areas
  module _ (router : ℕ) (c d : Config) (at : slice_get old router ≡ Some c) (after : AreSettingsAfter net chosen router c d) where
    line_area_was : (given : Given ℕ) → Contains (filter_map line_area (lines_of d)) given → (h : Given ℕ) × Contains (areas_of c) h × (h.value ≡ given.value)
    line_area_was given there =
        let p = picked_from line_area (lines_of d) given there in
        by p.0 (area_of_command p.0.value) refl p.2 (any_was net chosen router c d after (g.processes router c at) (λ (x : Command). area_of_command x ≡ Some given.value) silent)
        p.1
      where
        silent : (x : Command) → IsAdded x → area_of_command x ≡ Some given.value → ⊥
        silent x added is = none-some given.value (sym (no_area x added) ∙ is)

        by : (line : Given Command) (o : Option ℕ) → area_of_command line.value ≡ o → option_map (λ (area : ℕ). record { value = area; line = line.line }) o ≡ Some given →
            (Any (λ (x : Given Command). area_of_command x.value ≡ Some given.value) (lines_of d) →
            Any (λ (x : Given Command). area_of_command x.value ≡ Some given.value) (lines_of c)) → Contains (lines_of d) line →
            (h : Given ℕ) × Contains (areas_of c) h × (h.value ≡ given.value)
        by line None is e back in_d = absurd (none-some given e)
        by line (Some area) is e back in_d =
            let same : area ≡ given.value = ap (λ (x : Given ℕ). x.value) (same_Some (record { value = area; line = line.line }) given e) in
            let was = of_any (λ (x : Given Command). area_of_command x.value ≡ Some given.value) (lines_of c)
            (back (any_of (λ (x : Given Command). area_of_command x.value ≡ Some given.value) (lines_of d) line in_d (is ∙ ap Some same))) in
            let h : Given ℕ = record { value = given.value; line = was.0.line } in (
              h,
              Contains-append_left (filter_map line_area (lines_of c)) (filter_map face_area c.faces) h
                  (picks line_area (lines_of c) was.0 h was.1 (ap (option_map (λ (a : ℕ). record { value = a; line = was.0.line })) was.2)),
              refl,
            )

    face_area_was : (given : Given ℕ) → Contains (filter_map face_area d.faces) given → (h : Given ℕ) × Contains (areas_of c) h × (h.value ≡ given.value)
    face_area_was given there =
        let p = picked_from face_area d.faces given there in
        let f = face_text_was doc net old new chosen g router c d after p.0 p.1 in
        by f.0 f.1 p.0 f.2.stays.area p.0.area refl p.2
      where
        by : (f : FaceText) → Contains c.faces f → (h : FaceText) → value h.area ≡ value f.area → (o : Option (Given AreaText)) → h.area ≡ o →
            option_map (λ (x : Given AreaText). record { value = x.value.area; line = x.line }) o ≡ Some given →
            (k : Given ℕ) × Contains (areas_of c) k × (k.value ≡ given.value)
        by f in_c h area None is e = absurd (none-some given e)
        by f in_c h area (Some x) is e =
            let was = given_of_value f.area x.value (sym area ∙ ap value is) in
            let k : Given ℕ = record { value = was.0.value.area; line = was.0.line } in
            let same : x.value.area ≡ given.value = ap (λ (y : Given ℕ). y.value) (same_Some (record { value = x.value.area; line = x.line }) given e) in (
              k,
              Contains-append_right (filter_map line_area (lines_of c)) (filter_map face_area c.faces) k
                  (picks face_area c.faces f k in_c (ap (option_map (λ (y : Given AreaText). record { value = y.value.area; line = y.line })) was.1)),
              ap (λ (a : AreaText). a.area) was.2 ∙ same,
            )

    area_was : (given : Given ℕ) → Contains (areas_of d) given → (h : Given ℕ) × Contains (areas_of c) h × (h.value ≡ given.value)
    area_was given there = elim (Contains-append_cases (filter_map line_area (lines_of d)) (filter_map face_area d.faces) given there)
        [ inl line ↦ line_area_was given line | inr face ↦ face_area_was given face ]

  pub clear_areas : NoRefusal (RefusesTwoAreas old) → NoRefusal (RefusesTwoAreas new)
  clear_areas clear r bad = by (first_area old)
    where
      o : NamesOtherArea new bad.item bad.number
      o = bad.offends

      first_was : FileWas net chosen old o.is_first.place o.is_first.config
      first_was = file_was doc net old new chosen g o.is_first.place o.is_first.config o.is_first.at_place

      first_named : (h : Given ℕ) × Contains (areas_of first_was.config) h × (h.value ≡ o.is_first.given.value)
      first_named = area_was o.is_first.place first_was.config o.is_first.config first_was.at first_was.after o.is_first.given o.is_first.named

      this_was : FileWas net chosen old bad.place bad.item
      this_was = file_was doc net old new chosen g bad.place bad.item bad.at_place

      by : ((k : ℕ) (c : Config) (x : Given ℕ) → slice_get old k ≡ Some c → Contains (areas_of c) x → ⊥) ⊎ ((area : ℕ) × IsFirstArea old area) → ⊥
      by (inl none) = none o.is_first.place first_was.config first_named.0 first_was.at first_named.1
      by (inr (area, is_first)) =
          let other = of_any (IsOther o.first bad.number) (areas_of bad.item) o.other in
          let was = area_was bad.place this_was.config bad.item this_was.at this_was.after other.0 other.1 in
          other.2.1 (sym was.2 ∙ one bad.place this_was.config was.0 this_was.at was.1 (was.0.value == area) refl ∙
          sym (one o.is_first.place first_was.config first_named.0 first_was.at first_named.1 (first_named.0.value == area) refl) ∙ first_named.2 ∙ o.is_first.is_area)
        where
          one : (k : ℕ) (c : Config) (x : Given ℕ) → slice_get old k ≡ Some c → Contains (areas_of c) x → (b : Bool) → (x.value == area) ≡ b → x.value ≡ area
          one k c x at there true e = eqb-true x.value area e
          one k c x at there false e =
              absurd (offends_not kinds.TwoAreas (λ (place : ℕ) (config : Config) (line : ℕ). NamesOtherArea old config line) old clear k c x.line at
              (record { first = area; is_first = is_first; other = any_of (IsOther area x.line) (areas_of c) x there (refl, λ same. false≢true (sym e ∙ grind arith)) }))

  -- numbers that may not repeat
  repeats_not : (kind : Kind) (number_of : Config → Option (Given ℕ)) →
      ((k : ℕ) (c d : Config) → slice_get old k ≡ Some c → AreSettingsAfter net chosen k c d → value (number_of d) ≡ value (number_of c)) →
      NoRefusal (InFiles kind (Repeats number_of old) old) → NoRefusal (InFiles kind (Repeats number_of new) new)
  repeats_not kind number_of stays clear r bad = by (number_of bad.item) refl bad.offends
    where
      was : FileWas net chosen old bad.place bad.item
      was = file_was doc net old new chosen g bad.place bad.item bad.at_place

      gives : (o : Option (Given ℕ)) (n : ℕ) → IsSomeAnd o (λ given. given.value ≡ n) → value o ≡ Some n
      gives None n h = absurd h
      gives (Some x) n h = ap Some h

      gives_back : (o : Option (Given ℕ)) (n : ℕ) → value o ≡ Some n → IsSomeAnd o (λ given. given.value ≡ n)
      gives_back None n e = none-some n e
      gives_back (Some x) n e = same_Some x.value n e

      by : (o : Option (Given ℕ)) → number_of bad.item ≡ o → IsSomeAnd o (λ given. (bad.number ≡ given.line) × Any (GivesNumber number_of given.value) (take bad.place new)) → ⊥
      by None e h = h
      by (Some x) e h =
          let given = given_of_value (number_of was.config) x.value (sym (stays bad.place was.config bad.item was.at was.after) ∙ ap value e) in
          let t = taken_any (GivesNumber number_of x.value) new bad.place h.1 in
          let first = file_was doc net old new chosen g t.0 t.1 t.3 in
          let same : value (number_of first.config) ≡ Some x.value = sym (stays t.0 first.config t.1 first.at first.after) ∙ gives (number_of t.1) x.value t.4 in
          let again : Any (GivesNumber number_of given.0.value) (take bad.place old) =
          any_taken (GivesNumber number_of given.0.value) old bad.place t.0 first.config t.2 first.at (gives_back (number_of first.config) given.0.value (same ∙ ap Some (sym given.2))) in
          offends_not kind (Repeats number_of old) old clear bad.place was.config given.0.line was.at
          (subst (λ (q : Option (Given ℕ)). IsSomeAnd q (λ y. (given.0.line ≡ y.line) × Any (GivesNumber number_of y.value) (take bad.place old))) (sym given.1) (refl, again))

  as_stays : (k : ℕ) (c d : Config) → slice_get old k ≡ Some c → AreSettingsAfter net chosen k c d → value (as_of d) ≡ value (as_of c)
  as_stays k c d at after = by (process_of c) (process_of d) (process_after net chosen k c d after)
    where
      of_kind : (j : ProcessKind) (p q : ProcessText) → q.number ≡ p.number → value (as_of_process j q) ≡ value (as_of_process j p)
      of_kind processes.Ospf p q e = refl
      of_kind processes.Bgp p q e = ap Some e

      by : (o n : Option ProcessText) → ProcessAfter net chosen k o n →
          value (option_and_then (λ (p : ProcessText). as_of_process p.kind p) n) ≡ value (option_and_then (λ (p : ProcessText). as_of_process p.kind p) o)
      by None None h = refl
      by (Some p) (Some q) h = ap (λ (j : ProcessKind). value (as_of_process j q)) (ap (λ (x : ProcessText). x.kind) h) ∙ of_kind p.kind p q (ap (λ (x : ProcessText). x.number) h)
      by o n h = absurd h

  pub clear_same_as : NoRefusal (RefusesSameAs old) → NoRefusal (RefusesSameAs new)
  clear_same_as = repeats_not kinds.SameAs as_of as_stays

  router_id_stays : (k : ℕ) (c d : Config) → slice_get old k ≡ Some c → AreSettingsAfter net chosen k c d → value (router_id_of d) ≡ value (router_id_of c)
  router_id_stays k c d at after =
      by_lines (lines_of d) None ∙ same_said net chosen k c d after (g.processes k c at) says_router_id no_router_id ∙ sym (by_lines (lines_of c) None)
    where
      picked : (line : Given Command) (o : Option (Given ℕ)) (p : Option ℕ) (l : List (Given ℕ)) (m : List ℕ) → value o ≡ p →
          ((a : Option (Given ℕ)) (b : Option ℕ) → value a ≡ b → value (last_or a l) ≡ last_or b m) →
          (q : Option ℕ) → value (last_or o (cons_option (option_map (λ (id : ℕ). record { value = id; line = line.line }) q) l)) ≡ last_or p (cons_option q m)
      picked line o p l m e later None = later o p e
      picked line o p l m e later (Some id) = later (Some (record { value = id; line = line.line })) (Some id) refl

      by_all : (lines : List (Given Command)) (o : Option (Given ℕ)) (p : Option ℕ) → value o ≡ p →
          value (last_or o (filter_map router_id_line lines)) ≡ last_or p (filter_map (λ (x : Given Command). says_router_id x.value) lines)
      by_all [] o p e = e
      by_all (line ∷ lines) o p e =
          picked line o p (filter_map router_id_line lines) (filter_map (λ (x : Given Command). says_router_id x.value) lines) e (λ a b f. by_all lines a b f) (says_router_id line.value)

      by_lines : (lines : List (Given Command)) (o : Option (Given ℕ)) → value (last_or None (filter_map router_id_line lines)) ≡ last_said says_router_id lines
      by_lines lines o = by_all lines None None refl

  pub clear_router_ids : NoRefusal (InFiles kinds.AdjacencyForm (Repeats router_id_of old) old) → NoRefusal (InFiles kinds.AdjacencyForm (Repeats router_id_of new) new)
  clear_router_ids = repeats_not kinds.AdjacencyForm router_id_of router_id_stays
