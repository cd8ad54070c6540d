-- A process that commands set has its block among them.
use Rattle.std.proofs.Common.{◌≡◌, ◌≢◌, ℕ, suc, ◌+◌, ◌-◌, ◌≤◌, ◌⊎◌, inl, inr, Bool, true, false, cond}
use Rattle.std.proofs.Common.{List, [], ◌∷◌, length, map, filter, slice_get, refl, sym, ap, subst, ◌∙◌, arith, ⊎_elim, Contains}
use Rattle.std.specs.Option.{option_map_or}
use Rattle.arc_base.proofs.Items.{Contains-cases, Contains-none, Contains-head, Contains-tail, Contains-filter, from_map, from_piece, from_filter}
use Rattle.ios_words.specs.declared.kinds.BlockKind.{BlockKind}
use Rattle.ios_words.specs.declared.kinds.BlockKind.TheVariants as kinds
use Rattle.ios_words.specs.declared.commands.Command.{Command}
use Rattle.ios_words.specs.declared.commands.Command.TheVariants as commands
use Rattle.ios_words.specs.Laws.{heads_block}
use Rattle.ios_config.specs.declared.commands.FileCommand.{FileCommand}
use Rattle.ios_config.specs.declared.settings.ProcessText.{ProcessText}
use Rattle.ios_config.specs.declared.settings.ProcessKind.TheVariants.{Ospf, Bgp}
use Rattle.ios_config.specs.Commands.{opened_by}
use Rattle.ios_config.specs.Groups.{Part, Block, is_same, part_of, members, distinct, groups}
use Rattle.ios_config.specs.LineLists.{marks_in, AreCommandsIn}
use Rattle.ios_config.specs.ProcessLines.{HasProcess, ProcessesHaveBlocks}
use Rattle.ios_config.specs.Texts.{last_line, process_of, process_by}
use Rattle.ios_config.proofs.AppendedLines.{part-head}
use Rattle.ios_config.proofs.HeadsFirst.{part-block}
use Rattle.ios_config.proofs.JoinedParts.{is-self}
use Rattle.ios_config.proofs.LineLists.{command-spot}
use Rattle.ios_config.proofs.LinesBefore.{Rising, rising-from, rising-low, rising-lower}
use Rattle.ios_config.proofs.OwnBlocks.{own-block}
use Rattle.ios_config.proofs.PartLists.{is_same-Decides}

-- what some of the commands keep of their order
pub rising-filter : (p : FileCommand → Bool) (n : ℕ) (cs : List FileCommand) → Rising n cs → Rising n (filter p cs)
rising-filter p n [] up = tt
rising-filter p n (c ∷ cs) up = by (p c) (rising-filter p (c.line + 1) cs up.1)
  where
    by : (b : Bool) → Rising (c.line + 1) (filter p cs) → Rising n (cond b (c ∷ filter p cs) (filter p cs))
    by true rest = (up.0, rest)
    by false rest = rising-lower (c.line + 1) n (filter p cs) (let first : n ≤ c.line = up.0 in omega arith) rest

-- the last of some commands
pub record IsLastOf (cs : List FileCommand) (last : FileCommand) : Type 0 where
  pub among : Contains cs last
  pub line : last_line cs ≡ last.line
  pub latest : (d : FileCommand) → Contains cs d → d.line ≤ last.line

pub last-of : (n : ℕ) (c : FileCommand) (cs : List FileCommand) → Rising n (c ∷ cs) → (last : FileCommand) × IsLastOf (c ∷ cs) last
last-of n c [] up = (
  c,
  record {
    among = Contains-head c [];
    line = refl;
    latest = λ d there. ⊎_elim (λ here. subst (λ (e : FileCommand). e.line ≤ c.line) here (omega arith))
        (λ none. absurd (Contains-none d none)) (Contains-cases c d [] there);
  },
)
last-of n c (d ∷ cs) up =
    let (last, is) = last-of (c.line + 1) d cs up.1 in
    let step : length (c ∷ d ∷ cs) - 1 ≡ suc (length (d ∷ cs) - 1) = omega arith in (
      last,
      record {
        among = Contains-tail c last (d ∷ cs) is.among;
        line = ap (λ k. option_map_or (λ (e : FileCommand). e.line) (slice_get (c ∷ d ∷ cs) k) 0) step ∙ is.line;
        latest = λ e there. ⊎_elim
            (λ here. let over = rising-low (c.line + 1) (d ∷ cs) last up.1 is.among in let same : c.line ≡ e.line = ap (λ (x : FileCommand). x.line) here in omega arith)
            (λ more. is.latest e more)
            (Contains-cases c e (d ∷ cs) there);
      },
    )

-- what a command says whose block is a process
record IsProcessOf (command : Command) (h : FileCommand) (t : List FileCommand) (process : ProcessText) : Type 0 where
  within : BlockKind
  opens : opened_by command ≡ within
  known : within ≢ kinds.Inert
  heads : heads_block command ≡ true
  kind : ((within ≡ kinds.Ospf) × (process.kind ≡ Ospf)) ⊎ ((within ≡ kinds.Bgp) × (process.kind ≡ Bgp))
  head : process.head ≡ h.line
  last : process.last ≡ last_line (h ∷ t)

ospf-known : kinds.Ospf ≢ kinds.Inert
ospf-known e = absurd cc

bgp-known : kinds.Bgp ≢ kinds.Inert
bgp-known e = absurd cc

process-is : (command : Command) (h : FileCommand) (t : List FileCommand) (process : ProcessText) → Contains (process_by command h t) process → IsProcessOf command h t process
process-is (commands.RouterOspf number) h t process there = ⊎_elim
    (λ here. record {
      within = kinds.Ospf;
      opens = refl;
      known = ospf-known;
      heads = refl;
      kind = inl (refl, ap (λ (p : ProcessText). p.kind) (sym here));
      head = ap (λ (p : ProcessText). p.head) (sym here);
      last = ap (λ (p : ProcessText). p.last) (sym here);
    })
    (λ none. absurd (Contains-none process none))
    (Contains-cases _ process [] there)
process-is (commands.RouterBgp number) h t process there = ⊎_elim
    (λ here. record {
      within = kinds.Bgp;
      opens = refl;
      known = bgp-known;
      heads = refl;
      kind = inr (refl, ap (λ (p : ProcessText). p.kind) (sym here));
      head = ap (λ (p : ProcessText). p.head) (sym here);
      last = ap (λ (p : ProcessText). p.last) (sym here);
    })
    (λ none. absurd (Contains-none process none))
    (Contains-cases _ process [] there)
process-is _ h t process there = absurd (Contains-none process there)

block-of : (lines : List (List ℕ)) (cs : List FileCommand) (process : ProcessText) (part : Part) (group : List FileCommand) → AreCommandsIn lines cs →
    members cs part ≡ group → Contains (process_of group) process → HasProcess cs process
block-of lines cs process part [] are is there = absurd (Contains-none process there)
block-of lines cs process part (h ∷ t) are is there =
    let p = process-is h.command h t process there in
    let in_group : Contains (members cs part) h = subst (λ (g : List FileCommand). Contains g h) (sym is) (Contains-head h t) in
    let (among, same) = from_filter (λ (c : FileCommand). is_same part (part_of c)) cs h in_group in
    let own : h.block ≡ h.line = own-block lines cs h are among p.heads in
    let spot = command-spot lines cs h are among in
    let part_h : part_of h ≡ Block h.line = part-head h.block h.command p.within p.opens p.known ∙ ap Block own in
    let part_is : part ≡ Block h.line = (is_same-Decides part (part_of h)).0 same ∙ part_h in
    let up = rising-filter (λ (c : FileCommand). is_same part (part_of c)) 1 cs (rising-from (marks_in lines) 1 (marks_in lines) cs are.reads) in
    let (last, l) = last-of 1 h t (subst (Rising 1) is up) in
    let in_last : Contains (members cs part) last = subst (λ (g : List FileCommand). Contains g last) (sym is) l.among in
    let (last_among, last_same) = from_filter (λ (c : FileCommand). is_same part (part_of c)) cs last in_last in
    record {
      head = h;
      last = last;
      within = p.within;
      block = record {
        among = among;
        own = own;
        some = λ none. let row = spot.line in let zero_line : h.line ≡ 0 = sym own ∙ none in absurd (omega arith);
        opens = p.opens;
        known = p.known;
        last_among = last_among;
        last_block = part-block last.block h.line last.command (sym ((is_same-Decides part (part_of last)).0 last_same) ∙ part_is);
        latest = λ d has part_d. l.latest d (subst (λ (g : List FileCommand). Contains g d) is
            (Contains-filter (λ (c : FileCommand). is_same part (part_of c)) cs d has (ap (is_same part) (part_d ∙ sym part_is) ∙ is-self part)));
      };
      kind = p.kind;
      head_line = p.head;
      last_line = p.last ∙ l.line;
    }

pub process-blocks : ProcessesHaveBlocks
process-blocks lines cs process are there =
    let (group, in_groups, in_process) = from_piece process_of (groups cs) process there in
    let (part, in_parts, is) = from_map (members cs) (distinct (map part_of cs)) group in_groups in
    block-of lines cs process part group are is in_process
