-- The far ends of links as they are gathered, and the neighbours that are named without being among them.
use Rattle.std.proofs.Common.{◌≡◌, ◌≢◌, ℕ, ◌+◌, ◌<◌, ◌⊎◌, inl, inr, Option, Some, None, List, length, get_or, take, refl, sym, ◌∙◌, ap, subst, Bool, true, false, ◌↔◌, nat_eq, if◌then◌else◌}
use Rattle.std.specs.Prelude.{Any, All, Contains, IsSome}
use Rattle.std.specs.Option.{option_or}
use Rattle.std.proofs.lemmas.Bool.{false≢true}
use Rattle.std.proofs.lemmas.Bool.Decides.{Decides-eqb}
use Rattle.std.proofs.lemmas.List.Elements.{All-contains}
use Rattle.std.proofs.lemmas.Option.{none-some, same_Some}
use Rattle.arc_base.specs.declared.place.Face.{Face}
use Rattle.net_model.specs.declared.rows.FaceRow.{FaceRow}
use Rattle.net_model.specs.declared.rows.LinkRow.{LinkRow}
use Rattle.ios_words.specs.declared.commands.Command.{Command}
use Rattle.ios_words.specs.declared.commands.Command.TheVariants as commands
use Rattle.ios_config.specs.declared.settings.Given.{Given}
use Rattle.net_rules.specs.Neighbors.{says_remote, remote_of}
use Rattle.ios_config.specs.Least.{FindsLeast}
use Rattle.net_checks.specs.FarEnds.{LeadsTo, LinkLeadsTo, AddsFarEnd, IsListed, IsReached}
use Rattle.net_rules.specs.Peers.{NamesOther}
use Rattle.net_rules.specs.Settings.{lines_of}
use Rattle.ios_config.specs.declared.settings.Config.{Config}
use Rattle.net_rules.proofs.Anys.{Any-before, Any-now, Any-either}
use Rattle.net_rules.proofs.Lasts.{last_more}
use Rattle.ios_config.proofs.Least.{least_same}

module _ (faces : List FaceRow) (near far : Face) where
  -- two interfaces that make no pair add none
  pub adds_none : (old : List (ℕ × ℕ)) → ((pair : ℕ × ℕ) → ¬ LeadsTo faces near far pair) → AddsFarEnd faces near far old old
  adds_none old none = λ pair. (λ h. inl h, λ h. by pair h)
    where
      by : (pair : ℕ × ℕ) → Contains old pair ⊎ LeadsTo faces near far pair → Contains old pair
      by pair (inl h) = h
      by pair (inr leads) = absurd (none pair leads)

  -- and else theirs
  pub adds_pair : (old new : List (ℕ × ℕ)) (found : ℕ × ℕ) → LeadsTo faces near far found → ((pair : ℕ × ℕ) → LeadsTo faces near far pair → found ≡ pair) →
      ((pair : ℕ × ℕ) → Contains new pair ↔ (Contains old pair ⊎ (found ≡ pair))) → AddsFarEnd faces near far old new
  adds_pair old new found leads only grown = λ pair. (λ h. to pair ((grown pair).0 h), λ h. (grown pair).1 (from pair h))
    where
      to : (pair : ℕ × ℕ) → Contains old pair ⊎ (found ≡ pair) → Contains old pair ⊎ LeadsTo faces near far pair
      to pair (inl h) = inl h
      to pair (inr e) = inr (subst (λ (p : ℕ × ℕ). LeadsTo faces near far p) e leads)

      from : (pair : ℕ × ℕ) → Contains old pair ⊎ LeadsTo faces near far pair → Contains old pair ⊎ (found ≡ pair)
      from pair (inl h) = inl h
      from pair (inr l) = inr (only pair l)

-- one more link
module _ (faces : List FaceRow) (links : List LinkRow) (n : ℕ) (link : LinkRow) (within : n < length links) (is : link ≡ get_or links n link) (old mid new : List (ℕ × ℕ)) where
  pub ends_more : ((pair : ℕ × ℕ) → Contains old pair ↔ Any (LinkLeadsTo faces pair) (take n links)) → AddsFarEnd faces link.a link.b old mid → AddsFarEnd faces link.b link.a mid new →
      (pair : ℕ × ℕ) → Contains new pair ↔ Any (LinkLeadsTo faces pair) (take (n + 1) links)
  ends_more was ahead back pair = (λ h. second ((back pair).0 h), λ h. from (Any-either P links n link within is h))
    where
      P : LinkRow → Type 0
      P = LinkLeadsTo faces pair

      first : Contains old pair ⊎ LeadsTo faces link.a link.b pair → Any P (take (n + 1) links)
      first (inl h) = Any-before P links n link within is ((was pair).0 h)
      first (inr l) = Any-now P links n link within is (inl l)

      second : Contains mid pair ⊎ LeadsTo faces link.b link.a pair → Any P (take (n + 1) links)
      second (inl h) = first ((ahead pair).0 h)
      second (inr l) = Any-now P links n link within is (inr l)

      from : Any P (take n links) ⊎ P link → Contains new pair
      from (inl h) = (back pair).1 (inl ((ahead pair).1 (inl ((was pair).1 h))))
      from (inr (inl l)) = (back pair).1 (inl ((ahead pair).1 (inr l)))
      from (inr (inr l)) = (back pair).1 (inr l)

no_some : (X : Type 0) → IsSome {T = X} None → ⊥
no_some X h = false≢true h

some_or : {X : Type 0} (a b : Option X) → IsSome (option_or a b) ↔ (IsSome b ⊎ IsSome a)
some_or {X} None b = (λ h. inl h, λ h. by h)
  where
    by : IsSome b ⊎ IsSome {T = X} None → IsSome b
    by (inl h) = h
    by (inr h) = absurd (no_some X h)
some_or {X} (Some x) b = (λ h. inr h, λ h. refl)

-- one more line
module _ (lines : List (Given Command)) (n : ℕ) (line : Given Command) (within : n < length lines) (is : line ≡ get_or lines n line) (old new : List ℕ)
    (was : (peer : ℕ) → Contains old peer ↔ IsSome (remote_of (take n lines) peer)) where
  more : (peer : ℕ) → option_or (says_remote peer line.value) (remote_of (take n lines) peer) ≡ remote_of (take (n + 1) lines) peer
  more peer = last_more (says_remote peer) lines n line (remote_of (take n lines) peer) (says_remote peer line.value) within is refl refl

  pub remotes_more : ((peer : ℕ) → Contains new peer ↔ (Contains old peer ⊎ IsSome (says_remote peer line.value))) → (peer : ℕ) → Contains new peer ↔ IsSome (remote_of (take (n + 1) lines) peer)
  remotes_more grown peer =
      let either = some_or (says_remote peer line.value) (remote_of (take n lines) peer) in
      subst (λ (o : Option ℕ). Contains new peer ↔ IsSome o) (more peer) (λ h. either.1 (to ((grown peer).0 h)), λ h. (grown peer).1 (from (either.0 h)))
    where
      to : Contains old peer ⊎ IsSome (says_remote peer line.value) → IsSome (remote_of (take n lines) peer) ⊎ IsSome (says_remote peer line.value)
      to (inl h) = inl ((was peer).0 h)
      to (inr h) = inr h

      from : IsSome (remote_of (take n lines) peer) ⊎ IsSome (says_remote peer line.value) → Contains old peer ⊎ IsSome (says_remote peer line.value)
      from (inl h) = inl ((was peer).1 h)
      from (inr h) = inr h

-- the command gives this neighbour an AS
pub says_own : (peer asn : ℕ) → IsSome (says_remote peer (commands.RemoteAs peer asn))
says_own peer asn = subst (λ (b : Bool). IsSome (if b then Some asn else None)) (sym ((Decides-eqb peer peer).1 refl)) refl

pub says_other : (peer other asn : ℕ) → IsSome (says_remote peer (commands.RemoteAs other asn)) → other ≡ peer
says_other peer other asn h = by (nat_eq other peer) refl h
  where
    by : (b : Bool) → nat_eq other peer ≡ b → IsSome (if b then Some asn else None) → other ≡ peer
    by true e h = (Decides-eqb other peer).0 e
    by false e h = absurd (no_some ℕ h)

-- what is named beside the one set is named beside the same set
pub others_same : (P Q : ℕ → Type 0) → ((peer : ℕ) → P peer ↔ Q peer) → (lines : List (Given Command)) (n : ℕ) → Any (NamesOther P n) lines → Any (NamesOther Q n) lines
others_same P Q same lines n (k, g, l, e, (line, (peer, named, unknown))) = (k, g, l, e, (line, (peer, named, λ known. unknown ((same peer).1 known))))

pub least_others : (P Q : ℕ → Type 0) → ((peer : ℕ) → P peer ↔ Q peer) → (lines : List (Given Command)) (found : Option ℕ) →
    FindsLeast (λ n. Any (NamesOther P n) lines) found → FindsLeast (λ n. Any (NamesOther Q n) lines) found
least_others P Q same lines found least =
    least_same (λ n. Any (NamesOther P n) lines) (λ n. Any (NamesOther Q n) lines) found (others_same P Q same lines) (others_same Q P (λ peer. ((same peer).1, (same peer).0)) lines) least

-- the neighbour to which the command gives an AS
abbrev pub gives_remote : Command → Option ℕ
gives_remote (commands.RemoteAs peer asn) = Some peer
gives_remote other = None

-- the command gives an AS to the neighbour to which it gives one, and to no other
pub says_if : (command : Command) (peer : ℕ) → IsSome (says_remote peer command) ↔ (gives_remote command ≡ Some peer)
says_if (commands.Hostname a) peer = (λ h. absurd (no_some ℕ h), λ e. absurd (none-some peer e))
says_if (commands.Interface a) peer = (λ h. absurd (no_some ℕ h), λ e. absurd (none-some peer e))
says_if (commands.RouterOspf a) peer = (λ h. absurd (no_some ℕ h), λ e. absurd (none-some peer e))
says_if (commands.RouterBgp a) peer = (λ h. absurd (no_some ℕ h), λ e. absurd (none-some peer e))
says_if (commands.ListBlock a b) peer = (λ h. absurd (no_some ℕ h), λ e. absurd (none-some peer e))
says_if (commands.ListLine a b) peer = (λ h. absurd (no_some ℕ h), λ e. absurd (none-some peer e))
says_if (commands.PrefixLine a b c) peer = (λ h. absurd (no_some ℕ h), λ e. absurd (none-some peer e))
says_if (commands.Address a b) peer = (λ h. absurd (no_some ℕ h), λ e. absurd (none-some peer e))
says_if commands.NoAddress peer = (λ h. absurd (no_some ℕ h), λ e. absurd (none-some peer e))
says_if (commands.Shutdown a) peer = (λ h. absurd (no_some ℕ h), λ e. absurd (none-some peer e))
says_if (commands.Bandwidth a) peer = (λ h. absurd (no_some ℕ h), λ e. absurd (none-some peer e))
says_if (commands.Cost a) peer = (λ h. absurd (no_some ℕ h), λ e. absurd (none-some peer e))
says_if (commands.Area a) peer = (λ h. absurd (no_some ℕ h), λ e. absurd (none-some peer e))
says_if (commands.Point a) peer = (λ h. absurd (no_some ℕ h), λ e. absurd (none-some peer e))
says_if (commands.Group a b) peer = (λ h. absurd (no_some ℕ h), λ e. absurd (none-some peer e))
says_if (commands.Covers a b) peer = (λ h. absurd (no_some ℕ h), λ e. absurd (none-some peer e))
says_if (commands.Passive a b) peer = (λ h. absurd (no_some ℕ h), λ e. absurd (none-some peer e))
says_if (commands.Reference a) peer = (λ h. absurd (no_some ℕ h), λ e. absurd (none-some peer e))
says_if (commands.RouterId a) peer = (λ h. absurd (no_some ℕ h), λ e. absurd (none-some peer e))
says_if (commands.RemoteAs other asn) peer =
    (λ h. ap Some (says_other peer other asn h), λ e. subst (λ (p : ℕ). IsSome (says_remote peer (commands.RemoteAs p asn))) (same_Some peer other (sym e)) (says_own peer asn))
says_if (commands.NeighborDown a b) peer = (λ h. absurd (no_some ℕ h), λ e. absurd (none-some peer e))
says_if (commands.NeighborList a b) peer = (λ h. absurd (no_some ℕ h), λ e. absurd (none-some peer e))
says_if (commands.Tells a) peer = (λ h. absurd (no_some ℕ h), λ e. absurd (none-some peer e))
says_if (commands.Entry a b) peer = (λ h. absurd (no_some ℕ h), λ e. absurd (none-some peer e))
says_if commands.Inert peer = (λ h. absurd (no_some ℕ h), λ e. absurd (none-some peer e))

-- a command of another kind gives no AS
pub not_remote : (command : Command) → ((peer asn : ℕ) → command ≢ commands.RemoteAs peer asn) → gives_remote command ≡ None
not_remote (commands.RemoteAs peer asn) differs = absurd (differs peer asn refl)
not_remote other differs = refl

-- one more command, to whose neighbour an AS is given
pub no_remote : (command : Command) (old : List ℕ) → gives_remote command ≡ None → (peer : ℕ) → Contains old peer ↔ (Contains old peer ⊎ IsSome (says_remote peer command))
no_remote command old none peer = (λ h. inl h, by)
  where
    by : Contains old peer ⊎ IsSome (says_remote peer command) → Contains old peer
    by (inl h) = h
    by (inr h) = absurd (none-some peer (sym none ∙ (says_if command peer).0 h))

pub one_remote : (command : Command) (old new : List ℕ) (found peer : ℕ) → gives_remote command ≡ Some found → Contains new peer ↔ (Contains old peer ⊎ (found ≡ peer)) →
    Contains new peer ↔ (Contains old peer ⊎ IsSome (says_remote peer command))
one_remote command old new found peer is grown = (λ h. to (grown.0 h), λ h. grown.1 (from h))
  where
    to : Contains old peer ⊎ (found ≡ peer) → Contains old peer ⊎ IsSome (says_remote peer command)
    to (inl h) = inl h
    to (inr e) = inr ((says_if command peer).1 (is ∙ ap Some e))

    from : Contains old peer ⊎ IsSome (says_remote peer command) → Contains old peer ⊎ (found ≡ peer)
    from (inl h) = inl h
    from (inr h) = inr (same_Some found peer (sym is ∙ (says_if command peer).0 h))

-- what the gathered neighbours say of the lines, they say of the file
pub least_reached : (ends : List (ℕ × ℕ)) (remotes : List ℕ) (router : ℕ) (config : Config) (lines : List (Given Command)) (found : Option ℕ) → lines ≡ lines_of config →
    ((peer : ℕ) → Contains remotes peer ↔ IsSome (remote_of lines peer)) → FindsLeast (λ n. Any (NamesOther (IsListed ends remotes router) n) lines) found →
    FindsLeast (λ n. Any (NamesOther (IsReached ends router config) n) (lines_of config)) found
least_reached ends remotes router config lines found is are least =
    subst (λ (l : List (Given Command)). FindsLeast (λ n. Any (NamesOther (IsReached ends router config) n) l) found) is
    (least_others (IsListed ends remotes router) (IsReached ends router config) same lines found least)
  where
    same : (peer : ℕ) → IsListed ends remotes router peer ↔ IsReached ends router config peer
    same peer = (
      λ h. (h.0, subst (λ (l : List (Given Command)). IsSome (remote_of l peer)) is ((are peer).0 h.1)),
      λ h. (h.0, (are peer).1 (subst (λ (l : List (Given Command)). IsSome (remote_of l peer)) (sym is) h.1)),
    )

pub item_of_all : {X : Type 0} (P : X → Type 0) (xs ys : List X) (n : ℕ) (x : X) → n < length xs → x ≡ get_or xs n x → xs ≡ ys → All P ys → P x
item_of_all {X} P xs ys n x within is same all = All-contains P xs x (subst (λ (l : List X). All P l) (sym same) all) (n, within, sym is)
