-- The document and the router files of a generated network.
use Rattle.std.specs.Prelude.{◌≡◌, ℕ, ◌+◌, ◌*◌, ◌^◌, false, List, [], ◌∷◌, ◌++◌, map}
use Rattle.std.specs.List.{AllZip}
use Rattle.arc_base.specs.declared.prefix.Prefix.{Prefix}
use Rattle.net_model.specs.declared.policies.LinkText.{LinkText}
use Rattle.net_model.specs.declared.policies.Policy.{Policy}
use Rattle.net_model.specs.declared.policies.PolicyKind.{PolicyKind}
use Rattle.net_model.specs.declared.policies.PolicyKind.TheVariants.{Blocked, Reach}
use Rattle.net_model.specs.declared.policies.Document.{Document}
use Rattle.net_model.specs.Services.{whole_service}
use Rattle.net_gen.specs.declared.generating.Generated.{Generated}
use Rattle.net_gen.specs.Plans.{numbers, link_count, next, a_router, b_router, port}
use Rattle.net_gen.specs.RouterFiles.{host_name, file_name, face_name, router_lines, text_of}

-- a link of the document joins the two interfaces over it
abbrev pub link_text : ℕ → ℕ → LinkText
link_text n link = record {
  a_router = host_name (a_router n link);
  a_face = face_name (port n (a_router n link) link);
  b_router = host_name (b_router n link);
  b_face = face_name (port n (b_router n link) link);
  waypoint = false;
}

-- the prefix is the host network of a router, 10.ROUTER.0.0/24
pub record IsGeneratedHostNetwork (router : ℕ) (prefix : Prefix) : Type 0 where
  pub addr : prefix.addr ≡ 10 * 2 ^ 24 + router * 2 ^ 16
  pub len : prefix.len ≡ 24

-- a policy from the host network of one router to that of another
pub record Asked : Type 0 where
  pub kind : PolicyKind
  pub source : ℕ
  pub target : ℕ

-- each router reaches the next around the ring, whichever link fails
abbrev pub asked_around : ℕ → ℕ → Asked
asked_around n router = record { kind = Reach 1; source = router; target = next n router }

-- what is asked: that, and that the first router never reaches the last
abbrev pub asked : ℕ → List Asked
asked n = map (asked_around n) (numbers n) ++ record { kind = Blocked; source = 1; target = n } ∷ []

-- the policy asks just this, of all services
pub record Asks (asked : Asked) (policy : Policy) : Type 0 where
  pub kind : policy.kind ≡ asked.kind
  pub from : IsGeneratedHostNetwork asked.source policy.from
  pub to : IsGeneratedHostNetwork asked.target policy.to
  pub service : policy.service ≡ whole_service

-- the document of a network of n routers
pub record IsDocument (n : ℕ) (doc : Document) : Type 0 where
  pub routers : doc.routers ≡ map file_name (numbers n)
  pub links : doc.links ≡ map (link_text n) (numbers (link_count n))
  pub policies : AllZip Asks (asked n) doc.policies
  pub weights : doc.weights ≡ record { list = 1; filter = 1; session = 1 }

-- the texts of its router files
abbrev pub router_texts : ℕ → List (List ℕ)
router_texts n = map (λ router. text_of (router_lines n router)) (numbers n)

-- the network of n routers
pub record IsGenerated (n : ℕ) (generated : Generated) : Type 0 where
  pub doc : IsDocument n generated.doc
  pub files : generated.files ≡ router_texts n
