-- How many bytes the files of a command may have, and how many entries a list of a router file.
use Rattle.std.specs.Prelude.{ℕ}
use Rattle.arc_base.specs.declared.limits.TheConstants.{ENTRY_LIMIT, EDITED_ENTRY_LIMIT}
use Rattle.arc_base.specs.declared.limits.TheConstants.{DOCUMENT_LIMIT, ROUTER_FILE_LIMIT}
use Rattle.arc_base.specs.declared.limits.TheConstants.{ALL_ROUTER_FILES_LIMIT, EDITED_FILE_LIMIT}
use Rattle.arc_base.specs.declared.limits.TheConstants.{ALL_EDITED_FILES_LIMIT, PROOF_LIMIT}
use Rattle.run_files.specs.declared.limits.Limits.{Limits}
use Rattle.run_files.specs.declared.limits.Limits.TheVariants.{Judging, Editing}

-- The least limit of all: a file of any kind may have this many bytes.
abbrev pub least_limit : ℕ
least_limit = DOCUMENT_LIMIT

-- bytes of a document
abbrev pub document_limit : ℕ
document_limit = DOCUMENT_LIMIT

-- bytes of a proof or a certificate
abbrev pub proof_limit : ℕ
proof_limit = PROOF_LIMIT

-- bytes of a router file
abbrev pub router_limit : Limits → ℕ
router_limit Judging = ROUTER_FILE_LIMIT
router_limit Editing = EDITED_FILE_LIMIT

-- bytes of all router files together
abbrev pub routers_limit : Limits → ℕ
routers_limit Judging = ALL_ROUTER_FILES_LIMIT
routers_limit Editing = ALL_EDITED_FILES_LIMIT

-- entries of a list of a router file
abbrev pub entries_limit : Limits → ℕ
entries_limit Judging = ENTRY_LIMIT
entries_limit Editing = EDITED_ENTRY_LIMIT
