-- What the status of each command says, in the words of the subject.
use Rattle.std.specs.Prelude.{ℕ}
use Rattle.arc_outside.specs.Files.{Files}
use Rattle.command_words.specs.declared.commands.Command.{Command}
use Rattle.command_words.specs.declared.commands.Command.TheVariants.{Verify, Trace, Repair, Check}
use Rattle.command_words.specs.declared.commands.Command.TheVariants.{Apply, Solve, Lrat, Generate}
use Rattle.command_words.specs.declared.commands.Command.TheVariants.{Nodes, Prefers, Recheck}
use Rattle.apply_commands.specs.Applies.{TellsApply}
use Rattle.check_commands.specs.Tells.{TellsCheck}
use Rattle.cnf_commands.specs.Lrats.{TellsRefutation}
use Rattle.cnf_commands.specs.Solves.{TellsSolution}
use Rattle.generate_commands.specs.Tells.{TellsGenerate}
use Rattle.reach_commands.specs.Nodes.{TellsNodes}
use Rattle.reach_commands.specs.PreferRuns.{TellsPrefers}
use Rattle.reach_commands.specs.RecheckRuns.{TellsRecheck}
use Rattle.repair_commands.specs.Tells.{TellsRepair}
use Rattle.verify_commands.specs.Traces.{TellsTrace}
use Rattle.verify_commands.specs.Verifies.{TellsVerdicts}

-- what this status of a command says of the files before and after
abbrev pub Tells : Command → ℕ → Files → Files → Type 0
-- `verify`: 0 exactly if the document and its router files have a network and stable forwarding
-- meets every policy in it under every set of failed links that the policy allows for, 1 exactly if
-- they have a network that breaks a policy or has a reach policy that is not clear, and 5 exactly
-- if they are refused.
Tells (Verify document) status before after = TellsVerdicts document status before
-- `trace`: 0 exactly if the document and its router files have a network with the links and the
-- prefixes, and 5 exactly if they are refused.
Tells (Trace words) status before after = TellsTrace words status before
-- `repair`: after 0 the router files that were left are the patches, by the cheapest edits within
-- the bound after which the network meets every policy, of those that were read; these patches,
-- read again, have exactly the network after these edits; and the certificate was written. After 2
-- no edits within the bound make the network meet every policy, and the certificate of this was
-- written; and after 3 a log that is spent was written in place of either. It is 5 exactly if
-- something is refused, and then nothing is written.
Tells (Repair words) status before after = TellsRepair words status before after
-- `check`: 0 exactly if the certificate shows that the edits it names are a cheapest repair of the
-- network of the files, or that none within its bound is one, and then that is true; or if its
-- first line is not that of such a certificate, and it is a report with one block for each policy
-- of the document in order, each with a right verdict over the network of the files, and then each
-- verdict is true. 1 exactly if they have a network and it is neither, and 5 exactly if they are
-- refused.
Tells (Check document certificate) status before after =
    TellsCheck document certificate status before
-- `apply`: 0 exactly if the document and its router files have a network, the names of the copies
-- are free, and each line of the edit file names an edit of it, none twice; and then the router
-- files that were left are the patches by these edits of those that were read, and these patches,
-- read again, have exactly the network after these edits. It is 5 exactly if something is refused,
-- and then nothing is written.
Tells (Apply words) status before after = TellsApply words status before after
-- `solve`: some assignment satisfies the formula if it is 0, none does if it is 2, and it is 5
-- exactly if the formula or the name of the proof is refused. 3 may come in place of 0 and 2. A
-- proof is written in all three cases, and nothing else: after 2 it is one that `lrat` accepts, and
-- after 3 it is a log that is spent at the limit. After 5 nothing is written.
Tells (Solve words) status before after = TellsSolution words status before after
-- `lrat`: 0 exactly if the proof is an accepted log for the formula that adds the empty clause, and
-- then no assignment satisfies the formula; 1 exactly if it is no such log, and 5 exactly if the
-- formula or the proof is refused.
Tells (Lrat cnf proof) status before after = TellsRefutation cnf proof status before
-- `generate`: after 0 the certificate was written of the cheapest edits within the bound after
-- which the network of the document and the router files that are made of the number meets every
-- policy; there are patches of these files by these edits, which, read, have exactly the network
-- after them. After 2 no edits within the bound make it meet every policy, and the certificate of
-- this was written; and after 3 a log that is spent was written in place of either. It is 5 exactly
-- if what is made is too large to be repaired, and then nothing is written.
Tells (Generate words) status before after = TellsGenerate words status before after
-- `nodes`: 0 exactly if the document and its router files have a network with the prefixes in which
-- stable forwarding carries the packets from the one to the other whichever K routers fail other
-- than those of the two host networks, 1 exactly if they have such a network and it does not, or
-- the policy is not clear, and 5 exactly if they are refused.
Tells (Nodes words) status before after = TellsNodes words status before
-- `prefers`: 0 exactly if the document and its router files have a network with the prefixes and
-- the routers in which, with all links up, the packets of every class go by exactly these routers,
-- 1 exactly if they have such a network and it does not, and 5 exactly if they are refused.
Tells (Prefers words) status before after = TellsPrefers words status before
-- `recheck`: what `verify` says of the files as they are now, whatever the old report holds; and 5
-- also if the old report is missing or too long.
Tells (Recheck words) status before after = TellsRecheck words status before
