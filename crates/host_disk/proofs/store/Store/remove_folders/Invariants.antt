use denote.Text.{Utf8}
use denote.Shadow.{shadow}
use Rattle.host_disk.proofs.store.Store.remove_folders.Given as goal

abbrev pub invariant-loop : goal.invariant-loop
invariant-loop g l = shadow (Utf8 l.name)
