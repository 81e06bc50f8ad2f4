-- What the real runner counts and tells.
use Rattle.std.specs.Prelude.{ℕ, Bool, List, map}
use Rattle.std.specs.declared.io.traits.Read as reads
use Rattle.std.specs.declared.io.traits.Write as writes
use Rattle.host_children.specs.declared.runner.ShellRunner.{ShellRunner}

abbrev pub runner_faults : {R P I O E : Type 0} {i : writes.Ghosts I} {o : reads.Ghosts O} {e : reads.Ghosts E} → ShellRunner R P I O E i o e → ℕ
runner_faults r = r.faults

-- the numbers of the children that live
abbrev pub runner_living : {R P I O E : Type 0} {i : writes.Ghosts I} {o : reads.Ghosts O} {e : reads.Ghosts E} → ShellRunner R P I O E i o e → List ℕ
runner_living r = map (λ c. c.number) r.children.items

-- how many were started
abbrev pub runner_started : {R P I O E : Type 0} {i : writes.Ghosts I} {o : reads.Ghosts O} {e : reads.Ghosts E} → ShellRunner R P I O E i o e → ℕ
runner_started r = r.next

abbrev pub runner_clock : {R P I O E : Type 0} {i : writes.Ghosts I} {o : reads.Ghosts O} {e : reads.Ghosts E} → ShellRunner R P I O E i o e → ℕ
runner_clock r = r.clock

-- the last moment that was told
abbrev pub runner_told : {R P I O E : Type 0} {i : writes.Ghosts I} {o : reads.Ghosts O} {e : reads.Ghosts E} → ShellRunner R P I O E i o e → ℕ
runner_told r = r.told

-- whether a moment was told since the last other call
abbrev pub runner_asked : {R P I O E : Type 0} {i : writes.Ghosts I} {o : reads.Ghosts O} {e : reads.Ghosts E} → ShellRunner R P I O E i o e → Bool
runner_asked r = r.asked
