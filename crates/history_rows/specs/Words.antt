-- Events of the worked rows in few words.
use Rattle.std.specs.Prelude.{◌∷◌, ℕ, List, Some, codes, replicate}
use Rattle.nuc_base.specs.declared.kinds.Step.{Step}
use Rattle.nuc_base.specs.declared.kinds.Exit.{Exit}
use Rattle.nuc_base.specs.declared.kinds.Outcome.{Outcome}
use Rattle.lifecycle.specs.declared.kinds.LifeEvent.TheVariants as event
use Rattle.records.specs.Stored.{Item, StepFailed, Closed}
use Rattle.step_runner.specs.declared.entries.RunnerEntry.{RunnerEntry}
use Rattle.step_runner.specs.declared.entries.Seen.{Seen}
use Rattle.step_runner.specs.declared.entries.Seen.TheVariants as seen
use Rattle.components.specs.Fitted.{Fitted}
use Rattle.histories.specs.TraceEvents.{TraceEvent, Ran, Booted, WaitElapsed, KilledOnAbort, Recorded, Moved}
use Rattle.history_rows.specs.Rows.{made, boots_up, script, starts_up}

-- An entry at some moment: `asked m` and `not_asked m` of it.
abbrev pub Telling : Type 0
Telling = Seen → RunnerEntry

abbrev pub begins : ℕ → TraceEvent
begins k = Moved k event.MayBegin

-- child number n, of the component k
abbrev pub starts : Telling → ℕ → ℕ → Step → List ℕ → TraceEvent
starts is_modelled n k s text = Ran (is_modelled (seen.Started n (script text))) k s

abbrev pub refuses : Telling → ℕ → Step → List ℕ → TraceEvent
refuses is_modelled k s text = Ran (is_modelled (seen.Refused (script text))) k s

-- in a wait of at most so long
abbrev pub dies : Telling → ℕ → ℕ → Step → Exit → ℕ → TraceEvent
dies is_modelled n k s e limit = Ran (is_modelled (seen.Ended n e limit)) k s

abbrev pub kills : Telling → ℕ → ℕ → Step → TraceEvent
kills is_modelled n k s = Ran (is_modelled (seen.Killed n)) k s

abbrev pub passes : Telling → ℕ → TraceEvent
passes is_modelled limit = WaitElapsed (is_modelled (seen.Elapsed limit))

abbrev pub gives_up : Telling → ℕ → TraceEvent
gives_up is_modelled n = KilledOnAbort (is_modelled (seen.Killed n))

abbrev pub runs_boot : Telling → Seen → TraceEvent
runs_boot is_modelled s = Booted (is_modelled s) boots_up

abbrev pub fails : List ℕ → Step → Exit → TraceEvent
fails name s e = Recorded (StepFailed name s e)

abbrev pub closes : Outcome → TraceEvent
closes o = Recorded (Closed o)

-- ---- items

-- with a startup and a shutdown
abbrev pub shuts : Item → List (List ℕ) → Fitted
shuts i hard = record (starts_up i hard) { shutdown = Some (made (codes "q") (Some 15000)) }

-- the first of the components failed so often
abbrev pub counts_of : ℕ → List ℕ
counts_of n = n ∷ replicate 127 0
