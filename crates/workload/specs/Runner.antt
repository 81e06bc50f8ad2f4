-- The runner whose children end by draws.
use Rattle.std.specs.Prelude.{◌≡◌, ◌≤◌, ◌+◌, ℕ, ℤ, Bool, List, [], ◌∷◌, ◌++◌, All, Option}
use Rattle.nuc_base.specs.declared.kinds.Exit.{Exit}
use Rattle.nuc_base.specs.declared.kinds.Exit.TheVariants.{Code}
use Rattle.step_runner.specs.declared.entries.RunnerEntry.{RunnerEntry}
use Rattle.step_runner.specs.declared.runner.Waited.{Waited}
use Rattle.step_runner.specs.declared.runner.Waited.TheVariants.{Ended, Elapsed}
use Rattle.step_runner.specs.Scripted.{in_time}
use Rattle.workload.specs.Children.{numbers, child_of}
use Rattle.workload.specs.declared.children.LivingChild.{LivingChild}
use Rattle.workload.specs.declared.runner.DrawRunner.{DrawRunner}
use Rattle.workload.specs.EntryLog.{log_kept, log_list}

-- the state from which the next start draws
abbrev pub draws_from : DrawRunner → ℕ
draws_from r = r.generator.state

-- the children that live, the latest first, and how each will end
abbrev pub children_of : DrawRunner → List LivingChild
children_of r = r.children.items

abbrev pub living_of : DrawRunner → List ℕ
living_of r = numbers (children_of r)

abbrev pub entries_kept : DrawRunner → List RunnerEntry
entries_kept r = log_kept r.log

abbrev pub entries_told : DrawRunner → Option (List RunnerEntry)
entries_told r = log_list r.log

abbrev pub moment_asked : DrawRunner → ℕ
moment_asked r = r.log.moment

abbrev pub is_asked : DrawRunner → Bool
is_asked r = r.log.asked

abbrev pub now_of : DrawRunner → ℕ
now_of r = r.clock

abbrev pub started_by : DrawRunner → ℕ
started_by r = r.next

abbrev pub faults_by : DrawRunner → ℕ
faults_by r = r.faults

-- the child with the least number ends as it was to, and no time passes
pub record EndsLeast (old new : DrawRunner) (child : ℕ) (exit : Exit) : Type 0 where
  pub code : ℤ
  pub exit_is : exit ≡ Code code
  pub least : All (λ c. child ≤ c) (living_of old)
  pub rest : children_of old ≡ children_of new ++ child_of child code ∷ []
  pub now : now_of new ≡ now_of old

-- no child lives, and the time passes
pub record HasElapsed (limit : ℕ) (old new : DrawRunner) : Type 0 where
  pub none : children_of old ≡ []
  pub rest : children_of new ≡ []
  pub now : now_of new ≡ in_time (now_of old + limit)

abbrev pub WaitOutcome : ℕ → DrawRunner → DrawRunner → Waited → Type 0
WaitOutcome limit old new (Ended child exit) = EndsLeast old new child exit
WaitOutcome limit old new Elapsed = HasElapsed limit old new

-- what neither a start nor an end changes
pub record IsSameWorkload (old new : DrawRunner) : Type 0 where
  pub draws : draws_from new ≡ draws_from old
  pub children : children_of new ≡ children_of old
  pub now : now_of new ≡ now_of old
  pub started : started_by new ≡ started_by old
  pub faults : faults_by new ≡ faults_by old
