-- What a call that deploys the documents of a workload prints and answers.
use Rattle.std.specs.Prelude.{◌≡◌, ℕ, Bool, false, ◌||◌, ◌==◌, List, [], All, length, Option, Some, None, IfSome}
use Rattle.nuc_base.specs.Numbers.{number_of}
use Rattle.nuc_base.specs.declared.kinds.Outcome.{Outcome}
use Rattle.nuc_base.specs.declared.status.Status.{Status}
use Rattle.nuc_base.specs.declared.status.Status.TheVariants.{Done, Memory}
use Rattle.workload.specs.Inputs.{deployment_count}
use Rattle.workload.specs.Tallies.{tally_of, tally_line}

-- A deployment over objects in memory gives these answers only for want of memory: the objects fail for nothing else.
abbrev pub is_want : Status → Bool
is_want status = (number_of status == 5 || number_of status == 6) || (number_of status == 7 || number_of status == 15)

-- What the deployments of a call came to: these are their answers in order, and in the end the closed list, or none where
-- memory was wanting, as to make the store.
pub record CameTo (answers : List Status) (closed : Option (List (List ℕ × Outcome))) : Type 0 where
  pub all : IfSome closed (λ c. length answers ≡ deployment_count)
  pub sound : IfSome closed (λ c. All (λ s. is_want s ≡ false) answers)

-- the status of the call, but where its line cannot be written
abbrev pub status_of : Option (List (List ℕ × Outcome)) → Status
status_of None = Memory
status_of (Some closed) = Done

-- what it prints: one line, or nothing
abbrev pub text_of : ℕ → Option (List (List ℕ × Outcome)) → List ℕ
text_of seed None = []
text_of seed (Some closed) = tally_line seed (tally_of closed)
