-- How many records may follow up to the close, and the room that is kept for them.
use Rattle.std.specs.Prelude.{ℕ, ◌+◌, ◌-◌, ◌*◌, ◌≤◌, List, length, MatchOption, if◌then◌else◌}
use Rattle.std.specs.Option.{IfSome, IsSome, option_map_or}
use Rattle.std.specs.List.{sum_by}
use Rattle.records.specs.Stored.{Record}
use Rattle.gate_log.specs.Entries.{most_file}
use Rattle.device.specs.Devices.{Device, Pending}
use Rattle.device.specs.declared.staged.Stage.TheVariants as stages
use Rattle.device.specs.Lawful.{Lawful}
use Rattle.device.specs.Sound.{IsSound}

-- how many failures may still be recorded
abbrev pub failures_left : List ℕ → ℕ
failures_left failures = sum_by (λ c. 3 - c) failures

-- a beginning and an end of each bootstrap that is left, and one more where none is begun
abbrev pub boots_left : List (List ℕ) → Pending → ℕ
boots_left boots q = 2 * (length boots - q.ended) + (if q.begun then 0 else 1)

-- the record of the failure, a beginning and an end of each back, 3 failures of each of 128 items, and the close
abbrev pub way_back : Pending → ℕ
way_back q = 2 * length q.plan.boots + 386

abbrev pub left_of : Pending → ℕ
left_of q = elim q.stage [
  | stages.Booting ↦ if q.boot_failed then way_back q else boots_left q.plan.boots q + 384 + way_back q
  | stages.Activating ↦ failures_left q.failures + way_back q
  | stages.Backing ↦ if q.boot_failed then 1 else boots_left q.backs q + 384
  | stages.Rolling ↦ failures_left q.failures + 1
]

-- how many records may follow at most
abbrev pub still_to_come : Device → ℕ
still_to_come d = option_map_or left_of d.pending 0

-- each has fewer than 256 bytes with its gate and length
abbrev pub HasRoom : ℕ → Device → Type 0
HasRoom end d = IfSome d.pending (λ q. end + 256 * left_of q ≤ most_file)

-- each lawful record of a pending deployment takes one of them
abbrev pub RecordsRunOut : Type 0
RecordsRunOut = (d e : Device) (r : Record) → IsSound d → IsSome d.pending → Lawful d r e → still_to_come e + 1 ≤ still_to_come d

-- an entry from this place to the next took one record. Where none was pending, what may follow an Accepted fits.
abbrev pub TakesRoom : ℕ → ℕ → Device → Device → Type 0
TakesRoom at next d e = MatchOption d.pending
    (IfSome e.pending (λ q. left_of q ≤ 1283))
    (λ p. IfSome e.pending (λ q. next + 256 * left_of q ≤ at + 256 * left_of p))
