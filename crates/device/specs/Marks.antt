-- The records that marks stand for, and what applying them changes.
use Rattle.std.specs.Prelude.{◌≡◌, ℕ, true, List, Some, is_some, ⊤}
use Rattle.std.specs.Option.{IsSomeAnd}
use Rattle.records.specs.Stored as stored
use Rattle.records.specs.Stored.{Item, Record}
use Rattle.device.specs.Devices.{Device, Pending}
use Rattle.device.specs.Lawful.{next_boot, failing_name, failing_place, begun, boot_ended, activated, counted, rolled, sent_to, MayCount}
use Rattle.device.specs.declared.mark.Mark.{Mark}
use Rattle.device.specs.declared.mark.Mark.TheVariants as marks

-- the mark of a pending deployment stands for this record
abbrev pub IsMarkOf : List Item → Pending → Mark → Record → Type 0
IsMarkOf set q marks.BootBegun r = (n : List ℕ) × (next_boot q ≡ Some n) × (r ≡ stored.BootBegun n)
IsMarkOf set q (marks.BootEnded e) r = (n : List ℕ) × (next_boot q ≡ Some n) × (r ≡ stored.BootEnded n e)
IsMarkOf set q marks.Activating r = r ≡ stored.Activating
IsMarkOf set q (marks.StepFailed k s e) r = (n : List ℕ) × (failing_place set q n ≡ Some k) × (r ≡ stored.StepFailed n s e)
IsMarkOf set q marks.Failing r = (n : List ℕ) × (failing_name q ≡ Some n) × (r ≡ stored.Failing n)
IsMarkOf set q marks.FailingBack r = (n : List ℕ) × (failing_name q ≡ Some n) × (r ≡ stored.FailingBack n)
IsMarkOf set q (marks.Closed o) r = r ≡ stored.Closed o

abbrev pub IsMark : Device → Mark → Record → Type 0
IsMark d m r = IsSomeAnd d.pending (λ q. IsMarkOf d.set q m r)

abbrev pub IsClosing : Mark → Type 0
IsClosing (marks.Closed o) = ⊤
IsClosing _ = ⊥

-- what a mark other than Closed changes, where these are the backs
abbrev pub marked : List (List ℕ) → Mark → Pending → Pending
marked backs marks.BootBegun q = begun q
marked backs (marks.BootEnded e) q = boot_ended e q
marked backs marks.Activating q = activated q
marked backs (marks.StepFailed k s e) q = counted (Some k) q
marked backs marks.Failing q = rolled q
marked backs marks.FailingBack q = sent_to backs q
marked backs (marks.Closed o) q = q

-- what its arithmetic rests on
abbrev pub CanMark : Mark → Pending → Type 0
CanMark (marks.BootEnded e) q = is_some (next_boot q) ≡ true
CanMark (marks.StepFailed k s e) q = MayCount q (Some k)
CanMark marks.FailingBack q = is_some (failing_name q) ≡ true
CanMark _ q = ⊤
