-- What a crash may leave of a call.
use Rattle.std.specs.Prelude.{◌≡◌, ◌⊎◌, ℕ, List, ⊤}
use Rattle.nuc_base.specs.declared.status.Status.TheVariants as status
use Rattle.disk_model.specs.Disk.{Image, IsAfter, Settled}
use Rattle.checkpoint_log.specs.Slots.{slots_files}
use Rattle.command_words.specs.declared.order.Order.{Order}
use Rattle.command_words.specs.declared.order.Order.TheVariants.{Init, Status, Plan, Audit, ConfigGet, Why, Workload, Components, About}
use Rattle.command_words.specs.declared.order.Order.TheVariants.{Deploy, Resume, Serve, Local, ConfigSet}
use Rattle.nucleus_top.specs.Opening.{IsImageOf}
use Rattle.nucleus_top.specs.Answers.{status_of}
use Rattle.nucleus_top.specs.Begun.{begun_device, ImageBegun}
use Rattle.nucleus_top.specs.Words.{AsksOrder}
use Rattle.nucleus_top.specs.declared.answer.Answer.{Answer}

-- it makes nothing of it
abbrev pub TouchesNone : Image → Image → Type 0
TouchesNone old new = ⊥

-- What a command may make of an image. `init` touches the journal alone, and only one without an entry; the others that drive no
-- deployment touch nothing, and of those that drive one it is said elsewhere.
abbrev pub CommandEffect : Order → Image → Image → Type 0
CommandEffect (Init origin) = ImageBegun origin
CommandEffect (Status json) = TouchesNone
CommandEffect Plan = TouchesNone
CommandEffect Audit = TouchesNone
CommandEffect (ConfigGet name at) = TouchesNone
CommandEffect Why = TouchesNone
CommandEffect (Workload seed) = TouchesNone
CommandEffect Components = TouchesNone
CommandEffect About = TouchesNone
CommandEffect Deploy = TouchesNone
CommandEffect Resume = TouchesNone
CommandEffect (Serve turns) = TouchesNone
CommandEffect Local = TouchesNone
CommandEffect (ConfigSet name) = TouchesNone

abbrev pub MayBeLeftAfter : Order → (Image → Type 0) → Image → Type 0
MayBeLeftAfter order allowed image = allowed image ⊎ IsAfter allowed (CommandEffect order) image

-- an image that the call's start allowed, or what the command that the words ask makes of one
abbrev pub MayLeave : List (List ℕ) → (Image → Type 0) → Image → Type 0
MayLeave words allowed image = allowed image ⊎ ((order : Order) × AsksOrder words order × IsAfter allowed (CommandEffect order) image)

-- the files that a command may change
abbrev pub files_of : Order → List ℕ → Type 0
files_of order = slots_files

-- A crash does not undo the work of a command that is done: after `init` each image stands for the new device, and
-- after the others the journal's files are as they read. `workload` has nothing to do with the disk, and `components` may say what
-- another program runs, without a look at the journal.
abbrev pub IsDurable : Order → (Image → Type 0) → Image → Type 0
IsDurable (Init origin) images seen = (c : Image) → images c → IsImageOf c (begun_device origin)
IsDurable (Workload seed) images seen = ⊤
IsDurable Components images seen = ⊤
IsDurable _ images seen = (name : List ℕ) → slots_files name → Settled images name (seen name)

-- where an answer says that the work is done
abbrev pub IsDurableIfDone : Order → (Image → Type 0) → Image → Answer → Type 0
IsDurableIfDone order images seen answer = status_of answer ≡ status.Done → IsDurable order images seen
