-- What the top call promises of each answer.
use Rattle.std.specs.Prelude.{◌≡◌, ◌≢◌, ◌⊎◌, ℕ, Bool, List, Option, codes}
use Rattle.nuc_base.specs.declared.status.Status.{Status}
use Rattle.nuc_base.specs.declared.status.Status.TheVariants as status
use Rattle.nuc_base.specs.Faults.{Rose}
use Rattle.records.specs.declared.record.Origin.{Origin}
use Rattle.device.specs.Devices.{Device}
use Rattle.nucleus_top.specs.Opening.{IsImageOf}
use Rattle.command_words.specs.declared.order.Order.{Order}
use Rattle.command_words.specs.declared.order.Order.TheVariants.{Init, Status as Show, Plan, Audit, ConfigGet, Why as AskWhy, Workload}
use Rattle.command_words.specs.declared.order.Order.TheVariants.{Components, About, Deploy, Resume, Serve, Local, ConfigSet}
use Rattle.nucleus_top.specs.Words.{AsksOrder, AsksNothing}
use Rattle.nucleus_top.specs.Answers.{Store, Input, Shelf, Printed, IsUnchanged, HasRisen, IsQuiet, IsStill, IsCutShort, HasPrinted}
use Rattle.nucleus_top.specs.Answers.{IsOrEdgeOrMemory, usage_line}
use Rattle.nucleus_top.specs.Answers.{library_line}
use Rattle.nucleus_top.specs.Abouts.{AboutAnswer, AboutParts}
use Rattle.nucleus_top.specs.Audits.{AuditAnswer, AuditParts}
use Rattle.nucleus_top.specs.Components.{ComponentsAnswer, ComponentsParts}
use Rattle.nucleus_top.specs.Gets.{GetAnswer, GetParts}
use Rattle.nucleus_top.specs.Inits.{InitAnswer, InitParts}
use Rattle.nucleus_top.specs.Planning.{PlanAnswer, PlanParts}
use Rattle.nucleus_top.specs.Shows.{StatusAnswer, StatusParts}
use Rattle.nucleus_top.specs.Why.{WhyAnswer, WhyParts}
use Rattle.nucleus_top.specs.Workloads.{WorkloadAnswer, WorkloadParts}
use Rattle.nucleus_top.specs.declared.answer.Answer.{Answer}
use Rattle.nucleus_top.specs.declared.answer.Answer.TheVariants.{WrongWords, SourceFailed, NoMemory}

-- What a call is given beside words and devices: the version of its program, and whether another program holds the lock of the writers,
-- where the disk tells it.
pub record Setting : Type 0 where
  pub version : List ℕ
  pub writer : Option Bool

abbrev pub setting_of : List ℕ → Option Bool → Setting
setting_of version writer = record { version = version; writer = writer }

-- no answer is another command's
abbrev pub AnswersNone : Answer → Type 0
AnswersNone answer = ⊥

-- why an answer of a command comes
abbrev pub OrderAnswer : Setting → Order → Store → Input → Shelf → Answer → Type 0
OrderAnswer setting (Init origin) store input library = InitAnswer origin store
OrderAnswer setting (Show json) store input library = StatusAnswer json store
OrderAnswer setting Plan store input library = PlanAnswer store input library
OrderAnswer setting Audit store input library = AuditAnswer store
OrderAnswer setting (ConfigGet name at) store input library = GetAnswer name at store
OrderAnswer setting (Workload seed) store input library = WorkloadAnswer seed store
OrderAnswer setting AskWhy store input library = WhyAnswer store input library
OrderAnswer setting Components store input library = ComponentsAnswer setting.writer store
OrderAnswer setting About store input library = AboutAnswer setting.version store
OrderAnswer setting Deploy store input library = AnswersNone
OrderAnswer setting Resume store input library = AnswersNone
OrderAnswer setting (Serve turns) store input library = AnswersNone
OrderAnswer setting Local store input library = AnswersNone
OrderAnswer setting (ConfigSet name) store input library = AnswersNone

-- Why an answer comes, of words that drive no deployment: by the command that they ask, since they ask none, or for want of memory.
abbrev pub WordsAnswer : Setting → List (List ℕ) → Store → Input → Shelf → Answer → Type 0
WordsAnswer setting words store input library answer =
    ((order : Order) × AsksOrder words order × OrderAnswer setting order store input library answer)
    ⊎ ((answer ≡ WrongWords) × AsksNothing words × IsUnchanged store)
    ⊎ ((answer ≡ NoMemory) × IsUnchanged store)

-- the source failed in its turn, where nothing that is asked before it had answered, and that was printed
pub record IsSourceFault (setting : Setting) (words : List (List ℕ)) (store : Store) (input : Input) (library : Shelf) (printed : Printed) : Type 0 where
  pub comes : WordsAnswer setting words store input library SourceFailed
  pub rose : Rose input.faults_before input.faults_after
  pub line : HasPrinted printed (codes "fault 6 source\n")
  pub disk_stays : store.faults_after ≡ store.faults_before
  pub library_stays : library.faults_after ≡ library.faults_before
  pub sink_stays : printed.faults_after ≡ printed.faults_before

pub record Parts (setting : Setting) (words : List (List ℕ)) (store : Store) (input : Input) (library : Shelf) (printed : Printed)
    (result : Status) : Type 0 where
  -- 1 comes exactly where the words ask no command.
  pub usage : result ≡ status.Usage → AsksNothing words × IsUnchanged store × HasPrinted printed usage_line
  pub usage_comes : AsksNothing words → IsOrEdgeOrMemory result status.Usage
  -- 5 comes exactly where the disk's count rose, unless the sink fails besides.
  pub disk : result ≡ status.Disk → HasRisen store × HasPrinted printed (codes "fault 5 disk\n")
  pub disk_stays : result ≢ status.Disk → result ≢ status.Edge → store.faults_after ≡ store.faults_before
  -- 6 comes exactly where the count of the source or the sink rose. The source's fault comes in its turn
  -- and is printed whole, and the other counts stay. Where the sink failed, a prefix was printed of the lines of an answer that comes by its cause, leaves
  -- what it leaves and counts no fault but its own.
  pub edge : result ≡ status.Edge → IsSourceFault setting words store input library printed
      ⊎ ((answer : Answer) × WordsAnswer setting words store input library answer × IsQuiet store input answer × IsStill library answer ×
      IsCutShort printed answer)
  pub edges_stay : result ≢ status.Edge → (input.faults_after ≡ input.faults_before) × (printed.faults_after ≡ printed.faults_before)
  -- 7 comes exactly where the library's count rose, unless the sink fails besides.
  pub library_failed : result ≡ status.Library → Rose library.faults_before library.faults_after × HasPrinted printed library_line
  pub library_stays : result ≢ status.Library → result ≢ status.Edge → library.faults_after ≡ library.faults_before
  -- With 15 every file reads as before, and nothing was printed.
  pub memory : result ≡ status.Memory → IsUnchanged store × HasPrinted printed (codes "")
  -- The journal stands for one device at most.
  pub one_device : (d e : Device) → IsImageOf store.before d → IsImageOf store.before e → d ≡ e
  -- What each command promises.
  pub init : (origin : Origin) → AsksOrder words (Init origin) → InitParts origin store printed result
  pub status : (json : Bool) → AsksOrder words (Show json) → StatusParts json store printed result
  pub plan : AsksOrder words Plan → PlanParts store input library printed result
  pub audit : AsksOrder words Audit → AuditParts store printed result
  pub config_get : (name : List ℕ) (at : List (List ℕ)) → AsksOrder words (ConfigGet name at) → GetParts name at store printed result
  pub workload : (seed : ℕ) → AsksOrder words (Workload seed) → WorkloadParts seed store printed result
  pub why : AsksOrder words AskWhy → WhyParts store input library printed result
  pub components : AsksOrder words Components → ComponentsParts setting.writer store printed result
  pub about : AsksOrder words About → AboutParts setting.version store printed result
