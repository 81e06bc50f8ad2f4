-- What each answer of the top call amounts to.
use Rattle.std.proofs.Common.{◌≡◌, ◌≢◌, ◌∙◌, ◌⊎◌, inl, inr, ℕ, List, refl, sym, ap, subst}
use Rattle.std.specs.Prelude.{codes}
use Rattle.nuc_base.specs.declared.status.Status.{Status}
use Rattle.nuc_base.specs.declared.status.Status.TheVariants as status
use Rattle.nuc_base.specs.Faults.{Rose}
use Rattle.disk_model.specs.Disk.{Image}
use Rattle.device.specs.Devices.{Device}
use Rattle.command_words.specs.Laws.{AsksOnce}
use Rattle.command_words.specs.declared.order.Order.{Order}
use Rattle.command_words.specs.declared.order.Order.TheVariants.{Init, Status as Show, Plan, Audit, ConfigGet, Why as AskWhy, Workload, Components, About}
use Rattle.nucleus_top.specs.Words.{AsksOrder, AsksNothing}
use Rattle.nucleus_top.specs.Answers.{Store, Input, Shelf, Printed, IsPrinted, IsUnchanged, HasRisen, IsQuiet, IsStill, IsCutShort, HasPrinted}
use Rattle.nucleus_top.specs.Answers.{IsOrEdgeOrMemory, usage_line}
use Rattle.nucleus_top.specs.Answers.{library_line, status_of}
use Rattle.nucleus_top.specs.Leaving.{IsDurable, IsDurableIfDone}
use Rattle.nucleus_top.specs.Parts.{Setting, WordsAnswer, OrderAnswer, IsSourceFault, Parts}
use Rattle.nucleus_top.specs.Why.{IsDeclined}
use Rattle.nucleus_top.specs.declared.answer.Answer.{Answer}
use Rattle.nucleus_top.specs.declared.answer.Answer.TheVariants.{Unplanned, WrongWords, DiskFailed, SourceFailed, LibraryFailed, NoMemory}
use Rattle.nucleus_top.proofs.Orders.{comes_of}
use Rattle.nucleus_top.proofs.AboutEnds.{about_parts}
use Rattle.nucleus_top.proofs.AuditEnds.{audit_parts}
use Rattle.nucleus_top.proofs.ComponentsEnds.{components_parts}
use Rattle.nucleus_top.proofs.GetEnds.{get_parts}
use Rattle.nucleus_top.proofs.InitEnds.{init_parts}
use Rattle.nucleus_top.proofs.PlanEnds.{plan_parts}
use Rattle.nucleus_top.proofs.Standing.{same_device}
use Rattle.nucleus_top.proofs.StatusEnds.{status_parts}
use Rattle.nucleus_top.proofs.Unrefused.{no_refusal, silent}
use Rattle.nucleus_top.proofs.WorkloadEnds.{workload_parts}
use Rattle.nucleus_top.proofs.WhyEnds.{why_parts}
use Rattle.refusal_lines.specs.Statuses.{status_of_refusal}
use Rattle.plan_core.specs.declared.fault.Refusal.{Refusal}

-- what a command's answer says of the disk
risen : (setting : Setting) (order : Order) (store : Store) (input : Input) (library : Shelf) →
    OrderAnswer setting order store input library DiskFailed → HasRisen store
risen setting (Init origin) store input library comes = comes.0
risen setting (Show json) store input library comes = comes.1
risen setting Plan store input library comes = comes.1
risen setting Audit store input library comes = comes.1
risen setting (ConfigGet name at) store input library comes = comes.1
risen setting (Workload seed) store input library comes = absurd comes.1
risen setting AskWhy store input library comes = comes.1
risen setting Components store input library comes = comes.1
risen setting About store input library comes = comes.1
risen setting _ store input library comes = absurd comes

unread : (setting : Setting) (order : Order) (store : Store) (input : Input) (library : Shelf) → OrderAnswer setting order store input library SourceFailed →
    Rose input.faults_before input.faults_after
unread setting Plan store input library comes = comes.1.2.1
unread setting AskWhy store input library comes = comes.1.2.1
unread setting (Workload seed) store input library comes = absurd comes.1
unread setting (ConfigGet name at) store input library comes = absurd comes.1.2
unread setting Audit store input library comes = absurd comes
unread setting (Init origin) store input library comes = absurd comes
unread setting (Show json) store input library comes = absurd comes
unread setting Components store input library comes = absurd comes
unread setting About store input library comes = absurd comes
unread setting _ store input library comes = absurd comes

ungiven : (setting : Setting) (order : Order) (store : Store) (input : Input) (library : Shelf) → OrderAnswer setting order store input library LibraryFailed →
    Rose library.faults_before library.faults_after
ungiven setting Plan store input library comes = comes.1.2.1
ungiven setting AskWhy store input library comes = comes.1.2.1
ungiven setting (Workload seed) store input library comes = absurd comes.1
ungiven setting (ConfigGet name at) store input library comes = absurd comes.1.2
ungiven setting Audit store input library comes = absurd comes
ungiven setting (Init origin) store input library comes = absurd comes
ungiven setting (Show json) store input library comes = absurd comes
ungiven setting Components store input library comes = absurd comes
ungiven setting About store input library comes = absurd comes
ungiven setting _ store input library comes = absurd comes

-- that a refusal of a document prints nothing for want of memory, and of which status it is not
abbrev Refuses : Store → Refusal → List ℕ → Type 0
Refuses store r text = IsUnchanged store × (status_of_refusal r ≡ status.Memory → text ≡ codes "") × (status_of_refusal r ≢ status.Library)

-- of a document that is refused with its line
declines : (d : Device) (store : Store) (input : Input) (library : Shelf) (r : Refusal) (text : List ℕ) → IsUnchanged store →
    IsDeclined d input library r text → Refuses store r text
declines d store input library r text same declined = (same, λ is. declined.text_is ∙ silent r is, declined.not_library)

unplanned : (setting : Setting) (order : Order) (store : Store) (input : Input) (library : Shelf) (r : Refusal) (text : List ℕ) →
    OrderAnswer setting order store input library (Unplanned r text) → Refuses store r text
unplanned setting Plan store input library r text comes = (comes.0, λ is. comes.1.2.1 ∙ silent r is, comes.1.2.2)
unplanned setting AskWhy store input library r text comes = declines comes.1.0 store input library r text comes.0 comes.1.2
unplanned setting (Workload seed) store input library r text comes = absurd comes.1
unplanned setting (ConfigGet name at) store input library r text comes = absurd comes.1.2
unplanned setting Audit store input library r text comes = absurd comes
unplanned setting (Init origin) store input library r text comes = absurd comes
unplanned setting (Show json) store input library r text comes = absurd comes
unplanned setting Components store input library r text comes = absurd comes
unplanned setting About store input library r text comes = absurd comes
unplanned setting _ store input library r text comes = absurd comes

untouched : (setting : Setting) (order : Order) (store : Store) (input : Input) (library : Shelf) → OrderAnswer setting order store input library NoMemory →
    IsUnchanged store
untouched setting (Init origin) store input library comes = comes
untouched setting (Show json) store input library comes = comes
untouched setting Plan store input library comes = comes
untouched setting Audit store input library comes = comes
untouched setting (Workload seed) store input library comes = comes
untouched setting (ConfigGet name at) store input library comes = comes
untouched setting AskWhy store input library comes = comes
untouched setting Components store input library comes = comes
untouched setting About store input library comes = comes
untouched setting _ store input library comes = absurd comes

no_usage : (setting : Setting) (order : Order) (store : Store) (input : Input) (library : Shelf) → OrderAnswer setting order store input library WrongWords → ⊥
no_usage setting (Init origin) store input library comes = comes
no_usage setting (Show json) store input library comes = comes
no_usage setting Plan store input library comes = comes.1.2
no_usage setting Audit store input library comes = comes
no_usage setting (Workload seed) store input library comes = comes.1
no_usage setting (ConfigGet name at) store input library comes = comes.1.2
no_usage setting AskWhy store input library comes = comes.1.2
no_usage setting Components store input library comes = comes
no_usage setting About store input library comes = comes
no_usage setting _ store input library comes = absurd comes

module _ (setting : Setting) (words : List (List ℕ)) (store : Store) (input : Input) (library : Shelf) (printed : Printed) (result : Status) where
  wrong : WordsAnswer setting words store input library WrongWords → AsksNothing words × IsUnchanged store
  wrong (inl comes) = absurd (no_usage setting comes.0 store input library comes.2)
  wrong (inr (inl comes)) = (comes.1, comes.2)
  wrong (inr (inr comes)) = cc

  refuses : (r : Refusal) (text : List ℕ) → WordsAnswer setting words store input library (Unplanned r text) → Refuses store r text
  refuses r text (inl comes) = unplanned setting comes.0 store input library r text comes.2
  refuses r text (inr (inl comes)) = cc
  refuses r text (inr (inr comes)) = cc

  usage : (a : Answer) → WordsAnswer setting words store input library a → IsPrinted printed result a → result ≡ status.Usage →
      AsksNothing words × IsUnchanged store × HasPrinted printed usage_line
  usage WrongWords comes (inl told) is = let w = wrong comes in (w.0, w.1, told.1)
  usage (Unplanned r text) comes (inl told) is = absurd (no_refusal r status.Usage refl (sym told.0 ∙ is))
  usage a comes (inl told) is = cc
  usage a comes (inr told) is = cc

  usage_comes : (a : Answer) → WordsAnswer setting words store input library a → IsPrinted printed result a → AsksNothing words →
      IsOrEdgeOrMemory result status.Usage
  usage_comes a comes (inr told) nothing = inr (inl told.0)
  usage_comes a (inl comes) (inl told) nothing = absurd (nothing comes.0 comes.1)
  usage_comes a (inr (inl comes)) (inl told) nothing = inl (told.0 ∙ ap status_of comes.0)
  usage_comes a (inr (inr comes)) (inl told) nothing = inr (inr (told.0 ∙ ap status_of comes.0))

  failed : WordsAnswer setting words store input library DiskFailed → HasRisen store
  failed (inl comes) = risen setting comes.0 store input library comes.2
  failed (inr (inl comes)) = cc
  failed (inr (inr comes)) = cc

  disk : (a : Answer) → WordsAnswer setting words store input library a → IsPrinted printed result a → result ≡ status.Disk → HasRisen store ×
      HasPrinted printed (codes "fault 5 disk\n")
  disk DiskFailed comes (inl told) is = (failed comes, told.1)
  disk (Unplanned r text) comes (inl told) is = absurd (no_refusal r status.Disk refl (sym told.0 ∙ is))
  disk a comes (inl told) is = cc
  disk a comes (inr told) is = cc

  source : WordsAnswer setting words store input library SourceFailed → Rose input.faults_before input.faults_after
  source (inl comes) = unread setting comes.0 store input library comes.2
  source (inr (inl comes)) = cc
  source (inr (inr comes)) = cc

  shelf : WordsAnswer setting words store input library LibraryFailed → Rose library.faults_before library.faults_after
  shelf (inl comes) = ungiven setting comes.0 store input library comes.2
  shelf (inr (inl comes)) = cc
  shelf (inr (inr comes)) = cc

  disk_stays : (a : Answer) → IsQuiet store input a → IsPrinted printed result a → result ≢ status.Disk → result ≢ status.Edge →
      store.faults_after ≡ store.faults_before
  disk_stays a quiet (inl told) other more = quiet.disk (λ is. other (told.0 ∙ ap status_of is))
  disk_stays a quiet (inr told) other more = absurd (more told.0)

  edge : (a : Answer) → WordsAnswer setting words store input library a → IsQuiet store input a → IsStill library a → IsPrinted printed result a →
      result ≡ status.Edge
      → IsSourceFault setting words store input library printed ⊎ ((answer : Answer) × WordsAnswer setting words store input library answer ×
      IsQuiet store input answer × IsStill library answer × IsCutShort printed answer)
  edge a comes quiet still (inr told) is = inr (a, comes, quiet, still, told.1)
  edge SourceFailed comes quiet still (inl told) is = inl (record {
    comes = comes;
    rose = source comes;
    line = told.1;
    disk_stays =
        quiet.disk (λ other. cc);
    library_stays = still (λ other. cc);
    sink_stays = told.2;
  })
  edge (Unplanned r text) comes quiet still (inl told) is = absurd (no_refusal r status.Edge refl (sym told.0 ∙ is))
  edge a comes quiet still (inl told) is = cc

  edges_stay : (a : Answer) → IsQuiet store input a → IsPrinted printed result a → result ≢ status.Edge
      → (input.faults_after ≡ input.faults_before) × (printed.faults_after ≡ printed.faults_before)
  edges_stay a quiet (inl told) other = (quiet.source (λ is. other (told.0 ∙ ap status_of is)), told.2)
  edges_stay a quiet (inr told) other = absurd (other told.0)

  given : (a : Answer) → WordsAnswer setting words store input library a → IsPrinted printed result a → result ≡ status.Library →
      Rose library.faults_before library.faults_after × HasPrinted printed library_line
  given LibraryFailed comes (inl told) is = (shelf comes, told.1)
  given (Unplanned r text) comes (inl told) is = absurd ((refuses r text comes).2 (sym told.0 ∙ is))
  given a comes (inl told) is = cc
  given a comes (inr told) is = cc

  library_stays : (a : Answer) → IsStill library a → IsPrinted printed result a → result ≢ status.Library → result ≢ status.Edge →
      library.faults_after ≡ library.faults_before
  library_stays a still (inl told) other more = still (λ is. other (told.0 ∙ ap status_of is))
  library_stays a still (inr told) other more = absurd (more told.0)

  same : WordsAnswer setting words store input library NoMemory → IsUnchanged store
  same (inl comes) = untouched setting comes.0 store input library comes.2
  same (inr (inl comes)) = comes.2
  same (inr (inr comes)) = comes.1

  memory : (a : Answer) → WordsAnswer setting words store input library a → IsPrinted printed result a → result ≡ status.Memory →
      IsUnchanged store × HasPrinted printed (codes "")
  memory NoMemory comes (inl told) is = (same comes, told.1)
  memory (Unplanned r text) comes (inl told) is =
      let r_is = refuses r text comes in
      (r_is.0, subst (λ (t : List ℕ). HasPrinted printed t) (r_is.1 (sym told.0 ∙ is)) told.1)
  memory a comes (inl told) is = cc
  memory a comes (inr told) is = cc

  pub parts : AsksOnce → (a : Answer) → WordsAnswer setting words store input library a → IsQuiet store input a → IsStill library a →
      IsPrinted printed result a →
      Parts setting words store input library printed result
  parts once a comes quiet still told = record {
    usage = usage a comes told;
    usage_comes = usage_comes a comes told;
    disk = disk a comes told;
    disk_stays = disk_stays a quiet told;
    edge = edge a comes quiet still told;
    edges_stay = edges_stay a quiet told;
    library_failed = given a comes told;
    library_stays = library_stays a still told;
    memory = memory a comes told;
    one_device = same_device store.before;
    init = λ origin is. init_parts origin store printed result a (comes_of once setting words (Init origin) store input library a is comes) told;
    status = λ json is. status_parts json store printed result a (comes_of once setting words (Show json) store input library a is comes) told;
    plan = λ is. plan_parts store input library printed result a (comes_of once setting words Plan store input library a is comes) told;
    audit = λ is. audit_parts store printed result a (comes_of once setting words Audit store input library a is comes) told;
    config_get = λ name at is. get_parts name at store printed result a (comes_of once setting words (ConfigGet name at) store input library a is comes) told;
    workload = λ seed is. workload_parts seed store printed result a (comes_of once setting words (Workload seed) store input library a is comes) told;
    components = λ is. components_parts setting.writer store printed result a (comes_of once setting words Components store input library a is comes) told;
    about = λ is. about_parts setting.version store printed result a (comes_of once setting words About store input library a is comes) told;
    why = λ is. why_parts store input library printed result a (comes_of once setting words AskWhy store input library a is comes) told;
  }

-- 0 is answered only where the work is done
pub durable : (order : Order) (images : Image → Type 0) (seen : Image) (printed : Printed) (result : Status) (a : Answer)
    → IsPrinted printed result a → IsDurableIfDone order images seen a → result ≡ status.Done → IsDurable order images seen
durable order images seen printed result a (inl told) keeps is = keeps (sym told.0 ∙ is)
durable order images seen printed result a (inr told) keeps is = cc
