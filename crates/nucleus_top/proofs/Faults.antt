-- The answer to a journal that gives no device.
use Rattle.std.proofs.Common.{◌≡◌, ◌≢◌, inl, Bool, IsTrue, Err, refl}
use Rattle.nuc_base.specs.declared.status.Status.TheVariants as status
use Rattle.disk_model.specs.Disk.{Image}
use Rattle.command_words.specs.declared.order.Order.{Order}
use Rattle.records.specs.declared.record.Origin.{Origin}
use Rattle.deploy_state.specs.declared.fault.LoadFault.{LoadFault}
use Rattle.deploy_state.specs.declared.fault.LoadFault.TheVariants as load
use Rattle.nucleus_top.specs.Answers.{Store, Input, Shelf, IsUnchanged, HasRisen, status_of}
use Rattle.nucleus_top.specs.Audits.{AuditAnswer}
use Rattle.nucleus_top.specs.Inits.{InitAnswer}
use Rattle.nucleus_top.specs.Leaving.{IsDurable}
use Rattle.nucleus_top.specs.Opening.{OpenAnswer}
use Rattle.nucleus_top.specs.Planning.{PlanAnswer}
use Rattle.nucleus_top.specs.Refusing.{TellsFault, NoDeviceAnswer}
use Rattle.nucleus_top.specs.Shows.{StatusAnswer}
use Rattle.nucleus_top.specs.declared.answer.Answer.{Answer}
use Rattle.nucleus_top.specs.declared.answer.Answer.TheVariants.{Shown, Whole, Differs, DiskFailed, NotInitialised, Damaged, NoMemory}

module _ (store : Store) (fault : LoadFault) (a : Answer) (tells_fault : TellsFault fault a) (same : IsUnchanged store)
    (told : IsTrue store.is_modelled → OpenAnswer store.before (Err fault)) (cause : fault ≡ load.Disk → HasRisen store) where
  refuses_by : (f : LoadFault) (x : Answer) → TellsFault f x → (IsTrue store.is_modelled → OpenAnswer store.before (Err f)) → (f ≡ load.Disk → HasRisen store) →
      NoDeviceAnswer store x
  refuses_by load.Disk DiskFailed is_modelled opens rose = (same, rose refl)
  refuses_by load.NotInitialised NotInitialised is_modelled opens rose = (same, opens)
  refuses_by (load.Damaged at) (Damaged place) is_modelled opens rose = (same, (at, is_modelled, opens))
  refuses_by (load.Damaged at) NoMemory is_modelled opens rose = same
  refuses_by load.NoMemory NoMemory is_modelled opens rose = same
  refuses_by f x is_modelled opens rose = absurd is_modelled

  pub refuses : NoDeviceAnswer store a
  refuses = refuses_by fault a tells_fault told cause

-- why each command answers so
pub refused_shows : (json : Bool) (store : Store) (a : Answer) → NoDeviceAnswer store a → StatusAnswer json store a
refused_shows json store (Shown text) r = absurd r
refused_shows json store a r = r

pub refused_audits : (store : Store) (a : Answer) → NoDeviceAnswer store a → AuditAnswer store a
refused_audits store Whole r = absurd r
refused_audits store (Differs text) r = absurd r
refused_audits store a r = r

pub refused_plans : (store : Store) (input : Input) (library : Shelf) (a : Answer) → NoDeviceAnswer store a → PlanAnswer store input library a
refused_plans store input library DiskFailed r = r
refused_plans store input library NotInitialised r = r
refused_plans store input library (Damaged place) r = r
refused_plans store input library NoMemory r = r
refused_plans store input library a r = absurd r

pub refused_inits : (origin : Origin) (store : Store) (fault : LoadFault) (a : Answer) → fault ≢ load.NotInitialised → TellsFault fault a →
    NoDeviceAnswer store a →
    InitAnswer origin store a
refused_inits origin store load.Disk DiskFailed other is_modelled r = (r.1, λ told. inl r.0)
refused_inits origin store load.NotInitialised a other is_modelled r = absurd (other refl)
refused_inits origin store (load.Damaged at) (Damaged place) other is_modelled r = r
refused_inits origin store (load.Damaged at) NoMemory other is_modelled r = r
refused_inits origin store load.NoMemory NoMemory other is_modelled r = r
refused_inits origin store fault a other is_modelled r = absurd is_modelled

-- the work is not done
pub refused_keeps : (order : Order) (images : Image → Type 0) (seen : Image) (fault : LoadFault) (a : Answer) → TellsFault fault a →
    status_of a ≡ status.Done → IsDurable order images seen
refused_keeps order images seen load.Disk DiskFailed is_modelled done = cc
refused_keeps order images seen load.NotInitialised NotInitialised is_modelled done = cc
refused_keeps order images seen (load.Damaged at) (Damaged place) is_modelled done = cc
refused_keeps order images seen (load.Damaged at) NoMemory is_modelled done = cc
refused_keeps order images seen load.NoMemory NoMemory is_modelled done = cc
refused_keeps order images seen fault a is_modelled done = absurd is_modelled

-- another answer than that of a disk that failed tells another fault
pub other_fault : (fault : LoadFault) (a : Answer) → TellsFault fault a → a ≢ DiskFailed → fault ≢ load.Disk
other_fault load.Disk DiskFailed is_modelled other = λ is. other refl
other_fault load.NotInitialised a is_modelled other = λ is. cc
other_fault (load.Damaged at) a is_modelled other = λ is. cc
other_fault load.NoMemory a is_modelled other = λ is. cc
other_fault load.Disk a is_modelled other = absurd is_modelled
