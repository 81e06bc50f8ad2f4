-- Behind a document that is done.
use Rattle.std.specs.Prelude.{◌⊎◌, ℕ, List, ◌++◌, Option}
use Rattle.std.proofs.Common.{◌≡◌, inl, inr, refl, sym, subst}
use Rattle.nuc_base.specs.declared.status.Status.TheVariants as statuses
use Rattle.disk_model.specs.Disk.{DiskLaws}
use Rattle.disk_model.specs.declared.disk.Disk as a_disk
use Rattle.gate_log.specs.declared.journal.Journal as a_journal
use Rattle.device.specs.Devices.{Device}
use Rattle.deploy_state.specs.States.{idle_device}
use Rattle.deploy_state.specs.declared.state.Idle.{Idle}
use Rattle.step_runner.specs.Entries.{Told}
use Rattle.step_runner.specs.declared.entries.RunnerEntry.{RunnerEntry}
use Rattle.components.specs.Components.{Components}
use Rattle.histories.specs.States.{SessionState, state_after}
use Rattle.histories.specs.TraceEvents.{TraceEvent}
use Rattle.histories.proofs.Joined.{left-append}
use Rattle.session_boots.specs.Traces.{ActTrace}
use Rattle.session_steady.specs.Serves.{IsServing}
use Rattle.session.specs.Parts.{IsReturned}
use Rattle.session.specs.declared.ran.Standing.{Standing}
use Rattle.session.specs.declared.ran.Standing.TheVariants as standings
use Rattle.session_serving.specs.Documents.{IsDone}
use Rattle.session_serving.specs.Parts.{Outside}
use Rattle.session_serving.specs.Rounds.{Handled}
use Rattle.session_serving.specs.Turns.{HandleLeft, IsReady, StandsAgain}
use Rattle.session_serving.specs.declared.turned.Turned.{Turned}
use Rattle.session_serving.specs.declared.turned.Turned.TheVariants as turned
use Rattle.session_serving.proofs.Doing.{done_then, starved}

-- no component may act, whoever they are
pub ready_returned : (standing : Standing) (p : SessionState) (d : Device) (world : Components) (told : Told) (living : List ℕ) →
    IsReady standing p d world told living → IsReturned p d world told living
ready_returned standings.AsBefore p d world told living r = r.1
ready_returned standings.OfSet p d world told living r = r.1
ready_returned standings.Nobody p d world told living r = r.returned

-- where some stand the call is between two turns
pub ready_serves : (standing : Standing) (p : SessionState) (d : Device) (world : Components) (told : Told) (living : List ℕ) →
    (standing ≡ standings.Nobody → ⊥) → IsReady standing p d world told living → IsServing p d world told living
ready_serves standings.AsBefore p d world told living some r = r.0
ready_serves standings.OfSet p d world told living some r = r.0
ready_serves standings.Nobody p d world told living some r = absurd (some refl)

-- ---- what is left of the handling

module _ {D J : Type 0} (disk : a_disk.Ghosts D) (journal : a_journal.Ghosts J)
    (laws : DiskLaws disk.is_modelled disk.seen disk.may_leave disk.moment disk.left_since) (Clause : Handled → Type 0)
    (old new : Outside D) (p : SessionState) (h k : List TraceEvent) (x : Handled) (bytes : List ℕ) (c : Option (List RunnerEntry)) where
  pub again_left : (r : Turned J) (s : Idle J) (world : Components) (told : Told) (living : List ℕ) → x.bytes ≡ bytes →
      IsDone disk journal Clause old new p h x → ActTrace (state_after p h) k new.list c → (r ≡ turned.On s) ⊎ (r ≡ turned.Over statuses.Memory) →
      StandsAgain r (state_after p h) (state_after (state_after p h) k) (idle_device s) world told living →
      HandleLeft disk journal Clause bytes r old (record new { list = c }) p (k ++ h) world told living
  again_left r s world told living is done acts (inl on) left =
      let l = subst (λ (y : Turned J). StandsAgain y (state_after p h) (state_after (state_after p h) k) (idle_device s) world told living) on left in
      subst (λ (y : Turned J). HandleLeft disk journal Clause bytes y old (record new { list = c }) p (k ++ h) world told living) (sym on) (
        x,
        is,
        done_then disk journal laws Clause old new p h x c k done acts l.1,
        subst (λ (q : SessionState). IsServing q (idle_device s) world told living) (sym (left-append p k h)) l.0,
      )
  again_left r s world told living is done acts (inr over) left =
      let l = subst (λ (y : Turned J). StandsAgain y (state_after p h) (state_after (state_after p h) k) (idle_device s) world told living) over left in
      subst (λ (y : Turned J). HandleLeft disk journal Clause bytes y old (record new { list = c }) p (k ++ h) world told living) (sym over)
      (inr (x, is, h, k, new, refl, done, starved disk journal laws Clause new c (state_after p h) k done.handled.stands acts l.1))
