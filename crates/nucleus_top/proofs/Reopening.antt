-- What each image at the end of a call has, by the laws of what is found then.
use Rattle.std.specs.Prelude.{ℕ, List, ◌++◌}
use Rattle.std.proofs.Common.{◌⊎◌, inl, inr, sym, subst}
use Rattle.disk_model.specs.Disk.{Image}
use Rattle.disk_model.specs.declared.disk.Disk as a_disk
use Rattle.nuc_base.specs.declared.status.Status.{Status}
use Rattle.checkpoint_log.specs.Slots.{slots_entries}
use Rattle.device.specs.Devices.{Device}
use Rattle.histories.specs.States.{SessionState, state_after}
use Rattle.histories.specs.TraceEvents.{TraceEvent, records_of}
use Rattle.histories.proofs.Joined.{left-append}
use Rattle.law_histories.specs.Stood.{IsHistory}
use Rattle.law_reopening.specs.Reopened.{BootStartsStand, FailuresStand, IsLeft}
use Rattle.session_boots.specs.Ends.{StopsAt}
use Rattle.session_boots.specs.Traces.{StandsForMost}
use Rattle.session_boots.proofs.Told.{stops_behind}
use Rattle.session_serving.specs.Parts.{AllStandFor, Outside}
use Rattle.nucleus_top.specs.Reopening.{CallsReopen, RecordsReopened, ServesReopen}
use Rattle.nucleus_top.specs.Serving.{IsServedOn, IsHaltedOrServed, on_disk, slots_ghosts}

module _ {D : Type 0} (may_leave : D → Image → Type 0) (boots : BootStartsStand slots_entries may_leave)
    (failures : FailuresStand slots_entries may_leave) where
  reopens : (new : D) (p : SessionState) (h : List TraceEvent) → IsHistory p h → IsLeft slots_entries may_leave new p h → RecordsReopened may_leave new p h
  reopens new p h history left = record {
    boots = λ before e m stood start. boots new p h before e m history left stood start;
    failures = λ before e name s x stood start f image leaves. failures new p h before e name s x history left stood start f image leaves;
  }

  pub calls_reopen : (moment : D → ℕ) (left_since : D → ℕ → Image → Type 0) → CallsReopen may_leave moment left_since
  calls_reopen moment left_since old new old_list new_list old_held new_held p status c history =
      reopens new p c.history history (record { stands = c.stands; doubt = c.doubt })

module _ {D : Type 0} (disk : a_disk.Ghosts D) where
  -- what is in doubt behind the last part of a call is in doubt behind the whole
  in_doubt : (now : D) (p : SessionState) (before g : List TraceEvent)
      → AllStandFor disk slots_ghosts now (state_after (state_after p before) g).device ⊎ StopsAt g
      → AllStandFor disk slots_ghosts now (state_after p (g ++ before)).device ⊎ StopsAt (g ++ before)
  in_doubt now p before g (inl stands) = inl (subst (λ (q : SessionState). AllStandFor disk slots_ghosts now q.device) (sym (left-append p g before)) stands)
  in_doubt now p before g (inr stops) = inr (stops_behind before g stops)

  doubt_of : (most : ℕ) (old new : Outside D) (p : SessionState) (status : Status) (h : List TraceEvent)
      → IsHaltedOrServed disk most old new p status h
      → AllStandFor disk slots_ghosts new.disk (state_after p h).device ⊎ StopsAt h
  doubt_of most old new p status h (inl halted) = halted.0.sure.doubt
  doubt_of most old new p status h (inr (before, g, to, is, answered, waiting, library, finished, served)) =
      subst (λ (l : List TraceEvent). AllStandFor disk slots_ghosts new.disk (state_after p l).device ⊎ StopsAt l) (sym is)
      (in_doubt new.disk p before g served.sure.doubt)

  pub serves_reopen : BootStartsStand slots_entries disk.may_leave → FailuresStand slots_entries disk.may_leave → ServesReopen disk
  serves_reopen boots failures old new result d turns s =
      reopens disk.may_leave boots failures new.disk s.state s.history s.driven.history (record {
        stands = λ c may. subst (λ (e : Device). StandsForMost slots_entries e (records_of s.history) c) (sym s.driven.device_is) (s.most c may);
        doubt = doubt_of turns (on_disk s.from old) new s.state result s.history s.call.parts;
      })
