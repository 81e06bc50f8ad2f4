-- How far a journal that can turn goes behind a plan that is accepted.
use Rattle.std.proofs.Common.{◌≡◌, ◌⊎◌, ◌≤◌, ◌++◌, inl, inr, ℕ, ◌+◌, Bool, IsTrue, List, ap, arith}
use Rattle.std.specs.Ordering.{is_lt, nat_cmp}
use Rattle.disk_model.specs.Disk.{Image}
use Rattle.disk_model.specs.declared.disk.Disk as a_disk
use Rattle.nuc_base.specs.declared.status.Status.{Status}
use Rattle.checkpoint_log.specs.Slots.{slots_entries, slots_turn}
use Rattle.deploy_state.specs.Turning.{can_turn, front_bytes, plan_bytes, starts_at}
use Rattle.deploy_state.proofs.Siting.{stays_bounded}
use Rattle.histories.specs.States.{SessionState}
use Rattle.histories.specs.TraceEvents.{TraceEvent, records_of}
use Rattle.session.proofs.Accepted.{accepted_at}
use Rattle.session_serving.specs.Parts.{IsStarted, Outside}
use Rattle.session_serving.specs.Rounds.{Handled, round_of_last}
use Rattle.session_serving.proofs.Rounding.{started_more}
use Rattle.nucleus_top.specs.Bounded.{AcceptsWithin, AreAcceptedWithin, IsAcceptedWithin, ServesWithin, most_behind}
use Rattle.nucleus_top.specs.Drives.{StartsFrom}
use Rattle.nucleus_top.specs.Serving.{IsHaltedOrServed, on_disk, slots_ghosts}

bounded : (can : Bool) (end front : ℕ) (start : ℕ → ℕ) → start ≡ starts_at can end front → IsTrue can → (size : ℕ) →
    start size + 5 + size ≤ most_behind front size
bounded can end front start is turns size =
    let same : start size ≡ starts_at can end front size = ap (λ (f : ℕ → ℕ). f size) is in
    let most = stays_bounded can end front size turns in
    omega (arith, same, most)

module _ {D : Type 0} (may_leave : D → Image → Type 0) (moment : D → ℕ) (left_since : D → ℕ → Image → Type 0) (faults : D → ℕ) where
  pub accepts_within : AcceptsWithin may_leave moment left_since faults
  accepts_within old new old_list new_list printed result d start library what bytes h image s can plan rest is =
      elim (accepted_at slots_entries may_leave moment left_since old new d start h.call.0.ending (records_of h.call.0.history) rest plan is h.taken h.call.1
      h.accepts) [
        | inl failed ↦ inl failed
        | inr there ↦ inr (
          start (plan_bytes plan) + 5 + plan_bytes plan,
          bounded (can_turn (is_lt (nat_cmp s.number 18446744073709551615)) s.number) s.end (front_bytes (s.number + 1) d) start s.start_is can
              (plan_bytes plan),
          there,
        )
      ]

-- ---- a call that serves

module _ {D : Type 0} (disk : a_disk.Ghosts D) where
  within_started : (old new : D) (x : Handled) → IsStarted disk slots_ghosts old new x → IsAcceptedWithin disk old new x
  within_started old new x s told =
      let shown = s.0 told in
      let log = shown.2.log in (
        shown.0,
        shown.1,
        shown.2,
        λ can plan rest is. elim (s.1 plan rest is) [
          | inl failed ↦ inl failed
          | inr there ↦ inr (
            x.start (plan_bytes plan) + 5 + plan_bytes plan,
            bounded (can_turn (slots_turn log) log.number) log.live.end (front_bytes (log.number + 1) x.device) x.start shown.2.start_is can
                (plan_bytes plan),
            there,
          )
        ],
      )

  parts_within : (most : ℕ) (old new : Outside D) (p : SessionState) (status : Status) (h : List TraceEvent)
      (parts : IsHaltedOrServed disk most old new p status h) → AreAcceptedWithin disk most old new p status h parts
  parts_within most old new p status h (inl halted) = tt
  parts_within most old new p status h (inr served) =
      started_more (IsStarted disk slots_ghosts served.2.disk new.disk) (IsAcceptedWithin disk served.2.disk new.disk)
      (within_started served.2.disk new.disk) (served.8.rounds ++ round_of_last served.8.last) served.8.starts

  pub serves_within : ServesWithin disk
  serves_within old new result d turns s =
      parts_within turns (on_disk s.from old) new s.state result s.history s.call.parts
