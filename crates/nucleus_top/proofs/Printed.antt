-- What a call printed of an acceptance lasts.
use Rattle.std.proofs.Common.{◌≡◌, ◌∙◌, ◌≤◌, List, ℕ, [], ◌∷◌, ◌++◌, Option, length, refl, sym, ap, subst, arith, append_assoc}
use Rattle.std.proofs.lemmas.List.{append-nil}
use Rattle.disk_model.specs.Disk.{Image}
use Rattle.checkpoint_log.specs.Slots.{slots_entries, slots_files}
use Rattle.nuc_base.specs.declared.status.Status.{Status}
use Rattle.records.specs.Stored.{Plan, Record, Accepted}
use Rattle.device.specs.After.{course}
use Rattle.device.specs.Devices.{Device}
use Rattle.device.specs.Lawful.{Run}
use Rattle.session_boots.specs.Traces.{StandsForMost}
use Rattle.step_runner.specs.declared.entries.RunnerEntry.{RunnerEntry}
use Rattle.histories.specs.TraceEvents.{records_of}
use Rattle.histories.specs.States.{SessionState, state_after}
use Rattle.session.specs.Calls.{Call}
use Rattle.nucleus_top.specs.Lasting.{IsTaken, AreLasting}
use Rattle.nucleus_top.specs.Opening.{IsImageOf}
use Rattle.nucleus_top.proofs.Lasting.{runs_take}

-- all but the last of some records are among those that lack one at most
begins_told : (prefix rest told : List Record) (r : Record) → length rest ≤ 1 → prefix ++ rest ≡ told ++ r ∷ [] → (more : List Record) × (prefix ≡ told ++ more)
begins_told prefix rest [] r few is = (prefix, refl)
begins_told [] rest (t ∷ told) r few is = absurd (omega (arith, few, ap length is, longer told))
  where
    longer : (told : List Record) → 1 ≤ length (told ++ r ∷ [])
    longer [] = omega arith
    longer (x ∷ told) = omega (arith, longer told)
begins_told (f ∷ prefix) rest (t ∷ told) r few is =
    let heads : f ≡ t = cc in
    let tails : prefix ++ rest ≡ told ++ r ∷ [] = cc in
    let more = begins_told prefix rest told r few tails in
    (more.0, ap (λ (x : Record). x ∷ prefix) heads ∙ ap (λ (l : List Record). t ∷ l) more.1)

-- a prefix that has what was told
pub told_prefix : (d : Device) (c : Image) (records told rest before after : List Record) (plan : Plan) → records ≡ told ++ rest → length rest ≤ 1 →
    told ≡ before ++ Accepted plan ∷ after
    → (rest ≡ [] → (e : Device) × Run d records e × IsImageOf c e) → StandsForMost slots_entries d records c → (e : Device) × IsImageOf c e ×
    IsTaken plan.id (course e)
told_prefix d c records told [] before after plan split few is whole most =
    let all = whole refl in
    let same : records ≡ before ++ Accepted plan ∷ after = split ∙ append-nil told ∙ is in
    (all.0, all.2, runs_take d all.0 before after plan (subst (λ (l : List Record). Run d l all.0) same all.1))
told_prefix d c records told (r ∷ []) before after plan split few is whole most =
    let more = begins_told most.prefix most.rest told r most.few (sym most.split ∙ split) in
    let same : most.prefix ≡ before ++ Accepted plan ∷ (after ++ more.0) =
    more.1 ∙ ap (λ (l : List Record). l ++ more.0) is ∙ append_assoc before (Accepted plan ∷ after) more.0 in
    (most.device, most.stands, runs_take d most.device before (after ++ more.0) plan (subst (λ (l : List Record). Run d l most.device) same most.run))
told_prefix d c records told (r ∷ s ∷ rest) before after plan split few is whole most = absurd (omega (arith, few))

pub call_lasts : {D : Type 0} (may_leave : D → Image → Type 0) (moment : D → ℕ) (left_since : D → ℕ → Image → Type 0) (old new : D)
    (old_list new_list : Option (List RunnerEntry)) (old_held new_held : Option (List ℕ)) (p : SessionState) (status : Status)
    → (call : Call slots_entries slots_files may_leave moment left_since old new old_list new_list old_held new_held p status) →
    AreLasting (may_leave new) call.prints.printed_records
call_lasts may_leave moment left_since old new old_list new_list old_held new_held p status call before after plan is c left =
    told_prefix p.device c (records_of call.history) call.prints.printed_records call.prints.rest before after plan call.prints.split call.prints.few is
    (λ none. ((state_after p call.history).device, call.trace.run, call.prints.stable none c left)) (call.stands c left)
