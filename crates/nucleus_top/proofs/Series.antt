-- Calls one after another reach the device that the records kept so far make.
use Rattle.std.specs.Prelude.{◌≤◌, Bool, true, false, IsTrue, length}
use Rattle.std.proofs.Common.{◌≡◌, ◌∙◌, ⊎_elim, inl, inr, ℕ, List, [], ◌∷◌, ◌++◌, refl, sym, subst, append-nil, arith}
use Rattle.std.proofs.lemmas.Bool.{false≢true}
use Rattle.disk_model.specs.Disk.{DiskLaws, Image}
use Rattle.disk_model.specs.Moments.{weaker}
use Rattle.checkpoint_log.specs.Slots.{slots_entries}
use Rattle.records.specs.Stored.{Record, Genesis}
use Rattle.records.specs.declared.record.Origin.{Origin}
use Rattle.device.specs.After.{course}
use Rattle.device.specs.Devices.{Device, no_device}
use Rattle.device.specs.Lawful.{Run}
use Rattle.device.specs.Met.{Met}
use Rattle.device.specs.Sound.{RevisionsRise}
use Rattle.device.proofs.Course.{run}
use Rattle.session_boots.specs.Traces.{StandsForMost}
use Rattle.session_boots.proofs.Prefixes.{none_most, run_on}
use Rattle.nucleus_top.specs.Lasting.{IsTaken}
use Rattle.nucleus_top.specs.Begun.{ImageBegun, IsNoneOrBegun, begun_device}
use Rattle.nucleus_top.specs.Opening.{IsImageOf}
use Rattle.nucleus_top.specs.Crashes.{AllowedOrPrefix, AllowedOrSame}
use Rattle.nucleus_top.specs.Series.{AcknowledgedLast, AllStayMet, AreKept, CallsRaise, DrivesEnd, DrivesGoOn, FirstBegins, IsSeries}
use Rattle.nucleus_top.specs.Series.{IsPrefixOf, IsLeftOn, IsReached, LeftAs}
use Rattle.nucleus_top.specs.Series.{LeftBy, MadeCall, RefusedEnd}
use Rattle.nucleus_top.specs.Series.{RefusedGoOn, keeps_none, stopped}
use Rattle.nucleus_top.proofs.Crashes.{means_sound}
use Rattle.nucleus_top.proofs.Lasting.{runs_lose_nothing}
use Rattle.nucleus_top.proofs.Standing.{none_stands, same_device}

-- ---- the first record

begun_most : (o : Origin) (image : Image) → IsNoneOrBegun o image → StandsForMost slots_entries no_device (Genesis o ∷ []) image
begun_most o image (inl none) = record {
  prefix = [];
  rest = Genesis o ∷ [];
  split = refl;
  few = omega arith;
  device = no_device;
  run = refl;
  stands = none_stands image none;
}
begun_most o image (inr stands) = record {
  prefix = Genesis o ∷ [];
  rest = [];
  split = refl;
  few = omega arith;
  device = begun_device o;
  run = (begun_device o, record { allowed = (refl, (means_sound stands.payloads (begun_device o) stands.means).root); leaves = refl }, refl);
  stands = stands;
}

pub inits_begin : (o : Origin) (old new : Image) → ImageBegun o old new → IsImageOf old no_device × StandsForMost slots_entries no_device (Genesis o ∷ []) new
inits_begin o old new begins = (none_stands old begins.none, begun_most o new begins.within.here)

pub none_met : Met no_device
none_met = record { groups = tt; items = refl; pending = tt }

-- ---- lists of calls

pub others_go_on : (d e : Device) (before : List MadeCall) (old new : Image) → IsSeries d before → LeftBy d before old → IsImageOf old e → IsImageOf new e
    → IsSeries d (keeps_none e ∷ before) × LeftBy d (keeps_none e ∷ before) new
others_go_on d e before old new follow left first then = ((follow, (old, left, first)), none_most slots_entries e new then)

reached : (d : Device) (calls : List MadeCall) (image : Image) (kept : List Record) (device : Device) → AreKept calls kept → IsImageOf image device →
    Run d kept device
    → (Met d → AllStayMet calls → Met device) → IsReached d calls image
reached d calls image kept device are stands along met = record {
  kept = kept;
  are = are;
  device = device;
  stands = stands;
  run = along;
  course_is = run kept d device along;
  loses = runs_lose_nothing d device kept along;
  met = met;
}

-- one more call, where those before it reach so
module _ (d : Device) (c : MadeCall) (before : List MadeCall) (image : Image) where
  -- the image was there before it
  unmoved : IsReached d before image → (IsTrue c.ended → ⊥) → IsReached d (c ∷ before) image
  unmoved was inside =
      reached d (c ∷ before) image was.kept was.device (
        was.kept,
        [],
        c.records,
        was.are,
        record { split = refl; few = λ ended. absurd (inside ended) },
        sym (append-nil was.kept),
      ) was.stands was.run
      (λ met each. was.met met each.1)

  -- a prefix of its records was kept
  moved : (start : Image) → IsReached d before start → IsImageOf start c.device → (prefix rest : List Record) (device : Device) → IsPrefixOf c prefix rest →
      Run c.device prefix device → IsImageOf image device
      → IsReached d (c ∷ before) image
  moved start was stood prefix rest device is along stands =
      let same : was.device ≡ c.device = same_device start was.device c.device was.stands stood in
      reached d (c ∷ before) image (was.kept ++ prefix) device (was.kept, prefix, rest, was.are, is, refl) stands
      (run_on d was.kept c.device prefix device (subst (λ (e : Device). Run d was.kept e) same was.run) along)
      (λ met each. each.0 (subst Met same (was.met met each.1)) prefix rest device is.split along)

  reach_on : ((i : Image) → LeftBy d before i → IsReached d before i) → (start : Image) → LeftBy d before start → IsImageOf start c.device → (ended : Bool) →
      c.ended ≡ ended
      → LeftAs ended (LeftBy d before) c.device c.records image → IsReached d (c ∷ before) image
  reach_on was start first stood true is left =
      moved start (was start first) stood left.prefix left.rest left.device (record { split = left.split; few = λ ended. left.few }) left.run left.stands
  reach_on was start first stood false is (inl left) = unmoved (was image left) (λ ended. false≢true (sym is ∙ ended))
  reach_on was start first stood false is (inr left) =
      moved start (was start first) stood left.prefix left.rest left.device
      (record { split = left.split; few = λ ended. absurd (false≢true (sym is ∙ ended)) }) left.run left.stands

pub calls_reach : (d : Device) (calls : List MadeCall) (image : Image) → IsSeries d calls → LeftBy d calls image → IsReached d calls image
calls_reach d [] image follow left = reached d [] image [] d refl left refl (λ met each. met)
calls_reach d (c ∷ before) image follow left = reach_on d c before image (λ i was. calls_reach d before i follow.0 was) follow.1.0 follow.1.1 follow.1.2
    c.ended refl left

-- what was told as accepted lasts through later calls
pub acknowledged_last : {D : Type 0} (may_leave : D → Image → Type 0) → AcknowledgedLast may_leave
acknowledged_last may_leave disk told lasts start is_one d stands later follow image left before after plan is =
    let first = lasts before after plan is start is_one in
    let then = calls_reach d later image follow left in
    let same : first.0 ≡ d = same_device start first.0 d first.1 stands in
    (then.device, then.stands, then.loses.taken plan.id (subst (λ (e : Device). IsTaken plan.id (course e)) same first.2))

-- by the law of runs no revision falls
pub calls_raise : RevisionsRise → CallsRaise
calls_raise law d calls image sound follow left arn =
    let r = calls_reach d calls image follow left in
    (r.device, r.stands, law r.kept d r.device sound r.run arn)

-- ---- the calls of a disk

module _ {D : Type 0} {is_modelled : Bool} {seen : D → Image} {may_leave : D → Image → Type 0} {moment : D → ℕ} {left_since : D → ℕ → Image → Type 0}
    (laws : DiskLaws is_modelled seen may_leave moment left_since) where
  pub drives_go_on : DrivesGoOn may_leave moment left_since
  drives_go_on d e before records old new begins leaves =
      let call : MadeCall = stopped e records in (
        (begins.follow, (begins.start, begins.left begins.start begins.is_one, begins.stands)),
        weaker laws old new (AllowedOrPrefix (may_leave old) e records) (LeftBy d (call ∷ before))
            (λ c was. ⊎_elim (λ left. inl (begins.left c left)) (λ prefix. inr prefix) was) leaves,
      )

  pub refused_go_on : RefusedGoOn may_leave moment left_since seen
  refused_go_on d before old new follow left leaves = record {
    later = leaves.later;
    each = λ c was. by (laws.modelled new (moment old) c was) c (leaves.each c was);
    joins = leaves.joins;
    keeps = leaves.keeps;
  }
    where
      by : IsTrue is_modelled → (c : Image) → AllowedOrSame (may_leave old) (seen old) c → IsLeftOn d before (seen old) c
      by told c (inl allowed) = inl (left c allowed)
      by told c (inr same) = inr (same.0, same.1, (follow, (seen old, left (seen old) (laws.reads old told), same.1)), none_most slots_entries same.0 c same.2)

  pub first_begins : FirstBegins may_leave is_modelled seen
  first_begins disk told none = record {
    follow = tt;
    left = λ image left. none_stands image (none image left);
    start = seen disk;
    is_one = laws.reads disk told;
    stands = none_stands (seen disk) (none (seen disk) (laws.reads disk told));
  }

  pub drives_end : DrivesEnd may_leave
  drives_end d e before records old new begins ends = ((begins.follow, (begins.start, begins.left begins.start begins.is_one, begins.stands)), ends)

  pub refused_end : RefusedEnd may_leave is_modelled seen
  refused_end d e before old new told follow left stood keeps =
      ((follow, (seen old, left (seen old) (laws.reads old told), stood)), λ c was. none_most slots_entries e c ((keeps c was).device e stood))
