-- What a turn leaves.
use Rattle.std.specs.Prelude.{ℕ, Bool, true, false, not, ◌&&◌, List, [], ◌++◌, Option}
use Rattle.std.specs.Io.KnownBytes.{Appends}
use Rattle.std.proofs.Common.{◌≡◌, ◌∙◌, refl, sym, ap, subst}
use Rattle.records.specs.Stored.{Record}
use Rattle.device.specs.Devices.{Device}
use Rattle.step_runner.specs.Entries.{Told}
use Rattle.components.specs.Components.{Components, is_settled, owner}
use Rattle.histories.specs.Phases.{duty_of}
use Rattle.histories.specs.Waits.{has_three}
use Rattle.histories.specs.TraceEvents.{TraceEvent, records_of}
use Rattle.histories.specs.States.{SessionState, state_after}
use Rattle.histories.proofs.Joined.{left-append}
use Rattle.session_boots.specs.Lines.{lines_of}
use Rattle.session_boots.proofs.Told.{nothing_printed}
use Rattle.session_startup.specs.Did.{ActLeft}
use Rattle.session_startup.specs.Runs.{IsReadyToWait, MayAbort, HasNoActLeft, IsInTurn}

neither : (x y : Bool) → x ≡ false → y ≡ false → (not x && not y) ≡ true
neither x y a b = rw (a, b) refl

pub rests : (q : SessionState) (d : Device) (world : Components) (told : Told) (living : List ℕ) (none broken v : Bool) → ActLeft q d none world told living →
    none ≡ true → broken ≡ has_three (duty_of d).counts → broken ≡ v → HasNoActLeft q d v world told living
rests q d world told living none broken v a all is v_is = record {
  runs = a.runs;
  device_is = a.device_is;
  quiet = a.quiet all;
  counts = ap (λ (x : Device). has_three (duty_of x).counts) a.device_is ∙ sym is ∙ v_is;
}

pub settled_is : (q : SessionState) (d : Device) (v : Bool) (world : Components) (told : Told) (living : List ℕ) (settled b : Bool) →
    HasNoActLeft q d v world told living → settled ≡ is_settled world → settled ≡ b → is_settled q.world ≡ b
settled_is q d v world told living settled b r is b_is = sym (ap (λ (w : Components). is_settled w) r.runs.world_is) ∙ sym is ∙ b_is

pub sits : (q : SessionState) (d : Device) (world : Components) (told : Told) (living : List ℕ) (settled : Bool) → HasNoActLeft q d false world told living →
    settled ≡ is_settled world → settled ≡ false → IsReadyToWait q world told living
sits q d world told living settled r is f = record {
  runs = r.runs;
  quiet = r.quiet;
  work = neither (is_settled q.world) (has_three (duty_of q.device).counts) (settled_is q d false world told living settled false r is f) r.counts;
}

-- a part without records prints nothing
pub no_lines : (a : Option (List ℕ)) (d : Device) (h : List TraceEvent) → records_of h ≡ [] → Appends a a (lines_of d (records_of h))
no_lines a d h none = nothing_printed a (lines_of d (records_of h)) (ap (λ (l : List Record). lines_of d l) none)

-- ---- giving up

pub quits_of : (q : SessionState) (world : Components) (told : Told) (living : List ℕ) → IsInTurn q world told living → MayAbort q world told living
quits_of q world told living r =
    let w = r.within in
    record {
      moment = w.moment;
      asked = w.asked;
      due = w.due;
      boot = w.on.boot;
      boot_end = w.on.boot_end;
      over = w.on.over;
      cut = w.on.cut;
      differ = w.keeps.differ;
      owners = λ n. ap (λ (v : Components). owner n v.parts) r.world_is;
      children = w.children;
    }

pub quits_on : (p : SessionState) (h g : List TraceEvent) (world : Components) (told : Told) (living : List ℕ) →
    MayAbort (state_after (state_after p h) g) world told living → MayAbort (state_after p (g ++ h)) world told living
quits_on p h g world told living q = subst (λ (x : SessionState). MayAbort x world told living) (sym (left-append p g h)) q
