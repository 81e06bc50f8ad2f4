-- What the acts of a turn leave of a session as it was.
use Rattle.std.specs.Prelude.{Bool, true, false, List, Option, None, if◌then◌else◌}
use Rattle.std.proofs.Common.{◌≡◌, ◌∙◌, refl, sym, ap, subst}
use Rattle.device.specs.Devices.{Device}
use Rattle.step_runner.specs.declared.entries.RunnerEntry.{RunnerEntry}
use Rattle.step_runner.specs.declared.entries.Seen.{Seen}
use Rattle.step_runner.specs.declared.entries.Seen.TheVariants as seen
use Rattle.histories.specs.Phases.{duty_of, is_idle}
use Rattle.histories.specs.TraceEvents.{TraceEvent}
use Rattle.histories.specs.States.{SessionState, is_wait, state_after}
use Rattle.session_acts.specs.Traces.{ActsInTurn, IsActEntry}
use Rattle.session_acts.proofs.Keeping.{IsKept, kept_along}
use Rattle.session_steady.specs.Runs.{IsSame, IsSince}

no_wait : (p : SessionState) (s : Seen) → IsActEntry p s → is_wait s ≡ false
no_wait p (seen.Started n c) is = refl
no_wait p (seen.Refused c) is = refl
no_wait p (seen.Killed n) is = refl
no_wait p (seen.Exists x found) is = refl
no_wait p (seen.OnPath x found) is = refl
no_wait p (seen.Ended n e limit) is = absurd is
no_wait p (seen.Elapsed limit) is = absurd is

since_kept : (x : SessionState) → IsKept (IsSince x)
since_kept x = record {
  asked = λ p m s. let a = s.0 in (
    record { device = a.device; generation = a.generation; serves = a.serves; opened = a.opened; turns = a.turns; taken = a.taken },
    s.1,
  );
  moved = λ p k e next may s. let a = s.0 in (
    record { device = a.device; generation = a.generation; serves = a.serves; opened = a.opened; turns = a.turns; taken = a.taken },
    s.1,
  );
  ran = λ p e k t may is s. let a = s.0 in (
    record { device = a.device; generation = a.generation; serves = a.serves; opened = a.opened; turns = a.turns; taken = a.taken },
    ap (λ (b : Bool). if b then None else p.answer) (no_wait p e.seen is) ∙ s.1,
  );
}

pub same_self : (p : SessionState) → IsSame p p
same_self p = record { device = refl; generation = refl; serves = refl; opened = refl; turns = refl; taken = refl }

pub since_self : (p : SessionState) → IsSince p p
since_self p = (same_self p, refl)

pub since_on : (x p q : SessionState) → IsSince x p → IsSince p q → IsSince x q
since_on x p q s t =
    let a = s.0 in
    let b = t.0 in (
      record {
        device = b.device ∙ a.device;
        generation = b.generation ∙ a.generation;
        serves = b.serves ∙ a.serves;
        opened = b.opened ∙ a.opened;
        turns = b.turns ∙ a.turns;
        taken = b.taken ∙ a.taken;
      },
      t.1 ∙ s.1,
    )

-- a part of a turn leaves all that
pub since_acts : (p : SessionState) (h : List TraceEvent) {old new : Option (List RunnerEntry)} → ActsInTurn p h old new → IsSince p (state_after p h)
since_acts p h a = kept_along (IsSince p) (since_kept p) p h a.acts.proper a.each (since_self p)

pub idle_on : (p q : SessionState) → IsSince p q → is_idle (duty_of p.device).phase ≡ true → is_idle (duty_of q.device).phase ≡ true
idle_on p q s idle = subst (λ (d : Device). is_idle (duty_of d).phase ≡ true) (sym s.0.device) idle
