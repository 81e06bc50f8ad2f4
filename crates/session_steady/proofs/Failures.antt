-- Whether failures were handed out, and that no items were changed, part by part.
use Rattle.std.specs.Prelude.{Bool, true, false, ◌||◌, List, [], ◌∷◌, ◌++◌, Option}
use Rattle.std.proofs.Common.{◌≡◌, ◌∙◌, refl, sym, ap}
use Rattle.std.proofs.lemmas.List.Folds.{list_any-append}
use Rattle.step_runner.specs.declared.entries.RunnerEntry.{RunnerEntry}
use Rattle.histories.specs.TraceEvents.{TraceEvent, Ran, Booted, WaitElapsed, KilledOnAbort, Recorded, Moved, ReadClock, Heard, InboxAsked, Changed, StopsAll}
use Rattle.histories.specs.States.{SessionState, state_after}
use Rattle.session_acts.specs.Traces.{ActsInTurn, AreActEvents, IsActEvent}
use Rattle.session_steady.specs.Failures.{changes, hears, is_change, is_heard}

pub hears_both : (g h : List TraceEvent) → hears (g ++ h) ≡ (hears g || hears h)
hears_both g h = list_any-append is_heard g h

none_heard : (p : SessionState) (h : List TraceEvent) → AreActEvents p h → hears h ≡ false
none_heard p [] each = refl
none_heard p (e ∷ h) each = by e each.0 (none_heard p h each.1)
  where
    by : (e : TraceEvent) → IsActEvent (state_after p h) e → hears h ≡ false → hears (e ∷ h) ≡ false
    by (Ran e k s) is rest = rest
    by (Booted e m) is rest = absurd is
    by (WaitElapsed e) is rest = absurd is
    by (KilledOnAbort e) is rest = absurd is
    by (Recorded r) is rest = absurd is
    by (Moved k e) is rest = rest
    by (ReadClock m) is rest = rest
    by (Heard k) is rest = absurd is
    by (InboxAsked a) is rest = absurd is
    by (Changed f c b) is rest = absurd is
    by StopsAll is rest = absurd is

-- a part of a turn hands out none
pub acts_unheard : (p : SessionState) (h : List TraceEvent) {old new : Option (List RunnerEntry)} → ActsInTurn p h old new → hears h ≡ false
acts_unheard p h a = none_heard p h a.each

-- so what was noted stays
pub noted_still : (p : SessionState) (h : List TraceEvent) {old new : Option (List RunnerEntry)} → ActsInTurn p h old new → (b : Bool) → b ≡ (hears h || b)
noted_still p h a b = sym (ap (λ (x : Bool). x || b) (acts_unheard p h a))

or_none : (b : Bool) → b ≡ (b || false)
or_none true = refl
or_none false = refl

-- behind a part of a turn it is as by what followed
pub noted_behind : (p : SessionState) (h g : List TraceEvent) {old new : Option (List RunnerEntry)} → ActsInTurn p h old new → (b : Bool) → b ≡ hears g →
    b ≡ hears (g ++ h)
noted_behind p h g a b is = is ∙ or_none (hears g) ∙ ap (λ (x : Bool). hears g || x) (sym (acts_unheard p h a)) ∙ sym (hears_both g h)

-- and of two parts as by both
pub noted_both : (g h : List TraceEvent) (b c : Bool) → c ≡ (hears g || b) → b ≡ hears h → c ≡ hears (g ++ h)
noted_both g h b c now is = now ∙ ap (λ (x : Bool). hears g || x) is ∙ sym (hears_both g h)

-- ---- nothing was changed

pub changes_both : (g h : List TraceEvent) → changes g ≡ false → changes h ≡ false → changes (g ++ h) ≡ false
changes_both g h a b = list_any-append is_change g h ∙ ap (λ (x : Bool). x || changes h) a ∙ b

none_changed : (p : SessionState) (h : List TraceEvent) → AreActEvents p h → changes h ≡ false
none_changed p [] each = refl
none_changed p (e ∷ h) each = by e each.0 (none_changed p h each.1)
  where
    by : (e : TraceEvent) → IsActEvent (state_after p h) e → changes h ≡ false → changes (e ∷ h) ≡ false
    by (Ran e k s) is rest = rest
    by (Booted e m) is rest = absurd is
    by (WaitElapsed e) is rest = absurd is
    by (KilledOnAbort e) is rest = absurd is
    by (Recorded r) is rest = absurd is
    by (Moved k e) is rest = rest
    by (ReadClock m) is rest = rest
    by (Heard k) is rest = absurd is
    by (InboxAsked a) is rest = absurd is
    by (Changed f c b) is rest = absurd is
    by StopsAll is rest = absurd is

pub acts_unchanged : (p : SessionState) (h : List TraceEvent) {old new : Option (List RunnerEntry)} → ActsInTurn p h old new → changes h ≡ false
acts_unchanged p h a = none_changed p h a.each
