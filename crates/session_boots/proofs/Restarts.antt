-- When the end of a bootstrap ends the call.
use Rattle.std.specs.Prelude.{ℕ, Bool, true, false, List, Option, Some, None, Ok, IsErrOf, is_none, is_some, pos, ◌&&◌, if◌then◌else◌}
use Rattle.std.specs.Ordering.{int_eq}
use Rattle.std.proofs.Common.{◌≡◌, ◌∙◌, refl, sym, ap}
use Rattle.nuc_base.specs.declared.kinds.Exit.{Exit}
use Rattle.nuc_base.specs.declared.kinds.Exit.TheVariants as exits
use Rattle.records.specs.Stored.{Record}
use Rattle.device.specs.Devices.{Device}
use Rattle.step_runner.specs.Entries.{Told}
use Rattle.components.specs.Components.{Components}
use Rattle.histories.specs.Phases.{duty_of}
use Rattle.histories.specs.States.{SessionState}
use Rattle.session_boots.specs.Booted.{BootsLeft, LastBootEnded, restart_of}
use Rattle.session_boots.specs.Stands.{IsBetween}
use Rattle.session_boots.specs.declared.ends.Booted.{Booted}
use Rattle.session_boots.specs.declared.ends.Booted.TheVariants as booted

-- ---- answers

pub not_err : {T E : Type 0} (x : T) (e : E) → IsErrOf {T = T} {E = E} (Ok x) e → ⊥
not_err x e h = cc

pub none_is : {T : Type 0} (o : Option T) → ((x : T) → o ≡ Some x → ⊥) → o ≡ None
none_is None other = refl
none_is (Some x) other = absurd (other x refl)

-- ---- ends

-- the answer of the code is that of the definition
asked : (x : Exit) (last is_last : Bool) (r : Option Booted) → r ≡ restart_of x last → last ≡ is_last → restart_of x is_last ≡ r
asked x last is_last r is same = ap (λ (b : Bool). restart_of x b) (sym same) ∙ sym is

pub goes_on : (over : Bool) (x : Exit) (last is_last : Bool) (r : Option Booted) → over ≡ is_some (restart_of x is_last) → r ≡ restart_of x last →
    last ≡ is_last → r ≡ None → over ≡ false
goes_on over x last is_last r is told same none = is ∙ ap (λ (o : Option Booted). is_some o) (asked x last is_last r told same ∙ none)

-- it asks for a restart or a reboot, and for nothing else
code_asks : (restart reboot good : Bool) (end : Booted) → (if restart then Some booted.Restart
    else (if reboot then Some booted.Reboot else (if good then Some booted.Restart else None))) ≡ Some end → (end ≡ booted.Through → ⊥) ×
    (end ≡ booted.Failed → ⊥)
code_asks true reboot good end is = ((λ h. absurd cc), (λ h. absurd cc))
code_asks false true good end is = ((λ h. absurd cc), (λ h. absurd cc))
code_asks false false true end is = ((λ h. absurd cc), (λ h. absurd cc))
code_asks false false false end is = absurd cc

asks : (x : Exit) (last : Bool) (end : Booted) → restart_of x last ≡ Some end → (end ≡ booted.Through → ⊥) × (end ≡ booted.Failed → ⊥)
asks (exits.Code z) last end is = code_asks (int_eq z (pos 100)) (int_eq z (pos 101)) (int_eq z (pos 0) && last) end is
asks exits.Signal last end is = absurd cc
asks exits.TimedOut last end is = absurd cc
asks exits.NotStarted last end is = absurd cc
asks exits.Lost last end is = absurd cc

pub ends_call : (end : Booted) (records : List Record) (q : SessionState) (d : Device) (world : Components) (told : Told) (living : List ℕ) (x : Exit)
    (last : Bool) (r : Option Booted) → IsBetween q d world told living
    → q.over ≡ is_some (restart_of x (is_none (duty_of d).next_bootstrap)) → LastBootEnded x records → r ≡ restart_of x last
    → last ≡ is_none (duty_of d).next_bootstrap →
    r ≡ Some end → BootsLeft end records q d world told living
ends_call booted.Through records q d world told living x last r between over ends is same some =
    absurd ((asks x (is_none (duty_of d).next_bootstrap) booted.Through (asked x last (is_none (duty_of d).next_bootstrap) r is same ∙ some)).0 refl)
ends_call booted.Failed records q d world told living x last r between over ends is same some =
    absurd ((asks x (is_none (duty_of d).next_bootstrap) booted.Failed (asked x last (is_none (duty_of d).next_bootstrap) r is same ∙ some)).1 refl)
ends_call booted.Restart records q d world told living x last r between over ends is same some =
    let told_so = asked x last (is_none (duty_of d).next_bootstrap) r is same ∙ some in
    (between, over ∙ ap (λ (o : Option Booted). is_some o) told_so, (x, ends, told_so))
ends_call booted.Reboot records q d world told living x last r between over ends is same some =
    let told_so = asked x last (is_none (duty_of d).next_bootstrap) r is same ∙ some in
    (between, over ∙ ap (λ (o : Option Booted). is_some o) told_so, (x, ends, told_so))
