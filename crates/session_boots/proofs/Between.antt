-- From the start of a bootstrap to its run, and from its end to its record.
use Rattle.std.specs.Prelude.{ℕ, true, List, [], ◌∷◌, Option, Some, None, Contains, zero}
use Rattle.std.specs.Option.{IsSome, IsSomeAnd}
use Rattle.std.proofs.Common.{◌≡◌, ◌≤◌, ◌∙◌, inl, inr, refl, sym, ap, subst, arith}
use Rattle.nuc_base.specs.declared.kinds.Exit.{Exit}
use Rattle.nuc_base.specs.declared.kinds.Step.{Step}
use Rattle.device.specs.Devices.{Device}
use Rattle.step_runner.specs.Entries.{Told}
use Rattle.components.specs.Components.{Components, Child, owner, is_stopped}
use Rattle.components.specs.Events.{later}
use Rattle.components.specs.declared.kinds.Prepared.{Prepared}
use Rattle.histories.specs.Phases.{Duty, duty_of, has_boots}
use Rattle.histories.specs.States.{SessionState}
use Rattle.histories.specs.Follows.{IsLiving, MayBoot}
use Rattle.session_boots.specs.Made.{IsNextBoot}
use Rattle.session_boots.specs.Stands.{IsAtBootStage}
use Rattle.session_boots.specs.Steps.{HasEnd, IsEnded, MayStep}
use Rattle.session_boots.proofs.Duties.{duty_origin, duty_phase, next_in}
use Rattle.session_boots.proofs.Entries.{still_later}
use Rattle.session_boots.proofs.Still.{no_owner}

-- ---- who lives

empty : (xs : List ℕ) → ((n : ℕ) → Contains xs n → ⊥) → xs ≡ []
empty [] none = refl
empty (x ∷ xs) none = absurd (none x (zero, omega arith, refl))

no_boot : (o : Option Child) (n : ℕ) → o ≡ None → IsSomeAnd o (λ (c : Child). c.number ≡ n) → ⊥
no_boot o n is h = subst (λ (x : Option Child). IsSomeAnd x (λ (c : Child). c.number ≡ n)) is h

no_part : (o : Option (ℕ × Step)) → o ≡ None → IsSome o → ⊥
no_part None is h = absurd cc
no_part (Some x) is h = absurd cc

none_lives : (p : SessionState) (n : ℕ) → is_stopped p.world ≡ true → p.boot ≡ None → IsLiving n p → ⊥
none_lives p n stopped boot (inl h) = no_part (owner n p.world.parts) (no_owner n p.world stopped) h
none_lives p n stopped boot (inr h) = no_boot p.boot n boot h

pub no_living : (p : SessionState) (d : Device) (world : Components) (told : Told) (living : List ℕ) → IsAtBootStage p d world told living → living ≡ []
no_living p d world told living f = empty living (λ n h. none_lives p n f.between.still.stopped f.between.boot ((f.between.stands.children n).0 h))

contains_none : (n : ℕ) → Contains [] n → ⊥
contains_none n h = omega (arith, h.1)

-- ---- the run

pub may_step : (p : SessionState) (d : Device) (world : Components) (told : Told) (living : List ℕ) (m : Prepared) → IsAtBootStage p d world told living →
    IsNextBoot d m → (duty_of d).begun ≡ true → MayStep p m told
may_step p d world told living m f t begun =
    let same = f.between.stands.device_is in
    let is_next = next_in d t.name t.next in
    let back : duty_of d ≡ duty_of p.device = ap (λ (x : Device). duty_of x) (sym same) in
    let may : MayBoot (duty_of d) p m = record {
      phase = ap (λ (x : Duty). has_boots x.phase) is_next.duty ∙ duty_phase d is_next.q is_next.has;
      begun = begun;
      origin = t.origin;
      of_device = ap (λ (x : Duty). x.origin) is_next.duty ∙ duty_origin d is_next.q is_next.has ∙ t.of_device;
      at = t.of.at;
      item = t.of.item;
      there = t.of.there;
      next = t.next ∙ ap (λ (x : List ℕ). Some x) (sym t.of.named);
      prepared = t.of.prepared;
      stopped = f.between.still.stopped;
      owes_none = f.between.still.quiet.owes_none;
      alone = f.between.boot;
      no_end = f.between.boot_end;
    } in
    record {
      may = subst (λ (x : Duty). MayBoot x p m) back may;
      still = f.between.still;
      probed = f.between.probed;
      over = f.over;
      moment = ap (λ (w : Components). w.moment) f.between.stands.world_is;
    }

pub has_end : (p q : SessionState) (d : Device) (world : Components) (old new : Told) (living next : List ℕ) (exit : Exit) →
    IsAtBootStage p d world old living → q.device ≡ p.device → IsEnded p q exit new → old.moment ≤ new.moment → next ≡ [] → HasEnd q d exit world new next
has_end p q d world old new living next exit f device e later_on none =
    let s = f.between.stands in
    let still = still_later p q new.moment e.world e.generation e.cut f.between.still in
    record {
      stands = record {
        device_is = device ∙ s.device_is;
        world_is = e.world ∙ ap (λ (w : Components). later new.moment w) s.world_is;
        answered = s.answered;
        not_before = omega (arith, s.not_before, later_on);
        asked = e.asked;
        children = λ n. ((λ h. absurd (contains_none n (subst (λ (l : List ℕ). Contains l n) none h))), (λ h. absurd (none_lives q n still.stopped e.boot h)));
      };
      still = still;
      boot = e.boot;
      boot_end = e.boot_end;
      over = e.over;
    }
