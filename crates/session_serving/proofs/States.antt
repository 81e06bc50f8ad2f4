-- Where a call that serves may give up, and what it leaves then.
use Rattle.std.specs.Prelude.{◌↔◌, ℕ, Bool, true, false, List, [], Option, None, Contains, IsSome}
use Rattle.nuc_base.specs.declared.kinds.Exit.{Exit}
use Rattle.nuc_base.specs.declared.kinds.Step.{Step}
use Rattle.step_runner.specs.declared.entries.RunnerEntry.{RunnerEntry}
use Rattle.std.specs.List.{list_any}
use Rattle.std.proofs.Common.{◌≡◌, ◌⊎◌, ◌∙◌, inl, inr, refl, sym, ap, subst}
use Rattle.std.proofs.lemmas.Bool.{false≢true}
use Rattle.nuc_base.specs.declared.status.Status.{Status}
use Rattle.nuc_base.specs.declared.status.Status.TheVariants as statuses
use Rattle.device.specs.Devices.{Device}
use Rattle.step_runner.specs.Entries.{Told}
use Rattle.components.specs.Components.{Components, owner}
use Rattle.components.specs.Turns.{owes}
use Rattle.histories.specs.Courses.{IsBare, IsEnd, IsStateOf, gives_up, is_restart, leaves_open}
use Rattle.histories.specs.States.{SessionState, state_after}
use Rattle.histories.specs.Phases.{Generation, is_shutting_down}
use Rattle.law_serving.proofs.Records.{pending_idle}
use Rattle.law_supervisor.specs.Sound.{IsOrderly}
use Rattle.session_shutdown.specs.Stops.{HasStopped}
use Rattle.session_steady.specs.Serves.{IsAsking, IsServing}
use Rattle.session_steady.proofs.Serving.{asking_serves}
use Rattle.session_transitions.specs.Fails.{IsGivenUp}
use Rattle.session_transitions.specs.Kills.{KeepsRest}
use Rattle.session_transitions.proofs.Closing.{no_other}
use Rattle.session.specs.Parts.{IsReturned}
use Rattle.session.proofs.States.{bare_none}
use Rattle.session_serving.proofs.Hearing.{Hears}

clash : (b : Bool) → b ≡ true → b ≡ false → ⊥
clash b on off = absurd (false≢true (sym off ∙ on))

module _ (p : SessionState) (d : Device) (world : Components) (told : Told) (living : List ℕ) where
  given_up_at : IsStateOf p d world told living → IsOrderly p.world → p.boot ≡ None → p.boot_end ≡ None → p.over ≡ false → p.cut ≡ false →
      IsGivenUp p world told living
  given_up_at s orderly boot boot_end over cut = record {
    moment = sym (ap (λ (w : Components). w.moment) s.world_is);
    asked = s.asked;
    boot = boot;
    boot_end = boot_end;
    over = over;
    cut = cut;
    differ = orderly.differ;
    owners = λ n. sym (ap (λ (w : Components). owner n w.parts) s.world_is);
    children = λ n. no_other p n living boot (s.children n);
  }

  pub returned_gives_up : IsReturned p d world told living → IsGivenUp p world told living
  returned_gives_up r = given_up_at r.stands r.orderly r.boot r.boot_end r.over r.cut

  pub serving_gives_up : IsServing p d world told living → IsGivenUp p world told living
  serving_gives_up v = given_up_at v.stands v.orderly v.steady.boot v.steady.boot_end v.steady.over v.steady.cut

  -- no component may act
  pub asking_returned : IsAsking p d world told living → IsReturned p d world told living
  asking_returned a =
      let v = asking_serves p d world told living a in
      record {
        stands = v.stands;
        quiet = a.quiet;
        orderly = v.orderly;
        idle_is = subst (λ (x : Device). x.pending ≡ None) a.device_is (pending_idle p.device a.steady.idle_is);
        going = ap (λ (c : Generation). is_shutting_down c) a.steady.generation;
        boot = a.steady.boot;
        boot_end = a.steady.boot_end;
        over = a.steady.over;
        cut = a.steady.cut;
      }

not_restart : (s : Status) → gives_up s ≡ true → is_restart s ≡ true → ⊥
not_restart statuses.Disk gives restarts = false≢true restarts
not_restart statuses.Edge gives restarts = false≢true restarts
not_restart statuses.Memory gives restarts = false≢true restarts
not_restart s gives restarts = false≢true gives

-- all children were killed where nothing was open and no failure is still owed
pub killed_end : (p q : SessionState) (status : Status) (rose : Bool) → KeepsRest p q → IsBare q → list_any owes p.world.parts ≡ false → p.boot_end ≡ None →
    p.over ≡ false → gives_up status ≡ true → IsEnd q status rose
killed_end p q status rose keeps bare told boot_end over gives = record {
  bare = bare;
  stopped = λ stays. absurd (clash (gives_up status) gives stays);
  cut = λ is. gives;
  owes_none = λ closed. keeps.owed ∙ told;
  recorded = inl (keeps.boot_end ∙ boot_end);
  restarts = λ is. absurd (not_restart status gives is);
  over = λ is. absurd (clash q.over is (keeps.over ∙ over));
}

-- all were stopped
pub stopped_none : (p : SessionState) (d : Device) (world : Components) (told : Told) (living : List ℕ) → HasStopped p d world told living → living ≡ []
stopped_none p d world told living s = bare_none p d world told living s.stands s.bare

pub stopped_end : (p : SessionState) (d : Device) (world : Components) (told : Told) (living : List ℕ) (status : Status) → HasStopped p d world told living →
    is_restart status ≡ false → IsEnd p status false
stopped_end p d world told living status s other = record {
  bare = s.bare;
  stopped = λ stays. s.stopped;
  cut = λ is. absurd (clash p.cut is s.cut);
  owes_none = λ closed. s.quiet.owes_none;
  recorded = inl s.boot_end;
  restarts = λ is. absurd (clash (is_restart status) is other);
  over = λ is. absurd (clash p.over is s.over);
}

-- where failures were heard of first
pub heard_gives_up : (p : SessionState) (d : Device) (world : Components) (told : Told) (living : List ℕ) → IsServing p d world told living →
    (list : Option (List RunnerEntry)) → (a : Hears p list) → IsGivenUp (state_after p a.h) world told living
heard_gives_up p d world told living v list a =
    let g = serving_gives_up p d world told living v in
    record {
      moment = g.moment ∙ sym a.moment;
      asked = g.asked ∙ sym a.fresh;
      boot = a.boot ∙ g.boot;
      boot_end = a.boot_end ∙ g.boot_end;
      over = a.over ∙ g.over;
      cut = a.cut ∙ g.cut;
      differ = a.orderly.differ;
      owners = λ n. g.owners n ∙ sym (a.owners n);
      children = λ n. subst (λ (o : Option (ℕ × Step)). Contains living n ↔ IsSome o) (sym (a.owners n)) (g.children n);
    }

-- no child lives where a call ends for a restart: so it may end with 6 too
restart_open : (s : Status) → is_restart s ≡ true → leaves_open s ≡ false
restart_open statuses.Restart is = refl
restart_open statuses.Reboot is = refl
restart_open s is = absurd (false≢true is)

recorded_on : (s : Status) (a : Option Exit) (rose : Bool) → is_restart s ≡ true → (a ≡ None) ⊎ ((leaves_open s ≡ true) × (rose ≡ true)) →
    (a ≡ None) ⊎ ((leaves_open statuses.Edge ≡ true) × (rose ≡ true))
recorded_on s a rose is (inl none) = inl none
recorded_on s a rose is (inr both) = absurd (clash (leaves_open s) both.0 (restart_open s is))

pub edge_again : (p : SessionState) (status : Status) (rose : Bool) → is_restart status ≡ true → IsEnd p status rose → IsEnd p statuses.Edge rose
edge_again p status rose is e = record {
  bare = e.bare;
  stopped = λ stays. absurd (false≢true (sym stays));
  cut = λ on. refl;
  owes_none = λ closed. absurd (false≢true (sym closed));
  recorded = recorded_on status p.boot_end rose is e.recorded;
  restarts = λ on. absurd (false≢true on);
  over = λ on. inr refl;
}
