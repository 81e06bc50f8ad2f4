-- What the records of one deployment leave as it is: of a bootstrap, of a stage that begins, of a failure and of a rollback.
use Rattle.std.specs.Prelude.{ℕ, Bool, true, false, List, [], ◌∷◌, Option, Some, None, option_map, if◌then◌else◌}
use Rattle.std.specs.Option.{IsSomeAnd}
use Rattle.std.proofs.Common.{◌≡◌, ◌∙◌, refl, sym, ap, subst}
use Rattle.nuc_base.specs.declared.kinds.Exit.{Exit}
use Rattle.nuc_base.specs.declared.kinds.Step.{Step}
use Rattle.records.specs.Stored.{Plan, Record}
use Rattle.records.specs.Stored as stored
use Rattle.device.specs.Devices.{Device, Pending}
use Rattle.device.specs.Lawful.{activated, applied, begun, boot_ended, count_failure, counted, failing_name, failing_place, goes_on, has_gone_back, moved_on}
use Rattle.device.specs.Lawful.{on_pending, one_ended, rolled, sent_back}
use Rattle.deploy_state.specs.Fields.{IsBreak, backs_now, break_by}
use Rattle.session_boots.specs.Same.{IsSameDeployment}
use Rattle.session_boots.specs.AfterBoot.{DeviceAfterBoot}

pub same_refl : (d : Device) → IsSameDeployment d d
same_refl d = record { origin = refl; set = refl; plan = refl }

pub same_trans : (d e f : Device) → IsSameDeployment d e → IsSameDeployment e f → IsSameDeployment d f
same_trans d e f h k = record { origin = k.origin ∙ h.origin; set = k.set ∙ h.set; plan = k.plan ∙ h.plan }

-- ---- what keeps the plan

pub same_pending : (f : Pending → Pending) → ((q : Pending) → (f q).plan ≡ q.plan) → (d : Device) → IsSameDeployment d (on_pending f d)
same_pending f keeps d = record { origin = refl; set = refl; plan = by d.pending }
  where
    by : (o : Option Pending) → option_map (λ (q : Pending). q.plan) (option_map f o) ≡ option_map (λ (q : Pending). q.plan) o
    by None = refl
    by (Some q) = ap (λ (p : Plan). Some p) (keeps q)

plan_moved : (b : Bool) (q : Pending) → (if b then rolled q else q).plan ≡ q.plan
plan_moved true q = refl
plan_moved false q = refl

plan_ended : (b : Bool) (q : Pending) → (if b then moved_on q else record q { boot_failed = true }).plan ≡ q.plan
plan_ended true q = plan_moved (has_gone_back (one_ended q)) (one_ended q)
plan_ended false q = refl

plan_counted : (at : Option ℕ) (q : Pending) → (counted at q).plan ≡ q.plan
plan_counted None q = refl
plan_counted (Some k) q = refl

-- ---- by the records

pub same_begun : (d : Device) (name : List ℕ) → IsSameDeployment d (applied d (stored.BootBegun name))
same_begun d name = same_pending begun (λ q. refl) d

pub same_ended : (d : Device) (name : List ℕ) (e : Exit) → IsSameDeployment d (applied d (stored.BootEnded name e))
same_ended d name e = same_pending (boot_ended e) (λ q. plan_ended (goes_on e) q) d

pub same_activated : (d : Device) → IsSameDeployment d (applied d stored.Activating)
same_activated d = same_pending activated (λ q. refl) d

pub same_counted : (d : Device) (name : List ℕ) (s : Step) (e : Exit) → IsSameDeployment d (applied d (stored.StepFailed name s e))
same_counted d name s e = same_pending (count_failure d.set name) (λ q. plan_counted (failing_place d.set q name) q) d

pub same_rolled : (d : Device) (name : List ℕ) → IsSameDeployment d (applied d (stored.Failing name))
same_rolled d name = same_pending rolled (λ q. refl) d

pub same_sent_back : (d : Device) (name : List ℕ) → IsSameDeployment d (applied d (stored.FailingBack name))
same_sent_back d name = same_pending (sent_back d.origin d.set) (λ q. refl) d

-- ---- by what is made of them

-- a step begins and ends
pub same_turned : (d e : Device) (exit : Exit) → DeviceAfterBoot d exit e → IsSameDeployment d e
same_turned d e exit t =
    let begins = subst (λ (x : Device). IsSameDeployment d x) (sym t.1.2) (same_begun d t.1.0) in
    let ends = subst (λ (x : Device). IsSameDeployment t.0 x) (sym t.2.2) (same_ended t.0 t.2.0 exit) in
    same_trans d t.0 e begins ends

-- the deployment is rolled back
pub same_broken : (d : Device) (r : Record) → IsBreak d r → IsSameDeployment d (applied d r)
same_broken d r breaks = by d.pending breaks
  where
    by_backs : (backs : List (List ℕ)) (name : List ℕ) → IsSameDeployment d (applied d (break_by backs name))
    by_backs [] name = same_rolled d name
    by_backs (b ∷ others) name = same_sent_back d name

    by : (o : Option Pending) → IsSomeAnd o (λ q. (n : List ℕ) × (failing_name q ≡ Some n) × (r ≡ break_by (backs_now d q) n)) →
        IsSameDeployment d (applied d r)
    by None h = absurd h
    by (Some q) h = subst (λ (x : Record). IsSameDeployment d (applied d x)) (sym h.2) (by_backs (backs_now d q) h.0)
