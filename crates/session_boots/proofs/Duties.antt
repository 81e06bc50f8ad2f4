-- What the records of a bootstrap change of a device, and of what it asks of a session.
use Rattle.std.specs.Prelude.{ℕ, Bool, true, false, List, Option, Some, None, is_some, option_map, slice_get, pos, ◌||◌, ◌&&◌, ◌⊎◌, if◌then◌else◌}
use Rattle.std.specs.Option.{IfSome, IsSome, IsSomeAnd}
use Rattle.std.specs.Ordering.{int_eq}
use Rattle.std.proofs.Common.{◌≡◌, ◌∙◌, inl, inr, refl, sym, ap, subst}
use Rattle.nuc_base.specs.declared.kinds.Exit.{Exit}
use Rattle.nuc_base.specs.declared.kinds.Exit.TheVariants as exits
use Rattle.records.specs.Stored as stored
use Rattle.records.specs.Stored.{Item, Plan}
use Rattle.records.specs.declared.record.Origin.{Origin}
use Rattle.device.specs.Devices.{Device, Pending}
use Rattle.device.specs.Lawful.{Allowed, applied, begun, boot_ended, boots_of, goes_on, has_gone_back, moved_on, next_boot, one_ended, rolled}
use Rattle.device.specs.Marks.{IsMark, IsMarkOf}
use Rattle.device.specs.declared.mark.Mark.TheVariants as marks
use Rattle.device.specs.declared.staged.Stage.{Stage}
use Rattle.device.specs.declared.staged.Stage.TheVariants as stages
use Rattle.deploy_state.specs.Fields.{CanBegin, IsBegun, next_name}
use Rattle.deploy_state.specs.Owned.{MayMark}
use Rattle.components.specs.declared.kinds.Prepared.{Prepared}
use Rattle.histories.specs.Phases.{Duty, has_boots, duty_in, duty_of, next_bootstrap_of}
use Rattle.histories.specs.States.{asks_restart}
use Rattle.session_boots.specs.Booted.{restart_of}
use Rattle.session_boots.specs.declared.ends.Booted.TheVariants as kinds
use Rattle.session_boots.specs.Lines.{id_of}
use Rattle.session_boots.specs.Made.{AreBootsOf, AreMadeFor, AreStageBoots, IsBootOf, IsNextBoot, boot_items}

abbrev pub pends : Device → Option Pending → Device
pends d o = record d { pending = o }

-- ---- the stages in which bootstraps run

abbrev pub HasBoots : Pending → Type 0
HasBoots q = (q.stage ≡ stages.Booting) ⊎ (q.stage ≡ stages.Backing)

pub duty_next : (d : Device) (q : Pending) → HasBoots q → (duty_in d q).next_bootstrap ≡ next_bootstrap_of q
duty_next d q (inl is) = rw is refl
duty_next d q (inr is) = rw is refl

duty_begun : (d : Device) (q : Pending) → HasBoots q → (duty_in d q).begun ≡ q.begun
duty_begun d q (inl is) = rw is refl
duty_begun d q (inr is) = rw is refl

pub duty_phase : (d : Device) (q : Pending) → HasBoots q → has_boots (duty_in d q).phase ≡ true
duty_phase d q (inl is) = rw is refl
duty_phase d q (inr is) = rw is refl

pub duty_origin : (d : Device) (q : Pending) → HasBoots q → (duty_in d q).origin ≡ d.origin
duty_origin d q (inl is) = rw is refl
duty_origin d q (inr is) = rw is refl

duty_items : (d : Device) (q : Pending) → HasBoots q → (duty_in d q).boots ≡ boot_items d q
duty_items d q (inl is) = rw is refl
duty_items d q (inr is) = rw is refl

duty_on : (d : Device) (q : Pending) → HasBoots q → duty_in d (begun q) ≡ record (duty_in d q) { begun = true }
duty_on d q (inl is) = rw is refl
duty_on d q (inr is) = rw is refl

-- in the others none comes next

abbrev pub HasNone : Pending → Type 0
HasNone q = (q.stage ≡ stages.Activating) ⊎ (q.stage ≡ stages.Rolling)

pub none_next : (q : Pending) → HasNone q → next_boot q ≡ None
none_next q (inl is) = rw is refl
none_next q (inr is) = rw is refl

pub no_next : (d : Device) (q : Pending) → HasNone q → (duty_in d q).next_bootstrap ≡ None
no_next d q (inl is) = rw is refl
no_next d q (inr is) = rw is refl

pub has_some : (q : Pending) → HasBoots q ⊎ HasNone q
has_some q = by q.stage refl
  where
    by : (s : Stage) → q.stage ≡ s → HasBoots q ⊎ HasNone q
    by stages.Booting is = inl (inl is)
    by stages.Activating is = inr (inl is)
    by stages.Backing is = inl (inr is)
    by stages.Rolling is = inr (inr is)

never_named : (o : Option (List ℕ)) (name : List ℕ) → o ≡ None → o ≡ Some name → ⊥
never_named o name none some = cc (sym none ∙ some)

has_by : (q : Pending) (o : Option (List ℕ)) (name : List ℕ) → (HasNone q → o ≡ None) → o ≡ Some name → HasBoots q ⊎ HasNone q → HasBoots q
has_by q o name none some (inl has) = has
has_by q o name none some (inr h) = absurd (never_named o name (none h) some)

-- ---- the pending deployment, and what it asks for

pub record IsNextIn (d : Device) (name : List ℕ) : Type 0 where
  pub q : Pending
  pub pending : d.pending ≡ Some q
  pub has : HasBoots q
  pub duty : duty_of d ≡ duty_in d q
  pub failed : q.boot_failed ≡ false
  pub next : next_boot q ≡ Some name

some_next : (b : Bool) (o : Option (List ℕ)) (name : List ℕ) → (if b then None else o) ≡ Some name → (b ≡ false) × (o ≡ Some name)
some_next true o name h = absurd cc
some_next false o name h = (refl, h)

pub next_in : (d : Device) (name : List ℕ) → (duty_of d).next_bootstrap ≡ Some name → IsNextIn d name
next_in d name is_next = by d.pending is_next
  where
    by : (o : Option Pending) → (duty_of (pends d o)).next_bootstrap ≡ Some name → IsNextIn (pends d o) name
    by None t = absurd (never_named None name refl t)
    by (Some q) t =
        let e = pends d (Some q) in
        let has = has_by q (duty_in e q).next_bootstrap name (no_next e q) t (has_some q) in
        let parts = some_next q.boot_failed (next_boot q) name (sym (duty_next e q has) ∙ t) in
        record { q = q; pending = refl; has = has; duty = refl; failed = parts.0; next = parts.1 }

-- the next one as the calls of a state ask for it
pub can_begin : (d : Device) (name : List ℕ) → IsNextIn d name → CanBegin d
can_begin d name t = subst (λ (o : Option Pending). IsSomeAnd o (λ q. (q.boot_failed ≡ false) × IsSome (next_boot q))) (sym t.pending)
    (t.failed, ap (λ (o : Option (List ℕ)). is_some o) t.next)

pub named : (o : Option (List ℕ)) → is_some o ≡ true → (n : List ℕ) × (o ≡ Some n)
named None h = absurd cc
named (Some n) h = (n, refl)

next_is : (b : Bool) (o : Option (List ℕ)) (name : List ℕ) → b ≡ false → o ≡ Some name → (if b then None else o) ≡ Some name
next_is b o name h k = rw (h, k) refl

pub next_told : (d : Device) → CanBegin d → (name : List ℕ) × ((duty_of d).next_bootstrap ≡ Some name)
next_told d can = by d.pending can
  where
    by : (o : Option Pending) → IsSomeAnd o (λ q. (q.boot_failed ≡ false) × IsSome (next_boot q))
        → (name : List ℕ) × ((duty_of (pends d o)).next_bootstrap ≡ Some name)
    by None c = absurd c
    by (Some q) c =
        let n = named (next_boot q) c.1 in
        let has = has_by q (next_boot q) n.0 (none_next q) n.1 (has_some q) in
        (n.0, duty_next (pends d (Some q)) q has ∙ next_is q.boot_failed (next_boot q) n.0 c.0 n.1)

-- ---- the record that it begins

pub mark_begun : (d : Device) (name : List ℕ) → IsNextIn d name → IsMark d marks.BootBegun (stored.BootBegun name)
mark_begun d name t = subst (λ (o : Option Pending). IsSomeAnd o (λ q. IsMarkOf d.set q marks.BootBegun (stored.BootBegun name))) (sym t.pending)
    (name, t.next, refl)

-- it is lawful where it was not begun
pub allowed_begun : (d : Device) (name : List ℕ) (t : IsNextIn d name) → t.q.begun ≡ false → Allowed d (stored.BootBegun name)
allowed_begun d name t new = subst (λ (o : Option Pending). IsSomeAnd o (λ q. (q.boot_failed ≡ false) × (next_boot q ≡ Some name) × (q.begun ≡ false)))
    (sym t.pending) (t.failed, t.next, new)

pub was_begun : (d : Device) (name : List ℕ) (t : IsNextIn d name) → t.q.begun ≡ true → IsBegun d
was_begun d name t old = subst (λ (o : Option Pending). IsSomeAnd o (λ q. q.begun ≡ true)) (sym t.pending) old

-- all that it changes of the duty
pub begun_duty : (d : Device) (name : List ℕ) → (duty_of d).next_bootstrap ≡ Some name
    → duty_of (applied d (stored.BootBegun name)) ≡ record (duty_of d) { begun = true }
begun_duty d name is_next = by d.pending is_next
  where
    by : (o : Option Pending) → (duty_of (pends d o)).next_bootstrap ≡ Some name →
        duty_of (pends d (option_map begun o)) ≡ record (duty_of (pends d o)) { begun = true }
    by None t = absurd (never_named None name refl t)
    by (Some q) t = duty_on (pends d (Some q)) q (has_by q (duty_in (pends d (Some q)) q).next_bootstrap name (no_next (pends d (Some q)) q) t (has_some q))

pub next_begun : (d e : Device) (m : Prepared) (name : List ℕ) → (duty_of d).next_bootstrap ≡ Some name
    → e ≡ applied d (stored.BootBegun name) → IsNextBoot d m → IsNextBoot e m
next_begun d e m name is_next same t = subst (λ (x : Device). IsNextBoot x m) (sym same) (
    let duty = begun_duty d name is_next in
    record {
      origin = t.origin;
      of_device = t.of_device;
      name = t.name;
      next = ap (λ (x : Duty). x.next_bootstrap) duty ∙ t.next;
      of = subst (λ (x : Duty). IsBootOf t.origin x.boots t.name m) (sym duty) t.of;
    })

pub begun_told : (d e : Device) (name : List ℕ) → (duty_of d).next_bootstrap ≡ Some name → e ≡ applied d (stored.BootBegun name) → (duty_of e).begun ≡ true
begun_told d e name is_next same = ap (λ (x : Device). (duty_of x).begun) same ∙ ap (λ (x : Duty). x.begun) (begun_duty d name is_next)

-- ---- the record of its end

pub allowed_ended : (d : Device) (name : List ℕ) (e : Exit) → IsNextIn d name → (duty_of d).begun ≡ true → Allowed d (stored.BootEnded name e)
allowed_ended d name e t begun =
    let old = sym (ap (λ (x : Duty). x.begun) t.duty ∙ duty_begun d t.q t.has) ∙ begun in
    subst (λ (o : Option Pending). IsSomeAnd o (λ q. (q.boot_failed ≡ false) × (next_boot q ≡ Some name) × (q.begun ≡ true))) (sym t.pending)
    (t.failed, t.next, old)

pub mark_ended : (d : Device) (name : List ℕ) (e : Exit) → IsNextIn d name → IsMark d (marks.BootEnded e) (stored.BootEnded name e)
mark_ended d name e t = subst (λ (o : Option Pending). IsSomeAnd o (λ q. IsMarkOf d.set q (marks.BootEnded e) (stored.BootEnded name e))) (sym t.pending)
    (name, t.next, refl)

pub may_end : (d : Device) (name : List ℕ) (e : Exit) → IsNextIn d name → (duty_of d).begun ≡ true → MayMark d (marks.BootEnded e)
may_end d name e t begun = (stored.BootEnded name e, mark_ended d name e t, allowed_ended d name e t begun)

-- the end asks for a restart by 100 and 101, and by 0 where it is the last
pub restart_is : (e : Exit) (last : Bool) → (asks_restart e || (goes_on e && last)) ≡ is_some (restart_of e last)
restart_is (exits.Code z) last = by (int_eq z (pos 0)) (int_eq z (pos 100)) (int_eq z (pos 101)) last
  where
    by : (good restart reboot last : Bool) → ((restart || reboot) || (((good || restart) || reboot) && last))
        ≡ is_some (if restart then Some kinds.Restart else (if reboot then Some kinds.Reboot else (if good && last then Some kinds.Restart else None)))
    by good true reboot last = refl
    by good false true last = refl
    by true false false true = refl
    by true false false false = refl
    by false false false last = refl
restart_is exits.Signal last = refl
restart_is exits.TimedOut last = refl
restart_is exits.NotStarted last = refl
restart_is exits.Lost last = refl

-- how a step's end leaves the pending deployment: whether the end goes on, and whether that was the last on the way back
abbrev pub ended_so : Bool → Bool → Pending → Pending
ended_so goes gone q = if goes then (if gone then rolled (one_ended q) else one_ended q) else record q { boot_failed = true }

same_plan : (goes gone : Bool) (q : Pending) → (ended_so goes gone q).plan ≡ q.plan
same_plan true true q = refl
same_plan true false q = refl
same_plan false gone q = refl

-- the line of the end is that of the device before it and behind it
pub same_id : (d : Device) (name : List ℕ) (e : Exit) → id_of (applied d (stored.BootEnded name e)) ≡ id_of d
same_id d name e = by d.pending
  where
    by : (o : Option Pending) → id_of (pends d (option_map (boot_ended e) o)) ≡ id_of (pends d o)
    by None = refl
    by (Some q) = ap (λ (x : Plan). x.id) (same_plan (goes_on e) (has_gone_back (one_ended q)) q)

-- a failed one still comes next
pub still_named : (d : Device) (name : List ℕ) (e : Exit) → IsNextIn d name → goes_on e ≡ false → next_name (applied d (stored.BootEnded name e)) ≡ Some name
still_named d name e t fails = by d.pending t.q t.pending t.next
  where
    failed_is : (b : Bool) (q : Pending) → b ≡ false → (if b then moved_on q else record q { boot_failed = true }) ≡ record q { boot_failed = true }
    failed_is b q is = rw is refl

    by : (o : Option Pending) (q : Pending) → o ≡ Some q → next_boot q ≡ Some name → next_name (pends d (option_map (boot_ended e) o)) ≡ Some name
    by None q is next = absurd cc
    by (Some p) q is next =
        let same : p ≡ q = cc in
        ap (λ (x : Pending). next_boot (boot_ended e x)) same ∙ ap next_boot (failed_is (goes_on e) q fails) ∙ next

-- ---- what was made ready

pub made_next : (d : Device) (name : List ℕ) (made : List Prepared) (t : IsNextIn d name) (o : Origin) → d.origin ≡ Some o → AreStageBoots d made →
    IsSomeAnd (slice_get made t.q.ended) (IsBootOf o (duty_of d).boots name)
made_next d name made t o origin are =
    let here = subst (λ (x : Option Pending). IfSome x (λ q. AreMadeFor d q made)) t.pending are in
    let for_origin = subst (λ (x : Option Origin). IsSomeAnd x (λ o. AreBootsOf o (boot_items d t.q) (boots_of t.q) made)) origin here in
    let items = sym (ap (λ (x : Duty). x.boots) t.duty ∙ duty_items d t.q t.has) in
    subst (λ (l : List Item). IsSomeAnd (slice_get made t.q.ended) (IsBootOf o l name)) items (for_origin t.q.ended name t.next)
