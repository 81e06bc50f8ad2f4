-- A mark is applied as its record.
use Rattle.std.proofs.Common.{◌≡◌, ℕ, Bool, true, List, take, Option, Some, None, is_some, refl, sym, ap, subst, ◌∙◌}
use Rattle.std.specs.Prelude.{option_and_then}
use Rattle.std.specs.Option.{IfSome, IsSomeAnd}
use Rattle.records.specs.declared.record.Origin.{Origin}
use Rattle.records.specs.Stored as stored
use Rattle.records.specs.Stored.{Item, Record}
use Rattle.nuc_base.specs.declared.kinds.Outcome.{Outcome}
use Rattle.device.specs.declared.mark.Mark.{Mark}
use Rattle.device.specs.declared.mark.Mark.TheVariants as marks
use Rattle.device.specs.Devices.{Device, Pending, chosen}
use Rattle.device.specs.Lawful.{Allowed, applied, backs, counted, failing_place, goes_back, place, reach_of, running, sent_to, MayCount, MayGoBack}
use Rattle.device.specs.Marks.{IsMark, IsMarkOf, IsClosing, CanMark, marked}
use Rattle.device.specs.Spares.{FlagBacks}
use Rattle.device.proofs.FirstPlaces.{place_has, some_is}
use Rattle.device.proofs.Flags.{chosen_told}

has : {A : Type 0} (o : Option A) (x : A) → o ≡ Some x → is_some o ≡ true
has o x is = ap is_some is

-- ---- what its arithmetic rests on

pub can_mark : (d : Device) (q : Pending) (m : Mark) (r : Record) → IsMarkOf d.set q m r → Allowed (record d { pending = Some q }) r → CanMark m q
can_mark d q marks.BootBegun r mark allowed = tt
can_mark d q (marks.BootEnded e) r mark allowed = has _ mark.0 mark.1
can_mark d q marks.Activating r mark allowed = tt
can_mark d q (marks.StepFailed k s e) r mark allowed =
    let may = subst (λ (r : Record). Allowed (record d { pending = Some q }) r) mark.2 allowed in
    subst (MayCount q) mark.1 may.0
can_mark d q marks.Failing r mark allowed = tt
can_mark d q marks.FailingBack r mark allowed = has _ mark.0 mark.1
can_mark d q (marks.Closed o) r mark allowed = tt

-- ---- the backs that the spare has

pub spared_backs : (origin : Option Origin) (set : List Item) (q : Pending) (n : List ℕ) (flags : List Bool) → IfSome origin
    (FlagBacks set q.plan.boots flags) → MayGoBack origin set n q
    → chosen flags (take (reach_of q) q.plan.boots) ≡ backs origin set q.plan (reach_of q)
spared_backs None set q n flags spared may = absurd may.1
spared_backs (Some o) set q n flags spared may = chosen_told (goes_back o.platform set) flags q.plan.boots (reach_of q) (spared may.1.0)

-- ---- the step

pub marked_is : (d : Device) (q : Pending) (m : Mark) (r : Record) (flags : List Bool) → (IsClosing m → ⊥) → IfSome d.origin
    (FlagBacks d.set q.plan.boots flags) → IsMarkOf d.set q m r → Allowed (record d { pending = Some q }) r
    → ◌≡◌ {A = Device} (record d { pending = Some (marked (chosen flags (take (reach_of q) q.plan.boots)) m q) }) (applied (record d { pending = Some q }) r)
marked_is d q marks.BootBegun r flags other spared mark allowed = ap (applied (record d { pending = Some q })) (sym mark.2)
marked_is d q (marks.BootEnded e) r flags other spared mark allowed = ap (applied (record d { pending = Some q })) (sym mark.2)
marked_is d q marks.Activating r flags other spared mark allowed = ap (applied (record d { pending = Some q })) (sym mark)
marked_is d q (marks.StepFailed k s e) r flags other spared mark allowed =
    ap (λ (o : Option ℕ). record d { pending = Some (counted o q) }) (sym mark.1) ∙ ap (applied (record d { pending = Some q })) (sym mark.2)
marked_is d q marks.Failing r flags other spared mark allowed = ap (applied (record d { pending = Some q })) (sym mark.2)
marked_is d q marks.FailingBack r flags other spared mark allowed =
    let may = subst (λ (r : Record). Allowed (record d { pending = Some q }) r) mark.2 allowed in
    ap (λ (bs : List (List ℕ)). record d { pending = Some (sent_to bs q) }) (spared_backs d.origin d.set q mark.0 flags spared may) ∙ ap
    (applied (record d { pending = Some q })) (sym mark.2)
marked_is d q (marks.Closed o) r flags other spared mark allowed = absurd (other tt)

-- ---- a mark stands for one record

names_same : (set : List Item) (q : Pending) (n m : List ℕ) (k : ℕ) → failing_place set q n ≡ Some k → failing_place set q m ≡ Some k → n ≡ m
names_same set q n m k = by (running set q)
  where
    by : (o : Option (List Item)) → option_and_then (place n) o ≡ Some k → option_and_then (place m) o ≡ Some k → n ≡ m
    by None h other = absurd cc
    by (Some items) h other = some_is n m (sym (place_has n items k h) ∙ place_has m items k other)

pub one_mark : (set : List Item) (q : Pending) (m : Mark) (a b : Record) → IsMarkOf set q m a → IsMarkOf set q m b → a ≡ b
one_mark set q marks.BootBegun a b x y = x.2 ∙ ap stored.BootBegun (some_is x.0 y.0 (sym x.1 ∙ y.1)) ∙ sym y.2
one_mark set q (marks.BootEnded e) a b x y = x.2 ∙ ap (λ (n : List ℕ). stored.BootEnded n e) (some_is x.0 y.0 (sym x.1 ∙ y.1)) ∙ sym y.2
one_mark set q marks.Activating a b x y = x ∙ sym y
one_mark set q (marks.StepFailed k s e) a b x y = x.2 ∙ ap (λ (n : List ℕ). stored.StepFailed n s e) (names_same set q x.0 y.0 k x.1 y.1) ∙ sym y.2
one_mark set q marks.Failing a b x y = x.2 ∙ ap stored.Failing (some_is x.0 y.0 (sym x.1 ∙ y.1)) ∙ sym y.2
one_mark set q marks.FailingBack a b x y = x.2 ∙ ap stored.FailingBack (some_is x.0 y.0 (sym x.1 ∙ y.1)) ∙ sym y.2
one_mark set q (marks.Closed o) a b x y = x ∙ sym y

pub closes_not : (m : Mark) → ((o : Outcome) → m ≡ marks.Closed o → ⊥) → IsClosing m → ⊥
closes_not (marks.Closed o) other closing = other o refl
closes_not _ other closing = closing

-- ---- the step in a device

pub mark_step : (d : Device) (q new : Pending) (m : Mark) (r : Record) (flags : List Bool) → d.pending ≡ Some q → (IsClosing m → ⊥) → (a : Record) ×
    IsMark d m a × Allowed d a → IfSome d.origin (FlagBacks d.set q.plan.boots flags)
    → new ≡ marked (chosen flags (take (reach_of q) q.plan.boots)) m q → IsMark d m r → ◌≡◌ {A = Device} (record d { pending = Some new }) (applied d r)
mark_step d q new m r flags is other lawful spared new_is mark =
    let here : IsMarkOf d.set q m r = subst (λ (o : Option Pending). IsSomeAnd o (λ q. IsMarkOf d.set q m r)) is mark in
    let there : IsMarkOf d.set q m lawful.0 = subst (λ (o : Option Pending). IsSomeAnd o (λ q. IsMarkOf d.set q m lawful.0)) is lawful.1 in
    let allowed : Allowed (record d { pending = Some q }) r = subst (λ (o : Option Pending). Allowed (record d { pending = o }) r) is
    (subst (Allowed d) (one_mark d.set q m lawful.0 r there here) lawful.2) in
    ap (λ (p : Pending). record d { pending = Some p }) new_is
    ∙ marked_is d q m r flags other spared here allowed
    ∙ ap (λ (o : Option Pending). applied (record d { pending = o }) r) (sym is)
