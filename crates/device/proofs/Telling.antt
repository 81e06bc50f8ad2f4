-- The records of a front by their places.
use Rattle.std.proofs.Common.{◌≡◌, ℕ, zero, suc, ◌-◌, ◌≤◌, List, [], ◌∷◌, ◌++◌, length, map, Option, Some, None, Result, Ok, Err, sym, ap, subst, ◌∙◌, arith}
use Rattle.std.specs.Prelude.{slice_get, IfOk}
use Rattle.std.specs.List.{AllByRecursion}
use Rattle.std.specs.Option.{IsSome, IfSome}
use Rattle.std.proofs.lemmas.List.Elements.{recursion_from_All}
use Rattle.nuc_base.specs.declared.kinds.Outcome.{Outcome}
use Rattle.nuc_base.specs.declared.platform.Platform.{Platform}
use Rattle.records.specs.declared.record.Origin.{Origin}
use Rattle.records.specs.declared.record.Group.{Group}
use Rattle.records.specs.Layout.{Spelled, IsWritable}
use Rattle.records.specs.Layout as layout
use Rattle.records.specs.declared.record.Record as code
use Rattle.records.specs.Stored.{Item, Record, Grouped, Kept, record_view}
use Rattle.tree_core.specs.Regular.{IsRegular}
use Rattle.device.specs.Limits.{most_root}
use Rattle.device.specs.Devices.{Device, IsRegularDevice}
use Rattle.device.specs.Fronts.{ended, front_by, Front, HasFront, SpellsAt}
use Rattle.device.specs.Plans.{HasConfig, HasRecipe, IsHeldFor, AreRequirements}
use Rattle.device.specs.Sound.{AreItemsFor}
use Rattle.device.proofs.PlanLengths.{few_files, as_long}

-- ---- places

pub told_at : {A B : Type 0} (f : A → B) (xs : List A) (k : ℕ) (x : A) → slice_get xs k ≡ Some x → slice_get (map f xs) k ≡ Some (f x)
told_at f [] k x is = absurd cc
told_at f (y ∷ xs) zero x is = let same : y ≡ x = cc in ap (λ z. Some (f z)) same
told_at f (y ∷ xs) (suc k) x is = told_at f xs k x is

pub prefix_at : {A : Type 0} (xs ys : List A) (k : ℕ) (x : A) → slice_get xs k ≡ Some x → slice_get (xs ++ ys) k ≡ Some x
prefix_at [] ys k x is = absurd cc
prefix_at (y ∷ xs) ys zero x is = is
prefix_at (y ∷ xs) ys (suc k) x is = prefix_at xs ys k x is

pub behind_at : {A : Type 0} (xs ys : List A) (k : ℕ) → length xs ≤ k → slice_get (xs ++ ys) k ≡ slice_get ys (k - length xs)
behind_at [] ys k le = let same : k - 0 ≡ k = omega arith in ap (slice_get ys) (sym same)
behind_at (x ∷ xs) ys zero le = absurd (omega (arith, le))
behind_at (x ∷ xs) ys (suc k) le =
    let same : k - length xs ≡ suc k - length (x ∷ xs) = omega arith in
    behind_at xs ys k (omega (arith, le)) ∙ ap (slice_get ys) same

pub moved_to : {E : Type 0} (result : Result code.Record E) (all some : List Record) (at place : ℕ) → slice_get all at ≡ slice_get some place
    → IfOk result (λ r. slice_get some place ≡ Some (record_view r)) → IfOk result (λ r. slice_get all at ≡ Some (record_view r))
moved_to (Ok r) all some at place same is = same ∙ is
moved_to (Err e) all some at place same is = tt

pub spelled_at : {E : Type 0} (result : Result (List ℕ) E) (records : List Record) (at : ℕ) (r : Record) → slice_get records at ≡ Some r →
    IfOk result (λ bytes. Spelled bytes r) → IfOk result (SpellsAt records at)
spelled_at (Ok bytes) records at r there spelled = record { record_at = r; there = there; spelled = spelled }
spelled_at (Err e) records at r there spelled = tt

-- ---- each can be written

all_of : {A : Type 0} (P : A → Type 0) (xs : List A) → ((x : A) → P x) → AllByRecursion P xs
all_of P [] each = tt
all_of P (x ∷ xs) each = (each x, all_of P xs each)

all_joined : {A : Type 0} (P : A → Type 0) (xs ys : List A) → AllByRecursion P xs → AllByRecursion P ys → AllByRecursion P (xs ++ ys)
all_joined P [] ys h rest = rest
all_joined P (x ∷ xs) ys h rest = (h.0, all_joined P xs ys h.1 rest)

one_of : {A : Type 0} (P : A → Type 0) (xs : List A) (k : ℕ) (x : A) → AllByRecursion P xs → slice_get xs k ≡ Some x → P x
one_of P [] k x h is = absurd cc
one_of P (y ∷ xs) zero x h is = let same : y ≡ x = cc in subst P same h.0
one_of P (y ∷ xs) (suc k) x h is = one_of P xs k x h.1 is

group_writable : (g : Group) → AreRequirements g.requirements → IsWritable (Grouped g)
group_writable g are = let few = are.few in (omega (arith, few), all_of layout.requirement.Asks g.requirements (λ r. (tt, tt)))

item_writable : (platform : Platform) (i : Item) → HasRecipe platform i → HasConfig i → IsRegular i.config → IsWritable (Kept i)
item_writable platform i has config regular =
    let reads = has.1.reads in
    let short = reads.1.within in
    let text = config.short in
    let files = few_files i.recipe platform has.0 reads in
    let same = as_long IsHeldFor has.0.artifacts i.artifacts has.1.files in (
      tt,
      (
        tt,
        (
          omega (arith, short),
          (
            record { regular = regular; short = omega (arith, text) },
            (omega (arith, files, same), all_of layout.held.Asks i.artifacts (λ h. (tt, tt))),
          ),
        ),
      ),
    )

groups_writable : (groups : List Group) → AllByRecursion (λ g. AreRequirements g.requirements) groups → AllByRecursion IsWritable (map Grouped groups)
groups_writable [] h = tt
groups_writable (g ∷ groups) h = (group_writable g h.0, groups_writable groups h.1)

items_writable : (platform : Platform) (items : List Item) → AllByRecursion (HasRecipe platform) items → AllByRecursion HasConfig items →
    AllByRecursion (λ i. IsRegular i.config) items
    → AllByRecursion IsWritable (map Kept items)
items_writable platform [] has configs regular = tt
items_writable platform (i ∷ items) has configs regular = (
  item_writable platform i has.0 configs.0 regular.0,
  items_writable platform items has.1 configs.1 regular.1,
)

closed_writable : (closed : List (List ℕ × Outcome)) → AllByRecursion IsWritable (map ended closed)
closed_writable [] = tt
closed_writable (e ∷ closed) = (tt, closed_writable closed)

all_writable : (number : ℕ) (d : Device) → HasFront d → IsRegularDevice d → AllByRecursion IsWritable (Front number d)
all_writable number d has regular = by d.origin has.origin has.sound.root has.sound.set
  where
    by : (o : Option Origin) → IsSome o → IfSome o (λ x. length x.root ≤ most_root) → AreItemsFor o d.set → AllByRecursion IsWritable (front_by number d o)
    by None some root items = tt
    by (Some o) some root items = (
      (omega (arith, root), (tt, (tt, (tt, tt)))),
      all_joined IsWritable (map Grouped d.groups) (map Kept d.set ++ map ended d.closed) (groups_writable d.groups has.sound.groups.requirements)
          (all_joined IsWritable (map Kept d.set) (map ended d.closed)
          (items_writable o.platform d.set items.recipes items.configs (recursion_from_All (λ (i : Item). IsRegular i.config) d.set regular.set))
          (closed_writable d.closed)),
    )

pub writable_at : (number at : ℕ) (d : Device) (r : Record) → HasFront d → IsRegularDevice d → slice_get (Front number d) at ≡ Some r → IsWritable r
writable_at number at d r has regular there = one_of IsWritable (Front number d) at r (all_writable number d has regular) there
