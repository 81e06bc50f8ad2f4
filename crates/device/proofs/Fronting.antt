-- A device is rebuilt from the records of its front, and from no others.
use Rattle.std.proofs.Common.{◌≡◌, ◌⊎◌, inl, inr, ℕ, zero, suc, ◌+◌, ◌-◌, ◌<◌, ◌≤◌, Bool, true, false, List, [], ◌∷◌, ◌++◌, length, map, Option, Some, None}
use Rattle.std.proofs.Common.{refl, sym, ap, subst, ◌∙◌, append_assoc, arith}
use Rattle.std.specs.Prelude.{◌||◌}
use Rattle.std.specs.Option.{IsSome, IfSome}
use Rattle.std.specs.List.{AllByRecursion, IsDistinct}
use Rattle.std.specs.Str.{bytes_eq}
use Rattle.std.specs.Map.{lookup}
use Rattle.std.proofs.lemmas.Bool.{false≢true}
use Rattle.std.proofs.lemmas.List.{append-nil, length-append, map-append}
use Rattle.std.proofs.lemmas.List.Elements.{All-append, All-from_recursion}
use Rattle.nuc_base.specs.declared.kinds.Outcome.{Outcome}
use Rattle.records.specs.declared.record.Origin.{Origin}
use Rattle.records.specs.Stored.{Item, Record, Turned, Grouped, Kept, Ended}
use Rattle.tree_core.specs.Regular.{IsRegular}
use Rattle.device.specs.Limits.{most_root, most_groups, most_elements}
use Rattle.device.specs.Grouped.{has_group, put_group}
use Rattle.device.specs.Devices.{Device, Group, Pending}
use Rattle.device.specs.Regularity.{IsRegularRecord}
use Rattle.device.specs.Plans.{AreItems, AreRequirements}
use Rattle.device.specs.Sound.{IsSound, AreGroups, AreClosed, AreItemsFor, arns, ids}
use Rattle.device.specs.Fronts.{ended, stock_of, front_by, HasFront, IsFrontOf, IsNoFront, FrontsAreOne}
use Rattle.device.specs.Rebuilt.{Building, device_of, MayRebuild, BeginsAs, MayComeNext, with_next, IsWhole, IsOrderly, IsBuilt}
use Rattle.device.proofs.SoundLists.{not_same, all_more, distinct_more, closed_more}
use Rattle.device.proofs.Sounding.{none_sound}
use Rattle.device.proofs.Sparing.{none_before, fresh}
use Rattle.device.proofs.Stocks.{Beyond, beyond, alike, one_group, one_item, one_ended, at_end}

-- ---- groups

pub joins_new : (gs : List Group) (g : Group) → has_group g.arn gs ≡ false → put_group gs g ≡ gs ++ g ∷ []
joins_new [] g none = refl
joins_new (h ∷ gs) g none = by (bytes_eq g.arn h.arn) refl none (joins_new gs g)
  where
    by : (b : Bool) → bytes_eq g.arn h.arn ≡ b → (b || has_group g.arn gs) ≡ false → (has_group g.arn gs ≡ false → put_group gs g ≡ gs ++ g ∷ []) →
        put_group (h ∷ gs) g ≡ h ∷ (gs ++ g ∷ [])
    by true is none rest = absurd (false≢true (sym none))
    by false is none rest = rw is (ap (λ (l : List Group). h ∷ l) (rest none))

others : (arn : List ℕ) (gs : List Group) → has_group arn gs ≡ false → AllByRecursion (λ y. bytes_eq y arn ≡ false) (arns gs)
others arn [] none = tt
others arn (g ∷ gs) none = by (bytes_eq arn g.arn) refl none (others arn gs)
  where
    by : (b : Bool) → bytes_eq arn g.arn ≡ b → (b || has_group arn gs) ≡ false →
        (has_group arn gs ≡ false → AllByRecursion (λ y. bytes_eq y arn ≡ false) (arns gs))
        → (bytes_eq g.arn arn ≡ false) × AllByRecursion (λ y. bytes_eq y arn ≡ false) (arns gs)
    by true is none rest = absurd (false≢true (sym none))
    by false is none rest = (not_same arn g.arn is, rest none)

groups_more : (gs : List Group) (g : Group) → length gs < most_groups → has_group g.arn gs ≡ false → AreRequirements g.requirements → AreGroups gs →
    AreGroups (gs ++ g ∷ [])
groups_more gs g lt new asks are =
    let more = length-append gs (g ∷ []) in
    record {
      few = omega (arith, more, lt);
      differ = subst (IsDistinct bytes_eq) (sym (map-append (λ (x : Group). x.arn) gs (g ∷ [])))
          (distinct_more (arns gs) g.arn (others g.arn gs new) are.differ);
      requirements = all_more (λ (x : Group). AreRequirements x.requirements) gs g are.requirements asks;
    }

not_there : (arn : List ℕ) (gs : List Group) → AllByRecursion (λ y. bytes_eq arn y ≡ false) (arns gs) → has_group arn gs ≡ false
not_there arn [] h = refl
not_there arn (g ∷ gs) h = rw h.0 (not_there arn gs h.1)

all_behind : {A : Type 0} (P : A → Type 0) (xs : List A) (x : A) (ys : List A) → AllByRecursion P (xs ++ x ∷ ys) → P x
all_behind P [] x ys h = h.0
all_behind P (y ∷ xs) x ys h = all_behind P xs x ys h.1

-- a group behind others that differ
new_group : (all gs : List Group) (g : Group) (more : List Group) → all ≡ gs ++ g ∷ more → AreGroups all → (has_group g.arn gs ≡ false) ×
    AreRequirements g.requirements
new_group all gs g more is are = (
  not_there g.arn gs (none_before (arns gs) g.arn (arns more) (subst (IsDistinct bytes_eq) (ap arns is ∙ map-append (λ (x : Group). x.arn) gs (g ∷ more))
      are.differ)),
  all_behind (λ (x : Group). AreRequirements x.requirements) gs g more
      (subst (AllByRecursion (λ (x : Group). AreRequirements x.requirements)) is are.requirements),
)

new_closed : (all es : List (List ℕ × Outcome)) (e : List ℕ × Outcome) (more : List (List ℕ × Outcome)) → all ≡ es ++ e ∷ more → AreClosed all →
    lookup (bytes_eq e.0) es ≡ None
new_closed all es e more is are =
    fresh e.0 es (none_before (ids es) e.0 (ids more) (subst (IsDistinct bytes_eq) (ap ids is ∙ map-append (λ (x : List ℕ × Outcome). x.0) es (e ∷ more))
    are.differ))

-- ---- what holds all along

pub begins_orderly : (r : Record) (b : Building) → MayRebuild r → BeginsAs r b → IsOrderly b
begins_orderly (Turned n o groups items closed) b begins is = subst IsOrderly (sym is) (record {
  root = begins.0;
  groups = none_sound.groups;
  closed = none_sound.closed;
  few_groups = let le = begins.1 in omega (arith, le);
  few_items = let le = begins.2 in omega (arith, le);
  few_closed = let le = begins.3 in omega (arith, le);
  regular = λ k d lt. absurd (omega (arith, lt));
})
begins_orderly _ b begins is = absurd begins

next_orderly : (r : Record) (b : Building) → IsRegularRecord r → IsOrderly b → MayComeNext b r → IsOrderly (with_next b r)
next_orderly (Grouped g) b regular are comes =
    let lt = comes.0 in
    let few = are.few_groups in
    let more = length-append b.groups (g ∷ []) in
    record {
      root = are.root;
      groups = groups_more b.groups g (omega (arith, lt, few)) comes.1 comes.2 are.groups;
      closed = are.closed;
      few_groups = omega (arith, lt, few, more);
      few_items = are.few_items;
      few_closed = are.few_closed;
      regular = are.regular;
    }
next_orderly (Kept i) b regular are comes =
    let lt = comes.1 in
    let few = are.few_items in
    let more = length-append b.set (i ∷ []) in
    record {
      root = are.root;
      groups = are.groups;
      closed = are.closed;
      few_groups = are.few_groups;
      few_items = omega (arith, lt, few, more);
      few_closed = are.few_closed;
      regular = All-append (λ (x : Item). IsRegular x.config) b.set (i ∷ []) are.regular
          (All-from_recursion (λ (x : Item). IsRegular x.config) (i ∷ []) (regular, tt));
    }
next_orderly (Ended id o) b regular are comes =
    let lt = comes.2 in
    let few = are.few_closed in
    let more = length-append b.closed ((id, o) ∷ []) in
    record {
      root = are.root;
      groups = are.groups;
      closed = closed_more b.closed id o (omega (arith, lt, few)) comes.3 are.closed;
      few_groups = are.few_groups;
      few_items = are.few_items;
      few_closed = omega (arith, lt, few, more);
      regular = are.regular;
    }
next_orderly _ b regular are comes = absurd comes

pub stays_orderly : (r : Record) (old new : Building) → IsRegularRecord r → IsOrderly old → MayComeNext old r → new ≡ with_next old r → IsOrderly new
stays_orderly r old new regular are comes is = subst IsOrderly (sym is) (next_orderly r old regular are comes)

-- ---- the records that were told

pub begins_built : (r : Record) (b : Building) → MayRebuild r → BeginsAs r b → IsBuilt (r ∷ []) b
begins_built (Turned n o groups items closed) b begins is =
    let g : groups ≡ 0 + groups = omega arith in
    let i : items ≡ 0 + items = omega arith in
    let c : closed ≡ 0 + closed = omega arith in
    subst (IsBuilt (Turned n o groups items closed ∷ [])) (sym is) (record { number = n; is = cc; items_later = λ lt. refl; closed_later = λ lt. refl })
begins_built _ b begins is = absurd begins

-- the records with one more are these, where counts and stock are
told_more : (records : List Record) (r turned : Record) (stock more : List Record) → records ≡ turned ∷ stock → stock ++ r ∷ [] ≡ more →
    records ++ r ∷ [] ≡ turned ∷ more
told_more records r turned stock more is same = ap (λ (l : List Record). l ++ r ∷ []) is ∙ ap (λ (l : List Record). turned ∷ l) same

nothing_later : (set : List Item) (closed : List (List ℕ × Outcome)) → set ≡ [] → closed ≡ [] → map Kept set ++ map ended closed ≡ []
nothing_later set closed no_items no_closed = ap (λ (s : List Item). map Kept s ++ map ended closed) no_items ∙ ap (map ended) no_closed

next_built : (records : List Record) (b : Building) (r : Record) → IsBuilt records b → MayComeNext b r → IsBuilt (records ++ r ∷ []) (with_next b r)
next_built records b (Grouped g) built comes =
    let lt = comes.0 in
    let more = length-append b.groups (g ∷ []) in
    let count : length b.groups + b.groups_to_come ≡ length (b.groups ++ g ∷ []) + (b.groups_to_come - 1) = omega (arith, lt, more) in
    let no_items = built.items_later lt in
    let no_closed = built.closed_later (omega (arith, lt)) in
    record {
      number = built.number;
      is = told_more records (Grouped g)
          (Turned built.number b.origin (length b.groups + b.groups_to_come) (length b.set + b.items_to_come) (length b.closed + b.closed_to_come))
          (stock_of (device_of b)) (stock_of (device_of (with_next b (Grouped g)))) built.is
          (at_end Grouped b.groups g (map Kept b.set ++ map ended b.closed) (nothing_later b.set b.closed no_items no_closed))
          ∙ ap (λ (n : ℕ). Turned built.number b.origin n (length b.set + b.items_to_come) (length b.closed + b.closed_to_come) ∷
          stock_of (device_of (with_next b (Grouped g)))) count;
      items_later = λ (later : 0 < b.groups_to_come - 1). no_items;
      closed_later = λ (later : 0 < (b.groups_to_come - 1) + b.items_to_come). no_closed;
    }
next_built records b (Kept i) built comes =
    let none = comes.0 in
    let lt = comes.1 in
    let more = length-append b.set (i ∷ []) in
    let count : length b.set + b.items_to_come ≡ length (b.set ++ i ∷ []) + (b.items_to_come - 1) = omega (arith, lt, more) in
    let no_closed = built.closed_later (omega (arith, lt)) in
    record {
      number = built.number;
      is = told_more records (Kept i)
          (Turned built.number b.origin (length b.groups + b.groups_to_come) (length b.set + b.items_to_come) (length b.closed + b.closed_to_come))
          (stock_of (device_of b)) (stock_of (device_of (with_next b (Kept i)))) built.is
          (append_assoc (map Grouped b.groups) (map Kept b.set ++ map ended b.closed) (Kept i ∷ [])
          ∙ ap (λ (l : List Record). map Grouped b.groups ++ l) (at_end Kept b.set i (map ended b.closed) (ap (map ended) no_closed)))
          ∙ ap (λ (n : ℕ). Turned built.number b.origin (length b.groups + b.groups_to_come) n (length b.closed + b.closed_to_come) ∷
          stock_of (device_of (with_next b (Kept i)))) count;
      items_later = λ (later : 0 < b.groups_to_come). absurd (omega (arith, later, none));
      closed_later = λ (later : 0 < b.groups_to_come + (b.items_to_come - 1)). no_closed;
    }
next_built records b (Ended id o) built comes =
    let none = comes.0 in
    let nothing = comes.1 in
    let lt = comes.2 in
    let more = length-append b.closed ((id, o) ∷ []) in
    let count : length b.closed + b.closed_to_come ≡ length (b.closed ++ (id, o) ∷ []) + (b.closed_to_come - 1) = omega (arith, lt, more) in
    record {
      number = built.number;
      is = told_more records (Ended id o)
          (Turned built.number b.origin (length b.groups + b.groups_to_come) (length b.set + b.items_to_come) (length b.closed + b.closed_to_come))
          (stock_of (device_of b)) (stock_of (device_of (with_next b (Ended id o)))) built.is
          (append_assoc (map Grouped b.groups) (map Kept b.set ++ map ended b.closed) (Ended id o ∷ [])
          ∙ ap (λ (l : List Record). map Grouped b.groups ++ l)
          (append_assoc (map Kept b.set) (map ended b.closed) (Ended id o ∷ []) ∙ ap (λ (l : List Record). map Kept b.set ++ l)
          (sym (map-append ended b.closed ((id, o) ∷ [])))))
          ∙ ap (λ (n : ℕ). Turned built.number b.origin (length b.groups + b.groups_to_come) (length b.set + b.items_to_come) n ∷
          stock_of (device_of (with_next b (Ended id o)))) count;
      items_later = λ (later : 0 < b.groups_to_come). absurd (omega (arith, later, none));
      closed_later = λ (later : 0 < b.groups_to_come + b.items_to_come). absurd (omega (arith, later, none, nothing));
    }
next_built records b _ built comes = absurd comes

pub built_more : (records : List Record) (r : Record) (old new : Building) → IsBuilt records old → MayComeNext old r → new ≡ with_next old r →
    IsBuilt (records ++ r ∷ []) new
built_more records r old new built comes is = subst (IsBuilt (records ++ r ∷ [])) (sym is) (next_built records old r built comes)

-- ---- a front that begins with the records that were told

-- how the device agrees with what came, and what stands behind that
record Agrees (b : Building) (d : Device) (rest : List Record) : Type 0 where
  has : HasFront d
  origin : d.origin ≡ Some b.origin
  groups : length d.groups ≡ length b.groups + b.groups_to_come
  items : length d.set ≡ length b.set + b.items_to_come
  closed : length d.closed ≡ length b.closed + b.closed_to_come
  stock : map Grouped d.groups ++ (map Kept d.set ++ map ended d.closed) ≡ map Grouped b.groups ++ (map Kept b.set ++ (map ended b.closed ++ rest))

agrees : (records rest : List Record) (b : Building) (d : Device) → IsBuilt records b → IsFrontOf (records ++ rest) d → Agrees b d rest
agrees records rest b d built front = by d.origin refl front.has.origin front.is
  where
    by : (o : Option Origin) → d.origin ≡ o → IsSome o → records ++ rest ≡ front_by front.number d o → Agrees b d rest
    by None is some same = absurd cc
    by (Some o) is some same =
        let whole : Turned built.number b.origin (length b.groups + b.groups_to_come) (length b.set + b.items_to_come) (length b.closed + b.closed_to_come) ∷
        (stock_of (device_of b) ++ rest)
        ≡ Turned front.number o (length d.groups) (length d.set) (length d.closed) ∷ stock_of d = sym (ap (λ (l : List Record). l ++ rest) built.is) ∙ same in
        let origin : o ≡ b.origin = cc in
        let stock : stock_of d ≡ stock_of (device_of b) ++ rest = cc in
        record {
          has = front.has;
          origin = is ∙ ap (λ (x : Origin). Some x) origin;
          groups = cc;
          items = cc;
          closed = cc;
          stock = stock ∙ append_assoc (map Grouped b.groups) (map Kept b.set ++ map ended b.closed) rest
              ∙ ap (λ (l : List Record). map Grouped b.groups ++ l) (append_assoc (map Kept b.set) (map ended b.closed) rest);
        }

pub none_or_some : (n : ℕ) → (n ≡ 0) ⊎ (0 < n)
none_or_some zero = inl refl
none_or_some (suc n) = inr (omega arith)

module _ (b : Building) (d : Device) (rest : List Record) (a : Agrees b d rest) where
  -- a group stands next
  next_group : 0 < b.groups_to_come → b.set ≡ [] → b.closed ≡ [] → Beyond Grouped b.groups d.groups (map Kept d.set ++ map ended d.closed) rest
  next_group lt no_items no_closed =
      let count = a.groups in
      let next = beyond Grouped one_group b.groups d.groups (map Kept d.set ++ map ended d.closed) (map Kept b.set ++ (map ended b.closed ++ rest))
      (omega (arith, count, lt)) a.stock in
      let behind : map Kept b.set ++ (map ended b.closed ++ rest) ≡ rest = ap (λ (s : List Item). map Kept s ++ (map ended b.closed ++ rest)) no_items ∙ ap
      (λ (c : List (List ℕ × Outcome)). map ended c ++ rest) no_closed in
      record { element = next.element; more = next.more; split = next.split; rest = sym behind ∙ next.rest }

  -- the groups came
  groups_came : b.groups_to_come ≡ 0 → (d.groups ≡ b.groups) × (map Kept d.set ++ map ended d.closed ≡ map Kept b.set ++ (map ended b.closed ++ rest))
  groups_came none =
      let count = a.groups in
      alike Grouped one_group b.groups d.groups (map Kept d.set ++ map ended d.closed) (map Kept b.set ++ (map ended b.closed ++ rest))
      (omega (arith, count, none)) a.stock

  next_item : b.groups_to_come ≡ 0 → 0 < b.items_to_come → b.closed ≡ [] → Beyond Kept b.set d.set (map ended d.closed) rest
  next_item none lt no_closed =
      let count = a.items in
      let next = beyond Kept one_item b.set d.set (map ended d.closed) (map ended b.closed ++ rest) (omega (arith, count, lt)) (groups_came none).1 in
      record {
        element = next.element;
        more = next.more;
        split = next.split;
        rest = sym (ap (λ (c : List (List ℕ × Outcome)). map ended c ++ rest) no_closed)
            ∙ next.rest;
      }

  items_came : b.groups_to_come ≡ 0 → b.items_to_come ≡ 0 → (d.set ≡ b.set) × (map ended d.closed ++ [] ≡ map ended b.closed ++ rest)
  items_came none nothing =
      let count = a.items in
      let came = alike Kept one_item b.set d.set (map ended d.closed) (map ended b.closed ++ rest) (omega (arith, count, nothing)) (groups_came none).1 in
      (came.0, append-nil (map ended d.closed) ∙ came.1)

  next_closed : b.groups_to_come ≡ 0 → b.items_to_come ≡ 0 → 0 < b.closed_to_come → Beyond ended b.closed d.closed [] rest
  next_closed none nothing lt =
      let count = a.closed in
      beyond ended one_ended b.closed d.closed [] rest (omega (arith, count, lt)) (items_came none nothing).1

  all_came : b.groups_to_come ≡ 0 → b.items_to_come ≡ 0 → b.closed_to_come ≡ 0 → (d.closed ≡ b.closed) × ([] ≡ rest)
  all_came none nothing no_more =
      let count = a.closed in
      alike ended one_ended b.closed d.closed [] rest (omega (arith, count, no_more)) (items_came none nothing).1

-- the record that stands next in a front comes
pub comes : (records rest : List Record) (r : Record) (b : Building) (d : Device) → IsBuilt records b → IsFrontOf (records ++ r ∷ rest) d → MayComeNext b r
comes records rest r b d built front =
    elim (none_or_some b.groups_to_come) [
      | inr lt ↦ (
          let next = next_group b d (r ∷ rest) a lt (built.items_later lt) (built.closed_later (omega (arith, lt))) in
          let is : r ≡ Grouped next.element = let e = next.rest in cc in
          let new = new_group d.groups b.groups next.element next.more next.split a.has.sound.groups in
          subst (MayComeNext b) (sym is) (lt, new.0, new.1))
      | inl none ↦ behind_groups none (none_or_some b.items_to_come)
    ]
  where
    a : Agrees b d (r ∷ rest)
    a = agrees records (r ∷ rest) b d built front

    behind_items : b.groups_to_come ≡ 0 → b.items_to_come ≡ 0 → (b.closed_to_come ≡ 0) ⊎ (0 < b.closed_to_come) → MayComeNext b r
    behind_items none nothing (inr lt) =
        let next = next_closed b d (r ∷ rest) a none nothing lt in
        let is : r ≡ ended next.element = let e = next.rest in cc in
        subst (MayComeNext b) (sym is) (none, nothing, lt, new_closed d.closed b.closed next.element next.more next.split a.has.sound.closed)
    behind_items none nothing (inl no_more) = let e = (all_came b d (r ∷ rest) a none nothing no_more).1 in absurd cc

    behind_groups : b.groups_to_come ≡ 0 → (b.items_to_come ≡ 0) ⊎ (0 < b.items_to_come) → MayComeNext b r
    behind_groups none (inr lt) =
        let next = next_item b d (r ∷ rest) a none lt (built.closed_later (omega (arith, lt))) in
        let is : r ≡ Kept next.element = let e = next.rest in cc in
        subst (MayComeNext b) (sym is) (none, lt)
    behind_groups none (inl nothing) = behind_items none nothing (none_or_some b.closed_to_come)

-- ---- the end

abbrev device_with : Option Origin → List Group → List Item → List (List ℕ × Outcome) → Option Pending → Device
device_with origin groups set closed pending = record { origin = origin; groups = groups; set = set; closed = closed; pending = pending }

same_fields : (o p : Option Origin) (gs hs : List Group) (s t : List Item) (c e : List (List ℕ × Outcome)) (q r : Option Pending)
    → o ≡ p → gs ≡ hs → s ≡ t → c ≡ e → q ≡ r → device_with o gs s c q ≡ device_with p hs t e r
same_fields o p gs hs s t c e q r origin groups set closed pending =
    ap (λ x. device_with x gs s c q) origin ∙ ap (λ x. device_with p x s c q) groups ∙ ap (λ x. device_with p hs x c q) set
    ∙ ap (λ x. device_with p hs t x q) closed ∙ ap (λ x. device_with p hs t e x) pending

-- where none is still to come, the front ends there, and is that of what came
pub is_all : (records rest : List Record) (b : Building) (d : Device) → IsBuilt records b → IsFrontOf (records ++ rest) d
    → b.groups_to_come ≡ 0 → b.items_to_come ≡ 0 → b.closed_to_come ≡ 0 → ([] ≡ rest) × (d ≡ device_of b)
is_all records rest b d built front none nothing no_more =
    let a = agrees records rest b d built front in
    let groups = groups_came b d rest a none in
    let items = items_came b d rest a none nothing in
    let closed = all_came b d rest a none nothing no_more in (
      closed.1,
      same_fields d.origin (Some b.origin) d.groups b.groups d.set b.set d.closed b.closed d.pending None a.origin groups.0 items.0 closed.0 a.has.idle,
    )

-- the whole front was told: what came is whole
pub is_whole : (records : List Record) (b : Building) (d : Device) → IsBuilt records b → IsFrontOf records d → IsWhole b
is_whole records b d built front =
    let none : b.groups_to_come ≡ 0 = elim (none_or_some b.groups_to_come) [
      | inl none ↦ none
      | inr lt ↦ (let e = (next_group b d [] a lt (built.items_later lt) (built.closed_later (omega (arith, lt)))).rest in absurd cc)
    ] in
    let nothing : b.items_to_come ≡ 0 = elim (none_or_some b.items_to_come) [
      | inl nothing ↦ nothing
      | inr lt ↦ (let e = (next_item b d [] a none lt (built.closed_later (omega (arith, lt)))).rest in absurd cc)
    ] in
    let no_more : b.closed_to_come ≡ 0 = elim (none_or_some b.closed_to_come) [
      | inl no_more ↦ no_more
      | inr lt ↦ (let e = (next_closed b d [] a none nothing lt).rest in absurd cc)
    ] in
    record {
      no_groups = none;
      no_items = nothing;
      no_closed = no_more;
      items = subst (AreItems b.origin.platform) (items_came b d [] a none nothing).0 (subst (λ (o : Option Origin). AreItemsFor o d.set) a.origin
          a.has.sound.set);
    }
  where
    whole : IsFrontOf (records ++ []) d
    whole = subst (λ (l : List Record). IsFrontOf l d) (sym (append-nil records)) front

    a : Agrees b d []
    a = agrees records [] b d built whole

-- what came is sound, and its front are the records that were told
pub whole_sound : (b : Building) → IsOrderly b → IsWhole b → IsSound (device_of b)
whole_sound b are whole = record { root = are.root; groups = are.groups; set = whole.items; closed = are.closed; pending = tt }

pub whole_front : (records : List Record) (b : Building) → IsOrderly b → IsWhole b → IsBuilt records b → IsFrontOf records (device_of b)
whole_front records b are whole built =
    let none = whole.no_groups in
    let nothing = whole.no_items in
    let no_more = whole.no_closed in
    let g : length b.groups + b.groups_to_come ≡ length b.groups = omega (arith, none) in
    let i : length b.set + b.items_to_come ≡ length b.set = omega (arith, nothing) in
    let c : length b.closed + b.closed_to_come ≡ length b.closed = omega (arith, no_more) in
    record {
      has = record { origin = refl; idle = refl; sound = whole_sound b are whole };
      number = built.number;
      is = built.is
          ∙ ap (λ (n : ℕ). Turned built.number b.origin n (length b.set + b.items_to_come) (length b.closed + b.closed_to_come) ∷ stock_of (device_of b)) g
          ∙ ap (λ (n : ℕ). Turned built.number b.origin (length b.groups) n (length b.closed + b.closed_to_come) ∷ stock_of (device_of b)) i
          ∙ ap (λ (n : ℕ). Turned built.number b.origin (length b.groups) (length b.set) n ∷ stock_of (device_of b)) c;
    }

-- ---- how a front begins

pub no_empty_front : IsNoFront []
no_empty_front d front = by d.origin front.has.origin front.is
  where
    by : (o : Option Origin) → IsSome o → [] ≡ front_by front.number d o → ⊥
    by None some is = absurd cc
    by (Some o) some is = absurd cc

few_items : (o : Option Origin) (items : List Item) → AreItemsFor o items → length items ≤ most_elements
few_items None items are = let none = ap length are in omega (arith, none)
few_items (Some o) items are = are.few

pub front_begins : (r : Record) (rest : List Record) (d : Device) → IsFrontOf (r ∷ rest) d → MayRebuild r
front_begins r rest d front = by d.origin front.has.origin front.is front.has.sound.root
  where
    by : (o : Option Origin) → IsSome o → r ∷ rest ≡ front_by front.number d o → IfSome o (λ x. length x.root ≤ most_root) → MayRebuild r
    by None some is root = absurd cc
    by (Some o) some is root =
        let first : r ≡ Turned front.number o (length d.groups) (length d.set) (length d.closed) = cc in
        subst MayRebuild (sym first) (root, front.has.sound.groups.few, few_items d.origin d.set front.has.sound.set, front.has.sound.closed.few)

-- ---- one device

pub one_front : FrontsAreOne
one_front records d e x y = by d.origin refl x.has.origin x.is
  where
    by : (o : Option Origin) → d.origin ≡ o → IsSome o → records ≡ front_by x.number d o → d ≡ e
    by None is some same = absurd cc
    by (Some o) is some same =
        let g : length d.groups + 0 ≡ length d.groups = omega arith in
        let i : length d.set + 0 ≡ length d.set = omega arith in
        let c : length d.closed + 0 ≡ length d.closed = omega arith in
        let b : Building = record { origin = o; groups = d.groups; set = d.set; closed = d.closed; groups_to_come = 0; items_to_come = 0; closed_to_come = 0 }
        in
        let built : IsBuilt records b = record {
          number = x.number;
          is = cc;
          items_later = λ lt. absurd (omega (arith, lt));
          closed_later =
              λ lt. absurd (omega (arith, lt));
        } in
        let all = is_all records [] b e built (subst (λ (l : List Record). IsFrontOf l e) (sym (append-nil records)) y) refl refl refl in
        same_fields d.origin (Some o) d.groups d.groups d.set d.set d.closed d.closed d.pending None is refl refl refl x.has.idle ∙ sym all.1
