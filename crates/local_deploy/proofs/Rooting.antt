-- The roots of a list, each with its update.
use Rattle.std.proofs.Common.{◌≡◌, ℕ, ◌≤◌, List, [], ◌∷◌, ◌++◌, Bool, true, false, cond, ◌||◌, length, map, refl, sym, ap, subst, ◌∙◌, arith, lit≤}
use Rattle.std.proofs.Common.{append_assoc}
use Rattle.std.specs.Prelude.{Option, Some, None, IfSome, IsSome, if◌then◌else◌, ◌&&◌, not}
use Rattle.std.specs.Cmp.Lexicographic.{slice_cmp, nat_list_cmp_total, nat_list_eq_equiv}
use Rattle.std.specs.List.{All, AllByRecursion, Contains, list_any}
use Rattle.std.specs.List.Sorted.{IsStrictlySortedBy}
use Rattle.std.specs.Map.{keys_of}
use Rattle.std.specs.Option.{is_some}
use Rattle.std.specs.Ordering.{nat_cmp, is_eq, is_gt, ordering_reverse}
use Rattle.std.specs.Str.{bytes_eq}
use Rattle.std.specs.declared.cmp.Ordering.TheVariants.{Less, Greater}
use Rattle.std.proofs.lemmas.List.{length-map}
use Rattle.std.proofs.lemmas.List.Elements.{All-nil, All-cons, All-head, All-tail}
use Rattle.std.proofs.lemmas.Map.Keys.{sorted_head}
use Rattle.std.proofs.lemmas.Map.Made.{is_some-lookup}
use Rattle.std.proofs.lemmas.Map.Text.{is_eq-slice_cmp}
use Rattle.std.proofs.lemmas.Map.Views.{IsSome-lookup_from_Contains, Contains-keys_from_lookup}
use Rattle.std.proofs.lemmas.Slice.Eq.{bytes_eq-Decides}
use Rattle.nuc_base.specs.Names.{IsLabel}
use Rattle.config_ops.specs.declared.update.Update.{Update}
use Rattle.records.specs.Layout.{is_label}
use Rattle.records.proofs.Leaves.{label_says}
use Rattle.records.specs.declared.record.Group.{Group}
use Rattle.records.specs.declared.record.Requirement.{Requirement}
use Rattle.deployment_doc.specs.Sound.{AreSound, MergesObject, UpdatesByObject as RootByObject, root_name}
use Rattle.deployment_doc.specs.declared.document.Root.{Root}
use Rattle.device.specs.Grouped.{find_group}
use Rattle.device.specs.Plans.{AreRequirements, requirement_name}
use Rattle.local_deploy.specs.Documents.{HasNone, IsLeast, IsUnlisted, root_for}
use Rattle.local_deploy.specs.Lists.{Asked, asked_in, range_at, local_arn, local_requirements}
use Rattle.local_deploy.specs.Sound.{UpdatesByObject}
use Rattle.local_deploy.proofs.Least.{none_at}
use Rattle.local_deploy.proofs.Lookups.{Entries, Puts, put_at}

bytes_are : (x y : List ℕ) → bytes_eq x y ≡ true → x ≡ y
bytes_are x y is = (bytes_eq-Decides x y).0 is

bytes_same : (x y : List ℕ) → x ≡ y → bytes_eq x y ≡ true
bytes_same x y is = (bytes_eq-Decides x y).1 is

flipped : (x y : List ℕ) (b : Bool) → bytes_eq x y ≡ b → bytes_eq y x ≡ b
flipped x y true is = bytes_same y x (sym (bytes_are x y is))
flipped x y false is = by (bytes_eq y x) (λ same. bytes_same x y (sym (bytes_are y x same)))
  where
    by : (b : Bool) → (b ≡ true → bytes_eq x y ≡ true) → b ≡ false
    by false same = refl
    by true same = absurd (let both : true ≡ false = sym (same refl) ∙ is in cc)

-- ---- the updates that are left

abbrev pub has_name : {X : Type 0} → List ℕ → Entries X → Bool
has_name q es = list_any (bytes_eq q) (keys_of es)

-- those of the names of the whole list that are not among the rest are taken
abbrev pub IsLeft : Entries Update → Asked → Asked → Entries Update → Type 0
IsLeft old whole rest left = (q : List ℕ) → range_at q left ≡ (if has_name q whole && not (has_name q rest) then None else range_at q old)

abbrev pub AreAmong : Asked → Asked → Type 0
AreAmong rest whole = (q : List ℕ) → has_name q rest ≡ true → has_name q whole ≡ true

apart : (x : List ℕ) (ys : List (List ℕ)) → AllByRecursion (λ y. slice_cmp nat_cmp x y ≡ Less) ys → list_any (bytes_eq x) ys ≡ false
apart x [] h = refl
apart x (y ∷ ys) h =
    let other : bytes_eq x y ≡ false = sym (is_eq-slice_cmp x y) ∙ ap is_eq h.0 in
    ap (λ (b : Bool). b || list_any (bytes_eq x) ys) other ∙ apart x ys h.1

module _ (old : Entries Update) (whole : Asked) where
  pub left_start : IsLeft old whole whole old
  left_start q = by (has_name q whole)
    where
      by : (b : Bool) → range_at q old ≡ (if b && not b then None else range_at q old)
      by true = refl
      by false = refl

  -- the next one's is there as it was
  pub next_left : (e : List ℕ × List ℕ) (rest : Asked) (left : Entries Update) → IsLeft old whole (e ∷ rest) left → range_at e.0 left ≡ range_at e.0 old
  next_left e rest left h = h e.0 ∙ by (has_name e.0 whole) (bytes_eq e.0 e.0) (bytes_same e.0 e.0 refl)
    where
      by : (a b : Bool) → b ≡ true → (if a && not (b || has_name e.0 rest) then None else range_at e.0 old) ≡ range_at e.0 old
      by true true is = refl
      by false true is = refl
      by a false is = absurd cc

  pub left_next : (e : List ℕ × List ℕ) (rest : Asked) (left after : Entries Update) → IsLeft old whole (e ∷ rest) left
      → IsStrictlySortedBy (slice_cmp nat_cmp) (keys_of (e ∷ rest)) → AreAmong (e ∷ rest) whole → Puts left e.0 None after → IsLeft old whole rest after
  left_next e rest left after h rises among puts q =
      put_at left after e.0 None puts q ∙ ap (λ o. cond (bytes_eq e.0 q) None o) (h q)
      ∙ by (bytes_eq e.0 q) (bytes_eq q e.0) (has_name q whole) (has_name q rest) refl (flipped e.0 q (bytes_eq e.0 q) refl) (among q) gone
    where
      gone : bytes_eq e.0 q ≡ true → has_name q rest ≡ false
      gone same = subst (λ (n : List ℕ). has_name n rest ≡ false) (bytes_are e.0 q same)
          (apart e.0 (keys_of rest) (sorted_head (slice_cmp nat_cmp) e.0 (keys_of rest) rises))

      by : (a b f r : Bool) → bytes_eq e.0 q ≡ a → b ≡ a → ((b || r) ≡ true → f ≡ true) → (bytes_eq e.0 q ≡ true → r ≡ false)
          → cond a None (if f && not (b || r) then None else range_at q old) ≡ (if f && not r then None else range_at q old)
      by true true true false is same within away = refl
      by true true f true is same within away = absurd (let both = away is in cc)
      by true true false false is same within away = absurd (let both = within refl in cc)
      by true false f r is same within away = absurd cc
      by false false f r is same within away = refl
      by false true f r is same within away = absurd cc

  pub left_end : (left : Entries Update) → IsLeft old whole [] left → (q : List ℕ) → range_at q left ≡ (if has_name q whole then None else range_at q old)
  left_end left h q = h q ∙ by (has_name q whole)
    where
      by : (b : Bool) → (if b && true then None else range_at q old) ≡ (if b then None else range_at q old)
      by true = refl
      by false = refl

pub among_start : (whole : Asked) → AreAmong whole whole
among_start whole q has = has

pub among_next : (e : List ℕ × List ℕ) (rest whole : Asked) → AreAmong (e ∷ rest) whole → AreAmong rest whole
among_next e rest whole among q has = among q (by (bytes_eq q e.0))
  where
    by : (b : Bool) → (b || has_name q rest) ≡ true
    by true = refl
    by false = has

-- ---- one more root

pub root_is : (old : Entries Update) (x : Root) (e : List ℕ × List ℕ) → x.name ≡ e.0 → x.range ≡ e.1 → x.update ≡ range_at e.0 old → x ≡ root_for old e
root_is old x e name range update =
    ap (λ (a : List ℕ). record { name = a; range = x.range; update = x.update }) name
    ∙ ap (λ (a : List ℕ). record { name = e.0; range = a; update = x.update }) range
    ∙ ap (λ (a : Option Update). record { name = e.0; range = e.1; update = a }) update

pub pushes : (old : Entries Update) (whole rest more : Asked) (e : List ℕ × List ℕ) (done : List Root) (x : Root) → rest ≡ e ∷ more → x ≡ root_for old e
    → done ++ map (root_for old) rest ≡ map (root_for old) whole → (done ++ x ∷ []) ++ map (root_for old) more ≡ map (root_for old) whole
pushes old whole rest more e done x split is made =
    append_assoc done (x ∷ []) (map (root_for old) more)
    ∙ ap (λ (l : List Root). done ++ l) (ap (λ (y : Root). y ∷ map (root_for old) more) is ∙ sym (ap (map (root_for old)) split))
    ∙ made

pub roots_same : (a b : Entries Update) → ((q : List ℕ) → range_at q a ≡ range_at q b) → (es : Asked) → map (root_for a) es ≡ map (root_for b) es
roots_same a b same [] = refl
roots_same a b same (e ∷ es) =
    ap (λ (o : Option Update). record { name = e.0; range = e.1; update = o } ∷ map (root_for a) es) (same e.0)
    ∙ ap (λ (l : List Root). root_for b e ∷ l) (roots_same a b same es)

-- ---- the roots are sound

names_same : (us : Entries Update) (es : Asked) → map root_name (map (root_for us) es) ≡ keys_of es
names_same us [] = refl
names_same us (e ∷ es) = ap (λ (l : List (List ℕ)). e.0 ∷ l) (names_same us es)

one_merges : (us : Entries Update) (q : List ℕ) → All UpdatesByObject us → IfSome (range_at q us) MergesObject
one_merges [] q h = tt
one_merges (u ∷ us) q h = by (bytes_eq q u.0) (one_merges us q (All-tail UpdatesByObject u us h))
  where
    by : (b : Bool) → IfSome (range_at q us) MergesObject → IfSome (cond b (Some u.1) (range_at q us)) MergesObject
    by true rest = All-head UpdatesByObject u us h
    by false rest = rest

all_merge : (us : Entries Update) (es : Asked) → All UpdatesByObject us → All RootByObject (map (root_for us) es)
all_merge us [] h = All-nil RootByObject
all_merge us (e ∷ es) h = All-cons RootByObject (root_for us e) (map (root_for us) es) (one_merges us e.0 h) (all_merge us es h)

pub roots_sound : (us : Entries Update) (es : Asked) → length es ≤ 128 → IsStrictlySortedBy (slice_cmp nat_cmp) (keys_of es) → All UpdatesByObject us
    → AreSound (map (root_for us) es)
roots_sound us es few rises h = record {
  few = let long = length-map es (root_for us) in omega (arith, long, few);
  rising = subst (IsStrictlySortedBy (slice_cmp nat_cmp)) (sym (names_same us es)) rises;
  merges = all_merge us es h;
}

-- ---- what the group requires

pub asked_names : (rs : List Requirement) → keys_of (asked_in rs) ≡ map requirement_name rs
asked_names [] = refl
asked_names (r ∷ rs) = ap (λ (l : List (List ℕ)). r.name ∷ l) (asked_names rs)

no_requirements : AreRequirements []
unfolding IsStrictlySortedBy
no_requirements = record { few = lit≤ tt; rise = tt }

found_sound : (arn : List ℕ) (groups : List Group) → AllByRecursion (λ (g : Group). AreRequirements g.requirements) groups
    → IfSome (find_group arn groups) (λ (g : Group). AreRequirements g.requirements)
found_sound arn [] all = tt
found_sound arn (g ∷ groups) all = by (bytes_eq arn g.arn) (found_sound arn groups all.1)
  where
    by : (b : Bool) → IfSome (find_group arn groups) (λ (h : Group). AreRequirements h.requirements)
        → IfSome (if b then Some g else find_group arn groups) (λ (h : Group). AreRequirements h.requirements)
    by true more = all.0
    by false more = more

pub local_sound : (groups : List Group) → AllByRecursion (λ (g : Group). AreRequirements g.requirements) groups → AreRequirements (local_requirements groups)
local_sound groups all = by (find_group local_arn groups) refl (found_sound local_arn groups all)
  where
    by : (o : Option Group) → find_group local_arn groups ≡ o → IfSome o (λ (h : Group). AreRequirements h.requirements)
        → AreRequirements (local_requirements groups)
    by None is h = rw is no_requirements
    by (Some g) is h = rw is h

-- ---- the group's arn

pub local_is_label : IsLabel local_arn
unfolding is_label
local_is_label = label_says local_arn refl

-- ---- updates at names that are not listed

module _ (us : Entries Update) (es : Asked) (left : Entries Update)
    (taken : (q : List ℕ) → range_at q left ≡ (if has_name q es then None else range_at q us)) where
  not_there : (q : List ℕ) → range_at q es ≡ None → has_name q es ≡ false
  not_there q none = sym (is_some-lookup (bytes_eq q) es) ∙ ap is_some none

  -- the update of an unlisted name is left
  unlisted_left : (q : List ℕ) → range_at q es ≡ None → range_at q left ≡ range_at q us
  unlisted_left q none = taken q ∙ ap (λ (b : Bool). if b then None else range_at q us) (not_there q none)

  updated : (q : List ℕ) → Contains (keys_of us) q → IsSome (range_at q us)
  updated q has = IsSome-lookup_from_Contains nat_list_eq_equiv q us has

  pub all_listed : left ≡ [] → HasNone (IsUnlisted es us)
  all_listed empty q p =
      let none : range_at q us ≡ None = sym (unlisted_left q p.1) ∙ ap (range_at q) empty in
      let no : false ≡ true = subst (λ (o : Option Update). IsSome o) none (updated q p.0) in
      absurd cc

  is_listed : (q : List ℕ) (u : Update) → range_at q left ≡ Some u → (has_name q es ≡ false) × (range_at q us ≡ Some u)
  is_listed q u is = by (has_name q es) refl (sym (taken q) ∙ is)
    where
      by : (b : Bool) → has_name q es ≡ b → (if b then None else range_at q us) ≡ Some u → (has_name q es ≡ false) × (range_at q us ≡ Some u)
      by true here found = absurd cc
      by false here found = (here, found)

  -- the first that is left is the least
  pub first_left : (q : List ℕ) (u : Update) → range_at q left ≡ Some u
      → ((other : List ℕ) → IsSome (range_at other left) → is_gt (slice_cmp nat_cmp q other) ≡ false) → IsLeast (IsUnlisted es us) q
  first_left q u is bound =
      let l = is_listed q u is in
      record {
        holds = (
          Contains-keys_from_lookup bytes_are q us (subst (λ (o : Option Update). IsSome o) (sym l.1) refl),
          none_at (range_at q es) (is_some-lookup (bytes_eq q) es ∙ l.0),
        );
        least = λ other p less.
            let there : IsSome (range_at other left) = subst (λ (o : Option Update). IsSome o) (sym (unlisted_left other p.1)) (updated other p.0) in
            let after : slice_cmp nat_cmp q other ≡ Greater = nat_list_cmp_total.antisymm q other ∙ ap ordering_reverse less in
            let both : true ≡ false = sym (ap is_gt after) ∙ bound other there in
            cc;
      }
