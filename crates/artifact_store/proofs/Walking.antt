-- The steps of the walks over files and items.
use Rattle.std.proofs.Common.{◌≡◌, ◌≢◌, ℕ, ◌+◌, ◌<◌, ◌≤◌, List, [], ◌∷◌, ◌++◌, length, map, drop, take, get_or, refl, sym, ap, subst, ◌∙◌, inl, inr, arith}
use Rattle.std.specs.Prelude.{Bool, true, false, ◌||◌, nat_eq, Option, Some, None, Ok, IfSome}
use Rattle.std.specs.Option.{IsSome}
use Rattle.std.specs.List.{AllByRecursion, AllZip, Contains, list_any}
use Rattle.std.specs.Cmp.Lexicographic.{pointwise, bytes_decides}
use Rattle.std.proofs.lemmas.Bool.{and_parts, or_cases, false≢true}
use Rattle.std.proofs.lemmas.List.{drop_more, drop_all, take-append-drop}
use Rattle.std.proofs.lemmas.List.Elements.{Contains-append_right}
use Rattle.nuc_base.proofs.Lists.{in_here, in_there, in_nil, in_cons}
use Rattle.nuc_base.specs.Names.{IsName}
use Rattle.npm_ranges.specs.Versions.{IsVersion}
use Rattle.nuc_base.specs.Tables.{AllHold}
use Rattle.nuc_base.specs.declared.artifact.Artifact.{Artifact}
use Rattle.sha2.specs.Sha256.{sha256}
use Rattle.disk_model.specs.Disk.{Image, IsAfter, HasLeft, DiskLaws}
use Rattle.disk_model.specs.Moments.{now, at_start, weaker, then_spares, none_spares, spares_more}
use Rattle.disk_model.specs.Spares.{IsSameBut, IsFile}
use Rattle.library_core.specs.Library.{Artifacts, Content}
use Rattle.records.specs.Stored.{Item, DraftItem}
use Rattle.records.specs.declared.record.Held.{Held}
use Rattle.device.specs.Plans.{IsHeldFor}
use Rattle.device.specs.Filled.{ItemFilled}
use Rattle.artifact_store.specs.Filled.{FillsFile, IsDigestOf}
use Rattle.recipe_reader.specs.Sound.{artifact_file}
use Rattle.artifact_store.specs.Staged.{KeepsFiles, is_same, is_kept, IsNew, HasKeptFile, IsGiven, IsStagedOf, StagesBy, item_lines}
use Rattle.artifact_store.specs.Holding.{AllHoldItems, HoldsFiles, HoldsItem, HoldsItems}
use Rattle.artifact_store.specs.Paths.{path, IsNamed, IsNamedDraft}
use Rattle.artifact_store.proofs.Staging.{IsAsGiven, Apart, files_more, kept_stay, items_stay, push_each, kept_item}

-- ---- a walk by index

pub next_is : {A : Type 0} (xs all : List A) (i : ℕ) (x : A) → xs ≡ all → i < length xs → x ≡ get_or xs i x → drop i all ≡ x ∷ drop (i + 1) all
next_is xs all i x same below is = subst (λ ys. drop i ys ≡ x ∷ drop (i + 1) ys) same (drop_more xs i x below ∙ ap (λ y. y ∷ drop (i + 1) xs) (sym is))

pub end_is : {A : Type 0} (xs all : List A) (i : ℕ) → xs ≡ all → length xs ≤ i → drop i all ≡ []
end_is xs all i same past = subst (λ ys. drop i ys ≡ []) same (drop_all i xs past)

pub next_in : {A : Type 0} (all : List A) (i : ℕ) (x : A) (rest : List A) → drop i all ≡ x ∷ rest → Contains all x
next_in all i x rest is =
    let there : Contains (drop i all) x = subst (λ ys. Contains ys x) (sym is) (in_here x rest) in
    subst (λ ys. Contains ys x) (take-append-drop i all) (Contains-append_right (take i all) (drop i all) x there)

-- ---- whether an item is kept

pub same_means : (i : DraftItem) (k : Item) → is_same i k ≡ true → (k.name ≡ i.name) × (k.version ≡ i.version)
same_means i k h =
    let p = and_parts (pointwise nat_eq k.name i.name) (pointwise nat_eq k.version i.version) h in
    ((bytes_decides k.name i.name).0 p.0, (bytes_decides k.version i.version).0 p.1)

same_holds : (i : DraftItem) (k : Item) → k.name ≡ i.name → k.version ≡ i.version → is_same i k ≡ true
same_holds i k name version = rw ((bytes_decides k.name i.name).1 name, (bytes_decides k.version i.version).1 version) refl

pub record IsKeptBy (kept : List Item) (i : DraftItem) : Type 0 where
  pub one : Item
  pub there : Contains kept one
  pub name : one.name ≡ i.name
  pub version : one.version ≡ i.version

kept_there : (k : Item) (kept : List Item) (i : DraftItem) → IsKeptBy kept i → IsKeptBy (k ∷ kept) i
kept_there k kept i by = record { one = by.one; there = in_there k kept by.one by.there; name = by.name; version = by.version }

pub kept_found : (kept : List Item) (i : DraftItem) → is_kept kept i ≡ true → IsKeptBy kept i
kept_found [] i h = absurd (false≢true h)
kept_found (k ∷ kept) i h = elim (or_cases (is_same i k) (list_any (is_same i) kept) h) [
  | inl e ↦ record { one = k; there = in_here k kept; name = (same_means i k e).0; version = (same_means i k e).1 }
  | inr r ↦ kept_there k kept i (kept_found kept i r)
]

is_kept_here : (k : Item) (kept : List Item) (i : DraftItem) → is_same i k ≡ true → is_kept (k ∷ kept) i ≡ true
is_kept_here k kept i e = rw e refl

or_true : (b : Bool) → (b || true) ≡ true
or_true true = refl
or_true false = refl

kept_shown : (kept : List Item) (i : DraftItem) (k : Item) → Contains kept k → is_same i k ≡ true → is_kept kept i ≡ true
kept_shown [] i k has e = absurd (in_nil k has)
kept_shown (j ∷ kept) i k has e = elim (in_cons j kept k has) [
  | inl same ↦ is_kept_here j kept i (subst (λ (x : Item). is_same i x ≡ true) (sym same) e)
  | inr more ↦ rw (kept_shown kept i k more e) (or_true (is_same i j))
]

pub not_kept : (kept : List Item) (i : DraftItem) → is_kept kept i ≡ false → IsNew kept i
not_kept kept i h k has name version = false≢true (sym h ∙ kept_shown kept i k has (same_holds i k name version))

-- ---- an item that is kept

given_one : (helds : List Held) (a : Artifact) → HasKeptFile helds a → IsGiven a
given_one helds a has = subst (λ (o : Option (List ℕ)). IsSome o) (sym has.3) refl

pub given_of : (helds : List Held) (ones : List Artifact) → AllByRecursion (HasKeptFile helds) ones → AllByRecursion IsGiven ones
given_of helds [] has = tt
given_of helds (a ∷ ones) has = (given_one helds a has.0, given_of helds ones has.1)

held_for : (a : Artifact) (h : Held) → IsAsGiven a h → IsHeldFor a h
held_for a h given = record { file = given.0; digest = subst (λ (o : Option (List ℕ)). IfSome o (λ d. h.digest ≡ d)) (sym given.1) refl }

pub held_fors : (ones : List Artifact) (helds : List Held) → AllZip IsAsGiven ones helds → AllZip IsHeldFor ones helds
held_fors [] [] given = tt
held_fors [] (h ∷ helds) given = absurd given
held_fors (a ∷ ones) [] given = absurd given
held_fors (a ∷ ones) (h ∷ helds) given = (held_for a h given.0, held_fors ones helds given.1)

some_none : (digest : List ℕ) (o : Option (List ℕ)) → o ≡ Some digest → o ≡ None → ⊥
some_none digest o some none = absurd (let both : ◌≡◌ {A = Option (List ℕ)} (Some digest) None = sym some ∙ none in cc both)

pub fills_given : (l : Artifacts) (i : DraftItem) (ones : List Artifact) (helds : List Held) → AllZip IsAsGiven ones helds → AllZip (FillsFile l i) ones helds
fills_given l i [] [] given = tt
fills_given l i [] (h ∷ helds) given = absurd given
fills_given l i (a ∷ ones) [] given = absurd given
fills_given l i (a ∷ ones) (h ∷ helds) given = ((λ none. absurd (some_none h.digest a.digest given.0.1 none)), fills_given l i ones helds given.1)

-- no lines of an item that is kept

none_hold : (l : Artifacts) (kept : List Item) (i : DraftItem) → is_kept kept i ≡ true → AllHold (item_lines l kept i)
none_hold l kept i h = rw h tt

pub kept_stages : {A : Type 0} (l : Artifacts) (kept : List Item) (i : DraftItem) (Is : A → Type 0) (value : A) → is_kept kept i ≡ true → Is value →
    StagesBy (item_lines l kept i) Is (Ok value)
kept_stages l kept i Is value h is = (none_hold l kept i h, is)

-- ---- moments

-- before the first call
module _ {D : Type 0} {is_modelled : Bool} {seen : D → Image} {may_leave : D → Image → Type 0} {moment : D → ℕ} {left_since : D → ℕ → Image → Type 0}
    (laws : DiskLaws is_modelled seen may_leave moment left_since) where
  pub start_spares : (files : List ℕ → Type 0) (d : D) → HasLeft moment left_since d d (IsAfter (may_leave d) (IsSameBut files))
  start_spares files d = weaker laws d d _ _ (none_spares (may_leave d) files) (at_start laws d)

  -- a call that changes some of the files
  pub wider_spares : (fewer files : List ℕ → Type 0) (old new : D) → ((name : List ℕ) → fewer name → files name) →
      HasLeft moment left_since old new (IsAfter (may_leave old) (IsSameBut fewer))
      → HasLeft moment left_since old new (IsAfter (may_leave old) (IsSameBut files))
  wider_spares fewer files old new wider leaves = weaker laws old new _ _ (spares_more (may_leave old) fewer files wider) leaves

  pub more_spares : (fewer files : List ℕ → Type 0) (old mid new : D) → ((name : List ℕ) → fewer name → files name) →
      HasLeft moment left_since old mid (IsAfter (may_leave old) (IsSameBut files))
      → HasLeft moment left_since mid new (IsAfter (may_leave mid) (IsSameBut fewer))
      → HasLeft moment left_since old new (IsAfter (may_leave old) (IsSameBut files))
  more_spares fewer files old mid new wider first second = then_spares laws files old mid new first (wider_spares fewer files mid new wider second)

  -- a file more is held
  pub held_more : (name version : List ℕ) (a : Artifact) (ones : List Artifact) (helds : List Held) (h : Held) (mid new : D)
      → HasLeft moment left_since mid new (IsAfter (may_leave mid) (IsSameBut (IsFile (path name version a.file)))) →
      Apart (λ (g : Held). g.file) artifact_file helds (a ∷ ones) → h.file ≡ a.file
      → ((c : Image) → may_leave new c → sha256 (c (path name version a.file)) ≡ h.digest) → ((c : Image) → may_leave mid c → HoldsFiles c name version helds)
      → (c : Image) → may_leave new c → HoldsFiles c name version (helds ++ h ∷ [])
  held_more name version a ones helds h mid new leaves apart same digest holds c left =
      let was = now laws mid new _ leaves c left in
      files_more name version a ones helds h was.0 c apart same (digest c left) was.2 (holds was.0 was.1)

  -- the kept items stay
  pub kept_more : (kept : List Item) (i : DraftItem) (mid new : D) → AllByRecursion IsNamed kept → IsNamedDraft i →
      HasLeft moment left_since mid new (IsAfter (may_leave mid) (IsSameBut (IsStagedOf kept i)))
      → AllHoldItems (may_leave mid) kept → AllHoldItems (may_leave new) kept
  kept_more kept i mid new named drafted leaves holds c left =
      let was = now laws mid new _ leaves c left in
      kept_stay kept i was.0 c named drafted was.2 (holds was.0 was.1)

  -- and so do those that are taken in, and one more is
  pub items_more : (kept : List Item) (i : DraftItem) (items : List Item) (made : Item) (mid new : D) → AllByRecursion IsNamed items → IsNamedDraft i →
      AllByRecursion (λ o. o.name ≢ i.name) items
      → HasLeft moment left_since mid new (IsAfter (may_leave mid) (IsSameBut (IsStagedOf kept i))) → ((c : Image) → may_leave new c → HoldsItem c made)
      → AllHoldItems (may_leave mid) items → AllHoldItems (may_leave new) (items ++ made ∷ [])
  items_more kept i items made mid new named drafted differ leaves one holds c left =
      let was = now laws mid new _ leaves c left in
      push_each (HoldsItem c) items made (items_stay kept i items was.0 c named drafted differ was.2 (holds was.0 was.1)) (one c left)

pub others_more : (fewer files : List ℕ → Type 0) (old mid new : Image) → ((name : List ℕ) → fewer name → files name) → IsSameBut files old mid →
    IsSameBut fewer mid new → IsSameBut files old new
others_more fewer files old mid new wider first second name spared = second name (λ is. spared (wider name is)) ∙ first name spared

-- ---- a file that is held

pub held_file : (a : Artifact) (h : Held) (digest : List ℕ) → (h.file ≡ a.file) × (h.digest ≡ digest) → IfSome a.digest (λ d. digest ≡ d) → IsHeldFor a h
held_file a h digest held given = record { file = held.0; digest = subst (λ (x : List ℕ). IfSome a.digest (λ d. x ≡ d)) (sym held.1) given }

pub fills_file : (l : Artifacts) (i : DraftItem) (a : Artifact) (h : Held) (digest : List ℕ) → h.digest ≡ digest →
    IsDigestOf (l i.name i.version a.file) digest → FillsFile l i a h
fills_file l i a h digest same is none = subst (λ (x : List ℕ). IsDigestOf (l i.name i.version a.file) x) (sym same) is

-- the kept files of an item that the set has
pub kept_helds : (kept : List Item) (i : DraftItem) (helds : List Held) (image : Image) → HoldsItems image kept → KeepsFiles kept i → IsKeptBy kept i →
    AllZip IsAsGiven i.artifacts helds
    → HoldsFiles image i.name i.version helds
kept_helds kept i helds image holds keeps by given = kept_item kept i by.one helds image holds keeps by.there by.name by.version given

pub kept_given : (kept : List Item) (i : DraftItem) → KeepsFiles kept i → IsKeptBy kept i → AllByRecursion IsGiven i.artifacts
kept_given kept i keeps by = given_of by.one.artifacts i.artifacts (keeps by.one by.there by.name by.version)

-- ---- a walk by an iterator

pub map_push : {X Y : Type 0} (f : X → Y) (xs : List X) (x : X) → map f (xs ++ x ∷ []) ≡ map f xs ++ f x ∷ []
map_push f [] x = refl
map_push f (y ∷ xs) x = ap (λ zs. f y ∷ zs) (map_push f xs x)

pub none_left : {X : Type 0} (xs : List X) → length xs ≡ 0 → xs ≡ []
none_left [] none = refl
none_left (x ∷ xs) none = absurd (omega (arith, none))

pub named_as : (i : DraftItem) (made : Item) → ItemFilled i made → IsNamedDraft i → IsNamed made
named_as i made fills named = (subst IsName (sym fills.name) named.0, subst IsVersion (sym fills.version) named.1)

-- ---- a library that tells the same

pub same_artifacts : {a b : Content} {l : Artifacts} → a ≡ b → b.artifacts ≡ Some l → a.artifacts ≡ Some l
same_artifacts same told = ap (λ (x : Content). x.artifacts) same ∙ told
