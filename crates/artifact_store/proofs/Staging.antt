-- Staging files one after another.
use Rattle.std.proofs.Common.{◌≡◌, ◌≢◌, ℕ, List, [], ◌∷◌, ◌++◌, map, sym, ap, subst, ◌∙◌}
use Rattle.std.specs.Prelude.{false, Some, ⊤}
use Rattle.std.specs.List.{AllByRecursion, AllZip, Contains, IsDistinct}
use Rattle.std.specs.Str.{bytes_eq}
use Rattle.std.specs.Ordering.{nat_cmp, eq_by_cmp}
use Rattle.std.specs.Cmp.Lexicographic.{slice_cmp}
use Rattle.std.proofs.lemmas.List.{append_cancel_left}
use Rattle.std.proofs.lemmas.Bool.{false≢true}
use Rattle.std.proofs.lemmas.Map.Keys.{IsDistinct-from_sorted}
use Rattle.std.proofs.lemmas.Map.Text.{is_eq-slice_cmp}
use Rattle.std.proofs.lemmas.Slice.Eq.{bytes_eq-Decides}
use Rattle.sha2.specs.Sha256.{sha256}
use Rattle.nuc_base.specs.Tables.{Table, each}
use Rattle.nuc_base.specs.declared.artifact.Artifact.{Artifact}
use Rattle.disk_model.specs.Disk.{Image}
use Rattle.disk_model.specs.Listing.{artifacts}
use Rattle.disk_model.specs.Spares.{IsSameBut, IsFile}
use Rattle.records.specs.Stored.{Item, DraftItem}
use Rattle.records.specs.declared.record.Held.{Held}
use Rattle.device.specs.Plans.{AreRising}
use Rattle.artifact_store.specs.Holding.{HoldsFile, HoldsFiles, HoldsItem, HoldsItems}
use Rattle.artifact_store.specs.Paths.{path, IsNamed, IsNamedDraft}
use Rattle.recipe_reader.specs.Sound.{artifact_file}
use Rattle.artifact_store.specs.Staged.{IsStagedOf, HasKeptFile, KeepsFiles}
use Rattle.artifact_store.specs.declared.fault.StageFault.{StageFault}
use Rattle.device.proofs.PlanWhole.{each_of}
use Rattle.nuc_base.proofs.Lists.{in_here}
use Rattle.artifact_store.proofs.Sparing.{holds_files, holds_items, paths_differ, staging_spares}

abbrev pub item_named : Item → List ℕ
item_named i = i.name

-- a line that asks nothing
abbrev pub no_lines : {A : Type 0} → A → Table StageFault
no_lines a = []

-- the kept file of an artifact that has its digest
abbrev pub IsAsGiven : Artifact → Held → Type 0
IsAsGiven a h = (h.file ≡ a.file) × (a.digest ≡ Some h.digest)

-- ---- texts that differ

-- no text stands twice
abbrev pub Differ : List (List ℕ) → Type 0
Differ [] = ⊤
Differ (x ∷ xs) = AllByRecursion (λ y. x ≢ y) xs × Differ xs

others_differ : (x : List ℕ) (ys : List (List ℕ)) → AllByRecursion (λ y. bytes_eq x y ≡ false) ys → AllByRecursion (λ y. x ≢ y) ys
others_differ x [] each = tt
others_differ x (y ∷ ys) each = ((λ same. false≢true (sym each.0 ∙ (bytes_eq-Decides x y).1 same)), others_differ x ys each.1)

pub differ_of : (xs : List (List ℕ)) → IsDistinct bytes_eq xs → Differ xs
unfolding IsDistinct
differ_of [] distinct = tt
differ_of (x ∷ xs) distinct = (others_differ x xs distinct.0, differ_of xs distinct.1)

others_risen : (x : List ℕ) (ys : List (List ℕ)) → AllByRecursion (λ y. eq_by_cmp (slice_cmp nat_cmp) x y ≡ false) ys → AllByRecursion (λ y. x ≢ y) ys
others_risen x [] each = tt
others_risen x (y ∷ ys) each = ((λ same. false≢true (sym each.0 ∙ is_eq-slice_cmp x y ∙ (bytes_eq-Decides x y).1 same)), others_risen x ys each.1)

risen_from : (xs : List (List ℕ)) → IsDistinct (eq_by_cmp (slice_cmp nat_cmp)) xs → Differ xs
unfolding IsDistinct
risen_from [] distinct = tt
risen_from (x ∷ xs) distinct = (others_risen x xs distinct.0, risen_from xs distinct.1)

pub differ_risen : (xs : List (List ℕ)) → AreRising xs → Differ xs
differ_risen xs rise = risen_from xs (IsDistinct-from_sorted (slice_cmp nat_cmp) xs rise)

-- none of these is the text
abbrev pub IsNone : {A : Type 0} → (A → List ℕ) → List ℕ → List A → Type 0
IsNone name x ones = AllByRecursion (λ a. x ≢ name a) ones

none_of : {A : Type 0} (name : A → List ℕ) (x : List ℕ) (ones : List A) → AllByRecursion (λ y. x ≢ y) (map name ones) → IsNone name x ones
none_of name x [] each = tt
none_of name x (a ∷ ones) each = (each.0, none_of name x ones each.1)

-- each of the ones before is none of the ones behind
abbrev pub Apart : {A B : Type 0} → (A → List ℕ) → (B → List ℕ) → List A → List B → Type 0
Apart left right ones bs = AllByRecursion (λ a. IsNone right (left a) bs) ones

pub apart_none : {A B : Type 0} (left : A → List ℕ) (right : B → List ℕ) (bs : List B) → Apart left right [] bs
apart_none left right bs = tt

tails_apart : {A B : Type 0} (left : A → List ℕ) (right : B → List ℕ) (ones : List A) (b : B) (bs : List B) → Apart left right ones (b ∷ bs) →
    Apart left right ones bs
tails_apart left right [] b bs apart = tt
tails_apart left right (a ∷ ones) b bs apart = (apart.0.1, tails_apart left right ones b bs apart.1)

pub push_each : {A : Type 0} (P : A → Type 0) (ones : List A) (a : A) → AllByRecursion P ones → P a → AllByRecursion P (ones ++ a ∷ [])
push_each P [] a each last = (last, tt)
push_each P (x ∷ ones) a each last = (each.0, push_each P ones a each.1 last)

-- the next one is taken, and left among those before
pub apart_more : {A B : Type 0} (left : A → List ℕ) (right : B → List ℕ) (ones : List A) (a : A) (b : B) (bs : List B)
    → Apart left right ones (b ∷ bs) → left a ≡ right b → Differ (map right (b ∷ bs)) → Apart left right (ones ++ a ∷ []) bs
apart_more left right ones a b bs apart same differ =
    push_each (λ x. IsNone right (left x) bs) ones a (tails_apart left right ones b bs apart)
    (subst (λ (x : List ℕ). IsNone right x bs) (sym same) (none_of right (right b) bs differ.0))

pub heads_apart : {A B : Type 0} (left : A → List ℕ) (right : B → List ℕ) (ones : List A) (b : B) (bs : List B) → Apart left right ones (b ∷ bs) →
    AllByRecursion (λ a. left a ≢ right b) ones
heads_apart left right [] b bs apart = tt
heads_apart left right (a ∷ ones) b bs apart = (apart.0.0, heads_apart left right ones b bs apart.1)

-- ---- one file of an item

file_of : (name version f g : List ℕ) → path name version f ≡ path name version g → f ≡ g
file_of name version f g e =
    let below = append_cancel_left artifacts _ _ e in
    let named = append_cancel_left name _ _ below in
    let slashed = append_cancel_left (47 ∷ []) _ _ named in
    let versioned = append_cancel_left version _ _ slashed in
    append_cancel_left (47 ∷ []) _ _ versioned

others_hold : (name version file : List ℕ) (helds : List Held) (old new : Image) → AllByRecursion (λ h. h.file ≢ file) helds →
    IsSameBut (IsFile (path name version file)) old new
    → HoldsFiles old name version helds → HoldsFiles new name version helds
others_hold name version file [] old new differ spares holds = tt
others_hold name version file (h ∷ helds) old new differ spares holds = (
  ap sha256 (spares (path name version h.file) (λ same. differ.0 (file_of name version h.file file same))) ∙ holds.0,
  others_hold name version file helds old new differ.1 spares holds.1,
)

-- a file more: the others stay, and it has its digest
pub files_more : (name version : List ℕ) (a : Artifact) (ones : List Artifact) (helds : List Held) (h : Held) (old new : Image)
    → Apart (λ (g : Held). g.file) artifact_file helds (a ∷ ones) → h.file ≡ a.file → sha256 (new (path name version a.file)) ≡ h.digest
    → IsSameBut (IsFile (path name version a.file)) old new → HoldsFiles old name version helds → HoldsFiles new name version (helds ++ h ∷ [])
files_more name version a ones helds h old new apart same digest spares holds =
    push_each (HoldsFile new name version) helds h (others_hold name version a.file helds old new
    (heads_apart (λ (g : Held). g.file) artifact_file helds a ones apart) spares holds)
    (ap (λ f. sha256 (new (path name version f))) same ∙ digest)

-- ---- items

-- what an image holds of items with other names stays, whatever becomes of an item's files
pub items_stay : (kept : List Item) (i : DraftItem) (items : List Item) (old new : Image) → AllByRecursion IsNamed items → IsNamedDraft i →
    AllByRecursion (λ o. o.name ≢ i.name) items
    → IsSameBut (IsStagedOf kept i) old new → HoldsItems old items → HoldsItems new items
items_stay kept i [] old new named drafted differ spares holds = tt
items_stay kept i (o ∷ items) old new named drafted differ spares holds = (
  holds_files o.name o.version o.artifacts old new
      (λ h has. spares _ (λ staged. differ.0 (paths_differ o.name o.version h.file i.name i.version staged.1.0.file named.0.0 named.0.1 drafted.0 drafted.1
      staged.1.2).0)) holds.0,
  items_stay kept i items old new named.1 drafted differ.1 spares holds.1,
)

-- what an image holds of the kept items stays
pub kept_stay : (kept : List Item) (i : DraftItem) (old new : Image) → AllByRecursion IsNamed kept → IsNamedDraft i → IsSameBut (IsStagedOf kept i) old new →
    HoldsItems old kept → HoldsItems new kept
kept_stay kept i old new named drafted spares holds =
    holds_items kept old new (λ file among. spares file (λ staged. staging_spares kept (i ∷ []) file named (drafted, tt) among (i, in_here i [], staged))) holds

-- ---- an item that is kept

kept_file : (image : Image) (name version : List ℕ) (helds : List Held) (h g : Held) → HoldsFiles image name version helds → Contains helds g →
    g.file ≡ h.file → g.digest ≡ h.digest → HoldsFile image name version h
kept_file image name version helds h g holds has file digest =
    ap (λ f. sha256 (image (path name version f))) (sym file) ∙ each_of (HoldsFile image name version) helds g holds has ∙ digest

some_same : (a b : List ℕ) → Some a ≡ Some b → a ≡ b
some_same a b e = cc e

kept_files : (image : Image) (name version : List ℕ) (kept : List Held) (ones : List Artifact) (helds : List Held) → HoldsFiles image name version kept →
    AllByRecursion (HasKeptFile kept) ones
    → AllZip IsAsGiven ones helds → HoldsFiles image name version helds
kept_files image name version kept [] [] holds has given = tt
kept_files image name version kept [] (h ∷ helds) holds has given = absurd given
kept_files image name version kept (a ∷ ones) [] holds has given = absurd given
kept_files image name version kept (a ∷ ones) (h ∷ helds) holds has given = (
  kept_file image name version kept h has.0.0 holds has.0.1 (has.0.2 ∙ sym given.0.0) (some_same _ _ (sym has.0.3 ∙ given.0.1)),
  kept_files image name version kept ones helds holds has.1 given.1,
)

-- the files of a kept item have the digests that its draft gives
pub kept_item : (kept : List Item) (i : DraftItem) (k : Item) (helds : List Held) (image : Image) → HoldsItems image kept → KeepsFiles kept i →
    Contains kept k → k.name ≡ i.name → k.version ≡ i.version
    → AllZip IsAsGiven i.artifacts helds → HoldsFiles image i.name i.version helds
kept_item kept i k helds image holds keeps has name version given =
    let mine : HoldsItem image k = each_of (HoldsItem image) kept k holds has in
    let files : HoldsFiles image i.name i.version k.artifacts = subst (λ (n : List ℕ). HoldsFiles image n i.version k.artifacts) name
    (subst (λ (v : List ℕ). HoldsFiles image k.name v k.artifacts) version mine) in
    kept_files image i.name i.version k.artifacts i.artifacts helds files (keeps k has name version) given
