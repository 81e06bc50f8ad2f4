-- The files that are needed are none of those that are staged or swept.
use Rattle.std.proofs.Common.{◌≡◌, ◌≢◌, ℕ, List, [], ◌∷◌, ◌++◌, refl, sym, ◌∙◌, ap, subst}
use Rattle.std.specs.Prelude.{Bool, true, false, Option, Some, None, IfSome}
use Rattle.std.specs.List.{AllByRecursion, Contains, list_all}
use Rattle.std.proofs.lemmas.List.{append_cancel_left}
use Rattle.semver.proofs.Segments.{and-left, and-right}
use Rattle.std.proofs.lemmas.List.Elements.{Contains-append_left, Contains-append_right, recursion_from_All}
use Rattle.nuc_base.proofs.Lists.{in_here, in_there}
use Rattle.nuc_base.specs.Names.{IsName, is_name_byte}
use Rattle.npm_ranges.specs.Versions.{IsVersion, is_version_byte}
use Rattle.npm_ranges.proofs.VersionTexts.{version_bytes}
use Rattle.sha2.specs.Sha256.{sha256}
use Rattle.disk_model.specs.Disk.{Image, IsAfter, HasLeft, DiskLaws}
use Rattle.disk_model.specs.Listing.{artifacts, IsBelow}
use Rattle.disk_model.specs.Moments.{at_start, weaker}
use Rattle.disk_model.specs.Spares.{IsSameBut}
use Rattle.records.specs.Stored.{Item, DraftItem, Draft}
use Rattle.records.specs.declared.record.Held.{Held}
use Rattle.device.specs.Devices.{Device, Pending}
use Rattle.device.proofs.PlanWhole.{each_of}
use Rattle.artifact_store.specs.Holding.{HoldsDevice, HoldsFiles, HoldsItems, AllHoldDevice}
use Rattle.artifact_store.specs.Paths.{path, IsNamed, IsNamedDraft, IsFileAmong}
use Rattle.artifact_store.specs.Staged.{IsStaged, IsStagedAmong}
use Rattle.artifact_store.specs.Swept.{items_of, pending_items, IsStray}

-- no byte is a slash
pub record HasNoSlash (text : List ℕ) : Type 0 where
  pub each : AllByRecursion (λ b. b ≢ 47) text

-- two texts with one slash behind their first parts, which have none
split : (n m a b : List ℕ) → AllByRecursion (λ x. x ≢ 47) n → AllByRecursion (λ x. x ≢ 47) m → n ++ (47 ∷ a) ≡ m ++ (47 ∷ b) → (n ≡ m) × (a ≡ b)
split [] [] a b plain other e = (refl, cc)
split [] (y ∷ m) a b plain other e = absurd (other.0 (let h : y ≡ 47 = cc in h))
split (x ∷ n) [] a b plain other e = absurd (plain.0 (let h : x ≡ 47 = cc in h))
split (x ∷ n) (y ∷ m) a b plain other e =
    let tails : n ++ (47 ∷ a) ≡ m ++ (47 ∷ b) = cc in
    let heads : x ≡ y = cc in
    let rest = split n m a b plain.1 other.1 tails in
    (cc rest.0, rest.1)

name_bytes : (bs : List ℕ) → AllByRecursion (λ b. is_name_byte b ≡ true) bs → AllByRecursion (λ b. b ≢ 47) bs
name_bytes [] each = tt
name_bytes (b ∷ bs) each = ((λ slash. let no : false ≡ true = subst (λ (x : ℕ). is_name_byte x ≡ true) slash each.0 in cc), name_bytes bs each.1)

name_has_none : (n : List ℕ) → IsName n → HasNoSlash n
name_has_none n is = record { each = name_bytes n (recursion_from_All (λ (b : ℕ). is_name_byte b ≡ true) n is.each) }

version_text : (bs : List ℕ) → list_all is_version_byte bs ≡ true → AllByRecursion (λ b. b ≢ 47) bs
version_text [] each = tt
version_text (b ∷ bs) each = (
  (λ slash. let no : false ≡ true = subst (λ (x : ℕ). is_version_byte x ≡ true) slash (and-left (is_version_byte b) _ each) in cc),
  version_text bs (and-right (is_version_byte b) _ each),
)

version_has_none : (v : List ℕ) → IsVersion v → HasNoSlash v
version_has_none v is = record { each = version_text v (version_bytes v is) }

pub paths_differ : (n v f m w g : List ℕ) → IsName n → IsVersion v → IsName m → IsVersion w → path n v f ≡ path m w g → (n ≡ m) × (v ≡ w) × (f ≡ g)
paths_differ n v f m w g name version other_name other_version e =
    let below : n ++ (47 ∷ (v ++ (47 ∷ f))) ≡ m ++ (47 ∷ (w ++ (47 ∷ g))) = append_cancel_left artifacts _ _ e in
    let names = split n m (v ++ (47 ∷ f)) (w ++ (47 ∷ g)) (name_has_none n name).each (name_has_none m other_name).each below in
    let versions = split v w f g (version_has_none v version).each (version_has_none w other_version).each names.1 in
    (names.0, versions.0, versions.1)

-- no file that is staged is one of a kept item
pub staging_spares : (kept : List Item) (items : List DraftItem) (file : List ℕ) → AllByRecursion IsNamed kept → AllByRecursion IsNamedDraft items →
    IsFileAmong kept file → IsStagedAmong kept items file → ⊥
staging_spares kept items file named drafted among staged =
    let mine = each_of IsNamed kept among.0 named among.1 in
    let theirs = each_of IsNamedDraft items staged.0 drafted staged.1 in
    let same = paths_differ _ _ _ _ _ _ mine.0 mine.1 theirs.0 theirs.1 (sym among.2.2 ∙ staged.2.1.2) in
    staged.2.0 among.0 among.1 same.0 same.1

-- ---- what an image holds

-- of one item's files
pub holds_files : (name version : List ℕ) (helds : List Held) (old new : Image) →
    ((h : Held) → Contains helds h → new (path name version h.file) ≡ old (path name version h.file))
    → HoldsFiles old name version helds → HoldsFiles new name version helds
holds_files name version [] old new same holds = tt
holds_files name version (h ∷ helds) old new same holds = (
  ap sha256 (same h (in_here h helds)) ∙ holds.0,
  holds_files name version helds old new (λ g has. same g (in_there h helds g has)) holds.1,
)

pub holds_items : (items : List Item) (old new : Image) → ((file : List ℕ) → IsFileAmong items file → new file ≡ old file) → HoldsItems old items →
    HoldsItems new items
holds_items [] old new same holds = tt
holds_items (i ∷ items) old new same holds = (
  holds_files i.name i.version i.artifacts old new (λ h has. same _ (i, in_here i items, (h, has, refl))) holds.0,
  holds_items items old new (λ file among. same file (among.0, in_there i items among.0 among.1, among.2)) holds.1,
)

pub spared_stay : (items : List Item) (files : List ℕ → Type 0) (old new : Image) → ((file : List ℕ) → IsFileAmong items file → files file → ⊥) →
    IsSameBut files old new → HoldsItems old items → HoldsItems new items
spared_stay items files old new apart spares holds = holds_items items old new (λ file among. spares file (apart file among)) holds

pub staging_keeps : (kept : List Item) (draft : Draft) (old new : Image) → AllByRecursion IsNamed kept → AllByRecursion IsNamedDraft draft.items
    → IsSameBut (IsStaged kept draft) old new → HoldsItems old kept → HoldsItems new kept
staging_keeps kept draft old new named drafted spares holds =
    spared_stay kept (IsStaged kept draft) old new (λ file among staged. staging_spares kept draft.items file named drafted among staged) spares holds

-- ---- of a device

among_set : (d : Device) (file : List ℕ) → IsFileAmong d.set file → IsFileAmong (items_of d) file
among_set d file among = (among.0, Contains-append_left d.set (pending_items d.pending) among.0 among.1, among.2)

among_pending : (d : Device) (file : List ℕ) → IsFileAmong (pending_items d.pending) file → IsFileAmong (items_of d) file
among_pending d file among = (among.0, Contains-append_right d.set (pending_items d.pending) among.0 among.1, among.2)

pending_keeps : (o : Option Pending) (old new : Image) → ((file : List ℕ) → IsFileAmong (pending_items o) file → new file ≡ old file)
    → IfSome o (λ q. HoldsItems old q.plan.items) → IfSome o (λ q. HoldsItems new q.plan.items)
pending_keeps None old new same holds = tt
pending_keeps (Some q) old new same holds = holds_items q.plan.items old new same holds

pub sweeping_keeps : (d : Device) (old new : Image) → IsSameBut (IsStray (items_of d)) old new → HoldsDevice old d → HoldsDevice new d
sweeping_keeps d old new spares holds = record {
  set = holds_items d.set old new (λ file among. spares file (λ stray. stray.1 (among_set d file among))) holds.set;
  pending = pending_keeps d.pending old new (λ file among. spares file (λ stray. stray.1 (among_pending d file among))) holds.pending;
}

no_pending : (o : Option Pending) (image : Image) → o ≡ None → IfSome o (λ q. HoldsItems image q.plan.items)
no_pending None image is = tt
no_pending (Some q) image is = absurd (cc is)

pub holds_the_set : (d : Device) (image : Image) → d.pending ≡ None → HoldsItems image d.set → HoldsDevice image d
holds_the_set d image none holds = record { set = holds; pending = no_pending d.pending image none }

-- ---- at every moment

module _ {D : Type 0} {is_modelled : Bool} {seen : D → Image} {may_leave : D → Image → Type 0} {moment : D → ℕ} {left_since : D → ℕ → Image → Type 0}
    (laws : DiskLaws is_modelled seen may_leave moment left_since) where
  pub staged_safe : (kept : List Item) (draft : Draft) (d : Device) (old new : D) → AllByRecursion IsNamed kept → AllByRecursion IsNamedDraft draft.items
      → HasLeft moment left_since old new (IsAfter (may_leave old) (IsSameBut (IsStaged kept draft))) → d.set ≡ kept → d.pending ≡ None →
      AllHoldDevice (may_leave old) d
      → HasLeft moment left_since old new (λ c. HoldsDevice c d)
  staged_safe kept draft d old new named drafted leaves is none holds =
      weaker laws old new _ _
      (λ c was.
      let before : HoldsItems was.0 kept = subst (λ (items : List Item). HoldsItems was.0 items) is ((holds was.0 was.1).set) in
      let after : HoldsItems c kept = staging_keeps kept draft was.0 c named drafted was.2 before in
      holds_the_set d c none (subst (λ (items : List Item). HoldsItems c items) (sym is) after))
      leaves

  pub swept_safe : (d : Device) (old new : D) → HasLeft moment left_since old new (IsAfter (may_leave old) (IsSameBut (IsStray (items_of d)))) →
      AllHoldDevice (may_leave old) d
      → HasLeft moment left_since old new (λ c. HoldsDevice c d)
  swept_safe d old new leaves holds = weaker laws old new _ _ (λ c was. sweeping_keeps d was.0 c was.2 (holds was.0 was.1)) leaves

  pub still_safe : (d : Device) (old : D) → AllHoldDevice (may_leave old) d → HasLeft moment left_since old old (λ c. HoldsDevice c d)
  still_safe d old holds = weaker laws old old _ _ holds (at_start laws old)

-- ---- the folder of the artifacts

pub staged_below : (kept : List Item) (draft : Draft) (file : List ℕ) → IsStaged kept draft file → IsBelow artifacts file
staged_below kept draft file staged = (_, staged.2.1.2)
