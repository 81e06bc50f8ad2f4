-- The artifacts of a call that drives a deployment, at each of its moments.
use Rattle.std.proofs.Common.{◌≡◌, ⊎_elim, inl, inr, List, ℕ, [], ◌∷◌, ◌++◌, subst}
use Rattle.std.specs.Prelude.{Bool, IsTrue}
use Rattle.disk_model.specs.Disk.{Image, IsAfter, DiskLaws, HasLeft}
use Rattle.disk_model.specs.Listing.{artifacts, IsBelow}
use Rattle.disk_model.specs.Moments.{joined, now, tells_of, weaker}
use Rattle.disk_model.specs.Spares.{IsSameBut}
use Rattle.checkpoint_log.specs.Slots.{slots_entries, slots_files, slots_stands}
use Rattle.checkpoint_log.specs.declared.slots.Slots.{Slots}
use Rattle.records.specs.Stored.{Record}
use Rattle.device.specs.Devices.{Device}
use Rattle.device.specs.Lawful.{Run}
use Rattle.deploy_state.specs.States.{OwnsLoaded, loaded_device}
use Rattle.deploy_state.specs.declared.state.Loaded.{Loaded}
use Rattle.artifact_store.specs.Holding.{AllHoldDevice, HoldsDevice}
use Rattle.admission.specs.Takes.{LieElsewhere}
use Rattle.session.specs.Calls.{ChangesArtifactsAlone, StandsWhole}
use Rattle.session.proofs.Holding.{both_leave}
use Rattle.nucleus_top.specs.Crashes.{AllHoldTheirs, AllowedOrSameWhole, AllowedOrWhole, KeepsSameWhole, KeepsWhole}
use Rattle.nucleus_top.specs.Opening.{IsImageOf}
use Rattle.nucleus_top.proofs.Crashes.{journal_stays, loaded_stands, none_whole, stands_stays, told_weaker}
use Rattle.nucleus_top.proofs.Standing.{same_device}

module _ {D : Type 0} {is_modelled : Bool} {seen : D → Image} {may_leave : D → Image → Type 0} {moment : D → ℕ} {left_since : D → ℕ → Image → Type 0}
    (laws : DiskLaws is_modelled seen may_leave moment left_since) where
  -- ---- behind a call that keeps no record

  theirs_on : (old mid : D) → HasLeft moment left_since old mid (AllowedOrSameWhole (may_leave old) (seen old)) → AllHoldTheirs (may_leave old) →
      AllHoldTheirs (may_leave mid)
  theirs_on old mid kept theirs c left d stands =
      ⊎_elim (λ allowed. theirs c allowed d stands) (λ w. subst (λ (e : Device). HoldsDevice c e) (same_device c w.0 d w.2 stands) w.3)
      (now laws old mid (AllowedOrSameWhole (may_leave old) (seen old)) kept c left)

  -- with a device in hand
  pub theirs_hold : (disk : D) (d : Device) → ((c : Image) → may_leave disk c → IsImageOf c d) → AllHoldTheirs (may_leave disk) →
      AllHoldDevice (may_leave disk) d
  theirs_hold disk d stands theirs c left = theirs c left d (stands c left)

  pub same_kept : (old new : D) → HasLeft moment left_since old new (may_leave old) → KeepsSameWhole may_leave moment left_since seen old new
  same_kept old new leaves theirs = weaker laws old new (may_leave old) (AllowedOrSameWhole (may_leave old) (seen old)) (λ c left. inl left) leaves

  -- the journal is opened, and stray files are swept
  pub opened_whole : LieElsewhere slots_files → (old opened new : D) (s : Loaded Slots) → HasLeft moment left_since old opened (may_leave old) →
      (IsTrue is_modelled → IsImageOf (seen old) (loaded_device s))
      → OwnsLoaded is_modelled may_leave slots_stands (λ log. log.live.end) s opened → ChangesArtifactsAlone may_leave moment left_since opened new
      → (AllHoldDevice (may_leave opened) (loaded_device s) → HasLeft moment left_since opened new (λ c. HoldsDevice c (loaded_device s))) →
      KeepsSameWhole may_leave moment left_since seen old new
  opened_whole apart old opened new s opening stands held spared safe theirs =
      let d = loaded_device s in
      let there : AllHoldDevice (may_leave opened) d = λ c left. theirs c (now laws old opened (may_leave old) opening c left) d
      (loaded_stands laws s opened held c left) in
      joined laws old opened new (may_leave old) (λ c. IsAfter (may_leave opened) (IsSameBut (IsBelow artifacts)) c × HoldsDevice c d)
      (AllowedOrSameWhole (may_leave old) (seen old)) opening
      (both_leave opened new (IsAfter (may_leave opened) (IsSameBut (IsBelow artifacts))) (λ c. HoldsDevice c d) spared (safe there))
      (λ c left. inl left)
      (λ c both.
      let was = both.0 in
      inr (
        d,
        stands (tells_of laws opened was.0 was.1),
        stands_stays d was.0 c (journal_stays laws apart was.0 c was.2)
            (loaded_stands laws s opened held was.0 was.1),
        both.1,
      ))

  -- ---- a call that keeps records

  -- of the device for which the journal stood
  same_whole : (old new : D) (d : Device) → (IsTrue is_modelled → IsImageOf (seen old) d) →
      HasLeft moment left_since old new (AllowedOrSameWhole (may_leave old) (seen old)) →
      HasLeft moment left_since old new (AllowedOrWhole (may_leave old) d [])
  same_whole old new d stands leaves =
      told_weaker laws old new (AllowedOrSameWhole (may_leave old) (seen old)) (AllowedOrWhole (may_leave old) d [])
      (λ told c was. ⊎_elim (λ left. inl left)
      (λ w. let same = same_device (seen old) w.0 d w.1 (stands told) in
      inr (none_whole d [] c (subst (λ (e : Device). IsImageOf c e) same w.2) (subst (λ (e : Device). HoldsDevice c e) same w.3))) was)
      leaves

  longer : (d : Device) (records : List Record) (c : Image) → StandsWhole slots_entries d [] c → StandsWhole slots_entries d records c
  longer d records c h = by h.0.prefix h.0.split h.0.run
    where
      by : (prefix : List Record) → [] ≡ prefix ++ h.0.rest → Run d prefix h.0.device → StandsWhole slots_entries d records c
      by [] is run = none_whole d records c (subst (λ (e : Device). IsImageOf c e) run h.0.stands) (subst (λ (e : Device). HoldsDevice c e) run h.1)
      by (r ∷ prefix) is run = cc

  -- one behind the other
  pub whole_on : (old mid new : D) (d : Device) (records : List Record) → (IsTrue is_modelled → IsImageOf (seen old) d) →
      KeepsSameWhole may_leave moment left_since seen old mid → KeepsWhole may_leave moment left_since mid new d records
      → KeepsWhole may_leave moment left_since old new d records
  whole_on old mid new d records stands first second theirs =
      joined laws old mid new (AllowedOrWhole (may_leave old) d []) (AllowedOrWhole (may_leave mid) d records) (AllowedOrWhole (may_leave old) d records) before
      (second (theirs_on old mid (first theirs) theirs)) more
      (λ c was. ⊎_elim (λ left. more c (now laws old mid (AllowedOrWhole (may_leave old) d []) before c left)) (λ w. inr w) was)
    where
      before : HasLeft moment left_since old mid (AllowedOrWhole (may_leave old) d [])
      before = same_whole old mid d stands (first theirs)

      more : (c : Image) → AllowedOrWhole (may_leave old) d [] c → AllowedOrWhole (may_leave old) d records c
      more c was = ⊎_elim (λ left. inl left) (λ w. inr (longer d records c w)) was

  -- with the device in hand
  pub held_whole : (old new : D) (d : Device) (records : List Record) → ((c : Image) → may_leave old c → IsImageOf c d) →
      (AllHoldDevice (may_leave old) d → HasLeft moment left_since old new (StandsWhole slots_entries d records))
      → KeepsWhole may_leave moment left_since old new d records
  held_whole old new d records stands whole theirs =
      weaker laws old new (StandsWhole slots_entries d records) (AllowedOrWhole (may_leave old) d records) (λ c w. inr w)
      (whole (theirs_hold old d stands theirs))
