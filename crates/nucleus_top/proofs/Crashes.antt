-- What a crash leaves of a call that drives a deployment.
use Rattle.std.proofs.Common.{◌≡◌, ◌∙◌, ⊎_elim, inl, inr, ℕ, ◌+◌, List, [], ◌∷◌, ◌++◌, Option, ap, refl, sym, subst}
use Rattle.std.specs.Prelude.{Bool, IsTrue}
use Rattle.disk_model.specs.Disk.{Image, IsAfter, DiskLaws, HasLeft}
use Rattle.disk_model.specs.Listing.{artifacts, IsBelow}
use Rattle.disk_model.specs.Moments.{joined, now, tells_of, weaker}
use Rattle.disk_model.specs.Spares.{IsSameBut}
use Rattle.gate_log.specs.Entries.{journal, ClosedAt, HoldsNone}
use Rattle.gate_log.specs.Journal.{AreSettled}
use Rattle.checkpoint_log.specs.Beginnings.{second, slot, IsOlder}
use Rattle.checkpoint_log.specs.Laws.{of_slots}
use Rattle.checkpoint_log.specs.Slots.{slots_entries, slots_files, slots_none, slots_stands}
use Rattle.checkpoint_log.specs.declared.slots.Slots.{Slots}
use Rattle.nuc_base.specs.declared.status.Status.{Status}
use Rattle.records.specs.Stored.{Record}
use Rattle.device.specs.Devices.{Device, no_device}
use Rattle.device.specs.Lawful.{Run}
use Rattle.std.specs.Option.{IsSome}
use Rattle.device.specs.Sound.{IsSound}
use Rattle.device.specs.Standing.{IsMeant, ArePayloads}
use Rattle.device.proofs.Sounding.{none_sound, stays_sound}
use Rattle.deploy_state.specs.States.{OwnsLoaded, activating_device, backing_device, booting_device, idle_device, loaded_device, rolling_device}
use Rattle.deploy_state.specs.declared.state.Loaded.{Loaded}
use Rattle.deploy_state.specs.declared.state.Loaded.TheVariants as loaded
use Rattle.step_runner.specs.declared.entries.RunnerEntry.{RunnerEntry}
use Rattle.histories.specs.TraceEvents.{records_of}
use Rattle.histories.specs.States.{SessionState}
use Rattle.artifact_store.specs.Holding.{HoldsDevice}
use Rattle.session_boots.specs.Traces.{StandsForPrefix}
use Rattle.admission.specs.Takes.{LieElsewhere}
use Rattle.session.specs.Calls.{Call, ChangesArtifactsAlone, StandsWhole}
use Rattle.nucleus_top.specs.Crashes.{AllowedOrPrefix, AllowedOrSame, KeepsJournal, LeavesPrefixes, LeavesSame, SaysSame}
use Rattle.nucleus_top.specs.Opening.{IsImageOf}
use Rattle.nucleus_top.proofs.Images.{held_stands}
use Rattle.nucleus_top.proofs.Standing.{same_device}

-- ---- only the journal's two files matter

none_stays : (a b : Image) → ((name : List ℕ) → slots_files name → b name ≡ a name) → slots_none a → slots_none b
none_stays a b same none = (subst HoldsNone (sym (same journal (inl refl))) none.0, subst HoldsNone (sym (same second (inr refl))) none.1)

pub entries_stay : (a b : Image) (payloads : List (List ℕ)) → ((name : List ℕ) → slots_files name → b name ≡ a name) → slots_entries a payloads →
    slots_entries b payloads
entries_stay a b payloads same (inl none) = inl (none_stays a b same none.0, none.1)
entries_stay a b payloads same (inr live) = inr (
  live.0,
  live.1,
  record {
    closed = subst (λ (l : List ℕ). ClosedAt l live.1 payloads) (sym (same (slot live.0) (of_slots live.0))) live.2.closed;
    says = live.2.says;
    older = subst (λ (l : List ℕ). IsOlder (slot (live.0 + 1)) l live.0) (sym (same (slot (live.0 + 1)) (of_slots (live.0 + 1)))) live.2.older;
  },
)

pub stands_stays : (d : Device) (a b : Image) → ((name : List ℕ) → slots_files name → b name ≡ a name) → IsImageOf a d → IsImageOf b d
stands_stays d a b same h = record { payloads = h.payloads; live = entries_stay a b h.payloads same h.live; means = h.means; room = h.room }

says_same : (a b : Image) → ((name : List ℕ) → slots_files name → b name ≡ a name) → SaysSame a b
says_same a b same = record {
  none = none_stays a b same;
  no_device = λ none d stands. none d (stands_stays d b a (λ name is. sym (same name is)) stands);
  device = λ d stands. stands_stays d a b same stands;
}

-- ---- prefixes of records

-- no record
pub none_prefix : (d : Device) (records : List Record) (c : Image) → IsImageOf c d → StandsForPrefix slots_entries d records c
none_prefix d records c h = record { prefix = []; rest = records; split = refl; device = d; run = refl; stands = h }

pub none_whole : (d : Device) (records : List Record) (c : Image) → IsImageOf c d → HoldsDevice c d → StandsWhole slots_entries d records c
unfolding none_prefix
none_whole d records c h held = (none_prefix d records c h, held)

-- ---- what a journal stands for is sound

plays_sound : (payloads : List (List ℕ)) (d e : Device) → IsSound d → ArePayloads d payloads e → IsSound e
plays_sound [] d e sound plays = subst IsSound (sym plays) sound
plays_sound (p ∷ payloads) d e sound plays = plays_sound payloads plays.0 e (stays_sound d plays.0 plays.1.entry sound plays.1.lawful) plays.2

pub means_sound : (payloads : List (List ℕ)) (e : Device) → IsMeant payloads e → IsSound e
means_sound payloads e (inl plays) = plays_sound payloads no_device e none_sound plays
means_sound payloads e (inr anew) = plays_sound anew.after anew.begun e anew.is.has.sound anew.plays

-- ---- at each moment

module _ {D : Type 0} {is_modelled : Bool} {seen : D → Image} {may_leave : D → Image → Type 0} {moment : D → ℕ} {left_since : D → ℕ → Image → Type 0}
    (laws : DiskLaws is_modelled seen may_leave moment left_since) where
  -- each image of a state that is in hand stands for its device
  pub loaded_stands : (s : Loaded Slots) (disk : D) → OwnsLoaded is_modelled may_leave slots_stands (λ log. log.live.end) s disk → (c : Image) →
      may_leave disk c → IsImageOf c (loaded_device s)
  loaded_stands (loaded.Idle s) disk held c left = held_stands laws s.log disk (idle_device s) held.0 c left
  loaded_stands (loaded.Booting s) disk held c left = held_stands laws s.hand.log disk (booting_device s) held.0.0 c left
  loaded_stands (loaded.Activating s) disk held c left = held_stands laws s.hand.log disk (activating_device s) held.0.0 c left
  loaded_stands (loaded.Backing s) disk held c left = held_stands laws s.hand.log disk (backing_device s) held.0.0 c left
  loaded_stands (loaded.Rolling s) disk held c left = held_stands laws s.hand.log disk (rolling_device s) held.0.0 c left

  pub loaded_sound : (s : Loaded Slots) (disk : D) → OwnsLoaded is_modelled may_leave slots_stands (λ log. log.live.end) s disk → IsSound (loaded_device s)
  loaded_sound (loaded.Idle s) disk held = held.0.sound
  loaded_sound (loaded.Booting s) disk held = held.0.0.sound
  loaded_sound (loaded.Activating s) disk held = held.0.0.sound
  loaded_sound (loaded.Backing s) disk held = held.0.0.sound
  loaded_sound (loaded.Rolling s) disk held = held.0.0.sound

  pub loaded_origin : (s : Loaded Slots) (disk : D) → OwnsLoaded is_modelled may_leave slots_stands (λ log. log.live.end) s disk →
      IsSome (loaded_device s).origin
  loaded_origin (loaded.Idle s) disk held = held.0.origin
  loaded_origin (loaded.Booting s) disk held = held.0.0.origin
  loaded_origin (loaded.Activating s) disk held = held.0.0.origin
  loaded_origin (loaded.Backing s) disk held = held.0.0.origin
  loaded_origin (loaded.Rolling s) disk held = held.0.0.origin

  -- what is allowed more where the disk tells
  pub told_weaker : (old new : D) (P Q : Image → Type 0) → (IsTrue is_modelled → (c : Image) → P c → Q c) → HasLeft moment left_since old new P →
      HasLeft moment left_since old new Q
  told_weaker old new P Q more leaves = record {
    later = leaves.later;
    each = λ c left. more (laws.modelled new (moment old) c left) c (leaves.each c left);
    joins = leaves.joins;
    keeps = leaves.keeps;
  }

  -- ---- a call that keeps no record

  pub same_left : (old new : D) → HasLeft moment left_since old new (may_leave old) → LeavesSame may_leave moment left_since seen old new
  same_left old new leaves = weaker laws old new _ _ (λ c left. inl left) leaves

  -- one behind another
  pub same_on : (old mid new : D) (d : Device) → (IsTrue is_modelled → IsImageOf (seen old) d) → (IsTrue is_modelled → IsImageOf (seen mid) d)
      → LeavesSame may_leave moment left_since seen old mid → LeavesSame may_leave moment left_since seen mid new →
      LeavesSame may_leave moment left_since seen old new
  same_on old mid new d first_stands then_stands first second =
      joined laws old mid new _ (AllowedOrSame (may_leave mid) (seen old)) _ first
      (told_weaker mid new (AllowedOrSame (may_leave mid) (seen mid)) (AllowedOrSame (may_leave mid) (seen old))
      (λ told c was. ⊎_elim (λ left. inl left) (λ stands. inr (
        stands.0,
        subst (λ (e : Device). IsImageOf (seen old) e) (same_device (seen mid) d stands.0 (then_stands told) stands.1) (first_stands told),
        stands.2,
      )) was)
      second)
      (λ c was. was)
      (λ c was. ⊎_elim (λ left. now laws old mid _ first c left) (λ stands. inr stands) was)

  -- it keeps no record of the device for which the journal stood
  pub same_prefixes : (old new : D) (d : Device) → (IsTrue is_modelled → IsImageOf (seen old) d) → LeavesSame may_leave moment left_since seen old new →
      LeavesPrefixes may_leave moment left_since old new d []
  same_prefixes old new d stands leaves =
      told_weaker old new (AllowedOrSame (may_leave old) (seen old)) (AllowedOrPrefix (may_leave old) d [])
      (λ told c was. ⊎_elim (λ left. inl left) (λ other. inr
      (none_prefix d [] c (subst (λ (e : Device). IsImageOf c e) (same_device (seen old) other.0 d other.1 (stands told)) other.2))) was)
      leaves

  -- ---- a call that keeps records

  -- behind one that keeps none
  pub prefixes_on : (old mid new : D) (d : Device) (records : List Record) → LeavesPrefixes may_leave moment left_since old mid d [] →
      LeavesPrefixes may_leave moment left_since mid new d records
      → LeavesPrefixes may_leave moment left_since old new d records
  prefixes_on old mid new d records first second =
      joined laws old mid new (AllowedOrPrefix (may_leave old) d []) (AllowedOrPrefix (may_leave mid) d records) (AllowedOrPrefix (may_leave old) d records)
      first second more
      (λ c was. ⊎_elim (λ left. more c (now laws old mid (AllowedOrPrefix (may_leave old) d []) first c left)) (λ prefix. inr prefix) was)
    where
      longer : (c : Image) → StandsForPrefix slots_entries d [] c → StandsForPrefix slots_entries d records c
      longer c h = by h.prefix h.split h.run
        where
          by : (prefix : List Record) → [] ≡ prefix ++ h.rest → Run d prefix h.device → StandsForPrefix slots_entries d records c
          by [] is run = none_prefix d records c (subst (λ (e : Device). IsImageOf c e) run h.stands)
          by (r ∷ prefix) is run = cc

      more : (c : Image) → AllowedOrPrefix (may_leave old) d [] c → AllowedOrPrefix (may_leave old) d records c
      more c was = ⊎_elim (λ left. inl left) (λ prefix. inr (longer c prefix)) was

  -- the journal does not lie among the files of artifacts
  module _ (apart : LieElsewhere slots_files) where
    pub journal_stays : (a b : Image) → IsSameBut (IsBelow artifacts) a b → (name : List ℕ) → slots_files name → b name ≡ a name
    journal_stays a b spares name is = spares name (λ below. apart name is below)

    prefix_stays : (d : Device) (records : List Record) (a b : Image) → IsSameBut (IsBelow artifacts) a b → StandsForPrefix slots_entries d records a →
        StandsForPrefix slots_entries d records b
    prefix_stays d records a b spares h = record {
      prefix = h.prefix;
      rest = h.rest;
      split = h.split;
      device = h.device;
      run = h.run;
      stands =
          stands_stays h.device a b (journal_stays a b spares) h.stands;
    }

    -- the journal is opened, and stray files are swept
    pub opened_same : (old opened new : D) (s : Loaded Slots) → HasLeft moment left_since old opened (may_leave old) →
        (IsTrue is_modelled → IsImageOf (seen old) (loaded_device s))
        → OwnsLoaded is_modelled may_leave slots_stands (λ log. log.live.end) s opened → ChangesArtifactsAlone may_leave moment left_since opened new →
        LeavesSame may_leave moment left_since seen old new
    opened_same old opened new s opening stands held spared =
        joined laws old opened new (may_leave old) (IsAfter (may_leave opened) (IsSameBut (IsBelow artifacts)))
        (AllowedOrSame (may_leave old) (seen old)) opening
        spared
        (λ c left. inl left)
        (λ c was. inr (
          loaded_device s,
          stands (tells_of laws opened was.0 was.1),
          stands_stays (loaded_device s) was.0 c (journal_stays was.0 c was.2)
              (loaded_stands s opened held was.0 was.1),
        ))

    -- what the journal says is stable once it is opened, and then files of artifacts change alone
    pub opened_says : (old opened new : D) → seen opened ≡ seen old → AreSettled seen may_leave slots_files opened →
        ChangesArtifactsAlone may_leave moment left_since opened new → KeepsJournal may_leave seen old new
    opened_says old opened new same settled spared c left =
        let was = now laws opened new (IsAfter (may_leave opened) (IsSameBut (IsBelow artifacts))) spared c left in
        says_same (seen old) c (λ name is. journal_stays was.0 c was.2 name is ∙ settled name is was.0 was.1 ∙ ap (λ (i : Image). i name) same)

    -- a call that changes files of artifacts alone, where each image stands for a prefix already
    spared_prefixes : (old new : D) (d : Device) (records : List Record) → ((c : Image) → may_leave old c → StandsForPrefix slots_entries d records c) →
        ChangesArtifactsAlone may_leave moment left_since old new
        → HasLeft moment left_since old new (StandsForPrefix slots_entries d records)
    spared_prefixes old new d records stands spared =
        weaker laws old new (IsAfter (may_leave old) (IsSameBut (IsBelow artifacts))) (StandsForPrefix slots_entries d records)
        (λ c was. prefix_stays d records was.0 c was.2 (stands was.0 was.1)) spared

    -- one deployment, in a call that begins with the device in hand
    module _ (old new : D) (old_list new_list : Option (List RunnerEntry)) (old_held new_held : Option (List ℕ)) (p : SessionState) (status : Status)
        (stands : (c : Image) → may_leave old c → IsImageOf c p.device) where
      abbrev IsCall : Type 0
      IsCall = Call slots_entries slots_files may_leave moment left_since old new old_list new_list old_held new_held p status

      before_prefixes : (records : List Record) (from : D) → ChangesArtifactsAlone may_leave moment left_since old from →
          HasLeft moment left_since old from (StandsForPrefix slots_entries p.device records)
      before_prefixes records from spared = spared_prefixes old from p.device records (λ c left. none_prefix p.device records c (stands c left)) spared

      call_prefixes : (call : IsCall) → HasLeft moment left_since old new (StandsForPrefix slots_entries p.device (records_of call.history))
      call_prefixes call =
          let records = records_of call.history in
          let prefix = StandsForPrefix slots_entries p.device records in
          let before : HasLeft moment left_since old call.from prefix = before_prefixes records call.from call.before in
          let trace : HasLeft moment left_since call.from call.to prefix = weaker laws call.from call.to _ prefix (λ c was. was.2.here) call.trace.course in
          let after : HasLeft moment left_since call.to new prefix = spared_prefixes call.to new p.device records (now laws call.from call.to prefix trace)
          call.after in
          joined laws old call.to new prefix prefix prefix (joined laws old call.from call.to prefix prefix prefix before trace (λ c h. h) (λ c h. h)) after
          (λ c h. h) (λ c h. h)

      pub kept_prefixes : (call : IsCall) → LeavesPrefixes may_leave moment left_since old new p.device (records_of call.history)
      kept_prefixes call = weaker laws old new _ _ (λ c h. inr h) (call_prefixes call)
