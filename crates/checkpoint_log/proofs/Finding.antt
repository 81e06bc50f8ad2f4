-- What is found of two slots.
use Rattle.std.proofs.Common.{◌≡◌, ◌⊎◌, inl, inr, ℕ, ◌+◌, ◌<◌, Bool, true, false, IsTrue, Ok, Err, None, List, [], ◌∷◌, ◌++◌, map, get_or, refl, sym, ◌∙◌, ap}
use Rattle.std.proofs.Common.{subst, arith, append_assoc}
use Rattle.std.proofs.lemmas.Bool.{cases_eq}
use Rattle.disk_model.specs.Disk.{Image, Settled, HasLeft, DiskLaws}
use Rattle.disk_model.specs.Moments.{now, tells_of}
use Rattle.gate_log.specs.Entries.{journal, entry, joined, AllGood, ClosedAt, HoldsNone}
use Rattle.gate_log.specs.Found.{FindsBy}
use Rattle.gate_log.specs.Journal.{AreSettled, IsBehind, none_in, damaged_in, stands_in}
use Rattle.gate_log.specs.Laws.{entry_same}
use Rattle.gate_log.specs.declared.find.FindFault.{FindFault}
use Rattle.gate_log.specs.declared.find.FindFault.TheVariants.{Disk, NotInitialised, Damaged}
use Rattle.checkpoint_log.specs.Beginnings.{second, slot, HasNumber, HasFirstEntry, FirstSays, IsOlder}
use Rattle.checkpoint_log.specs.Slots.{slots_files, slots_none, slots_damaged, SlotsStand, slots_stands}
use Rattle.checkpoint_log.specs.Laws.{beside, two_names, begins_some}
use Rattle.checkpoint_log.specs.Look.{IsLook, IsNumber}
use Rattle.checkpoint_log.specs.declared.slots.Slots.{Slots}

-- a list of entries behind a good beginning begins so
pub begins_first : (file : List ℕ) (n end : ℕ) (payloads : List (List ℕ)) → ClosedAt file end payloads → HasFirstEntry file n → FirstSays payloads n
begins_first file n end payloads closed begins = by_entries closed.entries closed.good closed.payloads_are closed.file_is
  where
    by_entries : (es : List (ℕ × List ℕ)) → AllGood es → map (λ (e : ℕ × List ℕ). e.1) es ≡ payloads → file ≡ joined es ++ 0 ∷ closed.tail →
        FirstSays payloads n
    by_entries [] good are is = absurd (begins.good.is_open (ap (λ (l : List ℕ). get_or l 0 0) (sym begins.file_is ∙ is)))
    by_entries (e ∷ es) good are is =
        let one = entry_same begins.first e begins.more (joined es ++ 0 ∷ closed.tail) begins.good good.0
        (sym begins.file_is ∙ is ∙ append_assoc (entry e) (joined es) (0 ∷ closed.tail)) in
        record { first = e.1; others = map (λ (x : ℕ × List ℕ). x.1) es; is = sym are; says = subst (λ (l : List ℕ). HasNumber l n) one.0 begins.says }

pub number_fault : (image : Image) (f : FindFault) → IsNumber image (Err f) → FindsBy slots_none slots_damaged slots_stands image (Err f)
number_fault image Disk h = tt
number_fault image NotInitialised h = h
number_fault image (Damaged at) h = h

pub end_fault : (image : Image) (n : ℕ) (f : FindFault) → IsNumber image (Ok n) → FindsBy (none_in (slot n)) (damaged_in (slot n)) (stands_in (slot n)) image
    (Err f) → FindsBy slots_none slots_damaged slots_stands image (Err f)
end_fault image n Disk h end = tt
end_fault image n NotInitialised h end = absurd (begins_some _ n h.0 end)
end_fault image n (Damaged at) h end = inr (n, h.0, h.1, end.0, end.1)

pub found_stands : (image : Image) (log : Slots) (payloads : List (List ℕ)) → IsNumber image (Ok log.number) → ¬ (IsTrue log.begun) →
    ClosedAt (image (slot log.number)) log.live.end payloads → SlotsStand log image payloads
found_stands image log payloads h rests closed = record {
  closed = closed;
  says = inl (begins_first _ log.number log.live.end payloads closed h.0);
  older = h.1;
  begun = λ yes. absurd (rests yes);
}

module _ {D : Type 0} {is_modelled : Bool} {seen : D → Image} {may_leave : D → Image → Type 0} {moment : D → ℕ} {left_since : D → ℕ → Image → Type 0}
    (laws : DiskLaws is_modelled seen may_leave moment left_since) where
  pub settled_on : (file : List ℕ) (old new : D) → HasLeft moment left_since old new (may_leave old) → seen new ≡ seen old →
      Settled (may_leave old) file (seen old file) → Settled (may_leave new) file (seen new file)
  settled_on file old new leaves same settled c left = settled c (now laws old new _ leaves c left) ∙ sym (ap (λ (i : Image). i file) same)

  pub all_settled : (old new : D) → HasLeft moment left_since old new (may_leave old) → seen new ≡ seen old → AreSettled seen may_leave slots_files old →
      AreSettled seen may_leave slots_files new
  all_settled old new leaves same settled file is = settled_on file old new leaves same (settled file is)

  -- both files, one after the other
  pub both_settled : (mid new : D) → Settled (may_leave mid) journal (seen mid journal) → HasLeft moment left_since mid new (may_leave mid) →
      seen new ≡ seen mid → Settled (may_leave new) second (seen new second)
      → AreSettled seen may_leave slots_files new
  both_settled mid new first leaves same other file (inl is) = subst (λ (f : List ℕ). Settled (may_leave new) f (seen new f)) (sym is)
      (settled_on journal mid new leaves same first)
  both_settled mid new first leaves same other file (inr is) = subst (λ (f : List ℕ). Settled (may_leave new) f (seen new f)) (sym is) other

-- what is found stands on each image
pub found_open : {D : Type 0} (is_modelled : Bool) {seen : D → Image} {may_leave : D → Image → Type 0} {moment : D → ℕ} {left_since : D → ℕ → Image → Type 0}
    → DiskLaws is_modelled seen may_leave moment left_since → (log : Slots) (disk : D) →
    (IsTrue is_modelled → (payloads : List (List ℕ)) × SlotsStand log (seen disk) payloads) → AreSettled seen may_leave slots_files disk
    → ((image : Image) (payloads : List (List ℕ)) → ((name : List ℕ) → slots_files name → image name ≡ seen disk name) → SlotsStand log (seen disk) payloads →
    SlotsStand log image payloads)
    → (payloads : List (List ℕ)) × IsBehind may_leave slots_stands log disk payloads
found_open true laws log disk stands settled on =
    let there = stands refl in
    (there.0, record { each = λ c left. on c there.0 (λ name is. settled name is c left) there.1 })
found_open false laws log disk stands settled on = ([], record { each = λ c left. absurd (let no : ⊥ = (let told = tells_of laws disk c left in cc) in no) })

-- the greater number
pub no_number : (image : Image) → IsLook journal (image journal) (Ok None) → IsLook second (image second) (Ok None) → slots_none image
no_number image a b = (a, b)

slot_first : (n : ℕ) → slot n ≡ journal → slot (n + 1) ≡ second
slot_first n is = elim (beside n) [
  | inl e ↦ e.1
  | inr e ↦ absurd (two_names (sym is ∙ e.0))
]

slot_other : (n : ℕ) → slot n ≡ second → slot (n + 1) ≡ journal
slot_other n is = elim (beside n) [
  | inl e ↦ absurd (two_names (sym e.0 ∙ is))
  | inr e ↦ e.1
]

pub first_number : (image : Image) (n : ℕ) → HasFirstEntry (image journal) n → slot n ≡ journal → HoldsNone (image second) ⊎
    ((m : ℕ) × (m < n) × (slot m ≡ second) × HasFirstEntry (image second) m) → IsNumber image (Ok n)
first_number image n begins is older =
    let other = slot_first n is in
    (subst (λ (name : List ℕ). HasFirstEntry (image name) n) (sym is) begins, subst (λ (name : List ℕ). IsOlder name (image name) n) (sym other) older)

pub other_number : (image : Image) (n : ℕ) → HasFirstEntry (image second) n → slot n ≡ second → HoldsNone (image journal) ⊎
    ((m : ℕ) × (m < n) × (slot m ≡ journal) × HasFirstEntry (image journal) m) → IsNumber image (Ok n)
other_number image n begins is older =
    let other = slot_other n is in
    (subst (λ (name : List ℕ). HasFirstEntry (image name) n) (sym is) begins, subst (λ (name : List ℕ). IsOlder name (image name) n) (sym other) older)

-- both begin, and one number is not smaller
pub not_smaller : (n m : ℕ) → slot n ≡ journal → slot m ≡ second → ¬ (n < m) → m < n
not_smaller n m n_is m_is not_less = elim (cases_eq n m) [
  | inl same ↦ absurd (two_names (sym n_is ∙ ap slot same ∙ m_is))
  | inr apart ↦ omega (arith, not_less, apart)
]

pub not_true : ¬ (IsTrue false)
not_true wrong = (let no : ⊥ = cc in no)
