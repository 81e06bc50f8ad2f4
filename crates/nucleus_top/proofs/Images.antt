-- What a crash may leave of the steps of a command.
use Rattle.std.proofs.Common.{◌≡◌, ◌∙◌, inl, inr, ⊎_elim, ℕ, List, Bool, IsTrue, ap, sym, subst, refl}
use Rattle.disk_model.specs.Disk.{Image, HasLeft, DiskLaws}
use Rattle.disk_model.specs.Moments.{now, joined, weaker, tells_of, at_start}
use Rattle.gate_log.specs.Entries.{journal, HoldsNone}
use Rattle.gate_log.specs.Journal.{AreSettled}
use Rattle.checkpoint_log.specs.Beginnings.{second}
use Rattle.checkpoint_log.specs.Laws.{slots_laws}
use Rattle.checkpoint_log.specs.Slots.{slots_files, slots_none, slots_entries, slots_stands}
use Rattle.checkpoint_log.specs.declared.slots.Slots.{Slots}
use Rattle.records.specs.declared.record.Origin.{Origin}
use Rattle.command_words.specs.declared.order.Order.{Order}
use Rattle.command_words.specs.declared.order.Order.TheVariants.{Init}
use Rattle.device.specs.Devices.{Device, no_device}
use Rattle.deploy_state.specs.Owned.{OwnsJournal, LeavesEither, StandsForEither}
use Rattle.nucleus_top.specs.Answers.{store_of}
use Rattle.nucleus_top.specs.Begun.{IsNoneOrBegun, ImageBegun, begun_device}
use Rattle.nucleus_top.specs.Leaving.{MayBeLeftAfter, MayLeave}
use Rattle.nucleus_top.specs.Opening.{IsImageOf}
use Rattle.nucleus_top.specs.Words.{AsksOrder}
use Rattle.nucleus_top.proofs.Origins.{none_held}

-- an image of a journal that is begun holds no entry, or stands for the new device
none_or_begun : (o : Origin) (c : Image) → StandsForEither slots_entries no_device (begun_device o) c → IsNoneOrBegun o c
none_or_begun o c (inl stands) = inl (none_held c stands)
none_or_begun o c (inr stands) = inr stands

module _ {D : Type 0} {is_modelled : Bool} {seen : D → Image} {may_leave : D → Image → Type 0} {moment : D → ℕ} {left_since : D → ℕ → Image → Type 0}
    (laws : DiskLaws is_modelled seen may_leave moment left_since) where
  -- a store that is begun, over a journal that holds no entry
  module _ (o : Origin) (old : D) (none : IsTrue is_modelled → slots_none (seen old)) (settled : AreSettled seen may_leave slots_files old) where
    none_left : (c : Image) → may_leave old c → slots_none c
    none_left c left =
        let holds = none (tells_of laws old c left) in
        (subst HoldsNone (sym (settled journal (inl refl) c left)) holds.0, subst HoldsNone (sym (settled second (inr refl) c left)) holds.1)

    -- a journal is made with its first entry
    pub created : (new : D) → HasLeft moment left_since old new (LeavesEither may_leave slots_files slots_entries old no_device (begun_device o))
        → HasLeft moment left_since old new (MayBeLeftAfter (Init o) (may_leave old))
    created new leaves =
        weaker laws old new _ _
        (λ c was. inr (was.0, was.1, record { none = none_left was.0 was.1; within = record { here = none_or_begun o c was.2.here; others = was.2.others } }))
        leaves

    -- what the disk then reads as is one of the images
    pub begun : (new : D) → HasLeft moment left_since old new (MayBeLeftAfter (Init o) (may_leave old)) → IsTrue is_modelled
        → ((name : List ℕ) → ¬ (slots_files name) → seen new name ≡ seen old name) → ImageBegun o (seen old) (seen new)
    begun new leaves told others = record {
      none = none told;
      within = record {
        here = ⊎_elim (λ left. inl (none_left (seen new) left)) (λ was. was.2.within.here)
            (now laws old new _ leaves (seen new) (laws.reads new told));
        others = others;
      };
    }

  -- each image of a journal that is in hand stands for the device
  pub held_stands : {end : Slots → ℕ} (log : Slots) (disk : D) (d : Device) → OwnsJournal is_modelled may_leave slots_stands end log disk d → (c : Image) →
      may_leave disk c → IsImageOf c d
  held_stands log disk d hand c left =
      let means = hand.means (tells_of laws disk c left) in
      record { payloads = hand.payloads; live = slots_laws.holds log c hand.payloads (hand.behind.each c left); means = means.0; room = means.1 }

  -- a command that goes on after a call that changes nothing
  pub then_order : (order : Order) (old mid new : D) → HasLeft moment left_since old mid (may_leave old)
      → HasLeft moment left_since mid new (MayBeLeftAfter order (may_leave mid)) → HasLeft moment left_since old new (MayBeLeftAfter order (may_leave old))
  then_order order old mid new first second =
      joined laws old mid new _ _ _ first second
      (λ c left. inl left)
      (λ c left. ⊎_elim (λ l. inl (now laws old mid _ first c l)) (λ was. inr (was.0, now laws old mid _ first was.0 was.1, was.2)) left)

  -- a call that changes nothing
  pub only_allowed : (order : Order) (old new : D) → HasLeft moment left_since old new (may_leave old) →
      HasLeft moment left_since old new (MayBeLeftAfter order (may_leave old))
  only_allowed order old new leaves = weaker laws old new _ _ (λ c left. inl left) leaves

  -- what a crash leaves of these files stays so
  pub settled_on : (files : List ℕ → Type 0) (old new : D) → HasLeft moment left_since old new (may_leave old) → seen new ≡ seen old
      → AreSettled seen may_leave files old → AreSettled seen may_leave files new
  settled_on files old new leaves same settled = λ file is c left.
      settled file is c (now laws old new _ leaves c left) ∙ ap (λ (s : Image). s file) (sym same)

  -- no call
  pub not_called : (order : Order) (old new : D) → new ≡ old → HasLeft moment left_since old new (MayBeLeftAfter order (may_leave old))
  not_called order old new same = subst (λ (d : D). HasLeft moment left_since old d (MayBeLeftAfter order (may_leave old))) (sym same)
      (only_allowed order old old (at_start laws old))

  -- by the words that ask the command
  pub by_words : (words : List (List ℕ)) (order : Order) (old new : D) → AsksOrder words order
      → HasLeft moment left_since old new (MayBeLeftAfter order (may_leave old)) → HasLeft moment left_since old new (MayLeave words (may_leave old))
  by_words words order old new asks leaves =
      weaker laws old new _ _ (λ c left. ⊎_elim (λ l. inl l) (λ was. inr (order, asks, was)) left) leaves

  pub by_none : (words : List (List ℕ)) (old new : D) → HasLeft moment left_since old new (may_leave old) →
      HasLeft moment left_since old new (MayLeave words (may_leave old))
  by_none words old new leaves = weaker laws old new _ _ (λ c left. inl left) leaves

-- a call after one that changed nothing and counted no fault
pub store_after : {D : Type 0} (is_modelled : Bool) (seen : D → Image) (faults : D → ℕ) (old mid new : D) → seen mid ≡ seen old → faults mid ≡ faults old
    → store_of is_modelled seen faults mid new ≡ store_of is_modelled seen faults old new
store_after is_modelled seen faults old mid new same stays = λ i. record {
  is_modelled = is_modelled;
  before = same i;
  after = seen new;
  faults_before =
      stays i;
  faults_after = faults new;
}
