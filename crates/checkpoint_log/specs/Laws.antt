-- Laws of two slots as a journal.
use Rattle.std.proofs.Common.{◌≡◌, ◌≢◌, ◌⊎◌, inl, inr, ℕ, ◌+◌, ◌%◌, List, [], ◌∷◌, ◌++◌, length, map, get_or, take, drop, refl, sym, ◌∙◌, ap, subst, arith}
use Rattle.std.proofs.Common.{append_assoc, length-append}
use Rattle.std.proofs.lemmas.Bool.{cases_eq}
use Rattle.std.proofs.lemmas.List.{take_at}
use Rattle.std.proofs.lemmas.Nat.{from_be_bytes-to_be_bytes_8}
use Rattle.std.specs.Int.{w64, to_be_bytes, from_be_bytes}
use Rattle.disk_model.specs.Disk.{Image}
use Rattle.gate_log.specs.Entries.{journal, entry, joined, AllGood, ClosedAt, HoldsNone}
use Rattle.gate_log.specs.Journal.{JournalLaws}
use Rattle.gate_log.specs.Laws.{entry_same, entries_same, damaged_holds_none, none_of, place_joined, length-entry}
use Rattle.gate_log.specs.Place.{place_behind}
use Rattle.checkpoint_log.specs.Beginnings.{second, named, slot, HasNumber, HasFirstEntry, FirstSays, IsOlder, IsBadSlot}
use Rattle.checkpoint_log.specs.Slots.{slots_files, slots_none, IsLive, slots_entries, slots_damaged, slots_stands}
use Rattle.checkpoint_log.specs.declared.slots.Slots.{Slots}

-- ---- the two names

pub two_names : journal ≢ second
two_names same = absurd (omega (arith, ap length same))

parity : (n : ℕ) → ((n % 2 ≡ 0) × ((n + 1) % 2 ≡ 1)) ⊎ ((n % 2 ≡ 1) × ((n + 1) % 2 ≡ 0))
parity n = elim (cases_eq (n % 2) 0) [
  | inl even ↦ inl (even, (let e : (n + 1) % 2 ≡ 1 = omega (arith, even) in e))
  | inr odd ↦ inr ((let e : n % 2 ≡ 1 = omega (arith, odd) in e), (let e : (n + 1) % 2 ≡ 0 = omega (arith, odd) in e))
]

-- the slot of a number and the one beside it
pub beside : (n : ℕ) → ((slot n ≡ journal) × (slot (n + 1) ≡ second)) ⊎ ((slot n ≡ second) × (slot (n + 1) ≡ journal))
beside n = elim (parity n) [
  | inl even ↦ inl (ap named even.0, ap named even.1)
  | inr odd ↦ inr (ap named odd.0, ap named odd.1)
]

pub other_name : (n : ℕ) → slot (n + 1) ≢ slot n
other_name n same = elim (beside n) [
  | inl even ↦ two_names (sym even.0 ∙ sym same ∙ even.1)
  | inr odd ↦ two_names (sym odd.1 ∙ same ∙ odd.0)
]

pub two_on : (n : ℕ) → slot (n + 1 + 1) ≡ slot n
two_on n = ap named (let e : (n + 1 + 1) % 2 ≡ n % 2 = omega arith in e)

-- of two numbers, the slots are the same or each is beside the other
pub same_or_beside : (n m : ℕ) → (slot m ≡ slot n) ⊎ ((slot m ≡ slot (n + 1)) × (slot n ≡ slot (m + 1)))
same_or_beside n m = elim (beside n) [
  | inl e ↦ elim (beside m) [
    | inl f ↦ inl (f.0 ∙ sym e.0)
    | inr f ↦ inr (f.0 ∙ sym e.1, e.0 ∙ sym f.1)
  ]
  | inr e ↦ elim (beside m) [
    | inl f ↦ inr (f.0 ∙ sym e.1, e.0 ∙ sym f.1)
    | inr f ↦ inl (f.0 ∙ sym e.0)
  ]
]

pub of_slots : (n : ℕ) → slots_files (slot n)
of_slots n = elim (beside n) [
  | inl e ↦ inl e.0
  | inr e ↦ inr e.0
]

-- ---- beginnings

says_one : (payload : List ℕ) (n m : ℕ) → HasNumber payload n → HasNumber payload m → n ≡ m
says_one payload n m (inl a) (inl b) = a.1 ∙ sym b.1
says_one payload n m (inl a) (inr b) = absurd (omega (arith, ap (λ (l : List ℕ). get_or l 0 0) (sym a.0.is ∙ b.is)))
says_one payload n m (inr a) (inl b) = absurd (omega (arith, ap (λ (l : List ℕ). get_or l 0 0) (sym a.is ∙ b.0.is)))
says_one payload n m (inr a) (inr b) =
    let h = to_be_bytes w64 n in
    let k = to_be_bytes w64 m in
    let rest : h ++ a.rest ≡ k ++ b.rest = ap (λ (l : List ℕ). drop 1 l) (sym a.is ∙ b.is) in
    let heads : h ≡ k = sym (take_at h a.rest 8 refl) ∙ ap (λ (l : List ℕ). take 8 l) rest ∙ take_at k b.rest 8 refl in
    sym (from_be_bytes-to_be_bytes_8 n (omega (arith, a.small))) ∙ ap (from_be_bytes w64) heads ∙ from_be_bytes-to_be_bytes_8 m (omega (arith, b.small))

-- a slot has one number
pub begins_one : (file : List ℕ) (n m : ℕ) → HasFirstEntry file n → HasFirstEntry file m → n ≡ m
begins_one file n m a b =
    let one = entry_same a.first b.first a.more b.more a.good b.good (sym a.file_is ∙ b.file_is) in
    says_one b.first.1 n m (subst (λ (l : List ℕ). HasNumber l n) one.0 a.says) b.says

-- a slot that begins holds an entry
pub begins_some : (file : List ℕ) (n : ℕ) → HasFirstEntry file n → HoldsNone file → ⊥
begins_some file n a (inl short) = absurd (omega (arith, short, ap length a.file_is, length-append (entry a.first) a.more, length-entry a.first))
begins_some file n a (inr shut) = a.good.is_open (sym (ap (λ (l : List ℕ). get_or l 0 0) a.file_is) ∙ shut)

-- a slot whose list of entries begins so begins so
pub first_begins : (file : List ℕ) (n end : ℕ) (payloads : List (List ℕ)) → ClosedAt file end payloads → FirstSays payloads n → HasFirstEntry file n
first_begins file n end payloads closed says = by_entries closed.entries closed.good closed.payloads_are closed.file_is
  where
    by_entries : (es : List (ℕ × List ℕ)) → AllGood es → map (λ (e : ℕ × List ℕ). e.1) es ≡ payloads → file ≡ joined es ++ 0 ∷ closed.tail
        → HasFirstEntry file n
    by_entries [] good are is = absurd (omega (arith, ap length (are ∙ says.is)))
    by_entries (e ∷ es) good are is = record {
      first = e;
      more = joined es ++ 0 ∷ closed.tail;
      good = good.0;
      file_is = is ∙ append_assoc (entry e) (joined es) (0 ∷ closed.tail);
      says = subst (λ (l : List ℕ). HasNumber l n) (let same : says.first ≡ e.1 = cc in same) says.says;
    }

-- ---- the live slot is one

-- of two slots that are beside one another and both begin, each cannot be the older one
both_live : (image : Image) (n m : ℕ) → slot m ≡ slot (n + 1) → slot n ≡ slot (m + 1) → HasFirstEntry (image (slot n)) n → HasFirstEntry (image (slot m)) m
    → IsOlder (slot (n + 1)) (image (slot (n + 1))) n → IsOlder (slot (m + 1)) (image (slot (m + 1))) m → ⊥
both_live image n m m_is n_is a b (inl none) second_older = begins_some _ m b (subst (λ (name : List ℕ). HoldsNone (image name)) (sym m_is) none)
both_live image n m m_is n_is a b (inr older) (inl none) = begins_some _ n a (subst (λ (name : List ℕ). HoldsNone (image name)) (sym n_is) none)
both_live image n m m_is n_is a b (inr older) (inr other) =
    let first : older.0 ≡ m = begins_one _ older.0 m older.3 (subst (λ (name : List ℕ). HasFirstEntry (image name) m) m_is b) in
    let last : other.0 ≡ n = begins_one _ other.0 n other.3 (subst (λ (name : List ℕ). HasFirstEntry (image name) n) n_is a) in
    absurd (omega (arith, older.1, other.1, first, last))

-- a slot that is live and one that holds none
live_none : (image : Image) (n : ℕ) → slots_none image → HasFirstEntry (image (slot n)) n → ⊥
live_none image n none a = elim (beside n) [
  | inl e ↦ begins_some _ n a (subst (λ (name : List ℕ). HoldsNone (image name)) (sym e.0) none.0)
  | inr e ↦ begins_some _ n a (subst (λ (name : List ℕ). HoldsNone (image name)) (sym e.0) none.1)
]

pub live_begins : (image : Image) (n end : ℕ) (payloads : List (List ℕ)) → IsLive image n end payloads → HasFirstEntry (image (slot n)) n
live_begins image n end payloads live = first_begins _ n end payloads live.closed live.says

pub slots_one : (image : Image) (p q : List (List ℕ)) → slots_entries image p → slots_entries image q → p ≡ q
slots_one image p q (inl a) (inl b) = a.1 ∙ sym b.1
slots_one image p q (inl a) (inr b) = absurd (live_none image b.0 a.0 (live_begins image b.0 b.1 q b.2))
slots_one image p q (inr a) (inl b) = absurd (live_none image a.0 b.0 (live_begins image a.0 a.1 p a.2))
slots_one image p q (inr a) (inr b) = elim (same_or_beside a.0 b.0) [
  | inl same ↦ entries_same (image (slot a.0)) p q (inr (a.1, a.2.closed)) (inr (b.1, subst (λ (name : List ℕ). ClosedAt (image name) b.1 q) same b.2.closed))
  | inr apart ↦ absurd (both_live image a.0 b.0 apart.0 apart.1 (live_begins image a.0 a.1 p a.2) (live_begins image b.0 b.1 q b.2) a.2.older b.2.older)
]

-- ---- the laws of the trait

pub none_by : (image : Image) (n : ℕ) → HoldsNone (image (slot n)) → HoldsNone (image (slot (n + 1))) → slots_none image
none_by image n a b = elim (beside n) [
  | inl e ↦ (subst (λ (name : List ℕ). HoldsNone (image name)) e.0 a, subst (λ (name : List ℕ). HoldsNone (image name)) e.1 b)
  | inr e ↦ (subst (λ (name : List ℕ). HoldsNone (image name)) e.1 b, subst (λ (name : List ℕ). HoldsNone (image name)) e.0 a)
]

-- the slot beside the first number
pub older_none : (name file : List ℕ) (n : ℕ) → n ≡ 0 → IsOlder name file n → HoldsNone file
older_none name file n zero_is (inl none) = none
older_none name file n zero_is (inr older) = absurd (omega (arith, older.1, zero_is))

pub slots_hold : (log : Slots) (image : Image) (payloads : List (List ℕ)) → slots_stands log image payloads → slots_entries image payloads
slots_hold log image payloads h = elim h.says [
  | inl says ↦ inr (log.number, log.live.end, record { closed = h.closed; says = says; older = h.older })
  | inr empty ↦ inl (
    none_by image log.number
        (none_of (image (slot log.number)) (inr (
          log.live.end,
          subst (λ (l : List (List ℕ)). ClosedAt (image (slot log.number)) log.live.end l) empty.0
              h.closed,
        )))
        (older_none _ _ log.number empty.1 h.older),
    empty.0,
  )
]

pub slots_end : (log : Slots) (image : Image) (payloads : List (List ℕ)) → slots_stands log image payloads → log.live.end ≡ place_behind payloads
slots_end log image payloads h = h.closed.end_is ∙ place_joined h.closed.entries ∙ ap place_behind h.closed.payloads_are

pub slots_depend : (log : Slots) (a b : Image) (payloads : List (List ℕ)) → ((name : List ℕ) → slots_files name → b name ≡ a name) →
    slots_stands log a payloads → slots_stands log b payloads
slots_depend log a b payloads same h =
    let live : b (slot log.number) ≡ a (slot log.number) = same _ (of_slots log.number) in
    let other : b (slot (log.number + 1)) ≡ a (slot (log.number + 1)) = same _ (of_slots (log.number + 1)) in
    record {
      closed = subst (λ (l : List ℕ). ClosedAt l log.live.end payloads) (sym live) h.closed;
      says = h.says;
      older = subst (λ (l : List ℕ). IsOlder (slot (log.number + 1)) l log.number) (sym other) h.older;
      begun = λ yes. let was = h.begun yes in (was.0, other ∙ was.1);
    }

pub slots_none_held : (image : Image) → slots_none image → slots_entries image []
slots_none_held image none = inl (none, refl)

bad_none : (image : Image) (k : ℕ) → slots_none image → IsBadSlot (slot k) (image (slot k)) → ⊥
bad_none image k none bad = elim (beside k) [
  | inl e ↦ bad.some (subst (λ (name : List ℕ). HoldsNone (image name)) (sym e.0) none.0)
  | inr e ↦ bad.some (subst (λ (name : List ℕ). HoldsNone (image name)) (sym e.0) none.1)
]

bad_older : (name file : List ℕ) (n : ℕ) → IsBadSlot name file → IsOlder name file n → ⊥
bad_older name file n bad (inl none) = bad.some none
bad_older name file n bad (inr older) = bad.none older.0 older.2 older.3

pub slots_not_damaged : (image : Image) (at : ℕ) (payloads : List (List ℕ)) → slots_damaged image at → slots_entries image payloads → ⊥
slots_not_damaged image at payloads (inl bad) (inl none) = bad_none image bad.1.0 none.0 bad.1.1
slots_not_damaged image at payloads (inl bad) (inr live) = elim (same_or_beside live.0 bad.1.0) [
  | inl same ↦ bad.1.1.none live.0 (sym same) (subst (λ (name : List ℕ). HasFirstEntry (image name) live.0) (sym same)
      (live_begins image live.0 live.1 payloads live.2))
  | inr apart ↦ bad_older _ _ live.0 (subst (λ (name : List ℕ). IsBadSlot name (image name)) apart.0 bad.1.1) live.2.older
]
slots_not_damaged image at payloads (inr torn) (inl none) = live_none image torn.0 none.0 torn.1
slots_not_damaged image at payloads (inr torn) (inr live) = elim (same_or_beside torn.0 live.0) [
  | inl same ↦ damaged_holds_none (image (slot torn.0)) at payloads torn.3 torn.4
      (inr (live.1, subst (λ (name : List ℕ). ClosedAt (image name) live.1 payloads) same live.2.closed))
  | inr apart ↦ both_live image torn.0 live.0 apart.0 apart.1 torn.1 (live_begins image live.0 live.1 payloads live.2) torn.2 live.2.older
]

pub slots_laws : JournalLaws slots_files slots_entries slots_none slots_damaged slots_stands (λ log. log.live.end)
slots_laws = record {
  holds = slots_hold;
  ends = slots_end;
  depends = slots_depend;
  one = slots_one;
  none_held = slots_none_held;
  not_damaged = slots_not_damaged;
}
