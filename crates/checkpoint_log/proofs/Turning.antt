-- Steps of a turn over whole images.
use Rattle.std.proofs.Common.{Less, ◌≡◌, ◌≢◌, ◌⊎◌, inl, inr, ℕ, ◌+◌, ◌<◌, ◌≤◌, Bool, IsTrue, List, [], ◌∷◌, ◌++◌, length, get_or, drop, refl, sym, ◌∙◌, ap}
use Rattle.std.proofs.Common.{subst, arith}
use Rattle.std.specs.Prelude.{false}
use Rattle.std.specs.Ordering.{is_lt, nat_cmp}
use Rattle.std.specs.Cmp.{nat_cmp_is}
use Rattle.std.specs.Int.{w64, to_be_bytes}
use Rattle.std.proofs.lemmas.Bool.{cases_eq}
use Rattle.disk_model.specs.Disk.{Image, IsPutAt, Step, Torn, IsAfter, Settled, HasLeft, DiskLaws}
use Rattle.disk_model.specs.Moments.{weaker, tells_of, joined, now, then_same, then_on, at_start}
use Rattle.gate_log.specs.Entries.{journal, ClosedAt, HasEntries, HoldsNone}
use Rattle.gate_log.specs.Journal.{IsChangeIn, AreSettled, IsBehind, BeforeOrAfter, none_in, files_of, stands_in, entries_in}
use Rattle.gate_log.specs.Laws.{none_of}
use Rattle.gate_log.specs.Place.{IsEntryAt}
use Rattle.gate_log.specs.Turned.{IsPut, BeginsStore, BeginsTurn, BeforeOrPut}
use Rattle.gate_log.proofs.Writes.{keeps_prefix}
use Rattle.checkpoint_log.specs.Beginnings.{second, slot, HasFirstEntry, FirstSays, IsOlder}
use Rattle.checkpoint_log.specs.Turns.{IsShutOn, KeepsStart}
use Rattle.checkpoint_log.specs.Laws.{two_names, other_name, of_slots, two_on, first_begins, none_by, older_none, slots_one, slots_hold}
use Rattle.checkpoint_log.specs.Slots.{slots_files, slots_none, slots_entries, SlotsStand, slots_stands, slots_put, IsPutWith}
use Rattle.checkpoint_log.proofs.Opened.{shut_none, keeps_shut, torn_start, first_gate, put_one, put_some}
use Rattle.checkpoint_log.specs.declared.slots.Slots.{Slots}

-- the live slot stays, and the other one is still older
pub stand_on : (log later : Slots) (image c : Image) (payloads : List (List ℕ)) → later.live.end ≡ log.live.end → later.number ≡ log.number →
    SlotsStand log image payloads
    → c (slot log.number) ≡ image (slot log.number) → IsOlder (slot (log.number + 1)) (c (slot (log.number + 1))) log.number
    → (IsTrue later.begun → (more : List ℕ) × (c (slot (log.number + 1)) ≡ 0 ∷ more)) → SlotsStand later c payloads
stand_on log later image c payloads end_is number_is h same older begun =
    let closed : ClosedAt (c (slot log.number)) later.live.end payloads =
    subst (λ (n : ℕ). ClosedAt (c (slot log.number)) n payloads) (sym end_is) (subst (λ (l : List ℕ). ClosedAt l log.live.end payloads) (sym same) h.closed) in
    record {
      closed = subst (λ (n : ℕ). ClosedAt (c (slot n)) later.live.end payloads) (sym number_is) closed;
      says = subst (λ (n : ℕ). FirstSays payloads n ⊎ ((payloads ≡ []) × (n ≡ 0))) (sym number_is) h.says;
      older = subst (λ (n : ℕ). IsOlder (slot (n + 1)) (c (slot (n + 1))) n) (sym number_is) older;
      begun = λ yes. subst (λ (n : ℕ). (more : List ℕ) × (c (slot (n + 1)) ≡ 0 ∷ more)) (sym number_is) (begun yes);
    }

-- the log without its turn
abbrev pub rested : Slots → Slots
rested log = record log { begun = false }

pub entries_on : (log : Slots) (image c : Image) (payloads : List (List ℕ)) → SlotsStand log image payloads
    → c (slot log.number) ≡ image (slot log.number) → IsOlder (slot (log.number + 1)) (c (slot (log.number + 1))) log.number → slots_entries c payloads
entries_on log image c payloads h same older = slots_hold (rested log) c payloads
    (stand_on log (rested log) image c payloads refl refl h same older (λ yes. absurd (let no : ⊥ = cc in no)))

-- the other files of a step in the other slot
pub others_stay : (log : Slots) (file : List ℕ) → file ≡ slot (log.number + 1) → (b c : Image) → ((name : List ℕ) → name ≢ file → c name ≡ b name)
    → ((name : List ℕ) → ¬ (slots_files name) → c name ≡ b name) × (c (slot log.number) ≡ b (slot log.number))
others_stay log file is b c others = (
  (λ name outside. others name (λ same. outside (subst (λ (l : List ℕ). slots_files l) (sym (same ∙ is)) (of_slots (log.number + 1))))),
  others (slot log.number) (λ same. other_name log.number (sym (same ∙ is))),
)

-- while the beginning of the other slot stays closed
pub kept_older : (log : Slots) (a : Image) (b : List ℕ) (payloads : List (List ℕ)) → IsTrue log.begun → SlotsStand log a payloads →
    KeepsStart (a (slot (log.number + 1))) b
    → IsOlder (slot (log.number + 1)) b log.number
kept_older log a b payloads begun h kept =
    let was = h.begun begun in
    let still = keeps_shut (a (slot (log.number + 1))) b was.0 was.1 kept in
    inl (shut_none b still.0 still.1)

-- the slot that was live is older than the one of the next number
left_behind : (log : Slots) (a c : Image) (payloads : List (List ℕ)) → SlotsStand log a payloads → c (slot log.number) ≡ a (slot log.number)
    → IsOlder (slot (log.number + 1 + 1)) (c (slot (log.number + 1 + 1))) (log.number + 1)
left_behind log a c payloads h same =
    let n = log.number in
    let file : c (slot (n + 1 + 1)) ≡ a (slot n) = ap c (two_on n) ∙ same in
    elim h.says [
      | inl says ↦ inr (
        n,
        omega arith,
        sym (two_on n),
        subst (λ (l : List ℕ). HasFirstEntry l n) (sym file)
            (first_begins (a (slot n)) n log.live.end payloads h.closed says),
      )
      | inr empty ↦ inl (subst (λ (l : List ℕ). HoldsNone l) (sym file)
          (none_of (a (slot n)) (inr (log.live.end, subst (λ (l : List (List ℕ)). ClosedAt (a (slot n)) log.live.end l) empty.0 h.closed))))
    ]

-- the other slot opened
pub turned_on : (log later : Slots) (a c : Image) (payloads more : List (List ℕ)) → later.number ≡ log.number + 1 → ¬ (IsTrue later.begun) →
    SlotsStand log a payloads
    → c (slot log.number) ≡ a (slot log.number) → ClosedAt (c (slot (log.number + 1))) later.live.end more → FirstSays more (log.number + 1) →
    SlotsStand later c more
turned_on log later a c payloads more number_is rests h same closed says = record {
  closed = subst (λ (n : ℕ). ClosedAt (c (slot n)) later.live.end more) (sym number_is) closed;
  says = inl (subst (λ (n : ℕ). FirstSays more n) (sym number_is) says);
  older = subst (λ (n : ℕ). IsOlder (slot (n + 1)) (c (slot (n + 1))) n) (sym number_is) (left_behind log a c payloads h same);
  begun = λ yes. absurd (rests yes);
}

-- the log after its turn
abbrev pub later_log : Slots → ℕ → Slots
later_log log end = record log { live = record log.live { end = end }; number = log.number + 1; begun = false }

pub turn_says : (n : ℕ) (more : List (List ℕ)) → n < 18446744073709551615 → BeginsTurn (n + 1) more → FirstSays more (n + 1)
turn_says n more left begins = record {
  first = 25 ∷ to_be_bytes w64 (n + 1) ++ begins.rest;
  others = begins.others;
  is = begins.is;
  says = inr (record { some = omega arith; small = omega (arith, left); rest = begins.rest; is = refl });
}

pub turn_left : (n : ℕ) → n < 18446744073709551615 → IsTrue (is_lt (nat_cmp n 18446744073709551615))
turn_left n left = ap is_lt (sym (nat_cmp_is n 18446744073709551615 Less left))

-- what a turn that ends stands on: these payloads were put, and begin as its record
pub record IsReady {D : Type 0} (is_modelled : Bool) (seen : D → Image) (log : Slots) (disk : D) (file : List ℕ) (more : List (List ℕ)) : Type 0 where
  pub begun : IsTrue is_modelled → IsTrue log.begun
  pub put : IsTrue is_modelled → IsPutWith [] (seen disk file) log.put_end more
  pub says : IsTrue is_modelled → FirstSays more (log.number + 1)
  pub some : IsTrue is_modelled → 1 ≤ log.put_end

pub ready : {D : Type 0} (is_modelled : Bool) (seen : D → Image) (log : Slots) (disk : D) (file : List ℕ) (first more : List (List ℕ)) →
    file ≡ slot (log.number + 1) → log.number < 18446744073709551615
    → IsPut is_modelled seen slots_put log disk first → BeginsTurn (log.number + 1) first → IsPut is_modelled seen slots_put log disk more →
    IsReady is_modelled seen log disk file more
ready is_modelled seen log disk file first more is left first_put begins is_put =
    let same : IsTrue is_modelled → first ≡ more = λ told. put_one (seen disk (slot (log.number + 1))) log.put_end first more (first_put.there told).1
    (is_put.there told).1 in
    record {
      begun = λ told. (first_put.there told).0;
      put = λ told. subst (λ (name : List ℕ). IsPutWith [] (seen disk name) log.put_end more) (sym is) (is_put.there told).1;
      says = λ told. subst (λ (l : List (List ℕ)). FirstSays l (log.number + 1)) (same told) (turn_says log.number first left begins);
      some = λ told. put_some (seen disk (slot (log.number + 1))) log.put_end _ begins.others first begins.is (first_put.there told).1;
    }

module _ {D : Type 0} {is_modelled : Bool} {seen : D → Image} {may_leave : D → Image → Type 0} {moment : D → ℕ} {left_since : D → ℕ → Image → Type 0}
    (laws : DiskLaws is_modelled seen may_leave moment left_since) where
  -- a call that changes the other slot, and leaves it older
  pub live_stays : (log : Slots) (old new : D) (payloads : List (List ℕ)) (file : List ℕ) (Q : List ℕ → List ℕ → Type 0) → file ≡ slot (log.number + 1)
      → IsBehind may_leave slots_stands log old payloads
      → (IsTrue is_modelled → (a : Image) (b : List ℕ) → SlotsStand log a payloads → Q (a (slot (log.number + 1))) b →
      IsOlder (slot (log.number + 1)) b log.number)
      → HasLeft moment left_since old new (IsAfter (may_leave old) (Step file Q))
      → HasLeft moment left_since old new (IsAfter (may_leave old) (IsChangeIn slots_files (λ c. slots_entries c payloads)))
  live_stays log old new payloads file Q is behind gives leaves = weaker laws old new _ _
      (λ c was.
      let h = behind.each was.0 was.1 in
      let stay = others_stay log file is was.0 c was.2.others in
      let older : IsOlder (slot (log.number + 1)) (c (slot (log.number + 1))) log.number =
      gives (tells_of laws old was.0 was.1) was.0 (c (slot (log.number + 1))) h (subst (λ (name : List ℕ). Q (was.0 name) (c name)) is was.2.here) in
      (was.0, was.1, record { here = entries_on log was.0 c payloads h stay.1 older; others = stay.0 }))
      leaves

  -- a closing of the beginning, where it is not closed, over a file that is stable
  pub shut_moments : (file : List ℕ) (old mid read new : D) → HasLeft moment left_since old mid (may_leave old) → Settled (may_leave mid) file (seen mid file)
      → HasLeft moment left_since mid read (may_leave mid) → HasLeft moment left_since read new (IsAfter (may_leave read) (Step file (Torn 0 1)))
      → (IsTrue is_modelled → (get_or (seen mid file) 0 0 ≢ 0) ⊎ (length (seen mid file) ≡ 0))
      → HasLeft moment left_since old new (IsAfter (may_leave old) (Step file IsShutOn))
  shut_moments file old mid read new first settled second third some =
      joined laws old read new (may_leave old) (IsAfter (may_leave read) (Step file (Torn 0 1))) (IsAfter (may_leave old) (Step file IsShutOn))
      (then_same laws old mid read (may_leave old) first second) third
      (λ c left. (c, left, record { here = inl refl; others = λ name ne. refl }))
      (λ c was.
      let at_mid = now laws mid read _ second was.0 was.1 in
      let before = now laws old mid _ first was.0 at_mid in
      let is : was.0 file ≡ seen mid file = settled was.0 at_mid in (
        was.0,
        before,
        record {
          here = inr (subst (λ (l : List ℕ). (get_or l 0 0 ≢ 0) ⊎ (length l ≡ 0)) (sym is) (some (tells_of laws mid was.0 at_mid)), was.2.here);
          others = was.2.others;
        },
      ))

  -- no call
  pub no_call : (file : List ℕ) (old : D) (Q : List ℕ → List ℕ → Type 0) → ((a : List ℕ) → Q a a) →
      HasLeft moment left_since old old (IsAfter (may_leave old) (Step file Q))
  no_call file old Q none = weaker laws old old _ _ (λ c left. (c, left, record { here = none (c file); others = λ name ne. refl })) (at_start laws old)

  -- no call of a turn
  pub live_rests : (log : Slots) (old : D) (payloads : List (List ℕ)) → IsBehind may_leave slots_stands log old payloads
      → HasLeft moment left_since old old (IsAfter (may_leave old) (IsChangeIn slots_files (λ c. slots_entries c payloads)))
  live_rests log old payloads behind = weaker laws old old _ _
      (λ c left. (c, left, record { here = slots_hold log c payloads (behind.each c left); others = λ name ne. refl })) (at_start laws old)

  -- a write behind the first byte
  pub keeps_moments : (file : List ℕ) (old new : D) (at n : ℕ) → (IsTrue is_modelled → 1 ≤ at) →
      HasLeft moment left_since old new (IsAfter (may_leave old) (Step file (Torn at n)))
      → HasLeft moment left_since old new (IsAfter (may_leave old) (Step file KeepsStart))
  keeps_moments file old new at n some leaves = weaker laws old new _ _
      (λ c was. (was.0, was.1, record { here = keeps_prefix 1 at n _ _ (some (tells_of laws old was.0 was.1)) was.2.here; others = was.2.others })) leaves

  -- and one more
  pub keeps_more : (file : List ℕ) (old mid new : D) (at n : ℕ) → (IsTrue is_modelled → 1 ≤ at) →
      HasLeft moment left_since old mid (IsAfter (may_leave old) (Step file KeepsStart))
      → HasLeft moment left_since mid new (IsAfter (may_leave mid) (Step file (Torn at n))) →
      HasLeft moment left_since old new (IsAfter (may_leave old) (Step file KeepsStart))
  keeps_more file old mid new at n some first second =
      then_on laws file old mid new KeepsStart KeepsStart KeepsStart first (keeps_moments file mid new at n some second) (λ a b kept. kept)
      (λ a b d kept more. more ∙ kept)

  -- each image now has the other slot closed at its beginning
  pub shut_stands : (log later : Slots) (old new : D) (payloads : List (List ℕ)) (file : List ℕ) → later.live.end ≡ log.live.end → later.number ≡ log.number →
      file ≡ slot (log.number + 1)
      → IsBehind may_leave slots_stands log old payloads → HasLeft moment left_since old new (IsAfter (may_leave old) (Step file IsShutOn))
      → Settled (may_leave new) file (seen new file) → (IsTrue is_modelled → (more : List ℕ) × (seen new file ≡ 0 ∷ more))
      → IsBehind may_leave slots_stands later new payloads
  shut_stands log later old new payloads file end_is number_is is behind leaves settled shut = record {
    each = λ c left.
        let was = now laws old new _ leaves c left in
        let stay = others_stay log file is was.0 c was.2.others in
        let start = shut (tells_of laws new c left) in
        let closed : c (slot (log.number + 1)) ≡ 0 ∷ start.0 = ap c (sym is) ∙ settled c left ∙ start.1 in
        stand_on log later was.0 c payloads end_is number_is (behind.each was.0 was.1) stay.1 (inl (shut_none _ start.0 closed)) (λ yes. (start.0, closed));
  }

  -- and still has it
  pub keep_stands : (log later : Slots) (old new : D) (payloads : List (List ℕ)) (file : List ℕ) → later.live.end ≡ log.live.end → later.number ≡ log.number →
      file ≡ slot (log.number + 1)
      → (IsTrue is_modelled → IsTrue log.begun) → IsBehind may_leave slots_stands log old payloads →
      HasLeft moment left_since old new (IsAfter (may_leave old) (Step file KeepsStart))
      → IsBehind may_leave slots_stands later new payloads
  keep_stands log later old new payloads file end_is number_is is begun behind leaves = record {
    each = λ c left.
        let was = now laws old new _ leaves c left in
        let stay = others_stay log file is was.0 c was.2.others in
        let h = behind.each was.0 was.1 in
        let before = h.begun (begun (tells_of laws new c left)) in
        let still = keeps_shut (was.0 (slot (log.number + 1))) (c (slot (log.number + 1))) before.0 before.1
        (subst (λ (name : List ℕ). KeepsStart (was.0 name) (c name)) is was.2.here) in
        stand_on log later was.0 c payloads end_is number_is h stay.1 (inl (shut_none _ still.0 still.1)) (λ yes. still);
  }

  pub keep_moments : (log : Slots) (old new : D) (payloads : List (List ℕ)) (file : List ℕ) → file ≡ slot (log.number + 1)
      → (IsTrue is_modelled → IsTrue log.begun) → IsBehind may_leave slots_stands log old payloads →
      HasLeft moment left_since old new (IsAfter (may_leave old) (Step file KeepsStart))
      → HasLeft moment left_since old new (IsAfter (may_leave old) (IsChangeIn slots_files (λ c. slots_entries c payloads)))
  keep_moments log old new payloads file is begun behind leaves =
      live_stays log old new payloads file KeepsStart is behind (λ told a b h kept. kept_older log a b payloads (begun told) h kept) leaves

  -- the moments of the opening
  pub turn_moments : (log : Slots) (old mid new : D) (payloads more : List (List ℕ)) (file : List ℕ) (end : ℕ) → file ≡ slot (log.number + 1)
      → (IsTrue is_modelled → IsTrue log.begun) → IsBehind may_leave slots_stands log old payloads →
      HasLeft moment left_since old mid (IsAfter (may_leave old) (Step file KeepsStart))
      → Settled (may_leave mid) file (seen mid file) → (IsTrue is_modelled → IsPutWith (0 ∷ []) (seen mid file) end more) →
      (IsTrue is_modelled → FirstSays more (log.number + 1))
      → HasLeft moment left_since mid new (IsAfter (may_leave mid) (Step file (Torn 0 1)))
      → HasLeft moment left_since old new (IsAfter (may_leave old) (IsChangeIn slots_files (BeforeOrPut slots_entries payloads more)))
  turn_moments log old mid new payloads more file end is begun behind first settled put says second =
      joined laws old mid new _ _ _ (keep_moments log old mid payloads file is begun behind first) second
      (λ c was. (was.0, was.1, record { here = inl was.2.here; others = was.2.others }))
      (λ c was.
      let told = tells_of laws mid was.0 was.1 in
      let before = now laws old mid _ first was.0 was.1 in
      let h = behind.each before.0 before.1 in
      let stay = others_stay log file is was.0 c was.2.others in
      let stayed = others_stay log file is before.0 was.0 before.2.others in
      let live : c (slot log.number) ≡ before.0 (slot log.number) = stay.1 ∙ stayed.1 in
      let there = put told in
      let start : was.0 file ≡ 0 ∷ there.there.behind = settled was.0 was.1 ∙ there.there.file_is in
      let gate = get_or (c file) 0 0 in
      let whole : c (slot (log.number + 1)) ≡ gate ∷ there.there.behind = ap c (sym is) ∙ torn_start (was.0 file) (c file) 0 there.there.behind start
      was.2.here in
      let first_says = says told in (
        before.0,
        before.1,
        record {
          here = elim (cases_eq gate 0) [
            | inl shut ↦ inl (entries_on log before.0 c payloads h live
                (inl (shut_none _ there.there.behind (whole ∙ ap (λ (n : ℕ). n ∷ there.there.behind) shut))))
            | inr is_open ↦ inr (slots_hold (later_log log end) c more
                (turned_on log (later_log log end) before.0 c payloads more refl (λ yes. (let no : ⊥ = cc in no)) h live
                (first_gate (c (slot (log.number + 1))) gate end first_says.first first_says.others more _ is_open first_says.is there whole) first_says))
          ];
          others = λ name outside. stay.0 name outside ∙ stayed.0 name outside;
        },
      ))

  -- and what is there after it
  pub turn_stands : (log later : Slots) (old mid new : D) (payloads more : List (List ℕ)) (file : List ℕ) → later.number ≡ log.number + 1 →
      ¬ (IsTrue later.begun) → file ≡ slot (log.number + 1)
      → IsBehind may_leave slots_stands log old payloads → HasLeft moment left_since old mid (IsAfter (may_leave old) (Step file KeepsStart))
      → (IsTrue is_modelled → IsPutWith (0 ∷ []) (seen mid file) later.live.end more) → (IsTrue is_modelled → FirstSays more (log.number + 1))
      → HasLeft moment left_since mid new (IsAfter (may_leave mid) (Step file (Torn 0 1)))
      → Settled (may_leave new) file (seen new file) → (IsTrue is_modelled → IsPutAt 0 (1 ∷ []) (seen mid file) (seen new file))
      → IsBehind may_leave slots_stands later new more
  turn_stands log later old mid new payloads more file number_is rests is behind first put says second settled holds = record {
    each = λ c left.
        let told = tells_of laws new c left in
        let was = now laws mid new _ second c left in
        let before = now laws old mid _ first was.0 was.1 in
        let h = behind.each before.0 before.1 in
        let stay = others_stay log file is was.0 c was.2.others in
        let stayed = others_stay log file is before.0 was.0 before.2.others in
        let there = put told in
        let first_says = says told in
        let whole : c (slot (log.number + 1)) ≡ 1 ∷ there.there.behind =
        ap c (sym is) ∙ settled c left ∙ holds told ∙ ap (λ (l : List ℕ). 1 ∷ drop 1 l) there.there.file_is in
        turned_on log later before.0 c payloads more number_is rests h (stay.1 ∙ stayed.1)
        (first_gate (c (slot (log.number + 1))) 1 later.live.end first_says.first first_says.others more _ (λ z. absurd (omega (arith, z))) first_says.is
        there whole) first_says;
  }

-- ---- adding to the live slot

-- a list that the live slot has, with a beginning that it may have
pub live_entries : (log : Slots) (a c : Image) (payloads now_there : List (List ℕ)) → SlotsStand log a payloads →
    c (slot (log.number + 1)) ≡ a (slot (log.number + 1))
    → HasEntries (c (slot log.number)) now_there → FirstSays now_there log.number ⊎ ((now_there ≡ []) × (log.number ≡ 0)) → slots_entries c now_there
live_entries log a c payloads now_there h same there (inl says) =
    let older : IsOlder (slot (log.number + 1)) (c (slot (log.number + 1))) log.number = subst (λ (l : List ℕ). IsOlder (slot (log.number + 1)) l log.number)
    (sym same) h.older in
    elim there [
      | inl short ↦ absurd (omega (arith, ap length (sym short.1 ∙ says.is)))
      | inr closed ↦ inr (log.number, closed.0, record { closed = closed.1; says = says; older = older })
    ]
live_entries log a c payloads now_there h same there (inr empty) =
    let older : IsOlder (slot (log.number + 1)) (c (slot (log.number + 1))) log.number = subst (λ (l : List ℕ). IsOlder (slot (log.number + 1)) l log.number)
    (sym same) h.older in
    inl (
      none_by c log.number (none_of (c (slot log.number)) (subst (λ (l : List (List ℕ)). HasEntries (c (slot log.number)) l) empty.0 there))
          (older_none _ _ log.number empty.1 older),
      empty.0,
    )

-- with one more
pub says_more : (payloads : List (List ℕ)) (payload : List ℕ) (n : ℕ) → FirstSays payloads n ⊎ ((payloads ≡ []) × (n ≡ 0)) →
    (payloads ≡ [] → BeginsStore payload) → FirstSays (payloads ++ payload ∷ []) n
says_more payloads payload n (inl says) first = record {
  first = says.first;
  others = says.others ++ payload ∷ [];
  is = ap (λ (l : List (List ℕ)). l ++ payload ∷ []) says.is;
  says = says.says;
}
says_more payloads payload n (inr empty) first = record {
  first = payload;
  others = [];
  is = ap (λ (l : List (List ℕ)). l ++ payload ∷ []) empty.0;
  says = inl (first empty.0, empty.1);
}

-- what stands on the image is one list
pub stand_one : (log : Slots) (image : Image) (p q : List (List ℕ)) → SlotsStand log image p → SlotsStand log image q → p ≡ q
stand_one log image p q a b = slots_one image p q (slots_hold log image p a) (slots_hold log image q b)

-- the live slot's file, of a step in it
pub beside_stays : (log : Slots) (file : List ℕ) → file ≡ slot log.number → (b c : Image) → ((name : List ℕ) → ¬ (files_of file name) → c name ≡ b name)
    → ((name : List ℕ) → ¬ (slots_files name) → c name ≡ b name) × (c (slot (log.number + 1)) ≡ b (slot (log.number + 1)))
beside_stays log file is b c others = (
  (λ name outside. others name (λ same. outside (subst (λ (l : List ℕ). slots_files l) (sym (same ∙ is)) (of_slots log.number)))),
  others (slot (log.number + 1)) (λ same. other_name log.number (same ∙ is)),
)

-- an entry of the live slot, of the log in its file
pub live_entry : (log : Slots) (image : Image) (at : ℕ) (payload file : List ℕ) → file ≡ slot log.number → IsEntryAt slots_stands log image at payload →
    IsEntryAt (stands_in file) log.live image at payload
live_entry log image at payload file is h = record {
  before = h.before;
  after = h.after;
  on = subst (λ (name : List ℕ). ClosedAt (image name) log.live.end (h.before ++ payload ∷ h.after)) (sym is) h.on.closed;
  at_is = h.at_is;
}

module _ {D : Type 0} {is_modelled : Bool} {seen : D → Image} {may_leave : D → Image → Type 0} {moment : D → ℕ} {left_since : D → ℕ → Image → Type 0}
    (laws : DiskLaws is_modelled seen may_leave moment left_since) where
  -- on each image the live slot stands, as a log in its file
  pub live_behind : (log : Slots) (disk : D) (payloads : List (List ℕ)) (file : List ℕ) → file ≡ slot log.number →
      IsBehind may_leave slots_stands log disk payloads
      → IsBehind may_leave (stands_in file) log.live disk payloads
  live_behind log disk payloads file is behind = record {
    each = λ c left. subst (λ (name : List ℕ). ClosedAt (c name) log.live.end payloads) (sym is)
        (behind.each c left).closed;
  }

  -- the first payload where there is none
  pub first_of_all : (log : Slots) (disk : D) (payloads : List (List ℕ)) (payload : List ℕ) (c : Image) → may_leave disk c →
      IsBehind may_leave slots_stands log disk payloads
      → (IsTrue is_modelled → SlotsStand log (seen disk) [] → BeginsStore payload) → payloads ≡ [] → BeginsStore payload
  first_of_all log disk payloads payload c left behind first none =
      let told = tells_of laws disk c left in
      first told (subst (λ (l : List (List ℕ)). SlotsStand log (seen disk) l) none (behind.each (seen disk) (laws.reads disk told)))

  pub append_moments : (log : Slots) (old new : D) (payloads : List (List ℕ)) (payload file : List ℕ) → file ≡ slot log.number →
      IsBehind may_leave slots_stands log old payloads
      → (IsTrue is_modelled → SlotsStand log (seen old) [] → BeginsStore payload)
      → HasLeft moment left_since old new (IsAfter (may_leave old) (IsChangeIn (files_of file) (BeforeOrAfter (entries_in file) payloads payload)))
      → HasLeft moment left_since old new (IsAfter (may_leave old) (IsChangeIn slots_files (BeforeOrAfter slots_entries payloads payload)))
  append_moments log old new payloads payload file is behind first leaves = weaker laws old new _ _
      (λ c was.
      let h = behind.each was.0 was.1 in
      let stay = beside_stays log file is was.0 c was.2.others in (
        was.0,
        was.1,
        record {
          here = elim was.2.here [
            | inl before ↦ inl (live_entries log was.0 c payloads payloads h stay.1 (subst (λ (name : List ℕ). HasEntries (c name) payloads) is before) h.says)
            | inr after ↦ inr (live_entries log was.0 c payloads (payloads ++ payload ∷ []) h stay.1
                (subst (λ (name : List ℕ). HasEntries (c name) (payloads ++ payload ∷ [])) is after)
                (inl (says_more payloads payload log.number h.says (first_of_all log old payloads payload was.0 was.1 behind first))))
          ];
          others = stay.0;
        },
      ))
      leaves

  pub append_stands : (log later : Slots) (old new : D) (payloads : List (List ℕ)) (payload file : List ℕ) → later.number ≡ log.number →
      later.begun ≡ log.begun → file ≡ slot log.number
      → IsBehind may_leave slots_stands log old payloads → (IsTrue is_modelled → SlotsStand log (seen old) [] → BeginsStore payload)
      → HasLeft moment left_since old new (IsAfter (may_leave old) (IsChangeIn (files_of file) (BeforeOrAfter (entries_in file) payloads payload)))
      → IsBehind may_leave (stands_in file) later.live new (payloads ++ payload ∷ [])
      → IsBehind may_leave slots_stands later new (payloads ++ payload ∷ [])
  append_stands log later old new payloads payload file number_is begun_is is behind first leaves added = record {
    each = λ c left.
        let was = now laws old new _ leaves c left in
        let h = behind.each was.0 was.1 in
        let stay = beside_stays log file is was.0 c was.2.others in
        let more = payloads ++ payload ∷ [] in
        let closed : ClosedAt (c (slot log.number)) later.live.end more = subst (λ (name : List ℕ). ClosedAt (c name) later.live.end more) is
        (added.each c left) in
        record {
          closed = subst (λ (n : ℕ). ClosedAt (c (slot n)) later.live.end more) (sym number_is) closed;
          says = inl (subst (λ (n : ℕ). FirstSays more n) (sym number_is)
              (says_more payloads payload log.number h.says (first_of_all log old payloads payload was.0 was.1 behind first)));
          older = subst (λ (n : ℕ). IsOlder (slot (n + 1)) (c (slot (n + 1))) n) (sym number_is)
              (subst (λ (l : List ℕ). IsOlder (slot (log.number + 1)) l log.number) (sym stay.1) h.older);
          begun = λ yes.
              let start = h.begun (subst (λ (b : Bool). IsTrue b) begun_is yes) in
              subst (λ (n : ℕ). (tail : List ℕ) × (c (slot (n + 1)) ≡ 0 ∷ tail)) (sym number_is) (start.0, stay.1 ∙ start.1);
        };
  }

  -- room behind the closed gate of the live slot
  pub reserve_moments : (log : Slots) (old new : D) (payloads : List (List ℕ)) (file : List ℕ) → file ≡ slot log.number →
      IsBehind may_leave slots_stands log old payloads
      → HasLeft moment left_since old new (IsAfter (may_leave old) (IsChangeIn (files_of file) (λ c. entries_in file c payloads)))
      → HasLeft moment left_since old new (IsAfter (may_leave old) (IsChangeIn slots_files (λ c. slots_entries c payloads)))
  reserve_moments log old new payloads file is behind leaves = weaker laws old new _ _
      (λ c was.
      let h = behind.each was.0 was.1 in
      let stay = beside_stays log file is was.0 c was.2.others in (
        was.0,
        was.1,
        record {
          here = live_entries log was.0 c payloads payloads h stay.1 (subst (λ (name : List ℕ). HasEntries (c name) payloads) is was.2.here) h.says;
          others = stay.0;
        },
      ))
      leaves

  pub reserve_stands : (log : Slots) (old new : D) (payloads : List (List ℕ)) (file : List ℕ) → file ≡ slot log.number →
      IsBehind may_leave slots_stands log old payloads
      → HasLeft moment left_since old new (IsAfter (may_leave old) (IsChangeIn (files_of file) (λ c. entries_in file c payloads)))
      → IsBehind may_leave (stands_in file) log.live new payloads → IsBehind may_leave slots_stands log new payloads
  reserve_stands log old new payloads file is behind leaves stays = record {
    each = λ c left.
        let was = now laws old new _ leaves c left in
        let h = behind.each was.0 was.1 in
        let stay = beside_stays log file is was.0 c was.2.others in
        record {
          closed = subst (λ (name : List ℕ). ClosedAt (c name) log.live.end payloads) is (stays.each c left);
          says = h.says;
          older = subst (λ (l : List ℕ). IsOlder (slot (log.number + 1)) l log.number) (sym stay.1) h.older;
          begun = λ yes. (let start = h.begun yes in (start.0, stay.1 ∙ start.1));
        };
  }

-- a store just made
pub made_stands : {D : Type 0} {is_modelled : Bool} {seen : D → Image} {may_leave : D → Image → Type 0} {moment : D → ℕ} {left_since : D → ℕ → Image → Type 0}
    → DiskLaws is_modelled seen may_leave moment left_since → (log : Slots) (old new : D) → log.number ≡ 0 → ¬ (IsTrue log.begun) →
    (IsTrue is_modelled → slots_none (seen old)) → AreSettled seen may_leave slots_files old
    → HasLeft moment left_since old new (IsAfter (may_leave old) (IsChangeIn (files_of journal) (none_in journal)))
    → IsBehind may_leave (stands_in journal) log.live new []
    → IsBehind may_leave slots_stands log new []
made_stands laws log old new zero_is rests none settled leaves stands = record {
  each = λ c left.
      let told = tells_of laws new c left in
      let was = now laws old new _ leaves c left in
      let other : c second ≡ was.0 second = was.2.others second (λ same. two_names (sym same)) in
      let first : ClosedAt (c journal) log.live.end [] = stands.each c left in
      let beside_none : HoldsNone (c second) = subst (λ (l : List ℕ). HoldsNone l) (sym (other ∙ settled second (inr refl) was.0 was.1))
      (none (tells_of laws old was.0 was.1)).1 in
      record {
        closed = subst (λ (n : ℕ). ClosedAt (c (slot n)) log.live.end []) (sym zero_is) first;
        says = inr (refl, zero_is);
        older = subst (λ (n : ℕ). IsOlder (slot (n + 1)) (c (slot (n + 1))) n) (sym zero_is) (inl beside_none);
        begun = λ yes. absurd (rests yes);
      };
}
