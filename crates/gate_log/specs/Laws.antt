-- Laws on what a file holds as entries, and on logs and disks: what the trait's members and the layers above rest on.
use Rattle.std.proofs.Common.{◌≡◌, ◌≢◌, inl, inr, ℕ, ◌+◌, ◌<◌, ◌≤◌, List, [], ◌∷◌, ◌++◌, length, map, get_or, take, drop, refl, sym, ◌∙◌, ap, subst, arith}
use Rattle.std.proofs.Common.{append_assoc, length-append}
use Rattle.std.proofs.lemmas.List.{append-nil, take_at, drop_at}
use Rattle.std.proofs.lemmas.Nat.{from_be_bytes-to_be_bytes_4}
use Rattle.std.specs.Int.{w32, to_be_bytes, from_be_bytes}
use Rattle.disk_model.specs.Disk.{Image, IsAfter}
use Rattle.gate_log.specs.Entries.{entry, joined, IsGood, AllGood, ClosedAt, HasEntries, IsBad, IsDamaged, HoldsNone}
use Rattle.gate_log.specs.Place.{place_behind, IsEntryAt}
use Rattle.gate_log.specs.Journal.{IsBehind, JournalLaws, log_files, log_entries, log_none, log_damaged, log_stands}
use Rattle.gate_log.specs.declared.log.Log.{Log}

pub length-entry : (e : ℕ × List ℕ) → length (entry e) ≡ 5 + length e.1
length-entry e = omega (arith, length-append (to_be_bytes w32 (length e.1)) e.1)

-- an entry is read in one way
pub entry_same : (d e : ℕ × List ℕ) (r s : List ℕ) → IsGood d → IsGood e → entry d ++ r ≡ entry e ++ s → (d.1 ≡ e.1) × (r ≡ s)
entry_same d e r s good other same =
    let h = to_be_bytes w32 (length d.1) in
    let k = to_be_bytes w32 (length e.1) in
    let whole : d.0 ∷ (h ++ (d.1 ++ r)) ≡ e.0 ∷ (k ++ (e.1 ++ s)) =
    ap (λ (l : List ℕ). d.0 ∷ l) (sym (append_assoc h d.1 r)) ∙ same ∙ ap (λ (l : List ℕ). e.0 ∷ l) (append_assoc k e.1 s) in
    let rest : h ++ (d.1 ++ r) ≡ k ++ (e.1 ++ s) = ap (λ (l : List ℕ). drop 1 l) whole in
    let heads : h ≡ k = sym (take_at h (d.1 ++ r) 4 refl) ∙ ap (λ (l : List ℕ). take 4 l) rest ∙ take_at k (e.1 ++ s) 4 refl in
    let sizes : length d.1 ≡ length e.1 =
    sym (from_be_bytes-to_be_bytes_4 (length d.1) (omega (arith, good.fits))) ∙ ap (from_be_bytes w32) heads ∙ from_be_bytes-to_be_bytes_4 (length e.1)
    (omega (arith, other.fits)) in
    let bodies : d.1 ++ r ≡ e.1 ++ s = sym (drop_at h (d.1 ++ r) 4 refl) ∙ ap (λ (l : List ℕ). drop 4 l) rest ∙ drop_at k (e.1 ++ s) 4 refl in (
      sym (take_at d.1 r (length d.1) refl) ∙ ap (λ (l : List ℕ). take (length d.1) l) bodies ∙ take_at e.1 s (length d.1) (sym sizes),
      sym (drop_at d.1 r (length d.1) refl) ∙ ap (λ (l : List ℕ). drop (length d.1) l) bodies ∙ drop_at e.1 s (length d.1) (sym sizes),
    )

start_open : (e : ℕ × List ℕ) (more rest tail : List ℕ) → IsGood e → entry e ++ more ≡ 0 ∷ tail → ⊥
start_open e more rest tail good is = good.is_open (ap (λ (l : List ℕ). get_or l 0 0) is)

chains_same : (es fs : List (ℕ × List ℕ)) (s t : List ℕ) → AllGood es → AllGood fs → joined es ++ 0 ∷ s ≡ joined fs ++ 0 ∷ t →
    map (λ (e : ℕ × List ℕ). e.1) es ≡ map (λ (e : ℕ × List ℕ). e.1) fs
chains_same [] [] s t good other is = refl
chains_same [] (f ∷ fs) s t good other is = absurd (start_open f (joined fs ++ 0 ∷ t) [] s other.0 (sym (append_assoc (entry f) (joined fs) (0 ∷ t)) ∙ sym is))
chains_same (e ∷ es) [] s t good other is = absurd (start_open e (joined es ++ 0 ∷ s) [] t good.0 (sym (append_assoc (entry e) (joined es) (0 ∷ s)) ∙ is))
chains_same (e ∷ es) (f ∷ fs) s t good other is =
    let one = entry_same e f (joined es ++ 0 ∷ s) (joined fs ++ 0 ∷ t) good.0 other.0
    (sym (append_assoc (entry e) (joined es) (0 ∷ s)) ∙ is ∙ append_assoc (entry f) (joined fs) (0 ∷ t)) in
    (λ i. one.0 i ∷ chains_same es fs s t good.1 other.1 one.1 i)

-- a file that is closed has two bytes or is empty of entries
closed_short : (file : List ℕ) (end : ℕ) (payloads : List (List ℕ)) → ClosedAt file end payloads → length file ≤ 1 → payloads ≡ []
closed_short file end payloads closed short = by_entries closed.entries closed.payloads_are closed.file_is
  where
    by_entries : (es : List (ℕ × List ℕ)) → map (λ (e : ℕ × List ℕ). e.1) es ≡ payloads → file ≡ joined es ++ 0 ∷ closed.tail → payloads ≡ []
    by_entries [] are is = sym are
    by_entries (e ∷ es) are is = absurd (omega (
      arith,
      ap length is,
      length-append (entry e ++ joined es) (0 ∷ closed.tail),
      length-append (entry e) (joined es),
      length-entry e,
    ))

-- a file holds one list of entries
pub entries_same : (file : List ℕ) (p q : List (List ℕ)) → HasEntries file p → HasEntries file q → p ≡ q
entries_same file p q (inl a) (inl b) = a.1 ∙ sym b.1
entries_same file p q (inl a) (inr b) = a.1 ∙ sym (closed_short file b.0 q b.1 a.0)
entries_same file p q (inr a) (inl b) = closed_short file a.0 p a.1 b.0 ∙ sym b.1
entries_same file p q (inr a) (inr b) =
    sym a.1.payloads_are ∙ chains_same a.1.entries b.1.entries a.1.tail b.1.tail a.1.good b.1.good (sym a.1.file_is ∙ b.1.file_is) ∙ b.1.payloads_are

-- a file whose walk meets a damaged entry holds no entries
bad_chain : (es fs : List (ℕ × List ℕ)) (rest tail : List ℕ) → AllGood es → AllGood fs → IsBad rest → joined es ++ rest ≡ joined fs ++ 0 ∷ tail → ⊥
bad_chain [] [] rest tail good other bad is = bad.is_open (ap (λ (l : List ℕ). get_or l 0 0) is)
bad_chain [] (f ∷ []) rest tail good other bad is =
    bad.no_entry f 0 tail other.0 (is ∙ ap (λ (l : List ℕ). l ++ 0 ∷ tail) (append-nil (entry f)))
bad_chain [] (f ∷ h ∷ fs) rest tail good other bad is =
    bad.no_entry f h.0 ((to_be_bytes w32 (length h.1) ++ h.1 ++ joined fs) ++ 0 ∷ tail) other.0 (is ∙ append_assoc (entry f) (entry h ++ joined fs) (0 ∷ tail))
bad_chain (e ∷ es) [] rest tail good other bad is = start_open e (joined es ++ rest) [] tail good.0 (sym (append_assoc (entry e) (joined es) rest) ∙ is)
bad_chain (e ∷ es) (f ∷ fs) rest tail good other bad is =
    let one = entry_same e f (joined es ++ rest) (joined fs ++ 0 ∷ tail) good.0 other.0
    (sym (append_assoc (entry e) (joined es) rest) ∙ is ∙ append_assoc (entry f) (joined fs) (0 ∷ tail)) in
    bad_chain es fs rest tail good.1 other.1 bad one.1

pub damaged_holds_none : (file : List ℕ) (at : ℕ) (payloads : List (List ℕ)) → 1 < length file → IsDamaged file at → HasEntries file payloads → ⊥
damaged_holds_none file at payloads long damaged (inl short) = omega (arith, short.0)
damaged_holds_none file at payloads long damaged (inr closed) =
    let reached = damaged.1 in
    bad_chain reached.entries closed.1.entries (drop at file) closed.1.tail reached.good closed.1.good damaged.2 (sym reached.file_is ∙ closed.1.file_is)

-- a file that holds none has no entries
pub none_is_empty : (file : List ℕ) (payloads : List (List ℕ)) → HoldsNone file → HasEntries file payloads → payloads ≡ []
none_is_empty file payloads none (inl short) = short.1
none_is_empty file payloads (inl short) (inr closed) = closed_short file closed.0 payloads closed.1 short
none_is_empty file payloads (inr shut) (inr closed) = by_entries closed.1.entries closed.1.good closed.1.payloads_are closed.1.file_is
  where
    by_entries : (es : List (ℕ × List ℕ)) → AllGood es → map (λ (e : ℕ × List ℕ). e.1) es ≡ payloads → file ≡ joined es ++ 0 ∷ closed.1.tail → payloads ≡ []
    by_entries [] good are is = sym are
    by_entries (e ∷ es) good are is = absurd (good.0.is_open (sym (ap (λ (l : List ℕ). get_or l 0 0) is) ∙ shut))

-- a file holds no entry exactly where its entries are none
closed_first : (file tail : List ℕ) (entries : List (ℕ × List ℕ)) → map (λ e. e.1) entries ≡ [] → file ≡ joined entries ++ 0 ∷ tail → get_or file 0 0 ≡ 0
closed_first file tail [] is file_is = ap (λ (l : List ℕ). get_or l 0 0) file_is
closed_first file tail (e ∷ es) is file_is = cc

pub none_of : (file : List ℕ) → HasEntries file [] → HoldsNone file
none_of file (inl short) = inl short.0
none_of file (inr closed) = inr (closed_first file closed.1.tail closed.1.entries closed.1.payloads_are closed.1.file_is)

pub no_entries : (file : List ℕ) → HoldsNone file → HasEntries file []
no_entries file (inl short) = inl (short, refl)
no_entries [] (inr first) = inl (omega arith, refl)
no_entries (b ∷ rest) (inr first) = inr (
  0,
  record {
    entries = [];
    tail = rest;
    good = tt;
    payloads_are = refl;
    file_is =
        ap (λ (x : ℕ). x ∷ rest) first;
    end_is = refl;
  },
)

-- ---- laws of the log as a journal
pub place_joined : (es : List (ℕ × List ℕ)) → length (joined es) ≡ place_behind (map (λ e. e.1) es)
place_joined [] = refl
place_joined (e ∷ es) = omega (arith, length-append (entry e) (joined es), length-entry e, place_joined es)

-- ---- the log as a journal

log_ends : (log : Log) (image : Image) (payloads : List (List ℕ)) → log_stands log image payloads → log.end ≡ place_behind payloads
log_ends log image payloads h = h.end_is ∙ place_joined h.entries ∙ ap place_behind h.payloads_are

log_depends : (log : Log) (a b : Image) (payloads : List (List ℕ)) → ((name : List ℕ) → log_files name → b name ≡ a name) → log_stands log a payloads →
    log_stands log b payloads
log_depends log a b payloads same h = subst (λ (l : List ℕ). ClosedAt l log.end payloads) (sym (same _ refl)) h

pub log_laws : JournalLaws log_files log_entries log_none log_damaged log_stands (λ log. log.end)
log_laws = record {
  holds = λ log image payloads stands. inr (log.end, stands);
  ends = log_ends;
  depends = log_depends;
  one = λ image. entries_same _;
  none_held = λ image. no_entries _;
  not_damaged = λ image at payloads damaged. damaged_holds_none _ at payloads damaged.0 damaged.1;
}

-- ---- any journal on any disk

-- where there is an entry, one stands at the beginning
pub first_there : {J : Type 0} (stands : J → Image → List (List ℕ) → Type 0) (log : J) (image : Image) (payloads : List (List ℕ)) →
    stands log image payloads → payloads ≢ []
    → (payload : List ℕ) × IsEntryAt stands log image 0 payload
first_there stands log image [] on some = absurd (some refl)
first_there stands log image (payload ∷ more) on some = (payload, record { before = []; after = more; on = on; at_is = refl })

-- steps that keep the journal's files leave it where it stands
pub still_behind : {J D : Type 0} {may_leave : D → Image → Type 0} {files : List ℕ → Type 0} {entries : Image → List (List ℕ) → Type 0} {holds_none : Image →
    Type 0} {is_damaged : Image → ℕ → Type 0}
    {stands : J → Image → List (List ℕ) → Type 0} {end : J → ℕ}
    → JournalLaws files entries holds_none is_damaged stands end → (log : J) (old new : D) (payloads : List (List ℕ)) (step : Image → Image → Type 0)
    → ((b c : Image) → step b c → (name : List ℕ) → files name → c name ≡ b name)
    → ((c : Image) → may_leave new c → IsAfter (may_leave old) step c)
    → IsBehind may_leave stands log old payloads → IsBehind may_leave stands log new payloads
still_behind laws log old new payloads step keeps steps behind = record {
  each = λ c left.
      let was = steps c left in
      laws.depends log was.0 c payloads (keeps was.0 c was.2) (behind.each was.0 was.1);
}
