-- Where a log stands in the images of a disk, and where its entries are.
use Rattle.std.proofs.Common.{◌≡◌, ◌+◌, ◌≤◌, ℕ, Bool, IsTrue, List, [], ◌∷◌, ◌++◌, length, map, Result, Ok, Err, refl, sym, ◌∙◌, ap, subst, arith}
use Rattle.std.specs.Prelude.{IfOk}
use Rattle.disk_model.specs.Disk.{Image, Settled, DiskLaws}
use Rattle.disk_model.specs.Moments.{tells_of}
use Rattle.gate_log.specs.Entries.{entry, joined, ClosedAt}
use Rattle.gate_log.specs.Place.{EntryAt, place_behind, IsEntryAt}
use Rattle.gate_log.specs.Journal.{IsBehind, stands_in}
use Rattle.gate_log.specs.Laws.{place_joined}
use Rattle.gate_log.specs.declared.log.Log.{Log}
use Rattle.gate_log.proofs.Walk.{entry_placed}

-- a log that stands in a stable file, as the disk reads, stands in each image
pub settled_behind : {D : Type 0} {is_modelled : Bool} {seen : D → Image} {may_leave : D → Image → Type 0} {moment : D → ℕ} {left_since : D → ℕ → Image →
    Type 0}
    → DiskLaws is_modelled seen may_leave moment left_since → (file : List ℕ) (log : Log) (disk : D) (payloads : List (List ℕ))
    → Settled (may_leave disk) file (seen disk file) → (IsTrue is_modelled → ClosedAt (seen disk file) log.end payloads) →
    IsBehind may_leave (stands_in file) log disk payloads
settled_behind laws file log disk payloads settled closed = record {
  each = λ c left.
      subst (λ (l : List ℕ). ClosedAt l log.end payloads) (sym (settled c left)) (closed (tells_of laws disk c left));
}

pub if_ok : {A E : Type 0} (P Q : A → Type 0) (r : Result A E) → ((x : A) → P x → Q x) → IfOk r P → IfOk r Q
if_ok P Q (Ok x) more h = more x h
if_ok P Q (Err e) more h = tt

-- the entries are split as their payloads are
record Split (es : List (ℕ × List ℕ)) (before : List (List ℕ)) (payload : List ℕ) : Type 0 where
  done : List (ℕ × List ℕ)
  here : ℕ × List ℕ
  rest : List (ℕ × List ℕ)
  is : es ≡ done ++ here ∷ rest
  done_is : map (λ e. e.1) done ≡ before
  here_is : here.1 ≡ payload

split : (es : List (ℕ × List ℕ)) (before : List (List ℕ)) (payload : List ℕ) (after : List (List ℕ)) → map (λ e. e.1) es ≡ before ++ payload ∷ after →
    Split es before payload
split [] [] payload after h = absurd (omega (arith, ap length h))
split [] (b ∷ bs) payload after h = absurd (omega (arith, ap length h))
split (e ∷ es) [] payload after h = record { done = []; here = e; rest = es; is = refl; done_is = refl; here_is = cc }
split (e ∷ es) (b ∷ bs) payload after h =
    let more = split es bs payload after cc in
    record {
      done = e ∷ more.done;
      here = more.here;
      rest = more.rest;
      is = ap (λ (l : List (ℕ × List ℕ)). e ∷ l) more.is;
      done_is = (let first : e.1 ≡ b = cc in λ i. first i ∷ more.done_is i);
      here_is = more.here_is;
    }

-- an entry that is known by the payloads before it stands at its place of the file
pub entry_there : (file : List ℕ) (log : Log) (image : Image) (at : ℕ) (payload : List ℕ) → IsEntryAt (stands_in file) log image at payload
    → (e : ℕ × List ℕ) × (e.1 ≡ payload) × EntryAt (image file) at log.end e
entry_there file log image at payload h =
    let s = split h.on.entries h.before payload h.after h.on.payloads_are in
    let place : at ≡ length (joined s.done) = h.at_is ∙ sym (place_joined s.done ∙ ap place_behind s.done_is) in (
      s.here,
      s.here_is,
      subst (λ (n : ℕ). EntryAt (image file) n log.end s.here) (sym place)
          (entry_placed (image file) log.end (h.before ++ payload ∷ h.after) h.on s.done s.here s.rest s.is),
    )
